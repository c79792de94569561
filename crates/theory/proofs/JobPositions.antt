-- The job at a position of its window is released no earlier than this position allows, and finished by its finish.
use Rattle.std.proofs.Common.{◌≡◌, ℕ, suc, ◌+◌, ◌*◌, ◌^◌, ◌<◌, ◌≤◌, Bool, true, cond, ◌&&◌, eqb, ltb, leb, ◌⊎◌, sym, ◌∙◌, inl, inr, mul_comm, mul-le-mul_left, arith}
use Rattle.std.proofs.lemmas.Bool.{and_from, and_parts, cases_Bool, cases_eq, cases_lt, cond-false, cond-true, eq-eqb, eqb-true, le-leb, leb-true, lt-ltb, ltb-true, ne_eqb}
use Rattle.arrival.specs.Meaning.{Meaning}
use Rattle.theory.specs.Levels.{arrivals, position_load}
use Rattle.theory.specs.Sums.{count, sum_if}
use Rattle.theory.specs.Tables.{Table}
use Rattle.theory.proofs.Busy.{Waiting, arrivals_bound, from, serves_level, ticks_less, waits_early}
use Rattle.theory.proofs.Quiet.{units_mono}
use Rattle.theory.proofs.Totals.{by_task, count_front, count_mono, total_le, total-suc}
use Rattle.theory.proofs.Traces.{Covers, Keeps, Pending, Ruled, Start, Trace, position, units}

module _ (R : Trace) (ruled : Ruled R) (i : ℕ) (m : Meaning) (t : Table) (keeps : Keeps R m t) (c : ℕ → Bool)
    (x : ℕ) (known : x < R.jobs) (own : R.task x ≡ i) (s : ℕ) (start : Start R i (R.release x) s) where
  -- the jobs of which `position` counts those up to x
  abbrev peers : ℕ → Bool
  peers j = eqb (R.task j) (R.task x) && leb s (R.release j)

  -- the window holds so many jobs by the release of x
  pub position_arrives : (w : ℕ) → w < 2 ^ 32 → R.release x < s + w → Covers R i c s (s + w) → position R s x ≤ arrivals m c i w
  position_arrives w fits within covers =
      omega (
        arith,
        count_front peers (suc x) R.jobs known,
        arrivals_bound R ruled i m t keeps c i s w (omega arith) fits covers (λ j. ltb j (suc x) && peers j)
            (λ j there e.
            let (front, peer) = and_parts (ltb j (suc x)) (peers j) e in
            let (task, lo) = and_parts (eqb (R.task j) (R.task x)) (leb s (R.release j)) peer in
            let upto = ltb-true j (suc x) front in
            (eqb-true _ _ task ∙ own, leb-true _ _ lo, omega (arith, ruled.ordered j x (omega arith) known))),
      )

  -- the jobs that may be served in the w ticks from s on while x is unfinished
  abbrev ahead : ℕ → ℕ → Bool
  ahead w j = cond (eqb (R.task j) i) (leb j x) (ltb (R.task j) i && ltb (R.release j) (s + w))

  ahead_same : (w j : ℕ) → R.task j ≡ i → j ≤ x → ahead w j ≡ true
  ahead_same w j e upto = cond-true _ _ _ (eq-eqb _ _ e) ∙ le-leb _ _ upto

  ahead_lower : (w j : ℕ) → R.task j < i → R.release j < s + w → ahead w j ≡ true
  ahead_lower w j lower hi = cond-false _ _ _ (ne_eqb (R.task j) i (omega arith)) ∙ and_from _ _ (lt-ltb _ _ lower) (lt-ltb _ _ hi)

  ahead_is : (w j : ℕ) → ahead w j ≡ true → ((R.task j ≡ i) × (j ≤ x)) ⊎ ((R.task j < i) × (R.release j < s + w))
  ahead_is w j e =
      elim (cases_Bool (eqb (R.task j) i)) [
        | inl same ↦ inl (eqb-true _ _ same, leb-true _ _ (sym (cond-true _ _ _ same) ∙ e))
        | inr other ↦ let (a, b) = and_parts _ _ (sym (cond-false _ _ _ other) ∙ e) in inr (ltb-true _ _ a, ltb-true _ _ b)
      ]

  ahead_load : (w : ℕ) → w < 2 ^ 32 → Covers R i c s (s + w) → sum_if (from R ruled i (ahead w) s) R.work R.jobs ≤ position_load m t.wcet c i (position R s x) w
  ahead_load w fits covers =
      let chosen : ℕ → Bool = from R ruled i (ahead w) s in
      let of : ℕ → ℕ → Bool = λ k j. eqb (R.task j) k && chosen j in
      let are : (k j : ℕ) → of k j ≡ true → (R.task j ≡ k) × (ahead w j ≡ true) × (s ≤ R.release j) =
      λ k j e.
      let (task, rest) = and_parts (eqb (R.task j) k) (chosen j) e in
      let (a, lo) = and_parts (ahead w j) (leb s (R.release j)) rest in
      (eqb-true _ _ task, a, leb-true _ _ lo) in
      let tasks =
      by_task chosen R.task R.work t.wcet R.jobs (suc i)
      (λ j there e. (elim (ahead_is w j (and_parts _ _ e).0) [ inl h ↦ omega arith | inr h ↦ omega arith ], keeps.within_wcet j there)) in
      let last = total-suc (λ k. t.wcet k * count (of k) R.jobs) i in
      let lower =
      total_le (λ k. t.wcet k * count (of k) R.jobs) (λ k. t.wcet k * arrivals m c k w) i
      (λ k less. mul-le-mul_left (t.wcet k) (arrivals_bound R ruled i m t keeps c k s w (omega arith) fits covers (of k)
      (λ j there e.
      let (task, a, lo) = are k j e in
      (task, lo, elim (ahead_is w j a) [ inl h ↦ absurd (omega arith) | inr h ↦ h.1 ])))) in
      let first : count (of i) R.jobs ≤ position R s x =
      omega (
        arith,
        count_front peers (suc x) R.jobs known,
        count_mono (of i) (λ j. ltb j (suc x) && peers j) R.jobs
            (λ j there e.
            let (task, a, lo) = are i j e in
            and_from _ _ (lt-ltb _ _ (elim (ahead_is w j a) [ inl h ↦ omega arith | inr h ↦ absurd (omega arith) ])) (and_from _ _ (eq-eqb _ _ (task ∙ sym own)) (le-leb _ _ lo))),
      ) in
      omega (arith, mul-le-mul_left (t.wcet i) first, mul_comm (position R s x) (t.wcet i))

  -- while x is unfinished at s + w, each tick from s to there serves a job ahead of it
  ahead-served : (w : ℕ) → s + w ≤ R.clock → units R x (s + w) < R.work x
      → (u : ℕ) → s ≤ u → u < s + w → (R.served u < R.jobs) × (ahead w (R.served u) ≡ true)
  ahead-served w room more u lo hi =
      let x-pends : R.release x ≤ u → Pending R x u = λ r. (known, r, omega (arith, units_mono R ruled x u (s + w) (omega arith))) in
      let waits : Waiting R ruled i u = elim (cases_lt u (R.release x)) [
        | inl a ↦ waits_early R ruled i x known (omega arith) s start u lo (omega arith) (omega arith)
        | inr a ↦ (x, x-pends a, omega arith)
      ] in
      let (there, level) = serves_level R ruled i u (omega arith) waits in
      let pending = ruled.pending u (omega arith) there in (
        there,
        elim (cases_eq (R.task (R.served u)) i) [
          | inl e ↦
              ahead_same w (R.served u) e
              (elim (cases_lt u (R.release x)) [
                | inl a ↦ elim (cases_lt x (R.served u)) [ inl b ↦ absurd (omega (arith, pending.1, ruled.ordered x (R.served u) (omega arith) there)) | inr b ↦ b ]
                | inr a ↦ elim (ruled.first u (omega arith) x (x-pends a)).1 [ inl b ↦ absurd (omega arith) | inr b ↦ b.1 ]
              ])
          | inr e ↦ ahead_lower w (R.served u) (omega arith) (omega (arith, pending.1))
        ],
      )

  -- a length that serves the position of x has x finished
  pub position_finishes : (w : ℕ) → s + w ≤ R.clock → Covers R i c s (s + w) → position_load m t.wcet c i (position R s x) w ≤ w → R.work x ≤ units R x (s + w)
  position_finishes w room covers serves =
      elim (cases_lt (units R x (s + w)) (R.work x)) [
        | inr full ↦ full
        | inl more ↦
            let less =
            ticks_less R ruled i (ahead w) s w (λ j e. elim (ahead_is w j e) [ inl h ↦ omega arith | inr h ↦ omega arith ]) room start.rest (ahead-served w room more)
            x known (ahead_same w x own (omega arith)) start.before more in
            absurd (omega (arith, ahead_load w (omega (arith, keeps.short)) covers))
      ]
