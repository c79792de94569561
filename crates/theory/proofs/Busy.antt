-- Busy windows: every tick of one serves its level, and it ends within its length.
use Rattle.std.proofs.Common.{◌≡◌, ℕ, suc, ◌+◌, ◌*◌, ◌^◌, ◌<◌, ◌≤◌, Bool, true, false, cond, ◌&&◌, eqb, ltb, leb, ◌⊎◌, sym, refl, ap, ◌∙◌, inl, inr, mul-le-mul_left, arith}
use Rattle.std.proofs.lemmas.Bool.{and_from, and_parts, cases_Bool, cases_eq, cases_lt, cond_both, cond-true, eq-eqb, eqb-true, false≢true, le-leb, leb-true, lt-ltb, ltb-true}
use Rattle.arrival.specs.declared.class.Class.{Class}
use Rattle.arrival.specs.declared.class.Class.TheVariants.{Overload, Typical}
use Rattle.arrival.specs.Meaning.{Meaning}
use Rattle.theory.specs.Conforming.{same_class}
use Rattle.theory.specs.Least.{Serves}
use Rattle.theory.specs.Levels.{arrivals, level_load}
use Rattle.theory.specs.Sums.{count, sum_if}
use Rattle.theory.specs.Tables.{Table}
use Rattle.theory.proofs.Quiet.{quiet_all, quiet-not, units_early, units_most, units_mono}
use Rattle.theory.proofs.Totals.{by_task, cond_mono, count-all, count_mono, one_if, one_if-true, total_add, total_le, total_lt, total_split, units_by_tick}
use Rattle.theory.proofs.Traces.{Covers, Keeps, Pending, Ruled, Start, Trace, quiet, released, units}

cases_class : (k : Class) → (k ≡ Typical) ⊎ (k ≡ Overload)
cases_class Typical = inl refl
cases_class Overload = inr refl

class_itself : (k : Class) → same_class k k ≡ true
class_itself Typical = refl
class_itself Overload = refl

module _ (R : Trace) (ruled : Ruled R) (i : ℕ) where
  -- the units of job j that the w ticks from s on serve
  abbrev units_from : ℕ → ℕ → ℕ → ℕ
  units_from j s w = count (λ u. eqb (R.served (s + u)) j) w

  units_split : (j s w : ℕ) → units R j (s + w) ≡ units R j s + units_from j s w
  units_split j s w = total_split (λ u. one_if (eqb (R.served u) j)) s w

  -- the chosen jobs that are released from s on
  abbrev pub from : (ℕ → Bool) → ℕ → ℕ → Bool
  from chosen s j = chosen j && leb s (R.release j)

  -- from a quiet time on, each of w ticks serves a chosen job of the level
  module _ (chosen : ℕ → Bool) (s w : ℕ) (level : (j : ℕ) → chosen j ≡ true → R.task j ≤ i) (room : s + w ≤ R.clock) (rest : quiet R i s ≡ true)
      (serves : (u : ℕ) → s ≤ u → u < s + w → (R.served u < R.jobs) × (chosen (R.served u) ≡ true)) where
    all_chosen : w ≡ sum_if chosen (λ j. units_from j s w) R.jobs
    all_chosen =
        let ticks =
        count-all (λ u. ltb (R.served (s + u)) R.jobs && chosen (R.served (s + u))) w
        (λ u less. let (known, e) = serves (s + u) (omega arith) (omega arith) in and_from _ _ (lt-ltb _ _ known) e) in
        sym ticks ∙ sym (units_by_tick chosen (λ u. R.served (s + u)) R.jobs w)

    share : (j : ℕ) → j < R.jobs → cond (chosen j) (units_from j s w) 0 ≤ cond (from chosen s j) (R.work j) 0
    share j known =
        let split = units_split j s w in
        let most = units_most R ruled j (s + w) known room in
        elim (cases_lt (R.release j) s) [
          | inl early ↦
              cond_both (chosen j) (units_from j s w) 0 (λ x. x ≤ cond (from chosen s j) (R.work j) 0)
              (λ e. omega (arith, quiet_all R ruled i s rest j known (level j e) early))
              (λ _. omega arith)
          | inr late ↦ cond_mono (chosen j) (from chosen s j) (units_from j s w) (R.work j) (λ e. (and_from _ _ e (le-leb _ _ late), omega arith))
        ]

    -- where a chosen job released from s on is unfinished, these jobs' work is more than the ticks
    pub ticks_less : (x : ℕ) → x < R.jobs → chosen x ≡ true → s ≤ R.release x → units R x (s + w) < R.work x → w < sum_if (from chosen s) R.work R.jobs
    ticks_less x known e late more =
        let split = units_split x s w in
        let own = cond-true (chosen x) (units_from x s w) 0 e in
        let whole = cond-true (from chosen s x) (R.work x) 0 (and_from _ _ e (le-leb _ _ late)) in
        omega (arith, all_chosen, total_lt (λ j. cond (chosen j) (units_from j s w) 0) (λ j. cond (from chosen s j) (R.work j) 0) R.jobs x share known (omega arith))

  -- ---- what a window may bring

  module _ (m : Meaning) (t : Table) (keeps : Keeps R m t) (c : ℕ → Bool) where
    -- chosen jobs of one task k up to i, all released in the window of length w from s on
    pub arrivals_bound : (k s w : ℕ) → k ≤ i → w < 2 ^ 32 → Covers R i c s (s + w) → (chosen : ℕ → Bool)
        → ((j : ℕ) → j < R.jobs → chosen j ≡ true → (R.task j ≡ k) × (s ≤ R.release j) × (R.release j < s + w))
        → count chosen R.jobs ≤ arrivals m c k w
    arrivals_bound k s w level fits covers chosen are =
        let of : Class → ℕ → Bool = λ b. released R k b s w in
        let typical = keeps.rated k Typical s w fits in
        let in-it : (b : Class) (j : ℕ) → j < R.jobs → chosen j ≡ true → R.class j ≡ b → of b j ≡ true =
        λ b j known e same.
        let (task, lo, hi) = are j known e in
        and_from _ _ (and_from _ _ (eq-eqb _ _ task) (ap (same_class b) same ∙ class_itself b)) (and_from _ _ (le-leb _ _ lo) (lt-ltb _ _ hi)) in
        elim (cases_Bool (c k)) [
          | inl has ↦
              let either : (j : ℕ) → j < R.jobs → one_if (chosen j) ≤ one_if (of Typical j) + one_if (of Overload j) =
              λ j known.
              cond_both (chosen j) 1 0 (λ x. x ≤ one_if (of Typical j) + one_if (of Overload j))
              (λ e. elim (cases_class (R.class j)) [
                | inl same ↦ omega (arith, one_if-true (in-it Typical j known e same))
                | inr same ↦ omega (arith, one_if-true (in-it Overload j known e same))
              ])
              (λ _. omega arith) in
              let sums = total_le (λ j. one_if (chosen j)) (λ j. one_if (of Typical j) + one_if (of Overload j)) R.jobs either in
              let parts = total_add (λ j. one_if (of Typical j)) (λ j. one_if (of Overload j)) R.jobs in
              omega (arith, keeps.rated k Overload s w fits, cond-true (c k) (m.count k Overload w) 0 has)
          | inr lacks ↦
              let only : (j : ℕ) → j < R.jobs → chosen j ≡ true → of Typical j ≡ true =
              λ j known e. elim (cases_class (R.class j)) [
                | inl same ↦ in-it Typical j known e same
                | inr same ↦
                    let (task, lo, hi) = are j known e in
                    absurd (false≢true (sym (ap c task ∙ lacks) ∙ covers j known (omega arith) same lo hi))
              ] in
              omega (arith, count_mono chosen (of Typical) R.jobs only)
        ]

    -- the jobs of the level that are released before e
    abbrev level_before : ℕ → ℕ → Bool
    level_before e j = leb (R.task j) i && ltb (R.release j) e

    load_bound : (s w : ℕ) → w < 2 ^ 32 → Covers R i c s (s + w) → sum_if (from (level_before (s + w)) s) R.work R.jobs ≤ level_load m t.wcet c i w
    load_bound s w fits covers =
        let chosen : ℕ → Bool = from (level_before (s + w)) s in
        let are : (j : ℕ) → chosen j ≡ true → (R.task j ≤ i) × (R.release j < s + w) × (s ≤ R.release j) =
        λ j e.
        let (before, lo) = and_parts _ _ e in
        let (level, hi) = and_parts _ _ before in
        (leb-true _ _ level, ltb-true _ _ hi, leb-true _ _ lo) in
        let tasks = by_task chosen R.task R.work t.wcet R.jobs (suc i) (λ j known e. (omega (arith, (are j e).0), keeps.within_wcet j known)) in
        let each =
        total_le (λ k. t.wcet k * count (λ j. eqb (R.task j) k && chosen j) R.jobs) (λ k. t.wcet k * arrivals m c k w) (suc i)
        (λ k less. mul-le-mul_left (t.wcet k) (arrivals_bound k s w (omega arith) fits covers (λ j. eqb (R.task j) k && chosen j)
        (λ j known e. let (task, own) = and_parts _ _ e in (eqb-true _ _ task, (are j own).2, (are j own).1)))) in
        omega arith

  -- ---- the ticks of a window

  -- a job of the level is pending
  abbrev pub Waiting : ℕ → Type 0
  Waiting u = (g : ℕ) × Pending R g u × (R.task g ≤ i)

  pub serves_level : (u : ℕ) → u < R.clock → Waiting u → (R.served u < R.jobs) × (R.task (R.served u) ≤ i)
  serves_level u less (g, pending, level) =
      let (known, before) = ruled.first u less g pending in
      (known, elim before [ inl lower ↦ omega arith | inr same ↦ omega (arith, same.0) ])

  -- at a time that is not quiet a job is unfinished, and it was so one tick earlier
  waits : (u : ℕ) → quiet R i u ≡ false → Waiting u
  waits u q = let (j, known, level, early, more) = quiet-not R ruled i u q in (j, (known, omega arith, more), level)

  waits-before : (u : ℕ) → quiet R i (suc u) ≡ false → Waiting u
  waits-before u q =
      let (j, known, level, early, more) = quiet-not R ruled i (suc u) q in
      (j, (known, omega arith, omega (arith, units_mono R ruled j u (suc u) (omega arith))), level)

  module _ (x : ℕ) (known : x < R.jobs) (own : R.task x ≤ i) (s : ℕ) (start : Start R i (R.release x) s) where
    -- up to the release of x
    pub waits_early : (u : ℕ) → s ≤ u → u ≤ R.release x → u < R.clock → Waiting u
    waits_early u lo hi less =
        elim (cases_eq u (R.release x)) [
          | inl e ↦ (x, (known, omega arith, omega (arith, units_early R ruled x u known (omega arith) hi, ruled.some_work x known)), own)
          | inr e ↦ waits-before u (start.last (suc u) (omega arith) (omega arith))
        ]

    -- no time between the release of x and e is quiet
    module _ (e : ℕ) (reached : e ≤ R.clock) (busy : (u : ℕ) → R.release x < u → u < e → quiet R i u ≡ false) where
      busy-serves : (u : ℕ) → s ≤ u → u < e → (R.served u < R.jobs) × (R.task (R.served u) ≤ i)
      busy-serves u lo hi =
          serves_level u (omega arith) (elim (cases_lt (R.release x) u) [ inl a ↦ waits u (busy u a hi) | inr a ↦ waits_early u lo a (omega arith) ])

      -- a length that serves the level is no shorter than the window
      pub busy-length : (m : Meaning) (t : Table) → Keeps R m t → (c : ℕ → Bool) → Covers R i c s e → (L : ℕ) → L < 2 ^ 32 → Serves (level_load m t.wcet c i) L → e ≤ s + L
      busy-length m t keeps c covers L fits serves =
          elim (cases_lt (s + L) e) [
            | inr h ↦ h
            | inl h ↦
                let not-quiet : quiet R i (s + L) ≡ false = elim (cases_lt (R.release x) (s + L)) [
                  | inl a ↦ busy (s + L) a h
                  | inr a ↦ start.last (s + L) (omega (arith, serves.0)) a
                ] in
                let (y, there, level, before, more) = quiet-not R ruled i (s + L) not-quiet in
                let late : s ≤ R.release y = elim (cases_lt (R.release y) s) [
                  | inl early ↦ absurd (omega (arith, quiet_all R ruled i s start.rest y there level early, units_mono R ruled y s (s + L) (omega arith)))
                  | inr late ↦ late
                ] in
                let less =
                ticks_less (level_before m t keeps c (s + L)) s L (λ j p. leb-true _ _ (and_parts _ _ p).0) (omega arith) start.rest
                (λ u lo hi.
                let (at, low) = busy-serves u lo (omega arith) in
                let (_, past, _) = ruled.pending u (omega arith) at in
                (at, and_from _ _ (le-leb _ _ low) (lt-ltb _ _ (omega arith))))
                y there (and_from _ _ (le-leb _ _ level) (lt-ltb _ _ before)) late more in
                absurd (omega (arith, serves.1, load_bound m t keeps c s L fits (λ j n l o lo hi. covers j n l o lo (omega arith))))
          ]
