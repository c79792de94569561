-- The busy windows of a level lie apart, and which tasks are overloaded in one.
use Rattle.std.proofs.Common.{◌≡◌, ℕ, ◌<◌, ◌≤◌, Bool, true, ◌&&◌, eqb, ltb, leb, sym, refl, ap, ◌∙◌, inl, inr, arith}
use Rattle.std.proofs.lemmas.Bool.{and_from, and_parts, cases_lt, eq-eqb, eqb-true, false≢true, le-leb, leb-true, lt-ltb, ltb-true}
use Rattle.arrival.specs.declared.class.Class.{Class}
use Rattle.arrival.specs.declared.class.Class.TheVariants.{Overload, Typical}
use Rattle.theory.specs.Conforming.{same_class}
use Rattle.theory.specs.Sums.{count}
use Rattle.theory.proofs.Quiet.{start}
use Rattle.theory.proofs.Totals.{count-one, count_some}
use Rattle.theory.proofs.Traces.{Covers, Ruled, Start, Trace, Window}

overload_is : (k : Class) → same_class Overload k ≡ true → k ≡ Overload
overload_is Typical e = absurd (false≢true e)
overload_is Overload e = refl

module _ (R : Trace) (ruled : Ruled R) (i : ℕ) where
  -- when the window of job j starts
  abbrev pub start_of : ℕ → ℕ
  start_of j = (start R ruled i (R.release j)).0

  start_unique : (r s u : ℕ) → Start R i r s → Start R i r u → s ≡ u
  start_unique r s u a b =
      elim (cases_lt s u) [
        | inl h ↦ absurd (false≢true (sym (a.last u h b.before) ∙ b.rest))
        | inr h ↦ elim (cases_lt u s) [ inl g ↦ absurd (false≢true (sym (b.last s g a.before) ∙ a.rest)) | inr g ↦ omega arith ]
      ]

  -- a job released in a window has that window's start
  pub same_window : (j s e : ℕ) → Window R i j s e → (g : ℕ) → s ≤ R.release g → R.release g < e → start_of g ≡ s
  same_window j s e window g lo hi =
      start_unique (R.release g) (start_of g) s (start R ruled i (R.release g)).1
      (record {
        before = lo;
        rest = window.start.rest;
        last = λ u a b. elim (cases_lt (R.release j) u) [ inl h ↦ window.busy u h (omega arith) | inr h ↦ window.start.last u a h ];
      })

  -- an overload job of task k that is released from s on and before e
  abbrev pub OverloadIn : ℕ → ℕ → ℕ → ℕ → Type 0
  OverloadIn s e k g = (g < R.jobs) × (R.task g ≡ k) × (R.class g ≡ Overload) × (s ≤ R.release g) × (R.release g < e)

  abbrev overload_in : ℕ → ℕ → ℕ → ℕ → Bool
  overload_in s e k g = (eqb (R.task g) k && same_class Overload (R.class g)) && (leb s (R.release g) && ltb (R.release g) e)

  -- the tasks of the level that have such a job
  abbrev pub overloaded : ℕ → ℕ → ℕ → Bool
  overloaded s e k = leb k i && ltb 0 (count (overload_in s e k) R.jobs)

  pub overloaded-covers : (s e : ℕ) → Covers R i (overloaded s e) s e
  overloaded-covers s e j known level class lo hi =
      let here : overload_in s e (R.task j) j ≡ true =
      and_from _ _ (and_from _ _ (eq-eqb (R.task j) (R.task j) refl) (ap (same_class Overload) class)) (and_from _ _ (le-leb _ _ lo) (lt-ltb _ _ hi)) in
      and_from _ _ (le-leb _ _ level) (lt-ltb _ _ (count-one (overload_in s e (R.task j)) R.jobs j known here))

  pub overloaded_has : (s e k : ℕ) → overloaded s e k ≡ true → (k ≤ i) × ((g : ℕ) × OverloadIn s e k g)
  overloaded_has s e k h =
      let (level, some) = and_parts (leb k i) (ltb 0 (count (overload_in s e k) R.jobs)) h in
      let (g, known, here) = count_some (overload_in s e k) R.jobs (ltb-true 0 (count (overload_in s e k) R.jobs) some) in
      let (of, within) = and_parts (eqb (R.task g) k && same_class Overload (R.class g)) (leb s (R.release g) && ltb (R.release g) e) here in
      let (task, class) = and_parts (eqb (R.task g) k) (same_class Overload (R.class g)) of in
      let (lo, hi) = and_parts (leb s (R.release g)) (ltb (R.release g) e) within in
      (leb-true k i level, (g, (known, eqb-true _ _ task, overload_is (R.class g) class, leb-true _ _ lo, ltb-true _ _ hi)))
