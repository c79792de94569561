-- Units served, and quiet times.
use Rattle.std.proofs.Common.{◌≡◌, ℕ, zero, suc, ◌+◌, ◌<◌, ◌≤◌, Bool, true, false, eqb, sym, ap, ◌∙◌, subst, inl, inr, add-zero, arith}
use Rattle.std.proofs.lemmas.Bool.{and_from, and_parts, cases_Bool, cases_eq, cases_lt, eq-eqb, eqb-false, eqb-true, false≢true, le-leb, leb-true, lt-ltb, ltb-true, ne_eqb}
use Rattle.theory.proofs.Totals.{count_none, count_some, one_if, one_if-false, one_if-true, total_longer, total_none, total-suc}
use Rattle.theory.proofs.Traces.{Pending, Ruled, Start, Trace, backlog, left_over, quiet, units}

-- the last number up to r that passes a test that 0 passes
last-true : (p : ℕ → Bool) (r : ℕ) → p 0 ≡ true → (s : ℕ) × (s ≤ r) × (p s ≡ true) × ((u : ℕ) → s < u → u ≤ r → p u ≡ false)
last-true p zero h = (0, omega arith, h, λ u a b. absurd (omega arith))
last-true p (suc r) h =
    elim (cases_Bool (p (suc r))) [
      | inl e ↦ (suc r, omega arith, e, λ u a b. absurd (omega arith))
      | inr e ↦
          let (s, low, at, last) = last-true p r h in
          (s, omega arith, at, λ u a b. elim (cases_eq u (suc r)) [ inl q ↦ ap p q ∙ e | inr q ↦ last u a (omega arith) ])
    ]

module _ (R : Trace) (ruled : Ruled R) where
  pub units_mono : (j t u : ℕ) → t ≤ u → units R j t ≤ units R j u
  units_mono j t u h = total_longer (λ v. one_if (eqb (R.served v) j)) t u h

  served-more : (j t : ℕ) → R.served t ≡ j → units R j (suc t) ≡ units R j t + 1
  served-more j t e = total-suc (λ u. one_if (eqb (R.served u) j)) t ∙ ap (λ x. units R j t + x) (one_if-true (eq-eqb (R.served t) j e))

  other_served : (j t : ℕ) → (R.served t ≡ j → ⊥) → units R j (suc t) ≡ units R j t
  other_served j t e = total-suc (λ u. one_if (eqb (R.served u) j)) t ∙ ap (λ x. units R j t + x) (one_if-false (ne_eqb (R.served t) j e)) ∙ add-zero _

  served-pending : (j t : ℕ) → j < R.jobs → t < R.clock → R.served t ≡ j → Pending R j t
  served-pending j t known h e = subst (λ x. Pending R x t) e (ruled.pending t h (omega arith))

  pub units_most : (j t : ℕ) → j < R.jobs → t ≤ R.clock → units R j t ≤ R.work j
  units_most j zero known h = omega (arith, total_none (λ u. one_if (eqb (R.served u) j)))
  units_most j (suc t) known h =
      elim (cases_eq (R.served t) j) [
        | inl e ↦ omega (arith, served-more j t e, (served-pending j t known h e).2)
        | inr e ↦ omega (arith, other_served j t e, units_most j t known (omega arith))
      ]

  -- no unit of a job is served before its release
  pub units_early : (j t : ℕ) → j < R.jobs → t ≤ R.clock → t ≤ R.release j → units R j t ≡ 0
  units_early j zero known h r = total_none (λ u. one_if (eqb (R.served u) j))
  units_early j (suc t) known h r =
      elim (cases_eq (R.served t) j) [
        | inl e ↦ absurd (omega (arith, (served-pending j t known h e).1))
        | inr e ↦ omega (arith, other_served j t e, units_early j t known (omega arith) (omega arith))
      ]

  module _ (i : ℕ) where
    pub quiet_all : (s : ℕ) → quiet R i s ≡ true → (j : ℕ) → j < R.jobs → R.task j ≤ i → R.release j < s → R.work j ≤ units R j s
    quiet_all s q j known level early =
        let none = count_none (left_over R i s) R.jobs (eqb-true (backlog R i s) 0 q) j known in
        elim (cases_lt (units R j s) (R.work j)) [
          | inl more ↦ absurd (false≢true (sym none ∙ and_from _ _ (le-leb _ _ level) (and_from _ _ (lt-ltb _ _ early) (lt-ltb _ _ more))))
          | inr full ↦ full
        ]

    pub quiet-not : (s : ℕ) → quiet R i s ≡ false → (j : ℕ) × (j < R.jobs) × (R.task j ≤ i) × (R.release j < s) × (units R j s < R.work j)
    quiet-not s q =
        let some = eqb-false (backlog R i s) 0 q in
        let (j, known, e) = count_some (left_over R i s) R.jobs (omega arith) in
        let (level, rest) = and_parts _ _ e in
        let (early, more) = and_parts _ _ rest in
        (j, known, leb-true _ _ level, ltb-true _ _ early, ltb-true _ _ more)

    quiet-zero : quiet R i 0 ≡ true
    quiet-zero = elim (cases_Bool (quiet R i 0)) [ inl e ↦ e | inr e ↦ absurd (omega (arith, (quiet-not 0 e).3)) ]

    pub start : (r : ℕ) → (s : ℕ) × Start R i r s
    start r =
        let (s, before, rest, last) = last-true (quiet R i) r quiet-zero in
        (s, record { before = before; rest = rest; last = last })
