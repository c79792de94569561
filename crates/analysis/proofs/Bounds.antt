-- The numbers that the code holds while it goes through the sources fit their types.
use Rattle.std.proofs.Common.{◌≡◌, ℕ, zero, suc, ◌+◌, ◌*◌, ◌/◌, ◌^◌, ◌≤◌, true, false, cond, List, length, sym, subst, inl, inr, pow-suc, arith}
use native.Mathlib.Nat.{pow-le-pow_right, div-div-eq-div-mul}
use Rattle.std.proofs.lemmas.Nat.{mul-le}
use Rattle.std.proofs.lemmas.Bool.{cases_eq, cases_Bool, cond-true, cond-false}
use Rattle.theory.specs.Packings.{states}
use Rattle.theory.specs.Sets.{member}
use Rattle.theory.specs.States.{Suits, offset}
use Rattle.theory.proofs.Totals.{total_most, total-suc}
use Rattle.analysis.specs.declared.sources.Source.{Source}
use Rattle.analysis.specs.Sources.{Sources, budget_of, state_at, task_of}

-- 1001 ^ 6
abbrev pub largest : ℕ
largest = 1006015020015006001

module _ (ss : List Source) (h : Sources ss) where
  states_pow : (s : ℕ) → s ≤ length ss → states (budget_of ss) s ≤ 1001 ^ s
  states_pow zero l = omega arith
  states_pow (suc s) l =
      subst (λ x. states (budget_of ss) (suc s) ≤ x) (sym (pow-suc 1001 s))
      (mul-le _ _ _ _ (states_pow s (omega arith)) (omega (arith, h.budgets s (omega arith))))

  pub states-fits : (s : ℕ) → s ≤ length ss → states (budget_of ss) s ≤ largest
  states-fits s l =
      let few : s ≤ 6 = omega (arith, h.few) in
      omega (arith, states_pow s l, pow-le-pow_right {n = 1001} (omega arith) few)

  pub offset-fits : (c s : ℕ) → s ≤ length ss → offset (budget_of ss) (task_of ss) c s ≤ s * largest
  offset-fits c s l = total_most _ s largest (λ k b. elim (cases_Bool (member c (task_of ss k))) [
    | inl e ↦ omega (arith, cond-true (member c (task_of ss k)) (states (budget_of ss) k) 0 e, states-fits k (omega arith))
    | inr e ↦ omega (arith, cond-false (member c (task_of ss k)) (states (budget_of ss) k) 0 e)
  ])

-- one source more
module _ (ss : List Source) where
  pub rest_more : (p s : ℕ) → p / states (budget_of ss) s / (budget_of ss s + 1) ≡ p / states (budget_of ss) (suc s)
  rest_more p s = div-div-eq-div-mul p (states (budget_of ss) s) (budget_of ss s + 1)

  pub offset_in : (c s : ℕ) → member c (task_of ss s) ≡ true → offset (budget_of ss) (task_of ss) c (suc s) ≡ offset (budget_of ss) (task_of ss) c s + states (budget_of ss) s
  offset_in c s e = omega (arith, total-suc (λ k. cond (member c (task_of ss k)) (states (budget_of ss) k) 0) s, cond-true (member c (task_of ss s)) (states (budget_of ss) s) 0 e)

  pub offset_out : (c s : ℕ) → member c (task_of ss s) ≡ false → offset (budget_of ss) (task_of ss) c (suc s) ≡ offset (budget_of ss) (task_of ss) c s
  offset_out c s e = omega (arith, total-suc (λ k. cond (member c (task_of ss k)) (states (budget_of ss) k) 0) s, cond-false (member c (task_of ss s)) (states (budget_of ss) s) 0 e)

  pub suits_more : (p c s : ℕ) → Suits (task_of ss) s (state_at ss p) c → (member c (task_of ss s) ≡ true → 1 ≤ state_at ss p s) → Suits (task_of ss) (suc s) (state_at ss p) c
  suits_more p c s old new k l e = elim (cases_eq k s) [ inl o ↦ subst (λ z. 1 ≤ state_at ss p z) (sym o) (new (subst (λ z. member c (task_of ss z) ≡ true) o e)) | inr o ↦ old k (omega arith) e ]
