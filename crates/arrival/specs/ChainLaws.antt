-- The laws of two models, one behind the other.
use Rattle.std.specs.Prelude.{◌≡◌, ℕ, ◌-◌, ◌≤◌, Bool, true, false, cond, nat_lt, refl}
use Rattle.std.proofs.Common.{arith}
use Rattle.std.proofs.lemmas.Bool.{cond_both, ltb-true, ltb-false}
use Rattle.arrival.specs.Meaning.{Meaning, ZeroAtZero, Monotone, AtMostLength, FewTasks, AbsentIsZero}
use Rattle.arrival.specs.Chain.{chain}

-- what holds of both ways of a test holds of the test
either_way : (t : Bool) (P : ℕ → Type 0) {x y : ℕ} → P x → P y → P (cond t x y)
either_way true P p q = p
either_way false P p q = q

both_le : (t : Bool) {x y v w : ℕ} → x ≤ v → y ≤ w → cond t x y ≤ cond t v w
both_le true p q = p
both_le false p q = q

module _ (a b : Meaning) where
  pub chain-zero_at_zero : ZeroAtZero a → ZeroAtZero b → ZeroAtZero (chain a b)
  chain-zero_at_zero p q j k =
      either_way (nat_lt j 255) (λ x. x ≡ 0) (either_way (nat_lt j a.tasks) (λ x. x ≡ 0) (p j k) (q (j - a.tasks) k)) refl

  pub chain-monotone : Monotone a → Monotone b → Monotone (chain a b)
  chain-monotone p q j k v w h fits =
      both_le (nat_lt j 255) (both_le (nat_lt j a.tasks) (p j k v w h fits) (q (j - a.tasks) k v w h fits)) (omega arith)

  pub chain-at_most_length : AtMostLength a → AtMostLength b → AtMostLength (chain a b)
  chain-at_most_length p q j k w fits =
      either_way (nat_lt j 255) (λ x. x ≤ w) (either_way (nat_lt j a.tasks) (λ x. x ≤ w) (p j k w fits) (q (j - a.tasks) k w fits)) (omega arith)

  pub chain-few_tasks : FewTasks (chain a b)
  chain-few_tasks = omega arith

  pub chain-absent_is_zero : AbsentIsZero b → AbsentIsZero (chain a b)
  chain-absent_is_zero q j k w h fits =
      cond_both (nat_lt j 255) _ _ (λ x. x ≡ 0)
      (λ low. cond_both (nat_lt j a.tasks) _ _ (λ x. x ≡ 0)
      (λ first. absurd (omega (arith, ltb-true j 255 low, ltb-true j a.tasks first)))
      (λ second. q (j - a.tasks) k w (omega (arith, ltb-true j 255 low, ltb-false j a.tasks second)) fits))
      (λ _. refl)
