-- Fewer releases, less work, a smaller set and a shorter window never bring a larger load.
use Rattle.std.proofs.Common.{◌≡◌, ℕ, suc, ◌^◌, ◌<◌, ◌≤◌, Bool, true, mul-le-mul, mul-le-mul_left, arith}
use Rattle.arrival.specs.declared.class.Class.{Class}
use Rattle.arrival.specs.declared.class.Class.TheVariants.{Typical, Overload}
use Rattle.arrival.specs.Meaning.{Meaning, Monotone}
use Rattle.theory.specs.Least.{Rises}
use Rattle.theory.specs.Levels.{arrivals, demand, level_load, position_load}
use Rattle.theory.proofs.Totals.{cond_mono, total_le}

-- the first set lies within the second
abbrev pub Within : (ℕ → Bool) → (ℕ → Bool) → Type 0
Within c d = (j : ℕ) → c j ≡ true → d j ≡ true

-- no count is larger
abbrev pub Fewer : Meaning → Meaning → Type 0
Fewer m' m = (j : ℕ) (k : Class) (w : ℕ) → w < 2 ^ 32 → m'.count j k w ≤ m.count j k w

-- no wcet is larger
abbrev pub Less : (ℕ → ℕ) → (ℕ → ℕ) → Type 0
Less f' f = (j : ℕ) → f' j ≤ f j

module _ (m m' : Meaning) (monotone : Monotone m) (fewer : Fewer m' m) (wcet wcet' : ℕ → ℕ) (less : Less wcet' wcet) (c c' : ℕ → Bool) (within : Within c' c) where
  pub arrivals_le : (j v w : ℕ) → v ≤ w → w < 2 ^ 32 → arrivals m' c' j v ≤ arrivals m c j w
  arrivals_le j v w h fits =
      let typical = fewer j Typical v (omega arith) in
      let overload = fewer j Overload v (omega arith) in
      let longer = monotone j Overload v w h fits in
      omega (arith, monotone j Typical v w h fits, cond_mono (c' j) (c j) (m'.count j Overload v) (m.count j Overload w) (λ e. (within j e, omega arith)))

  pub demand_le : (n v w : ℕ) → v ≤ w → w < 2 ^ 32 → demand m' wcet' c' n v ≤ demand m wcet c n w
  demand_le n v w h fits = total_le _ _ n (λ j _. mul-le-mul (less j) (arrivals_le j v w h fits))

  pub level_le : (i v w : ℕ) → v ≤ w → w < 2 ^ 32 → level_load m' wcet' c' i v ≤ level_load m wcet c i w
  level_le i = demand_le (suc i)

  pub position_le : (i q v w : ℕ) → v ≤ w → w < 2 ^ 32 → position_load m' wcet' c' i q v ≤ position_load m wcet c i q w
  position_le i q v w h fits = omega (arith, demand_le i v w h fits, mul-le-mul_left q (less i))

-- loads are never smaller at a longer length
module _ (m : Meaning) (monotone : Monotone m) (wcet : ℕ → ℕ) (c : ℕ → Bool) where
  pub arrivals_rise : (j : ℕ) → Rises (arrivals m c j)
  arrivals_rise j = arrivals_le m m monotone (λ _ _ _ _. omega arith) wcet wcet (λ _. omega arith) c c (λ _ h. h) j

  pub level_rises : (i : ℕ) → Rises (level_load m wcet c i)
  level_rises i = level_le m m monotone (λ _ _ _ _. omega arith) wcet wcet (λ _. omega arith) c c (λ _ h. h) i

  pub position_rises : (i q : ℕ) → Rises (position_load m wcet c i q)
  position_rises i q = position_le m m monotone (λ _ _ _ _. omega arith) wcet wcet (λ _. omega arith) c c (λ _ h. h) i q
