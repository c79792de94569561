-- The two kinds of load are never smaller at a longer length.
use Rattle.std.specs.Prelude.{ℕ, ◌≤◌, Bool, cond}
use Rattle.std.proofs.Common.{arith}
use Rattle.arrival.specs.Meaning.{Meaning, Monotone}
use Rattle.theory.specs.Least.{Rises}
use Rattle.theory.specs.Levels.{arrivals, demand, level_load, position_load}
use Rattle.theory.proofs.Lighter.{demand_le, arrivals_rise as rising_arrivals, level_rises as rising_level, position_rises as rising_position}
use Rattle.theory.proofs.Totals.{cond_mono}

cond_le : (b : Bool) (x y : ℕ) → x ≤ y → cond b x 0 ≤ cond b y 0
cond_le b x y h = cond_mono b b x y (λ e. (e, h))

module _ (m : Meaning) (monotone : Monotone m) (wcet : ℕ → ℕ) (c : ℕ → Bool) where
  arrivals_rise : (j : ℕ) → Rises (arrivals m c j)
  arrivals_rise = rising_arrivals m monotone wcet c

  demand-rises : (n : ℕ) → Rises (demand m wcet c n)
  demand-rises = demand_le m m monotone (λ _ _ _ _. omega arith) wcet wcet (λ _. omega arith) c c (λ _ h. h)

  pub level_rises : (i : ℕ) → Rises (level_load m wcet c i)
  level_rises = rising_level m monotone wcet c

  pub position_rises : (i q : ℕ) → Rises (position_load m wcet c i q)
  position_rises = rising_position m monotone wcet c
