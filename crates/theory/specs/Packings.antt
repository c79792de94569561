-- Packings of sets of tasks into budgets.
use Rattle.std.specs.Prelude.{◌≡◌, ℕ, zero, suc, ◌+◌, ◌*◌, ◌^◌, ◌≤◌}
use Rattle.theory.specs.Sets.{member}
use Rattle.theory.specs.Sums.{total, sum_if}

-- A packing gives each set that `allowed` names a whole number, all others 0: the numbers of the sets that hold a source sum
-- to at most its budget. Sets are of tasks below n.
pub record Packing (allowed source : ℕ → Type 0) (budget : ℕ → ℕ) (n : ℕ) (number : ℕ → ℕ) : Type 0 where
  pub only : (s : ℕ) → 1 ≤ number s → allowed s
  pub fits : (j : ℕ) → source j → sum_if (λ s. member s j) number (2 ^ n) ≤ budget j

-- G is the greatest total of a packing: some packing has it, none has more
pub record Greatest (allowed source : ℕ → Type 0) (budget : ℕ → ℕ) (n G : ℕ) : Type 0 where
  pub some_packing : (number : ℕ → ℕ) × Packing allowed source budget n number × (total number (2 ^ n) ≡ G)
  pub no_larger : (number : ℕ → ℕ) → Packing allowed source budget n number → total number (2 ^ n) ≤ G

-- how many states the budgets of the tasks below n have: the product of (budget + 1)
abbrev pub states : (ℕ → ℕ) → ℕ → ℕ
states budget zero = 1
states budget (suc n) = states budget n * (budget n + 1)
