-- Sets of tasks. A set is a test on the tasks' numbers; written as a number, bit j says whether task j is in it.
use Rattle.std.specs.Prelude.{◌≡◌, ℕ, ◌/◌, ◌%◌, ◌^◌, Bool, true, ◌==◌}

-- whether task j is in the set s; 0 is the empty set
abbrev pub member : ℕ → ℕ → Bool
member s j = s / 2 ^ j % 2 == 1

abbrev pub Subset : ℕ → ℕ → Type 0
Subset a b = (j : ℕ) → member a j ≡ true → member b j ≡ true

-- every task in s is a source
abbrev pub Of : (ℕ → Type 0) → ℕ → Type 0
Of source s = (j : ℕ) → member s j ≡ true → source j

-- a set of sources that fails, and none of its proper subsets does
pub record Minimal (fails source : ℕ → Type 0) (s : ℕ) : Type 0 where
  pub sources : Of source s
  pub failing : fails s
  pub least : (x : ℕ) → Subset x s → fails x → x ≡ s
