-- What an arrival model means, and the laws of it.
use Rattle.std.specs.Prelude.{◌≡◌, ℕ, ◌^◌, ◌<◌, ◌≤◌}
use Rattle.arrival.specs.declared.class.Class.{Class}

-- a number of tasks, and for each task, class and window length how many releases such a window holds at most
pub record Meaning : Type 0 where
  pub tasks : ℕ
  pub count : ℕ → Class → ℕ → ℕ

-- Lengths have 32 bits: a law says nothing of longer windows.

abbrev pub ZeroAtZero : Meaning → Type 0
ZeroAtZero m = (j : ℕ) (k : Class) → m.count j k 0 ≡ 0

abbrev pub Monotone : Meaning → Type 0
Monotone m = (j : ℕ) (k : Class) (v w : ℕ) → v ≤ w → w < 2 ^ 32 → m.count j k v ≤ m.count j k w

abbrev pub AtMostLength : Meaning → Type 0
AtMostLength m = (j : ℕ) (k : Class) (w : ℕ) → w < 2 ^ 32 → m.count j k w ≤ w

abbrev pub FewTasks : Meaning → Type 0
FewTasks m = m.tasks ≤ 255

abbrev pub AbsentIsZero : Meaning → Type 0
AbsentIsZero m = (j : ℕ) (k : Class) (w : ℕ) → m.tasks ≤ j → w < 2 ^ 32 → m.count j k w ≡ 0

pub record Lawful (m : Meaning) : Type 0 where
  pub zero_at_zero : ZeroAtZero m
  pub monotone : Monotone m
  pub at_most_length : AtMostLength m
  pub few_tasks : FewTasks m
  pub absent_is_zero : AbsentIsZero m

-- the laws of the counts of one task and class, by the length
pub record CurveLaws (f : ℕ → ℕ) : Type 0 where
  pub zero_at_zero : f 0 ≡ 0
  pub monotone : (v w : ℕ) → v ≤ w → w < 2 ^ 32 → f v ≤ f w
  pub at_most_length : (w : ℕ) → w < 2 ^ 32 → f w ≤ w
