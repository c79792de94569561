-- Jobs that keep to a table and a model.
use Rattle.std.specs.Prelude.{ℕ, ◌+◌, ◌^◌, ◌<◌, ◌≤◌, Bool, true, false, ◌&&◌, List, length, ◌==◌, nat_le, nat_lt}
use Rattle.arrival.specs.declared.class.Class.{Class}
use Rattle.arrival.specs.declared.class.Class.TheVariants.{Typical, Overload}
use Rattle.arrival.specs.Meaning.{Meaning}
use Rattle.theory.specs.Schedules.{Job, job}
use Rattle.theory.specs.Sums.{count}
use Rattle.theory.specs.Tables.{Table}

abbrev pub same_class : Class → Class → Bool
same_class Typical Typical = true
same_class Typical Overload = false
same_class Overload Typical = false
same_class Overload Overload = true

-- of task i and class k, and released in the half-open window of length w from tick u on
abbrev pub in_window : ℕ → Class → ℕ → ℕ → Job → Bool
in_window i k u w x = (x.task == i && same_class k x.class) && (nat_le u x.release && nat_lt x.release (u + w))

-- jobs in the order of entry, up to clock c
pub record Conforming (m : Meaning) (t : Table) (jobs : List Job) (c : ℕ) : Type 0 where
  pub ordered : (g h : ℕ) → g ≤ h → h < length jobs → (job jobs g).release ≤ (job jobs h).release
  pub entered : (j : ℕ) → j < length jobs → (job jobs j).release ≤ c
  pub some_work : (j : ℕ) → j < length jobs → 1 ≤ (job jobs j).work
  pub within_wcet : (j : ℕ) → j < length jobs → (job jobs j).work ≤ t.wcet (job jobs j).task
  -- no window holds more releases than its count
  pub rated : (i : ℕ) (k : Class) (u w : ℕ) → w < 2 ^ 32 → count (λ j. in_window i k u w (job jobs j)) (length jobs) ≤ m.count i k w
