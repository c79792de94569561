-- Positions of a busy window: when the q-th job of task i is released at the earliest, by when it is finished, and whether it is late.
use Rattle.std.specs.Prelude.{ℕ, ◌+◌, ◌<◌, ◌≤◌, Bool}
use Rattle.arrival.specs.Meaning.{Meaning}
use Rattle.theory.specs.Least.{Least, Serves}
use Rattle.theory.specs.Levels.{BusyLength, arrivals, position_load}
use Rattle.theory.specs.Tables.{Table}

-- the level of task i, with the tasks in c overloaded; times are counted from the start of the window
module _ (m : Meaning) (t : Table) (i : ℕ) (c : ℕ → Bool) where
  -- q is a position: the busy window holds that many jobs of task i
  abbrev pub Position : ℕ → Type 0
  Position q = (L : ℕ) × BusyLength m t.wcet c i L × (1 ≤ q) × (q ≤ arrivals m c i L)

  -- E: the least offset at which q jobs can have been released
  abbrev pub Earliest : ℕ → ℕ → Type 0
  Earliest q = Least (λ d. q ≤ arrivals m c i (d + 1))

  -- F: the least length that serves q jobs and the tasks before i
  abbrev pub Finish : ℕ → ℕ → Type 0
  Finish q = Least (Serves (position_load m t.wcet c i q))

  abbrev pub LatePosition : ℕ → Type 0
  LatePosition q = Position q × ((E : ℕ) × (F : ℕ) × Earliest q E × Finish q F × (E + t.deadline i < F))

  -- some position is late
  abbrev pub Unschedulable : Type 0
  Unschedulable = (q : ℕ) × LatePosition q
