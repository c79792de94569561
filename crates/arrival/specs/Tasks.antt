-- The model that has a curve for each task and class.
use Rattle.std.specs.Prelude.{ℕ, min, List, length, take, Some, None, Option}
use Rattle.std.specs.List.{slice_get}
use Rattle.arrival.specs.declared.class.Class.{Class}
use Rattle.arrival.specs.declared.class.Class.TheVariants.{Typical, Overload}
use Rattle.arrival.specs.declared.curve.TaskCurves.{TaskCurves}
use Rattle.arrival.specs.Meaning.{Meaning}

-- `counts` says what a curve counts at a length
module _ {C : Type 0} (counts : C → ℕ → ℕ) where
  -- a class without releases counts 0
  abbrev pub option_count : Option C → ℕ → ℕ
  option_count None w = 0
  option_count (Some c) w = counts c w

  abbrev pub task_count : Option (TaskCurves C) → Class → ℕ → ℕ
  task_count None k w = 0
  task_count (Some t) Typical w = counts t.typical w
  task_count (Some t) Overload w = counts t.overload w

  -- the first 255 tasks are held
  abbrev pub curves_meaning : List (TaskCurves C) → Meaning
  curves_meaning ts = record {
    tasks = min (length ts) 255;
    count = λ j k w. task_count (slice_get (take 255 ts) j) k w;
  }
