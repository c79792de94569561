-- The times of a table's tasks, as functions of the task's number; 0 where there is none.
use Rattle.std.specs.Prelude.{ℕ, List, Some, None, Option}
use Rattle.std.specs.List.{slice_get}
use Rattle.tables.specs.declared.task.Task.{Task}

abbrev pub wcet_in : Option Task → ℕ
wcet_in None = 0
wcet_in (Some t) = t.wcet

abbrev pub wcet_of : List Task → ℕ → ℕ
wcet_of ts j = wcet_in (slice_get ts j)
