-- Tables by the list of their tasks.
use Rattle.std.specs.Prelude.{ℕ, List, [], ◌∷◌, ◌++◌, length, Ok, Result, nat_lt, slice_set}
use Rattle.base.specs.Faults.{given}
use Rattle.tables.specs.declared.task.Task.{Task}
use Rattle.tables.specs.declared.table.Open.{Open}
use Rattle.tables.specs.declared.table.Closed.{Closed}
use Rattle.tables.specs.declared.table.Table.{Table}

-- tables that may be altered, and tables that may not
abbrev pub OpenTable : Type 0
OpenTable = Table Open

abbrev pub ClosedTable : Type 0
ClosedTable = Table Closed

abbrev pub tasks_of : {S : Type 0} → Table S → List Task
tasks_of t = t.tasks

-- a task more, where fewer than 32 are there
abbrev pub added : Task → List Task → Result (List Task) ℕ
added t ts = given (nat_lt (length ts) 32) 21 (Ok (ts ++ t ∷ []))

-- another task at position i, where there is one
abbrev pub replaced : ℕ → Task → List Task → Result (List Task) ℕ
replaced i t ts = given (nat_lt i (length ts)) 22 (Ok (slice_set ts i t))
