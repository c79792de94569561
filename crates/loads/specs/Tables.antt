-- A table by numbers; a task that it lacks has times 0.
use Rattle.std.specs.Prelude.{List, length}
use Rattle.std.specs.List.{slice_get}
use Rattle.std.specs.Option.{option_map_or}
use Rattle.tables.specs.declared.task.Task.{Task}
use Rattle.tables.specs.Tasks.{Times}
use Rattle.theory.specs.Tables.{Table}
use Rattle.loads.specs.Works.{wcet_of}

-- what the code's tasks stand for
abbrev pub table_of : List Task → Table
table_of ts = record {
  tasks = length ts;
  wcet = wcet_of ts;
  deadline = λ j. option_map_or (λ t. t.deadline) (slice_get ts j) 0;
}

-- what a list of wcets and deadlines stands for
abbrev pub times_table : List Times → Table
times_table ts = record {
  tasks = length ts;
  wcet = λ j. option_map_or (λ t. t.wcet) (slice_get ts j) 0;
  deadline = λ j. option_map_or (λ t. t.deadline) (slice_get ts j) 0;
}
