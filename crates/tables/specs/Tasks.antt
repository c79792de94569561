-- Tasks by their times.
use Rattle.std.specs.Prelude.{ℕ, Bool, ◌&&◌, Ok, Result, nat_le}
use Rattle.base.specs.Faults.{given}
use Rattle.tables.specs.declared.task.Task.{Task}
use Rattle.tables.specs.declared.task.TaskFault.{TaskFault}
use Rattle.tables.specs.declared.task.TaskFault.TheVariants.{OutOfRange}

pub record Times : Type 0 where
  pub wcet : ℕ
  pub deadline : ℕ

-- which times make a task
abbrev pub task_ok : Times → Bool
task_ok t = nat_le 1 t.wcet && nat_le t.wcet 100000 && nat_le 1 t.deadline && nat_le t.deadline 1000000

-- making a task
abbrev pub task : ℕ → ℕ → Result Times ℕ
task wcet deadline =
    let t : Times = record { wcet = wcet; deadline = deadline } in
    given (task_ok t) 13 (Ok t)

-- what the code's values stand for
abbrev pub times_of : Task → Times
times_of t = record { wcet = t.wcet; deadline = t.deadline }

abbrev pub fault_number : TaskFault → ℕ
fault_number OutOfRange = 13
