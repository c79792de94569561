-- What the code's settings stand for.
use Rattle.std.specs.Prelude.{List, [], ◌∷◌, map}
use Rattle.std.specs.List.{flat_map}
use Rattle.arrival.specs.declared.curve.TaskCurves.{TaskCurves}
use Rattle.entries.specs.Values.{curves_of, question_of}
use Rattle.file_format.specs.Settings as file
use Rattle.staircase.specs.declared.stairs.Staircase.{Staircase}
use Rattle.staircase.specs.Stairs.{Stairs}
use Rattle.staircase.specs.Values.{stairs_of}
use Rattle.tables.specs.declared.task.Task.{Task}
use Rattle.tables.specs.Tasks.{times_of}
use Rattle.settings.specs.declared.settings.Settings.{Settings}

-- the staircases of one task, the typical one first
abbrev pub two_of : TaskCurves Staircase → List Stairs
two_of t = stairs_of t.typical ∷ stairs_of t.overload ∷ []

-- the settings that these tasks make with what else was read
abbrev pub settings_of : List Task → Settings → file.Settings
settings_of ts s = record {
  tasks = map times_of ts;
  curves = map curves_of s.curves;
  staircases = flat_map two_of s.staircases;
  questions = map question_of s.questions;
}
