-- What reading a settings file answers and leaves.
use Rattle.std.specs.Prelude.{◌≡◌, ℕ, List, [], Ok, Err, Result}
use Rattle.entries.specs.declared.fault.FileFault.{FileFault}
use Rattle.entries.specs.Values.{fault_of}
use Rattle.file_format.specs.Settings as file
use Rattle.file_format.specs.Spelling.{spell, Lawful}
use Rattle.tables.specs.Tables.{OpenTable, tasks_of}
use Rattle.settings.specs.declared.settings.Settings.{Settings}
use Rattle.settings.specs.Values.{settings_of}

-- the models hold no task, and there is no question
pub record Empty (s : Settings) : Type 0 where
  pub curves : s.curves ≡ []
  pub staircases : s.staircases ≡ []
  pub questions : s.questions ≡ []

-- the table and the models hold just what the file says; or the fault is the defined one, the table is as it came, and the models are empty
abbrev pub ReadsFile : Result file.Settings file.Fault → Result (Unit {0}) FileFault → OpenTable → OpenTable → Settings → Type 0
ReadsFile (Ok s) (Ok _) old new models = settings_of (tasks_of new) models ≡ s
ReadsFile (Ok s) (Err f) old new models = ⊥
ReadsFile (Err e) (Ok _) old new models = ⊥
ReadsFile (Err e) (Err f) old new models = (fault_of f ≡ e) × (tasks_of new ≡ tasks_of old) × Empty models

-- the file is the bytes of lawful settings
unfoldable pub AreBytesOf : List ℕ → file.Settings → Type 0
AreBytesOf f s = Lawful s × (spell s ≡ f)
