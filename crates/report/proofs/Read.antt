-- What follows of a file, from what reading it answered.
use Rattle.std.proofs.Common.{Ok, Err, MatchResult, Result, subst}
use Rattle.file_format.specs.Settings.{Settings, Fault}
use Rattle.settings.specs.Read.{ReadsFile}
use Rattle.settings.specs.Values.{settings_of}
use Rattle.settings.specs.declared.settings.Settings as models
use Rattle.tables.specs.Tables.{OpenTable, tasks_of}

module _ (P : Settings → Type 0) (Q : Fault → Type 0) (old new : OpenTable) (held : models.Settings) where
  pub read_ok : (o : Result Settings Fault) → ReadsFile o (Ok tt) old new held → P (settings_of (tasks_of new) held) → MatchResult o P Q
  read_ok (Ok s) filled p = subst P filled p
  read_ok (Err f) filled p = absurd filled
