-- The times of a task that was read in a table's list.
use Rattle.std.proofs.Common.{◌≡◌, ℕ, ◌<◌, List, length, get_or, ap, refl}
use Rattle.std.proofs.lemmas.Option.{slice_get_read}
use Rattle.tables.specs.declared.task.Task.{Task}
use Rattle.loads.specs.Works.{wcet_in, wcet_of}

module _ (ts : List Task) (j : ℕ) (t : Task) (held : j < length ts) (read : t ≡ get_or ts j t) where
  pub wcet_read : wcet_of ts j ≡ t.wcet
  wcet_read = ap wcet_in (slice_get_read ts _ j t refl held read)
