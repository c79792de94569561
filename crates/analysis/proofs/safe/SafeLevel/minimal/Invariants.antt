use Rattle.loads.specs.Tables.{table_of}
use Rattle.theory.specs.Questions.{Fails}
use Rattle.theory.proofs.Search.{Found}
use Rattle.analysis.specs.Sources.{masks, source_of}
use Rattle.analysis.proofs.safe.SafeLevel.minimal.Given as goal

abbrev pub invariant-loop-set : goal.invariant-loop-set
invariant-loop-set g l =
    let level = l.self.longest.level.now in
    Found (Fails (g.M.ArrivalModel.meaning level.model.now) (table_of level.tasks.now) level.task) (source_of l.sources.sources) (masks l.set-items) l.set-index (masks l.found)
