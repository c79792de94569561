use Rattle.std.proofs.Common.{◌≡◌, ◌^◌, length}
use Rattle.theory.specs.Search.{Among, Subsets}
use Rattle.analysis.specs.Sources.{masks, task_of}
use Rattle.analysis.proofs.sources.SourceList.subsets.Given as goal

abbrev pub invariant-loop-source : goal.invariant-loop-source
invariant-loop-source l =
    (length l.sets ≡ 2 ^ l.source-index) × Subsets (Among (task_of l.source-items) l.source-index) (masks l.sets)
