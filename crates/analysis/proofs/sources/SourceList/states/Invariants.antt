use Rattle.std.proofs.Common.{◌≡◌}
use Rattle.theory.specs.Packings.{states}
use Rattle.analysis.specs.Sources.{budget_of}
use Rattle.analysis.proofs.sources.SourceList.states.Given as goal

abbrev pub invariant-loop-source : goal.invariant-loop-source
invariant-loop-source l = l.states ≡ states (budget_of l.source-items) l.source-index
