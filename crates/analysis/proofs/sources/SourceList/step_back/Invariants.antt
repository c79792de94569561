use Rattle.std.proofs.Common.{◌≡◌, ◌/◌}
use Rattle.theory.specs.Packings.{states}
use Rattle.theory.specs.States.{Suits, offset}
use Rattle.analysis.specs.Sources.{budget_of, state_at, task_of}
use Rattle.analysis.proofs.sources.SourceList.step_back.Given as goal

abbrev pub invariant-loop-source : goal.invariant-loop-source
invariant-loop-source l =
    (l.stride ≡ states (budget_of l.source-items) l.source-index)
    × (l.rest ≡ l.place / states (budget_of l.source-items) l.source-index)
    × (l.back ≡ offset (budget_of l.source-items) (task_of l.source-items) l.set.mask l.source-index)
    × Suits (task_of l.source-items) l.source-index (state_at l.source-items l.place) l.set.mask
