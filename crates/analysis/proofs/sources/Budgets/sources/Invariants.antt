use Rattle.std.proofs.Common.{◌≤◌, length}
use Rattle.analysis.specs.Sources.{Gathered, budget_within}
use Rattle.analysis.proofs.sources.Budgets.sources.Given as goal

abbrev pub invariant-loop-task : goal.invariant-loop-task
invariant-loop-task g l =
    let b = l.self in Gathered (budget_within (g.M.ArrivalModel.meaning b.model.now) b.k b.reach) l.task l.sources × (length l.sources ≤ 6)
