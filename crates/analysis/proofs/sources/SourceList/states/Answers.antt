use Rattle.std.proofs.Common.{suc, ◌+◌, ◌*◌, sym, ap, subst, arith}
use Rattle.analysis.specs.Sources.{Sources, budget_of}
use Rattle.analysis.proofs.Bounds.{states-fits}
use Rattle.analysis.proofs.sources.SourceList.states.Goals as goal

pub overflow_mul-states : goal.overflow_mul-states
overflow_mul-states c =
    let ss = c.as_slice-source-items.result.now in
    let s = c.loop-source.source-index in
    let lawful = subst Sources (sym c.as_slice-source-items.ensures.value) c.args.self.now.lawful in
    omega (arith, ap (λ x. x * (budget_of ss s + 1)) c.loop-source.invariant, states-fits ss lawful (suc s) (omega arith))
