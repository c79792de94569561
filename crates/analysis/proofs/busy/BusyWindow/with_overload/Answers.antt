use Rattle.std.proofs.Common.{refl, arith}
use Rattle.loads.specs.Tables.{table_of}
use Rattle.loads.proofs.Masks.{every-member}
use Rattle.theory.specs.Levels.{every}
use Rattle.theory.specs.Sets.{member}
use Rattle.theory.proofs.Lateness.{serves-within}
use Rattle.analysis.proofs.Windows.{longest}
use Rattle.analysis.proofs.busy.BusyWindow.with_overload.Goals as goal

pub unreachable-requires : goal.unreachable-requires
unreachable-requires g c =
    let b = c.args.self.now in
    let l = b.level.now in
    let m = g.M.ArrivalModel.meaning l.model.now in
    let t = table_of l.tasks.now in
    let window = longest m t l.task (member b.set.mask) (λ j h. every-member b.set.mask c.requires j (omega (arith, l.few, l.held))) b.length b.longest in
    c.in-None.ensures b.length (omega arith)
    (serves-within m (g.M.ArrivalModel.monotone l.model.now) t l.task (member c.args.set.mask) every (λ _ _. refl) b.length (omega (arith, b.short)) window.0)
