use Rattle.std.proofs.Common.{Decides, sym, subst, arith}
use Rattle.std.proofs.lemmas.Option.{MatchOption-at_some}
use Rattle.loads.specs.Tables.{table_of}
use Rattle.theory.specs.Positions.{LatePosition}
use Rattle.theory.specs.Sets.{member}
use Rattle.theory.proofs.Lateness.{serves-position, late_decides}
use Rattle.analysis.proofs.Windows.{some_answer}
use Rattle.analysis.proofs.busy.BusyWindow.is_late.Goals as goal

pub unwrap-finish-requires : goal.unwrap-finish-requires
unwrap-finish-requires g c =
    let b = c.args.self.now in
    let l = b.level.now in
    some_answer c.least_length.result _ _ c.least_length.ensures (λ none. none b.length (omega arith)
    (serves-position (g.M.ArrivalModel.meaning l.model.now) (g.M.ArrivalModel.monotone l.model.now) (table_of l.tasks.now) l.task (member b.set.mask) c.args.q b.length c.requires.1 b.longest.0))

pub returns : goal.returns
returns g c =
    let b = c.args.self.now in
    let l = b.level.now in
    let m = g.M.ArrivalModel.meaning l.model.now in
    let t = table_of l.tasks.now in
    let found = MatchOption-at_some _ _ c.unwrap-finish.result c.unwrap-finish.ensures c.least_length.ensures in
    subst (λ r. Decides r (LatePosition m t l.task (member b.set.mask) c.args.q)) (sym c.overdue.ensures)
    (late_decides m (g.M.ArrivalModel.monotone l.model.now) t l.task (member b.set.mask)
    b.length (omega (arith, b.short)) b.longest c.args.q c.unwrap-finish.result c.requires.0 c.requires.1 found.0 found.1)
