use Rattle.std.proofs.Common.{ap, ◌∙◌, arith}
use Rattle.loads.specs.Tables.{table_of}
use Rattle.loads.proofs.Masks.{every-member}
use Rattle.theory.specs.Sets.{member}
use Rattle.analysis.proofs.Windows.{option_weaker, none_longest}
use Rattle.analysis.proofs.busy.BusyWindow.longest.Goals as goal

pub returns : goal.returns
returns g c =
    let l = c.args.level.now in
    let m = g.M.ArrivalModel.meaning l.model.now in
    let t = table_of l.tasks.now in
    let set = c.every.result.mask in
    option_weaker c.find.result c.find.ensures
    (none_longest m t l.task (member set) (λ j h. every-member set c.every.ensures j (omega (arith, l.few, l.held))) _ 1000000 (omega arith))
    (λ b (level, same, short). (level, ap (λ c. c.mask) same ∙ c.every.ensures))
