use Rattle.std.proofs.Common.{ap, ◌∙◌, set}
use Rattle.base.proofs.Lists.{take_set_in}
use Rattle.base.proofs.bounded.BoundedList.set.Goals as goal

pub returns-clause-ok : goal.returns-clause-ok
returns-clause-ok g c =
    let l = c.self.inside in
    take_set_in l.len l.items c.args.i c.args.x ∙ ap (λ xs. set xs c.args.i c.args.x) c.self.view_is
