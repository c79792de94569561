use Rattle.std.proofs.Common.{arith}
use Rattle.settings.specs.declared.reader.Section.TheVariants.{Tasks}
use Rattle.settings.proofs.Steps.{stops, moves, task_due}
use Rattle.settings.proofs.reader.Reader.take_task.Goals as goal

pub returns-in_err-push : goal.returns-in_err-push
returns-in_err-push c =
    let r = c.args.self.now in
    stops r Tasks c.requires.0 _ _ (task_due r c.requires.1) _ _ _ c.in_err-push.ensures.value c.from_residual.ensures.1

pub returns : goal.returns
returns c =
    let r = c.args.self.now in
    moves r Tasks c.requires.0 _ _ (task_due r c.requires.1) _ Tasks c.requires.0 _ _ c.in_ok-push.ensures.value (cc) (omega (arith, c.requires.1))
