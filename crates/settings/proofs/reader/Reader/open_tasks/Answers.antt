use Rattle.std.proofs.Common.{◌≤◌, refl, rules, arith}
use Rattle.settings.specs.Go.{tasks_ok}
use Rattle.settings.specs.declared.reader.Section.TheVariants.{Start, Tasks}
use Rattle.settings.proofs.Steps.{stops, moves, start_hangs}
use Rattle.settings.proofs.reader.Reader.open_tasks.Goals as goal

pub returns-in_err-self : goal.returns-in_err-self
returns-in_err-self c =
    let r = c.args.self.now in
    stops r Start c.requires _ _ (start_hangs r) _ _ _ (c.in_err-self.ensures.value tasks_ok (λ n t h. search rules)) c.from_residual.ensures.1

pub returns : goal.returns
returns c =
    let r = c.args.self.now in
    let h : c.in_ok-self.field-0 ≤ 32 = search rules in
    moves r Start c.requires _ _ (start_hangs r) _ Tasks refl _ _ (c.in_ok-self.ensures.value tasks_ok (λ n t h. search rules)) (cc) (omega (arith, h))
