use Rattle.std.proofs.Common.{refl, arith}
use Rattle.std.proofs.lemmas.List.{length-map}
use Rattle.settings.specs.Go.{curves_ok, so_far}
use Rattle.settings.specs.declared.reader.Section.TheVariants.{Tasks, Curves}
use Rattle.settings.proofs.Steps.{stops, moves, tasks_done}
use Rattle.settings.proofs.reader.Reader.open_curves.Goals as goal

pub returns-in_err-self : goal.returns-in_err-self
returns-in_err-self c =
    let r = c.args.self.now in
    stops r Tasks c.requires.0 _ _ (tasks_done r c.requires.1) _ _ _ (c.in_err-self.ensures.value (curves_ok (so_far r)) (λ n t h. grind (arith, length-map))) c.from_residual.ensures.1

pub returns : goal.returns
returns c =
    let r = c.args.self.now in
    moves r Tasks c.requires.0 _ _ (tasks_done r c.requires.1) _ Curves refl _ _ (c.in_ok-self.ensures.value (curves_ok (so_far r)) (λ n t h. grind (arith, length-map))) (cc) (omega (arith, c.requires.1))
