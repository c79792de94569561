use Rattle.std.proofs.Common.{refl, arith}
use Rattle.std.proofs.lemmas.List.{length-map}
use Rattle.settings.specs.Go.{staircases_ok, so_far}
use Rattle.settings.specs.declared.reader.Section.TheVariants.{Curves, Typical}
use Rattle.settings.proofs.Steps.{stops, moves, curves_done}
use Rattle.settings.proofs.reader.Reader.open_staircases.Goals as goal

pub returns-in_err-self : goal.returns-in_err-self
returns-in_err-self c =
    let r = c.args.self.now in
    stops r Curves c.requires.0 _ _ (curves_done r c.requires.1) _ _ _ (c.in_err-self.ensures.value (staircases_ok (so_far r)) (λ n t h. grind (arith, length-map))) c.from_residual.ensures.1

pub returns : goal.returns
returns c =
    let r = c.args.self.now in
    moves r Curves c.requires.0 _ _ (curves_done r c.requires.1) _ Typical refl _ _ (c.in_ok-self.ensures.value (staircases_ok (so_far r)) (λ n t h. grind (arith, length-map))) (cc) (omega (arith, c.requires.1))
