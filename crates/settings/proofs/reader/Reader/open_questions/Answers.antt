use Rattle.std.proofs.Common.{refl, rules, arith}
use Rattle.settings.specs.Go.{questions_ok}
use Rattle.settings.specs.declared.reader.Section.TheVariants.{Typical, Questions}
use Rattle.settings.proofs.Steps.{stops, moves, staircases_done}
use Rattle.settings.proofs.reader.Reader.open_questions.Goals as goal

pub returns-in_err-self : goal.returns-in_err-self
returns-in_err-self c =
    let r = c.args.self.now in
    stops r Typical c.requires.0 _ _ (staircases_done r c.requires.1) _ _ _ (c.in_err-self.ensures.value questions_ok (λ n t h. search rules)) c.from_residual.ensures.1

pub returns : goal.returns
returns c =
    let r = c.args.self.now in
    moves r Typical c.requires.0 _ _ (staircases_done r c.requires.1) _ Questions refl _ _ (c.in_ok-self.ensures.value questions_ok (λ n t h. search rules)) (cc) (omega (arith, c.requires.1))
