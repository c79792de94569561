use Rattle.std.proofs.Common.{refl, arith}
use Rattle.settings.specs.declared.reader.Section.TheVariants.{Typical, Overload}
use Rattle.settings.proofs.Steps.{stops, moves, typical_due}
use Rattle.settings.proofs.reader.Reader.take_typical.Goals as goal

pub returns-in_err-self : goal.returns-in_err-self
returns-in_err-self c =
    let r = c.args.self.now in
    stops r Typical c.requires.0 _ _ (typical_due r c.requires.1 _ (omega (arith, c.len.ensures.value))) _ _ _ c.in_err-self.ensures.value c.from_residual.ensures.1

pub returns : goal.returns
returns c =
    let r = c.args.self.now in
    moves r Typical c.requires.0 _ _ (typical_due r c.requires.1 _ (omega (arith, c.len.ensures.value))) _ Overload refl _ _ c.in_ok-self.ensures.value (cc) (omega arith)
