use Rattle.std.proofs.Common.{◌≡◌, [], ◌∷◌, ◌++◌, refl, arith}
use Rattle.std.proofs.lemmas.Result.{IfOk-at_ok}
use Rattle.settings.specs.declared.reader.Section.TheVariants.{Typical, Overload}
use Rattle.settings.proofs.Staircases.{two_more}
use Rattle.settings.proofs.Steps.{room_in, stops, moves, overload_due}
use Rattle.settings.proofs.reader.Reader.take_overload.Goals as goal

pub returns-in_err-overload : goal.returns-in_err-overload
returns-in_err-overload c =
    let r = c.args.self.now in
    stops r Overload c.requires _ _ (overload_due r c.requires _ (omega (arith, c.len.ensures.value))) _ _ _ c.in_err-overload.ensures.value c.from_residual.ensures.1

pub returns : goal.returns
returns c =
    let r = c.args.self.now in
    let room = room_in r Overload c.requires in
    let pushed : c.push.new.self ≡ r.settings.staircases ++ record { typical = r.typical; overload = c.in_ok-overload.overload } ∷ [] = IfOk-at_ok _ c.unwrap.ensures c.push.ensures.ok in
    moves r Overload c.requires _ _ (overload_due r c.requires _ (omega (arith, c.len.ensures.value))) _ Typical refl _ _ c.in_ok-overload.ensures.value
    (cc (two_more r.settings.staircases (record { typical = r.typical; overload = c.in_ok-overload.overload }))) (omega arith)
