use Rattle.std.proofs.Common.{◌≡◌, ℕ, ◌+◌, ◌-◌, ◌/◌, ◌<◌, List, map, get_or, sym, ◌∙◌, arith}
use Rattle.std.proofs.lemmas.List.{length-map, get_or-map}
use Rattle.base.specs.Numbers.{number}
use Rattle.staircase.specs.Laws.{rises-from-ok}
use Rattle.staircase.proofs.Halving.{parts_low, parts_high, parts_all}
use Rattle.staircase.proofs.stairs.Staircase.up_to.Goals as goal

pub loop-low-preserved-then-point-rest : goal.loop-low-preserved-then-point-rest
loop-low-preserved-then-point-rest c =
    let s = c.args.self.now in
    let ps : List ℕ = map (number 4 0) s.points.now in
    let m = c.loop-low.low + (c.loop-low.high - c.loop-low.low) / 2 in
    let less : m < c.loop-low.high = omega arith in
    let read : get_or ps m 0 ≡ c.point.result = get_or-map (number 4 0) s.points.now m _ 0 (omega (arith, c.loop-low.invariant.within)) ∙ sym c.point.ensures in
    parts_low s.repeat ps (rises-from-ok s.repeat ps s.rising) _ _ _ _ (length-map s.points.now (number 4 0)) c.loop-low.invariant m _ less read c.if-point-rest.true

pub loop-low-preserved : goal.loop-low-preserved
loop-low-preserved c =
    let s = c.args.self.now in
    let ps : List ℕ = map (number 4 0) s.points.now in
    let m = c.loop-low.low + (c.loop-low.high - c.loop-low.low) / 2 in
    let less : m < c.loop-low.high = omega arith in
    let read : get_or ps m 0 ≡ c.point.result = get_or-map (number 4 0) s.points.now m _ 0 (omega (arith, c.loop-low.invariant.within)) ∙ sym c.point.ensures in
    parts_high s.repeat ps (rises-from-ok s.repeat ps s.rising) _ _ _ _ (length-map s.points.now (number 4 0)) c.loop-low.invariant m _ less read (omega arith) c.if-point-rest.false

pub returns-clause-value : goal.returns-clause-value
returns-clause-value c =
    let s = c.args.self.now in
    let ps : List ℕ = map (number 4 0) s.points.now in
    parts_all s.repeat ps (rises-from-ok s.repeat ps s.rising) _ _ _ _ (length-map s.points.now (number 4 0)) c.loop-low.invariant c.loop-low-test.false
