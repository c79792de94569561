use Rattle.std.proofs.Common.{◌≡◌, ℕ, ◌+◌, ◌-◌, ◌<◌, ◌≤◌, length, get_or, sym, ap, ◌∙◌, subst, inl, inr, arith, below_more}
use Rattle.std.proofs.lemmas.Bool.{cases_lt}
use Rattle.std.proofs.lemmas.List.{length-map}
use Rattle.theory.specs.Search.{at}
use Rattle.analysis.specs.Sources.{HasLeft, back_by, masks}
use Rattle.analysis.proofs.PackSteps.{back_in, low, reach, done}
use Rattle.analysis.proofs.Steps.{mask_at}
use Rattle.analysis.proofs.sources.SourceList.best.Goals as goal
use Rattle.analysis.proofs.sources.SourceList.best.Goals.{in-Some, in_default}

pub overflow_sub-place : goal.overflow_sub-place
overflow_sub-place c =
    let pre = c.requires in
    let some = c.in-Some.ensures in
    omega (arith, some.1, back_in (masks c.args.combinations.now) c.args.self.now.sources c.args.self.now.lawful pre.takes c.args.cells.now c.args.place pre.within pre.filled _ some.0)

pub with_one_more-most-requires : goal.with_one_more-most-requires
with_one_more-most-requires c =
    let pre = c.requires in
    let cs = c.args.combinations.now in
    let ss = c.args.self.now.sources in
    let cells = c.args.cells.now in
    let p = c.args.place in
    let y = c.loop-set.set-index in
    let is = mask_at cs y in
    let some = subst (λ s. HasLeft ss p s × (c.in-Some.back ≡ back_by ss s)) is c.in-Some.ensures in
    omega (arith, ap (λ x. get_or cells (p - x) 0) some.1, low (masks cs) ss c.args.self.now.lawful pre.takes cells p pre.within pre.filled y (omega (arith, length-map cs (λ c. c.mask))) some.0)

pub loop-set-preserved : goal.loop-set-preserved
loop-set-preserved c =
    let pre = c.requires in
    let cs = c.args.combinations.now in
    let ss = c.args.self.now.sources in
    let cells = c.args.cells.now in
    let p = c.args.place in
    let y = c.loop-set.set-index in
    let new = c.match-step_back.most in
    let Above = λ (x : ℕ). HasLeft ss p (at (masks cs) x) → get_or cells (p - back_by ss (at (masks cs) x)) 0 + 1 ≤ new in
    let inside : y < length (masks cs) = omega (arith, length-map cs (λ c. c.mask)) in
    let item = mask_at cs y in
    let (ps, packed, long) = c.loop-set.invariant.0 in
    elim c.match-step_back.branch [
      | in-Some w ↦
          let some = subst (λ s. HasLeft ss p s × (w.in-Some.back ≡ back_by ss s)) item w.in-Some.ensures in
          let (qs, Packed-more, longer) = reach (masks cs) ss c.args.self.now.lawful pre.takes cells p pre.within pre.filled y inside some.0 in
          let same = ap (λ x. get_or cells (p - x) 0) some.1 in
          let is = w.most-is ∙ w.with_one_more-most.ensures in (
            elim (cases_lt c.loop-set.most (get_or cells (p - w.in-Some.back) 0 + 1)) [
              | inl less ↦ (qs, Packed-more, omega arith)
              | inr most ↦ (ps, packed, omega arith)
            ],
            below_more Above y (λ x less left. omega (arith, c.loop-set.invariant.1 x less left)) (λ left. omega arith),
          )
      | in_default w ↦ (
        (ps, packed, omega (arith, w.most-is)),
        below_more Above y (λ x less left. omega (arith, c.loop-set.invariant.1 x less left, w.most-is)) (λ left. absurd (w.in_default.ensures (subst (HasLeft ss p) (sym item) left))),
      )
    ]

pub returns : goal.returns
returns c =
    let cs = c.args.combinations.now in
    let pre = c.requires in
    let long = length-map cs (λ c. c.mask) in
    done (masks cs) c.args.self.now.sources c.args.self.now.lawful pre.takes c.args.cells.now c.args.place pre.within pre.filled c.loop-set.most
    c.loop-set.invariant.0 (λ x less. c.loop-set.invariant.1 x (omega (arith, long)))
