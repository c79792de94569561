use Rattle.std.proofs.Common.{◌+◌, ◌≤◌, ◌++◌, length, drop, refl, ap, ◌∙◌, arith}
use Rattle.dispatch.proofs.Fronts.{serves-front, marks-front}
use Rattle.dispatch.proofs.run.Run.tick.Goals as goal

pub returns : goal.returns
returns c =
    let n = c.args.self.now.entered in
    let log = c.args.log.now in
    let t = c.args.self.now.clock + 1 in
    let le : n ≤ length log = omega arith in
    let rs = c.serve-served.new.records in
    record {
      passed = (omega arith, (omega arith, tt));
      between = rs ++ drop n log;
      serves = serves-front t n log le c.serve-served.ensures;
      after = ap (λ xs. xs ++ drop n log) c.mark_late.ensures ∙ marks-front t n log le rs c.serve-served.auto.records;
      clock = refl;
      entered = refl;
      same_table = refl;
    }
