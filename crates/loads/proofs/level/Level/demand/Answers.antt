use Rattle.std.proofs.Common.{◌+◌, ◌*◌, ◌<◌, sym, ◌∙◌, arith, get_or-take, length-take-le}
use Rattle.std.proofs.lemmas.Nat.{mul-le}
use Rattle.theory.specs.Levels.{arrivals}
use Rattle.theory.specs.Sets.{member}
use Rattle.theory.proofs.Totals.{total_none, total_more}
use Rattle.loads.specs.Works.{wcet_of}
use Rattle.loads.proofs.Works.{wcet_read}
use Rattle.loads.proofs.level.Level.demand.Goals as goal

pub loop-j-init : goal.loop-j-init
loop-j-init g c = (sym (total_none _), omega arith)

pub loop-j-preserved : goal.loop-j-preserved
loop-j-preserved g c =
    let m = g.M.ArrivalModel.meaning c.args.self.now.model.now in
    let ts = c.args.self.now.tasks.now in
    let j = c.loop-j.j in
    let task = c.task-item.result in
    let within : j < c.args.n = omega (arith, length-take-le c.args.n ts c.requires) in
    let read = c.task-item.is ∙ get_or-take c.args.n ts j task within in
    let wcet = c.wcet.ensures.value ∙ sym (wcet_read ts j task (omega (arith, c.requires)) read) in
    let one = mul-le c.wcet.result c.arrivals_in-jobs.result 100000 8589934592 c.wcet.ensures.high_bound (omega (arith, c.arrivals_in-jobs.ensures.bound)) in (
      (λ i. c.loop-j.invariant.0 i + wcet i * c.arrivals_in-jobs.ensures.value i)
          ∙ sym (total_more (λ j. wcet_of ts j * arrivals m (member c.args.combination.now.mask) j c.args.window) j),
      omega arith,
    )
