use Rattle.std.proofs.Common.{arith}
use Rattle.loads.proofs.Jumps.{below}
use Rattle.loads.proofs.least_length.Goals as goal

pub returns-then-due-limit : goal.returns-then-due-limit
returns-then-due-limit g c w high serves =
    below (g.L.Load.load c.args.l.now) (g.L.Load.rises c.args.l.now) c.loop-length.length c.loop-length.invariant.1 w (omega arith) (omega arith) serves

pub loop-length-preserved : goal.loop-length-preserved
loop-length-preserved g c = (
  omega arith,
  λ v less serves.
      below (g.L.Load.load c.args.l.now) (g.L.Load.rises c.args.l.now) c.loop-length.length c.loop-length.invariant.1 v (omega arith) (omega arith) serves,
)
