use Rattle.std.proofs.Common.{◌-◌, map, length}
use Rattle.base.specs.Numbers.{number}
use Rattle.staircase.proofs.Halving.{Parts}
use Rattle.staircase.proofs.stairs.Staircase.up_to.Given as goal

abbrev pub invariant-loop-low : goal.invariant-loop-low
invariant-loop-low l = Parts l.rest l.low l.high (length l.self.points.now) (map (number 4 0) l.self.points.now)

abbrev pub decreases-loop-low : goal.decreases-loop-low
decreases-loop-low l = l.high - l.low
