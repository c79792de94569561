use Rattle.std.proofs.Common.{◌≡◌, ℕ, zero, suc, Bool, List, map, drop}
use Rattle.base.specs.Numbers.{number}
use Rattle.staircase.specs.Stairs.{rises, points_ok}
use Rattle.staircase.proofs.stairs.methods.rising.Given as goal

-- what is left to test where the last point was `before`, or 0 if there was none
abbrev from : ℕ → ℕ → List ℕ → Bool
from repeat zero ps = points_ok repeat ps
from repeat (suc before) ps = rises repeat (suc before) ps

abbrev pub invariant-loop-bytes : goal.invariant-loop-bytes
invariant-loop-bytes l = from l.repeat l.last (map (number 4 0) (drop l.bytes-index l.points)) ≡ points_ok l.repeat (map (number 4 0) l.points)
