use Rattle.std.proofs.Common.{ℕ, ◌+◌, ◌-◌, ◌<◌, ◌≤◌}
use Rattle.theory.specs.Least.{Serves}
use Rattle.loads.proofs.least_length.Given as goal

abbrev pub invariant-loop-length : goal.invariant-loop-length
invariant-loop-length g l = (1 ≤ l.length) × ((v : ℕ) → v < l.length → Serves (g.L.Load.load l.l) v → ⊥)

abbrev pub decreases-loop-length : goal.decreases-loop-length
decreases-loop-length g l = l.limit + 1 - l.length
