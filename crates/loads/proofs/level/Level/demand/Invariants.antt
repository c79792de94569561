use Rattle.std.proofs.Common.{◌≡◌, ◌*◌, ◌≤◌}
use Rattle.theory.specs.Levels.{demand}
use Rattle.theory.specs.Sets.{member}
use Rattle.loads.specs.Works.{wcet_of}
use Rattle.loads.proofs.level.Level.demand.Given as goal

abbrev pub invariant-loop-j : goal.invariant-loop-j
invariant-loop-j g l =
    (l.sum ≡ demand (g.M.ArrivalModel.meaning l.self.model.now) (wcet_of l.self.tasks.now) (member l.combination.mask) l.j l.window)
    × (l.sum ≤ l.j * 858993459200000)
