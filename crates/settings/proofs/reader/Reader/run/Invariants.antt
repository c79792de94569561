use Rattle.std.proofs.Common.{◌≡◌}
use Rattle.settings.specs.Go.{go, weight}
use Rattle.settings.proofs.reader.Reader.run.Given as goal

abbrev pub invariant-loop-self : goal.invariant-loop-self
invariant-loop-self l = go l.self ≡ go l.initial.self

abbrev pub decreases-loop-self : goal.decreases-loop-self
decreases-loop-self l = weight l.self
