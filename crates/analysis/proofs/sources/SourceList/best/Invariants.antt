use Rattle.std.proofs.Common.{◌≡◌, ℕ, ◌+◌, ◌-◌, ◌<◌, ◌≤◌, List, length, get_or}
use Rattle.theory.specs.Search.{at}
use Rattle.theory.specs.States.{Packed}
use Rattle.analysis.specs.Sources.{HasLeft, back_by, masks, state_at, task_of}
use Rattle.analysis.proofs.sources.SourceList.best.Given as goal

abbrev pub invariant-loop-set : goal.invariant-loop-set
invariant-loop-set l =
    ((ps : List ℕ) × Packed (masks l.combinations) (task_of l.self.sources) (length l.self.sources) (state_at l.self.sources l.place) ps × (length ps ≡ l.most))
    × ((x : ℕ) → x < l.set-index → HasLeft l.self.sources l.place (at (masks l.combinations) x)
    → get_or l.cells (l.place - back_by l.self.sources (at (masks l.combinations) x)) 0 + 1 ≤ l.most)
