use Rattle.std.proofs.Common.{◌≡◌, ◌+◌, ◌^◌, ◌++◌, map, length, take}
use Rattle.analysis.specs.Sources.{masks}
use Rattle.analysis.proofs.subsets.add_task.Given as goal

abbrev pub invariant-loop-place : goal.invariant-loop-place
invariant-loop-place l =
    (length l.sets ≡ length l.initial.sets + l.place)
    × (masks l.sets ≡ masks l.initial.sets ++ map (λ s. s + 2 ^ l.task) (take l.place (masks l.initial.sets)))
