use Rattle.std.proofs.Common.{◌≡◌}
use Rattle.std.specs.Option.{IfSome, option_map}
use Rattle.theory.specs.Service.{Served}
use Rattle.dispatch.specs.Records.{waits, task_at}
use Rattle.dispatch.proofs.service.served_place.Given as goal

abbrev pub invariant-loop-at : goal.invariant-loop-at
invariant-loop-at l =
    Served l.at (waits l.records) (task_at l.records) (option_map (λ p. p.1) l.first)
    × IfSome l.first (λ p. p.0 ≡ task_at l.records p.1)
