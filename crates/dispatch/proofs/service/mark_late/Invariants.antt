use Rattle.std.proofs.Common.{◌≡◌}
use Rattle.dispatch.specs.Records.{marked_log}
use Rattle.dispatch.proofs.service.mark_late.Given as goal

abbrev pub invariant-loop-g : goal.invariant-loop-g
invariant-loop-g l = l.records ≡ marked_log l.clock l.g-index l.initial.records
