use Rattle.std.proofs.Common.{arith}
use Rattle.std.proofs.lemmas.Grind.{common_steps}
use Rattle.std.proofs.lemmas.List.Edits.{map_over_more}
use Rattle.dispatch.specs.Records.{marked}
use Rattle.dispatch.proofs.service.mark_late.Goals as goal

pub loop-g-preserved : goal.loop-g-preserved
loop-g-preserved c = grind (arith, common_steps, map_over_more (marked c.args.clock))
