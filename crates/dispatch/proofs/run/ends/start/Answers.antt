use Rattle.dispatch.proofs.Conforms.{executions_agree}
use Rattle.dispatch.proofs.run.ends.start.Goals as goal

pub returns-clause-agrees : goal.returns-clause-agrees
returns-clause-agrees c = executions_agree c.args.table
