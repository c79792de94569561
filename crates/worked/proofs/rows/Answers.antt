use Rattle.worked.proofs.Shown.{worked}
use Rattle.worked.proofs.rows.Goals as goal

pub returns-clause-stand : goal.returns-clause-stand
returns-clause-stand c = worked
