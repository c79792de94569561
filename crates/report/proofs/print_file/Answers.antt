use Rattle.std.proofs.Common.{refl}
use Rattle.report.proofs.Read.{read_ok}
use Rattle.report.proofs.print_file.Goals as goal

pub returns-in-Ok : goal.returns-in-Ok
returns-in-Ok g c = read_ok _ _ _ c.read.new.table c.read.new.self _ c.in-Ok.ensures.answer (c.read.new.table, _, refl, c.accepted.ensures)
