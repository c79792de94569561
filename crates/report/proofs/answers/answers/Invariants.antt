use Rattle.std.proofs.Common.{◌≡◌, map, length, take, string_bytes}
use Rattle.entries.specs.Values.{question_of}
use Rattle.loads.specs.Tables.{table_of}
use Rattle.tables.specs.Tables.{tasks_of}
use Rattle.report.specs.Answers.{AnswerLines}
use Rattle.report.proofs.answers.answers.Given as goal

abbrev pub invariant-loop-question : goal.invariant-loop-question
invariant-loop-question g l =
    (length l.cells ≡ 16384)
    × AnswerLines (g.M.ArrivalModel.meaning l.model) (table_of (tasks_of l.table)) (map question_of (take l.question-index l.questions)) (string_bytes l.lines)
