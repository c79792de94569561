-- The lines of questions with their answers, and what is printed with them.
use Rattle.std.specs.Prelude.{◌≡◌, ℕ, List, [], ◌∷◌, ◌++◌, length, Ok, Err, codes, decimal, Result}
use Rattle.arrival.specs.Meaning.{Meaning}
use Rattle.file_format.specs.Models.{model_of}
use Rattle.file_format.specs.Settings.{Settings, Fault, Question}
use Rattle.loads.specs.Tables.{times_table}
use Rattle.theory.specs.Questions.{Answer}
use Rattle.theory.specs.Tables.{Table}
use Rattle.report.specs.Lines.{refused_line, tasks_line}

-- the numbers of a question, then a word and a number
abbrev pub question_line : Question → List ℕ → ℕ → List ℕ
question_line q word n =
    decimal q.task ++ (codes " " ++ (decimal q.jobs ++ (codes " " ++ (decimal q.span
    ++ (codes " " ++ (word ++ (codes " " ++ (decimal n ++ codes "\n"))))))))

abbrev pub answer_line : Question → Result ℕ ℕ → List ℕ
answer_line q (Ok n) = question_line q (codes "misses") n
answer_line q (Err n) = question_line q (codes "refused") n

-- the lines of questions, one after another, each with its answer over 16,384 cells
abbrev pub AnswerLines : Meaning → Table → List Question → List ℕ → Type 0
AnswerLines m t [] bytes = bytes ≡ []
AnswerLines m t (q ∷ qs) bytes =
    (r : Result ℕ ℕ) × (rest : List ℕ) × Answer m t q.task q.jobs q.span 16384 r
    × AnswerLines m t qs rest × (bytes ≡ answer_line q r ++ rest)

-- what is printed for a file that reads so
abbrev pub PrintsWithAnswers : Result Settings Fault → List ℕ → Type 0
PrintsWithAnswers (Ok s) bytes =
    (lines : List ℕ) × AnswerLines (model_of s) (times_table s.tasks) s.questions lines
    × (bytes ≡ tasks_line (length s.tasks) ++ lines)
PrintsWithAnswers (Err f) bytes = bytes ≡ refused_line f
