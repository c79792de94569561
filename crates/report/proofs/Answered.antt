-- The lines of questions, one after another.
use Rattle.std.proofs.Common.{ℕ, List, [], ◌∷◌, ◌++◌, Result, sym, refl, ap, ◌∙◌}
use Rattle.std.proofs.lemmas.List.{append_assoc, append-nil}
use Rattle.arrival.specs.Meaning.{Meaning}
use Rattle.file_format.specs.Settings.{Question}
use Rattle.theory.specs.Questions.{Answer}
use Rattle.theory.specs.Tables.{Table}
use Rattle.report.specs.Answers.{AnswerLines, answer_line}

module _ (m : Meaning) (t : Table) where
  pub lines_more : (qs : List Question) (q : Question) (bytes : List ℕ) (r : Result ℕ ℕ) → AnswerLines m t qs bytes → Answer m t q.task q.jobs q.span 16384 r
      → AnswerLines m t (qs ++ q ∷ []) (bytes ++ answer_line q r)
  lines_more [] q bytes r none answer =
      (r, [], answer, refl, ap (λ bs. bs ++ answer_line q r) none ∙ sym (append-nil (answer_line q r)))
  lines_more (p ∷ qs) q bytes r (first, rest, answered, more, is) answer = (
    first,
    rest ++ answer_line q r,
    answered,
    lines_more qs q rest r more answer,
    ap (λ bs. bs ++ answer_line q r) is ∙ append_assoc (answer_line p first) rest (answer_line q r),
  )
