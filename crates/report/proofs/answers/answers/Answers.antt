use Rattle.std.proofs.Common.{map, get_or, take, string_bytes, sym, subst, arith}
use Rattle.std.proofs.lemmas.List.{map_more}
use Rattle.base.specs.Faults.{in_numbers}
use Rattle.entries.specs.declared.question.Question.{Question}
use Rattle.entries.specs.Values.{question_of}
use Rattle.analysis.specs.Refusals.{refusal_number}
use Rattle.loads.specs.Tables.{table_of}
use Rattle.tables.specs.Tables.{tasks_of}
use Rattle.theory.specs.Questions.{Answer}
use Rattle.report.specs.Answers.{AnswerLines}
use Rattle.report.proofs.Answered.{lines_more}
use Rattle.report.proofs.answers.answers.Goals as goal

pub loop-question-preserved : goal.loop-question-preserved
loop-question-preserved g c =
    let m = g.M.ArrivalModel.meaning c.args.model.now in
    let t = table_of (tasks_of c.args.table.now) in
    let qs = c.args.questions.now in
    let i = c.loop-question.question-index in
    let blank : Question = record { task = 0; jobs = 0; span = 0 } in
    let q = question_of (get_or qs i blank) in
    let r = in_numbers (λ a. a) refusal_number c.ask.result in
    let answered = subst (λ n. Answer m t q.task q.jobs q.span n r) c.loop-question.invariant.0 c.ask.ensures.answer in
    let more = lines_more m t (map question_of (take i qs)) q (string_bytes c.loop-question.lines) r c.loop-question.invariant.1 answered in (
      omega (arith, c.loop-question.invariant.0, c.ask.auto.cells),
      subst (λ qs. AnswerLines m t qs (string_bytes c.write.new.self)) (sym (map_more question_of qs i blank c.loop-question-test.true))
          (subst (AnswerLines m t _) (sym c.in_ok-write.ensures.bytes) more),
    )
