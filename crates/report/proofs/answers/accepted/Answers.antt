use Rattle.std.proofs.Common.{◌++◌, map, string_bytes, sym, ap, ◌∙◌, subst}
use Rattle.std.proofs.lemmas.List.{length-map}
use Rattle.arrival.specs.Chain.{chain}
use Rattle.arrival.specs.Tasks.{curves_meaning}
use Rattle.entries.specs.Values.{question_of}
use Rattle.file_format.specs.Models.{model_of}
use Rattle.loads.specs.Tables.{table_of, times_table}
use Rattle.loads.proofs.Tables.{table_of-times}
use Rattle.settings.specs.Values.{settings_of}
use Rattle.tables.specs.Tables.{tasks_of}
use Rattle.tables.specs.Tasks.{times_of}
use Rattle.report.specs.Answers.{AnswerLines}
use Rattle.report.specs.Lines.{tasks_line}
use Rattle.report.proofs.Models.{model_meant, pjd_counts, staircase_counts}
use Rattle.report.proofs.answers.accepted.Goals as goal

pub returns : goal.returns
returns c =
    let ts = tasks_of c.args.table in
    let held = c.args.settings.now in
    let closed = tasks_of c.close-closed.result in
    let qs = map question_of c.questions.result.now in
    let lines = string_bytes c.in_ok-lines.lines in
    let model = (λ i. chain (curves_meaning pjd_counts (c.model-model.ensures.first i)) (curves_meaning staircase_counts (c.model-model.ensures.second i))) ∙ model_meant ts held in
    let meant = model_of (settings_of ts held) in
    let table = ap table_of c.close-closed.ensures ∙ table_of-times ts in (
      lines,
      subst (λ qs. AnswerLines meant (times_table (map times_of ts)) (map question_of qs) lines) c.questions.ensures.value
          (subst (λ t. AnswerLines meant t qs lines) table
          (subst (λ m. AnswerLines m (table_of closed) qs lines) model c.in_ok-lines.ensures)),
      c.in_ok-push_str.ensures.bytes
          ∙ (λ i. (c.in_ok-text.ensures ∙ ap tasks_line (sym (length-map ts times_of))) i ++ c.as_str.ensures.value i),
    )
