use Rattle.std.proofs.Common.{◌≡◌, ◌<◌, Err, ap, sym, ◌∙◌, subst, rules, arith}
use Rattle.std.proofs.lemmas.Bool.{cond-true, cond-false}
use Rattle.entries.specs.Values.{fault_of}
use Rattle.file_format.specs.File.{fault}
use Rattle.settings.specs.Go.{go_in, weight_in}
use Rattle.settings.proofs.Steps.{questions_done}
use Rattle.settings.proofs.reader.Reader.close.Goals as goal

pub returns-then-not-is_at_end : goal.returns-then-not-is_at_end
returns-then-not-is_at_end c =
    let r = c.args.self.now in
    let told : fault_of c.fault.result ≡ fault 20 5 0 r.cursor.at = search rules in
    ap (λ t. go_in t r) c.requires.0 ∙ questions_done r c.requires.1 ∙ cond-false _ _ _ (sym c.if-not-is_at_end.ensures) ∙ ap Err (sym told)

pub returns : goal.returns
returns c =
    let r = c.args.self.now in
    record {
      answer = sym (ap (λ t. go_in t r) c.requires.0 ∙ questions_done r c.requires.1 ∙ cond-true _ _ _ (sym c.if-not-is_at_end.ensures));
      nearer = λ _. subst (λ t. 0 < weight_in t r.due) (sym c.requires.0) (omega arith);
    }
