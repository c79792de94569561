use Rattle.std.proofs.Common.{suc, ◌+◌, ◌*◌, ◌/◌, ◌%◌, sym, refl, ap, ◌∙◌, subst, add-one, arith}
use Rattle.std.proofs.lemmas.Bool.{both_ways}
use Rattle.theory.specs.Packings.{states}
use Rattle.theory.specs.States.{Suits, offset}
use Rattle.theory.proofs.Totals.{total_none}
use Rattle.analysis.specs.Sources.{Sources, budget_of, state_at, task_of}
use Rattle.analysis.proofs.Bounds.{states-fits, offset-fits, rest_more, offset_in, offset_out, suits_more}
use Rattle.analysis.proofs.sources.SourceList.step_back.Goals as goal
use Rattle.analysis.proofs.sources.SourceList.step_back.Goals.{then-contains+else-rest-radix-eq0, else-contains}

pub loop-source-init : goal.loop-source-init
loop-source-init c = (refl, omega arith, sym (total_none _), λ s less. absurd (omega arith))

pub overflow_add-back : goal.overflow_add-back
overflow_add-back c =
    let ss = c.as_slice-source-items.result.now in
    let lawful = subst Sources (sym c.as_slice-source-items.ensures.value) c.args.self.now.lawful in
    let s = c.loop-source.source-index in
    omega (arith, c.loop-source.invariant.0, c.loop-source.invariant.2, states-fits ss lawful s (omega arith), offset-fits ss lawful c.args.set.now.mask s (omega arith), lawful.few)

pub overflow_mul-stride : goal.overflow_mul-stride
overflow_mul-stride c =
    let ss = c.as_slice-source-items.result.now in
    let lawful = subst Sources (sym c.as_slice-source-items.ensures.value) c.args.self.now.lawful in
    let s = c.loop-source.source-index in
    let same = ap (λ x. x * (budget_of ss s + 1)) c.loop-source.invariant.0 in
    omega (arith, same, states-fits ss lawful (suc s) (omega arith))

pub loop-source-preserved : goal.loop-source-preserved
loop-source-preserved c =
    let ss = c.as_slice-source-items.result.now in
    let s = c.loop-source.source-index in
    let set = c.args.set.now.mask in
    let place = c.args.place in
    let b = budget_of ss in
    let one = add-one s in (
      ap (λ x. x * (b s + 1)) c.loop-source.invariant.0 ∙ sym (ap (states b) one),
      ap (λ x. x / (b s + 1)) c.loop-source.invariant.1 ∙ rest_more ss place s ∙ sym (ap (λ x. place / states b x) one),
      elim c.if-contains.branch [
        | then-contains+else-rest-radix-eq0 w ↦ w.back-is ∙ omega (arith, offset_in ss set s (sym c.contains.ensures.value ∙ w.if-contains.true), c.loop-source.invariant.0, c.loop-source.invariant.2, ap (offset b (task_of ss) set) one)
        | else-contains w ↦ w.back-is ∙ c.loop-source.invariant.2 ∙ sym (offset_out ss set s (sym c.contains.ensures.value ∙ w.if-contains.false)) ∙ sym (ap (offset b (task_of ss) set) one)
      ],
      subst (λ x. Suits (task_of ss) x (state_at ss place) set) (sym one)
          (suits_more ss place set s c.loop-source.invariant.3
          (λ e. elim c.if-contains.branch [
            | then-contains+else-rest-radix-eq0 w ↦ let same = ap (λ x. x % (b s + 1)) c.loop-source.invariant.1 in omega (arith, w.if-rest-radix-eq0.false)
            | else-contains w ↦ absurd (both_ways _ w.if-contains.false (c.contains.ensures.value ∙ e))
          ])),
    )
