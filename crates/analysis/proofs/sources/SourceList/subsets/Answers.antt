use Rattle.std.proofs.Common.{ℕ, suc, ◌^◌, ◌<◌, [], ◌∷◌, ◌++◌, length, sym, ap, ◌∙◌, subst, add-one, arith}
use native.Mathlib.Nat.{pow-succ'}
use Rattle.base.proofs.Results.{on_ok}
use Rattle.theory.specs.Search.{Apart}
use Rattle.theory.proofs.Search.{First, first-none, first_more}
use Rattle.analysis.specs.Sources.{Sources, masks, task_of}
use Rattle.analysis.proofs.Steps.{masks_push}
use Rattle.analysis.proofs.sources.SourceList.subsets.Goals as goal

pub loop-source-init : goal.loop-source-init
loop-source-init c =
    let none = c.new-sets.ensures in
    let pushed = on_ok c.push.result c.push.ensures.ok (c.push.ensures.variant.1 (omega (arith, ap length none))) in
    let is = masks_push c.new-sets.result c.push.new.self c.none-2.result pushed ∙ (λ i. masks (none i) ++ c.none-2.ensures i ∷ []) in
    (ap length pushed ∙ ap (λ xs. length (xs ++ c.none-2.result ∷ [])) none, subst (First (task_of c.as_slice-source-items.result.now) 0) (sym is) (first-none _))

apart_less : (t : ℕ → ℕ) (n s : ℕ) → s < n → Apart t n → Apart t (suc s)
apart_less t n s h apart p q l k e = apart p q (omega arith) (omega arith) e

pub loop-source-preserved : goal.loop-source-preserved
loop-source-preserved c =
    let ss = c.as_slice-source-items.result.now in
    let lawful = subst Sources (sym c.as_slice-source-items.ensures.value) c.args.self.now.lawful in
    let s = c.loop-source.source-index in
    let apart = apart_less (task_of ss) (length ss) s c.loop-source-test.true lawful.apart in
    let more = first_more (task_of ss) s apart (masks c.loop-source.sets) c.loop-source.invariant.1 in
    let after = masks c.add_task.new.sets in (
      omega (arith, c.add_task.ensures.len, pow-succ' 2 s, ap (λ n. 2 ^ n) (add-one s)),
      subst (λ n. First (task_of ss) n after) (sym (add-one s)) (subst (First (task_of ss) (suc s)) (sym c.add_task.ensures.sets) more),
    )
