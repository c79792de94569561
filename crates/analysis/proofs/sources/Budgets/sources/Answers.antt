use Rattle.std.proofs.Common.{◌≤◌, suc, length, sym, refl, ap, ◌∙◌, subst, inl, inr, add-one, arith}
use Rattle.std.proofs.lemmas.Bool.{both_ways, cases_lt}
use Rattle.std.proofs.lemmas.List.{length_push}
use Rattle.std.specs.Option.{is_some}
use Rattle.base.proofs.Results.{on_ok}
use Rattle.analysis.specs.declared.sources.Source.{Source}
use Rattle.analysis.specs.Sources.{Gathered, budget_within}
use Rattle.analysis.proofs.Gathers.{gathered_none, gathered_skip, gathered_more, too_many}
use Rattle.analysis.proofs.sources.Budgets.sources.Goals as goal
use Rattle.analysis.proofs.sources.Budgets.sources.Goals.{then-budget-gt0+in_ok-ok, else-budget-gt0}

pub loop-task-init : goal.loop-task-init
loop-task-init g c =
    let s = c.args.self.now in
    let b = budget_within (g.M.ArrivalModel.meaning s.model.now) s.k s.reach in
    (subst (Gathered b 0) (sym c.new-sources.ensures) (gathered_none b), omega (arith, ap length c.new-sources.ensures))

pub loop-task-preserved : goal.loop-task-preserved
loop-task-preserved g c =
    let s = c.args.self.now in
    let b = budget_within (g.M.ArrivalModel.meaning s.model.now) s.k s.reach in
    let ss = c.loop-task.sources in
    let j = c.loop-task.task in
    let after = c.if-budget-gt0.sources in
    elim c.if-budget-gt0.branch [
      | then-budget-gt0+in_ok-ok w ↦
          let x : Source = record { task = j; budget = c.of-budget.result } in
          let more = gathered_more b j ss c.loop-task.invariant.0 x refl c.of-budget.ensures w.if-budget-gt0.true in
          let done = sym w.ok.ensures.variant ∙ ap is_some w.in_ok-ok.was in
          let pushed = w.sources-is ∙ on_ok w.push.result w.push.ensures.ok done in (
            subst (λ n. Gathered b n after) (sym (add-one j)) (subst (Gathered b (suc j)) (sym pushed) more),
            omega (arith, ap length pushed, length_push ss x, w.push.ensures.variant.0 done),
          )
      | else-budget-gt0 w ↦
          let skipped = gathered_skip b j ss c.loop-task.invariant.0 (omega (arith, c.of-budget.ensures, w.if-budget-gt0.false)) in (
            subst (λ n. Gathered b n after) (sym (add-one j)) (subst (Gathered b (suc j)) (sym w.sources-is) skipped),
            omega (arith, ap length w.sources-is, c.loop-task.invariant.1),
          )
    ]

pub returns-in_err-ok : goal.returns-in_err-ok
returns-in_err-ok g c =
    let s = c.args.self.now in
    let b = budget_within (g.M.ArrivalModel.meaning s.model.now) s.k s.reach in
    let ss = c.loop-task.sources in
    let refused = sym c.ok.ensures.variant ∙ ap is_some c.in_err-ok.was in
    let full : 6 ≤ length ss = elim (cases_lt (length ss) 6) [
      | inl less ↦ absurd (both_ways _ refused (c.push.ensures.variant.1 less))
      | inr more ↦ more
    ] in
    rw c.from_residual.ensures (too_many b c.loop-task.task ss c.loop-task.invariant.0 (omega (arith, c.of-budget.ensures, c.if-budget-gt0.true)) full c.args.n c.loop-task-test.true)
