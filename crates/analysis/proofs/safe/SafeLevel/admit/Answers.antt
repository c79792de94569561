use Rattle.std.proofs.Common.{sym, refl, ap, ◌∙◌, subst, inl, inr, arith}
use Rattle.std.proofs.lemmas.Bool.{both_ways}
use Rattle.loads.specs.Tables.{table_of}
use Rattle.loads.proofs.Masks.{every-member}
use Rattle.theory.specs.Questions.{Fails, WindowLength}
use Rattle.theory.specs.Sets.{member}
use Rattle.analysis.proofs.Windows.{longest}
use Rattle.analysis.proofs.safe.SafeLevel.admit.Goals as goal

pub returns-then-has_late : goal.returns-then-has_late
returns-then-has_late g c =
    let b = c.in-Some.longest in
    let w = c.with_overload.result in
    let l = b.level.now in
    let m = g.M.ArrivalModel.meaning l.model.now in
    let same = c.in-Some.ensures.0 in
    let late = subst (Fails (g.M.ArrivalModel.meaning w.level.now.model.now) (table_of w.level.now.tasks.now) w.level.now.task) (ap (λ c. c.mask) c.with_overload.ensures.1 ∙ c.none.ensures) (c.has_late.ensures.0 c.if-has_late.true) in
    let fails = subst (λ l. Fails (g.M.ArrivalModel.meaning l.model.now) (table_of l.tasks.now) l.task 0) (c.with_overload.ensures.0 ∙ same) late in
    let window = longest m (table_of l.tasks.now) l.task (member b.set.mask) (λ j h. every-member b.set.mask c.in-Some.ensures.1 j (omega (arith, l.few, l.held))) b.length b.longest in
    inr (
      (b.length, b.short, subst (λ l. WindowLength (g.M.ArrivalModel.meaning l.model.now) (table_of l.tasks.now) l.task b.length) same window),
      inl ((λ safe. safe fails), refl),
    )

pub returns : goal.returns
returns g c =
    let b = c.in-Some.longest in
    let w = c.with_overload.result in
    let l = b.level.now in
    let m = g.M.ArrivalModel.meaning l.model.now in
    let same = c.in-Some.ensures.0 in
    let window = longest m (table_of l.tasks.now) l.task (member b.set.mask) (λ j h. every-member b.set.mask c.in-Some.ensures.1 j (omega (arith, l.few, l.held))) b.length b.longest in (
      same,
      b.short,
      subst (λ l. WindowLength (g.M.ArrivalModel.meaning l.model.now) (table_of l.tasks.now) l.task b.length) same window,
      λ fails.
          let back = subst (λ l. Fails (g.M.ArrivalModel.meaning l.model.now) (table_of l.tasks.now) l.task 0) (sym (c.with_overload.ensures.0 ∙ same)) fails in
          let late = subst (Fails (g.M.ArrivalModel.meaning w.level.now.model.now) (table_of w.level.now.tasks.now) w.level.now.task) (sym (ap (λ c. c.mask) c.with_overload.ensures.1 ∙ c.none.ensures)) back in
          both_ways _ c.if-has_late.false (c.has_late.ensures.1 late),
    )

pub invariant_of-result : goal.invariant_of-result
invariant_of-result g c =
    let w = c.with_overload.result in
    record {
      every = c.in-Some.ensures.1;
      safe = λ fails.
          let back = subst (λ l. Fails (g.M.ArrivalModel.meaning l.model.now) (table_of l.tasks.now) l.task 0) (sym c.with_overload.ensures.0) fails in
          let late = subst (Fails (g.M.ArrivalModel.meaning w.level.now.model.now) (table_of w.level.now.tasks.now) w.level.now.task) (sym (ap (λ c. c.mask) c.with_overload.ensures.1 ∙ c.none.ensures)) back in
          both_ways _ c.if-has_late.false (c.has_late.ensures.1 late);
    }
