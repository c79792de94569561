use Rattle.std.proofs.Common.{ℕ, suc, ◌+◌, ◌<◌, refl, ap, ◌∙◌, arith, rules}
use borrow.Author.Tests.{tests}
use Rattle.std.proofs.lemmas.Bool.Decides.{same_from_decides}
use Rattle.std.proofs.lemmas.Iterator.{YieldsList-from_range}
use Rattle.std.proofs.lemmas.Iterator.Consumers.{YieldsList-from_filter, YieldsList-at, count_from_yields_List}
use Rattle.loads.specs.Tables.{table_of}
use Rattle.loads.proofs.Masks.{every-member}
use Rattle.theory.specs.Sets.{member}
use Rattle.theory.specs.Sums.{count}
use Rattle.theory.proofs.Decisions.{is_late, late_is}
use Rattle.analysis.proofs.Chains.{count_below}
use Rattle.analysis.proofs.Windows.{late_count, longest}
use Rattle.analysis.proofs.busy.BusyWindow.late_positions.Goals as goal

pub returns : goal.returns
returns g c =
    let b = c.args.self.now in
    let l = b.level.now in
    let m = g.M.ArrivalModel.meaning l.model.now in
    let t = table_of l.tasks.now in
    let set = member b.set.mask in
    let full = λ (j : ℕ) (h : j < suc l.task). every-member b.set.mask c.requires j (omega (arith, l.few, l.held)) in
    let window = longest m t l.task set full b.length b.longest in
    let test = is_late m t l.task b.length set in
    let told = late_is m t l.task b.length (g.M.ArrivalModel.monotone l.model.now) (omega (arith, b.short)) window set in
    let n = c.positions.result in
    let counted =
    count_from_yields_List c.filter.result c.count.result c.count.ensures.ran
    (YieldsList-from_filter _ (λ p. test (p + 1)) (YieldsList-at c.filter.ensures.source (YieldsList-from_range 0 n n refl (omega arith))) c.filter.ensures.closure
    (λ x r q k. (search (rules, tests), same_from_decides r (test (x + 1)) (search (rules, tests)) (told (x + 1))))) in
    late_count m t l.task set full b.length c.count.result
    (test, (λ q some few. told q), counted ∙ count_below (λ p. test (p + 1)) n ∙ ap (count (λ p. test (p + 1))) c.positions.ensures)
