use Rattle.std.proofs.Common.{◌≡◌, ℕ, ◌+◌, ◌-◌, refl, subst, arith, rules}
use borrow.Author.Tests.{tests}
use Rattle.loads.specs.Tables.{table_of}
use Rattle.std.proofs.lemmas.Iterator.{YieldsList-from_range, cases_from_any}
use Rattle.theory.specs.Positions.{LatePosition}
use Rattle.theory.specs.Sets.{member}
use Rattle.theory.proofs.Lateness.{schedulable}
use Rattle.analysis.proofs.Chains.{any_below, decides_by}
use Rattle.analysis.proofs.busy.BusyWindow.has_late.Goals as goal

pub returns : goal.returns
returns g c =
    let b = c.args.self.now in
    let l = b.level.now in
    let m = g.M.ArrivalModel.meaning l.model.now in
    let t = table_of l.tasks.now in
    let Late = λ (p : ℕ). LatePosition m t l.task (member b.set.mask) (p + 1) in
    let n = c.positions.result in
    let found =
    cases_from_any _ _ _ Late (λ p. Late p → ⊥) c.any.ensures.ran (YieldsList-from_range 0 n n refl (omega arith)) (λ x q k. search (rules, tests)) (λ x q k. search (rules, tests)) in
    decides_by c.any.result (any_below Late n c.any.result found)
    (λ (p, less, late). (p + 1, late))
    (λ none fails. schedulable m (g.M.ArrivalModel.monotone l.model.now) t l.task (member b.set.mask) b.length (omega (arith, b.short)) b.longest
    (λ q some few late.
    let back : q ≡ q - 1 + 1 = omega arith in
    none (q - 1) (omega (arith, c.positions.ensures)) (subst (LatePosition m t l.task (member b.set.mask)) back late))
    fails)
