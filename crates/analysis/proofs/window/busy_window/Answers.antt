use Rattle.std.proofs.Common.{◌≡◌, ℕ, suc, ◌<◌, List, ap, ◌∙◌, subst, arith}
use Rattle.arrival.specs.Meaning.{Meaning}
use Rattle.loads.specs.Tables.{table_of}
use Rattle.loads.specs.Works.{wcet_of}
use Rattle.loads.proofs.Masks.{every-member}
use Rattle.tables.specs.declared.task.Task.{Task}
use Rattle.theory.specs.Levels.{BusyLength, arrivals, every}
use Rattle.theory.specs.Sets.{member}
use Rattle.theory.proofs.Same.{arrivals_same}
use Rattle.analysis.proofs.Windows.{longest, of_parts}
use Rattle.analysis.proofs.window.busy_window.Goals as goal

abbrev Found : ℕ → ℕ → Meaning → List Task → ℕ → Type 0
Found L K m ts i = BusyLength m (wcet_of ts) every i L × (K ≡ arrivals m every i L)

pub returns-in-Some : goal.returns-in-Some
returns-in-Some g c =
    let b = c.in-Some.longest in
    let l = b.level.now in
    let m = g.M.ArrivalModel.meaning l.model.now in
    let full = λ (j : ℕ) (h : j < suc l.task). every-member b.set.mask c.in-Some.ensures.1 j (omega (arith, l.few, l.held)) in
    let window = longest m (table_of l.tasks.now) l.task (member b.set.mask) full b.length b.longest in
    let count = c.positions.ensures ∙ arrivals_same m (member b.set.mask) every l.task b.length (full l.task (omega arith)) in
    let here = c.in_ok-level.ensures in
    let found =
    of_parts (Found b.length c.positions.result) (ap (g.M.ArrivalModel.meaning) here.1) here.2 here.3
    (subst (λ l. Found b.length c.positions.result (g.M.ArrivalModel.meaning l.model.now) l.tasks.now l.task) c.in-Some.ensures.0 (window, count)) in
    ((here.0.0, (here.0.1, ((b.length, b.short, found.0), tt))), found.0, found.1)
