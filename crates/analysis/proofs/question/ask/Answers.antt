use Rattle.std.proofs.Common.{◌≡◌, ℕ, suc, ◌+◌, ◌≤◌, leb, List, [], ◌∷◌, length, drop, ap, ◌∙◌, sym, subst, add-one, arith}
use Rattle.std.proofs.lemmas.Option.{MatchOption-at_none, MatchOption-at_some}
use Rattle.std.proofs.lemmas.Result.{IfOk-from_err}
use Rattle.arrival.specs.Meaning.{Meaning, Lawful}
use Rattle.loads.specs.Tables.{table_of}
use Rattle.tables.specs.Tables.{tasks_of}
use Rattle.tables.specs.declared.task.Task.{Task}
use Rattle.base.specs.Faults.{in_numbers}
use Rattle.base.specs.Tests.{Refused}
use Rattle.theory.specs.Packings.{Greatest}
use Rattle.theory.specs.Questions.{Answer, CellsAfter, Fails, LateCount, WindowLength}
use Rattle.theory.specs.Sets.{Minimal}
use Rattle.theory.specs.Sums.{count}
use Rattle.analysis.specs.declared.sources.Source.{Source}
use Rattle.analysis.specs.declared.refusal.Refusal.TheVariants.{TooManySources}
use Rattle.analysis.specs.Refusals.{refusal_number}
use Rattle.analysis.specs.Sources.{Gathered, budget_within}
use Rattle.analysis.proofs.Asked.{handed_on, asked_window, asked_none, asked_sources, asked_cells, asked_bound}
use Rattle.analysis.proofs.Final.{Source-of}
use Rattle.analysis.proofs.Windows.{of_parts}
use Rattle.analysis.proofs.Promised.{promises}
use Rattle.analysis.proofs.question.ask.Goals as goal

-- what was gathered, up to the reach of the question and the task
gathered : (m : Meaning) (k i reach reached : ℕ) (ss : List Source) → reach ≡ reached → Gathered (budget_within m k reach) (i + 1) ss → Gathered (budget_within m k reached) (suc i) ss
gathered m k i reach reached ss there h =
    subst (λ n. Gathered (budget_within m k reached) n ss) (add-one i) (subst (λ w. Gathered (budget_within m k w) (i + 1) ss) there h)

counted : (m : Meaning) (k i reach reached : ℕ) → reach ≡ reached
    → count (λ j. leb 1 (budget_within m k reach j)) (i + 1) ≡ count (λ j. leb 1 (budget_within m k reached j)) (suc i)
counted m k i reach reached there =
    ap (λ w. count (λ j. leb 1 (budget_within m k w j)) (i + 1)) there ∙ ap (count (λ j. leb 1 (budget_within m k reached j))) (add-one i)

-- what the parts found of a level, in the terms of its table: L and that it is safe, that it is not, N, and G
abbrev Safe : ℕ → Meaning → List Task → ℕ → Type 0
Safe L m ts i = (L ≤ 1000000) × WindowLength m (table_of ts) i L × (Fails m (table_of ts) i 0 → ⊥)

abbrev Unsafe : ℕ → Meaning → List Task → ℕ → Type 0
Unsafe n m ts i = Refused (((L : ℕ) × (L ≤ 1000000) × WindowLength m (table_of ts) i L, 35) ∷ (Fails m (table_of ts) i 0 → ⊥, 36) ∷ []) n

abbrev Late : ℕ → ℕ → Meaning → List Task → ℕ → Type 0
Late L N m ts i = LateCount m (table_of ts) i L N

abbrev Packs : List Source → ℕ → Meaning → List Task → ℕ → Type 0
Packs ss G m ts i = (b : ℕ → ℕ) → Gathered b (suc i) ss → Greatest (Minimal (Fails m (table_of ts) i) (Source-of b i)) (Source-of b i) b (suc i) G

pub returns-in-Err : goal.returns-in-Err
returns-in-Err g c =
    let m = g.M.ArrivalModel.meaning c.args.model.now in
    let t = table_of (tasks_of c.args.table.now) in
    let i = c.args.task in
    let n = refusal_number c.in-Err.f in
    let here = c.in_ok-level.ensures in
    let refused = of_parts (Unsafe n) (ap (g.M.ArrivalModel.meaning) here.1) here.2 here.3 c.in-Err.ensures in
    let asked = asked_window m t i c.args.jobs c.args.span here.0 c.in_ok-check_range.ensures n refused c.args.cells.now in
    record { answer = asked.0; executions = tt; exchange = tt; cells = asked.1 }

pub returns-then-late-eq0 : goal.returns-then-late-eq0
returns-then-late-eq0 g c =
    let m = g.M.ArrivalModel.meaning c.args.model.now in
    let t = table_of (tasks_of c.args.table.now) in
    let i = c.args.task in
    let L = c.in-Ok.safe.longest.length in
    let N = c.late_positions-late.result in
    let here = c.in_ok-level.ensures in
    let model = ap (g.M.ArrivalModel.meaning) here.1 in
    let safe = of_parts (Safe L) model here.2 here.3 (c.in-Ok.ensures.1, c.in-Ok.ensures.2, c.in-Ok.ensures.3) in
    let late =
    of_parts (Late L N) model here.2 here.3
    (subst (λ l. Late L N (g.M.ArrivalModel.meaning l.model.now) l.tasks.now l.task) c.in-Ok.ensures.0 c.late_positions-late.ensures) in
    let asked = asked_none m t i c.args.jobs c.args.span L N here.0 c.in_ok-check_range.ensures safe late c.if-late-eq0.true c.args.cells.now in
    let lawful : Lawful m = record {
      zero_at_zero = g.M.ArrivalModel.zero_at_zero c.args.model.now;
      monotone = g.M.ArrivalModel.monotone c.args.model.now;
      at_most_length = g.M.ArrivalModel.at_most_length c.args.model.now;
      few_tasks = g.M.ArrivalModel.few_tasks c.args.model.now;
      absent_is_zero = g.M.ArrivalModel.absent_is_zero c.args.model.now;
    } in
    let promised = promises m lawful c.args.table.now i c.args.jobs c.args.span (length c.args.cells.now) 0 asked.0 in
    record { answer = asked.0; executions = promised.0; exchange = promised.1; cells = asked.1 }

pub returns-in_err-sources : goal.returns-in_err-sources
returns-in_err-sources g c =
    let m = g.M.ArrivalModel.meaning c.args.model.now in
    let t = table_of (tasks_of c.args.table.now) in
    let i = c.args.task in
    let L = c.in-Ok.safe.longest.length in
    let N = c.late_positions-late.result in
    let here = c.in_ok-level.ensures in
    let model = ap (g.M.ArrivalModel.meaning) here.1 in
    let safe = of_parts (Safe L) model here.2 here.3 (c.in-Ok.ensures.1, c.in-Ok.ensures.2, c.in-Ok.ensures.3) in
    let late =
    of_parts (Late L N) model here.2 here.3
    (subst (λ l. Late L N (g.M.ArrivalModel.meaning l.model.now) l.tasks.now l.task) c.in-Ok.ensures.0 c.late_positions-late.ensures) in
    let many = counted m c.args.jobs i c.reach.result _ c.reach.ensures in
    let asked = asked_sources m t i c.args.jobs c.args.span L N here.0 c.in_ok-check_range.ensures safe late (omega (arith, c.if-late-eq0.false)) (omega (arith, many, MatchOption-at_none _ _ c.in_err-sources.ensures.ok_part c.sources.ensures)) c.args.cells.now in
    let refused = handed_on c.sources.result TooManySources c.in_err-sources.field-0.0 c.from_residual-in_err-sources.result c.in_err-sources.ensures.value c.in_err-sources.ensures.ok_part c.from_residual-in_err-sources.ensures.1 in
    let err = c.from_residual-in_err-sources.ensures.0 in
    let r = c.from_residual-in_err-sources.result in
    record {
      answer = subst (λ r. Answer m t i c.args.jobs c.args.span (length c.args.cells.now) (in_numbers (λ a. a) refusal_number r)) (sym refused) asked.0;
      executions = IfOk-from_err r _ err;
      exchange = IfOk-from_err r _ err;
      cells = subst (λ r. CellsAfter m t i c.args.jobs c.args.span (in_numbers (λ a. a) refusal_number r) c.args.cells.now c.args.cells.now) (sym refused) asked.1;
    }

pub returns-then-states-cells : goal.returns-then-states-cells
returns-then-states-cells g c =
    let m = g.M.ArrivalModel.meaning c.args.model.now in
    let t = table_of (tasks_of c.args.table.now) in
    let i = c.args.task in
    let L = c.in-Ok.safe.longest.length in
    let N = c.late_positions-late.result in
    let here = c.in_ok-level.ensures in
    let model = ap (g.M.ArrivalModel.meaning) here.1 in
    let safe = of_parts (Safe L) model here.2 here.3 (c.in-Ok.ensures.1, c.in-Ok.ensures.2, c.in-Ok.ensures.3) in
    let late =
    of_parts (Late L N) model here.2 here.3
    (subst (λ l. Late L N (g.M.ArrivalModel.meaning l.model.now) l.tasks.now l.task) c.in-Ok.ensures.0 c.late_positions-late.ensures) in
    let ss = c.in_ok-sources.sources in
    let got = gathered m c.args.jobs i c.reach.result _ ss.sources c.reach.ensures (MatchOption-at_some _ _ ss c.in_ok-sources.ensures.ok_part c.sources.ensures) in
    let asked = asked_cells m t i c.args.jobs c.args.span L N here.0 c.in_ok-check_range.ensures safe late (omega (arith, c.if-late-eq0.false)) (omega (arith, got.counted, ss.lawful.few))
    c.args.cells.now (omega (arith, c.states.ensures, got.cells, c.if-states-cells.true)) in
    record { answer = asked.0; executions = tt; exchange = tt; cells = asked.1 }

pub returns : goal.returns
returns g c =
    let m = g.M.ArrivalModel.meaning c.args.model.now in
    let t = table_of (tasks_of c.args.table.now) in
    let i = c.args.task in
    let L = c.in-Ok.safe.longest.length in
    let N = c.late_positions-late.result in
    let here = c.in_ok-level.ensures in
    let model = ap (g.M.ArrivalModel.meaning) here.1 in
    let safe = of_parts (Safe L) model here.2 here.3 (c.in-Ok.ensures.1, c.in-Ok.ensures.2, c.in-Ok.ensures.3) in
    let late =
    of_parts (Late L N) model here.2 here.3
    (subst (λ l. Late L N (g.M.ArrivalModel.meaning l.model.now) l.tasks.now l.task) c.in-Ok.ensures.0 c.late_positions-late.ensures) in
    let ss = c.in_ok-sources.sources in
    let got = gathered m c.args.jobs i c.reach.result _ ss.sources c.reach.ensures (MatchOption-at_some _ _ ss c.in_ok-sources.ensures.ok_part c.sources.ensures) in
    let G = c.greatest_packing-windows.result in
    let after = c.greatest_packing-windows.new.cells in
    let packs =
    of_parts (Packs ss.sources G) model here.2 here.3
    (subst (λ l. Packs ss.sources G (g.M.ArrivalModel.meaning l.model.now) l.tasks.now l.task) c.in-Ok.ensures.0 c.greatest_packing-windows.ensures.greatest) in
    let asked = asked_bound m t i c.args.jobs c.args.span L N here.0 c.in_ok-check_range.ensures safe late (omega (arith, c.if-late-eq0.false)) (omega (arith, got.counted, ss.lawful.few))
    c.args.cells.now after (omega (arith, c.states.ensures, got.cells, c.if-states-cells.false)) G c.bound.result (packs _ got) c.bound.ensures
    (subst (λ n. drop n after ≡ drop n c.args.cells.now) got.cells c.greatest_packing-windows.ensures.kept) in
    let lawful : Lawful m = record {
      zero_at_zero = g.M.ArrivalModel.zero_at_zero c.args.model.now;
      monotone = g.M.ArrivalModel.monotone c.args.model.now;
      at_most_length = g.M.ArrivalModel.at_most_length c.args.model.now;
      few_tasks = g.M.ArrivalModel.few_tasks c.args.model.now;
      absent_is_zero = g.M.ArrivalModel.absent_is_zero c.args.model.now;
    } in
    let promised = promises m lawful c.args.table.now i c.args.jobs c.args.span (length c.args.cells.now) c.bound.result asked.0 in
    record { answer = asked.0; executions = promised.0; exchange = promised.1; cells = asked.1 }
