use Rattle.std.proofs.Common.{◌≡◌, ◌-◌, ◌<◌, ◌≤◌, length, get_or, sym, ◌∙◌, subst, arith}
use Rattle.std.proofs.lemmas.List.{drop-set-lt}
use Rattle.theory.proofs.Radix.{states_positive}
use Rattle.analysis.specs.Sources.{CellsFilled, MostOf, budget_of, masks, states_of}
use Rattle.analysis.proofs.PackSteps.{write, last}
use Rattle.analysis.proofs.sources.SourceList.pack.Goals as goal

pub loop-place-preserved : goal.loop-place-preserved
loop-place-preserved c =
    let ss = c.args.self.now.sources in
    let cells = c.loop-place.cells in
    let p = c.loop-place.place in
    let within : p < states_of ss = omega (arith, c.states-states.ensures) in
    let room : states_of ss ≤ length cells = omega (arith, c.requires.room, c.loop-place.auto.cells) in (
      write (masks c.args.combinations.now) ss c.args.self.now.lawful c.requires.takes cells p within c.loop-place.invariant.0 c.best.result room c.best.ensures,
      drop-set-lt (states_of ss) cells p c.best.result within ∙ c.loop-place.invariant.1,
    )

pub overflow_sub-result : goal.overflow_sub-result
overflow_sub-result c = omega (arith, c.states-states.ensures, states_positive (budget_of c.args.self.now.sources) (length c.args.self.now.sources))

pub bounds-cells-states : goal.bounds-cells-states
bounds-cells-states c =
    omega (arith, c.states-states.ensures, c.requires.room, c.loop-place.auto.cells, states_positive (budget_of c.args.self.now.sources) (length c.args.self.now.sources))

pub returns : goal.returns
returns c =
    let cs = masks c.args.combinations.now in
    let ss = c.args.self.now.sources in
    let cells = c.loop-place.cells in
    let end : c.loop-place.place ≡ states_of ss = omega (arith, c.states-states.ensures, c.loop-place.auto.place-end) in
    record {
      most = subst (λ x. MostOf cs ss (budget_of ss) (get_or cells (x - 1) 0)) (sym c.states-states.ensures) (last cs ss cells (subst (CellsFilled cs ss cells) end c.loop-place.invariant.0));
      kept = c.loop-place.invariant.1;
    }
