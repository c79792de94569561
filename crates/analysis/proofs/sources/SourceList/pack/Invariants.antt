use Rattle.std.proofs.Common.{◌≡◌, drop}
use Rattle.analysis.specs.Sources.{CellsFilled, masks, states_of}
use Rattle.analysis.proofs.sources.SourceList.pack.Given as goal

abbrev pub invariant-loop-place : goal.invariant-loop-place
invariant-loop-place l =
    CellsFilled (masks l.combinations) l.self.sources l.cells l.place
    × (drop (states_of l.self.sources) l.cells ≡ drop (states_of l.self.sources) l.initial.cells)
