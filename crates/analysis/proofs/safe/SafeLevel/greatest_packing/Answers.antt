use Rattle.std.proofs.Common.{sym, subst}
use Rattle.loads.specs.Tables.{table_of}
use Rattle.theory.specs.Questions.{Fails}
use Rattle.theory.specs.Search.{Exactly}
use Rattle.theory.specs.Sets.{Minimal}
use Rattle.analysis.specs.Sources.{masks, source_of}
use Rattle.analysis.proofs.Final.{takes, final}
use Rattle.analysis.proofs.safe.SafeLevel.greatest_packing.Goals as goal

pub pack-requires-clause-takes : goal.pack-requires-clause-takes
pack-requires-clause-takes g c =
    let s = c.args.self.now in
    let l = s.longest.level.now in
    let fails = Fails (g.M.ArrivalModel.meaning l.model.now) (table_of l.tasks.now) l.task in
    let ss = c.args.sources.now.sources in
    let lists = subst (λ cs. Exactly (Minimal fails (source_of ss)) (masks cs)) (sym c.as_slice.ensures.value) c.minimal-combinations.ensures in
    takes fails ss (masks c.as_slice.result.now) lists s.safe

pub returns-clause-greatest : goal.returns-clause-greatest
returns-clause-greatest g c =
    let l = c.args.self.now.longest.level.now in
    let fails = Fails (g.M.ArrivalModel.meaning l.model.now) (table_of l.tasks.now) l.task in
    let ss = c.args.sources.now.sources in
    let lists = subst (λ cs. Exactly (Minimal fails (source_of ss)) (masks cs)) (sym c.as_slice.ensures.value) c.minimal-combinations.ensures in
    λ b got. final fails ss (masks c.as_slice.result.now) lists b l.task got c.pack.result c.pack.ensures.most
