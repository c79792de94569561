use Rattle.std.proofs.Common.{sym, ◌∙◌}
use Rattle.std.proofs.lemmas.Bool.{eqb-true, eq-eqb}
use Rattle.theory.proofs.Masks.{and_subset, subset_and}
use Rattle.loads.proofs.combination.Combination.is_subset.Goals as goal

pub returns : goal.returns
returns c =
    let a = c.args.self.now.mask in
    let b = c.args.other.now.mask in
    let both = c.common.ensures in (
      λ e. and_subset a b (sym both ∙ eqb-true c.common.result a e),
      λ inside. eq-eqb c.common.result a (both ∙ subset_and a b inside),
    )
