use Rattle.std.proofs.Common.{sym, ◌∙◌, arith}
use Rattle.std.proofs.lemmas.Bool.{le-ltb}
use Rattle.theory.proofs.Masks.{behind-none}
use Rattle.loads.proofs.combination.Combination.contains.Goals as goal

pub returns-else-j-lt32-clause-value : goal.returns-else-j-lt32-clause-value
returns-else-j-lt32-clause-value c =
    le-ltb c.args.j 32 (omega arith) ∙ sym (behind-none c.args.self.now.mask 32 c.args.j (omega arith) (omega arith))
