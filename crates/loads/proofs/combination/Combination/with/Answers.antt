use Rattle.std.proofs.Common.{ap, ◌∙◌, arith}
use lib.Bits.{bit_or}
use Rattle.std.proofs.lemmas.Nat.{one_shl}
use Rattle.loads.proofs.Masks.{or_added}
use Rattle.loads.proofs.combination.Combination.with.Goals as goal

pub returns : goal.returns
returns c =
    let mask = c.args.self.now.mask in
    ap (bit_or mask) (one_shl c.args.j 32 (omega arith)) ∙ or_added mask c.args.j (omega arith)
