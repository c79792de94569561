use Rattle.std.proofs.Common.{sym, subst, arith, rules}
use borrow.Author.Tests.{tests}
use Rattle.std.proofs.lemmas.List.{length-map}
use Rattle.std.proofs.lemmas.Iterator.{YieldsList-from_slice, cases_from_any}
use Rattle.loads.specs.declared.combination.Combination.{Combination}
use Rattle.theory.specs.Sets.{Subset}
use Rattle.analysis.proofs.Chains.{decides_by}
use Rattle.analysis.proofs.Steps.{mask_at}
use Rattle.analysis.proofs.minimal.covered.Goals as goal

pub returns : goal.returns
returns c =
    let found = c.args.found.now in
    let set = c.args.set.now.mask in
    let empty : Combination = record { mask = 0 } in
    let long = length-map found (λ c. c.mask) in
    decides_by c.any.result
    (cases_from_any _ _ _ (λ s. Subset s.mask set) (λ s. Subset s.mask set → ⊥) c.any.ensures.ran (YieldsList-from_slice found (cc)) (λ x q k. search (rules, tests)) (λ x q k. search (rules, tests)))
    (λ (x, less, inside). (x, omega (arith, long), subst (λ s. Subset s set) (mask_at found x) (inside empty)))
    (λ none (x, less, inside). none x empty (search rules) (omega (arith, long)) (subst (λ s. Subset s set) (sym (mask_at found x)) inside))
