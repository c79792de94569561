use Rattle.std.proofs.Common.{◌≡◌, ◌+◌, ◌<◌, [], ◌∷◌, ◌++◌, length, get_or, sym, ap, ◌∙◌, Decides, subst, arith}
use Rattle.std.proofs.lemmas.Bool.{both_ways}
use Rattle.std.proofs.lemmas.List.{length-map}
use Rattle.base.proofs.Results.{on_ok}
use Rattle.loads.specs.declared.combination.Combination.{Combination}
use Rattle.loads.specs.Tables.{table_of}
use Rattle.theory.specs.Questions.{Fails}
use Rattle.theory.specs.Search.{Covered, Subsets, at}
use Rattle.theory.proofs.Search.{Found, found_covered, found_passing, found_new, found_all}
use Rattle.analysis.specs.Sources.{masks, source_of}
use Rattle.analysis.proofs.Steps.{mask_at, masks_push}
use Rattle.analysis.proofs.safe.SafeLevel.minimal.Goals as goal
use Rattle.analysis.proofs.safe.SafeLevel.minimal.Goals.{then-not-covered+then-fails, else-not-covered, else-not-covered-via-then-not-covered+else-fails, else-not-covered-via-else-not-covered}

pub loop-set-preserved : goal.loop-set-preserved
loop-set-preserved g c =
    let l = c.args.self.now.longest.level.now in
    let fails = Fails (g.M.ArrivalModel.meaning l.model.now) (table_of l.tasks.now) l.task in
    let source = source_of c.args.sources.now.sources in
    let sets = c.as_slice-set-items.result.now in
    let subs = subst (λ cs. Subsets source (masks cs)) (sym c.as_slice-set-items.ensures.value) c.subsets-sets.ensures in
    let ms = masks sets in
    let found = c.loop-set.found in
    let fs = masks found in
    let p = c.loop-set.set-index in
    let inside : p < length ms = omega (arith, length-map sets (λ c. c.mask), c.loop-set-test.true) in
    let set : Combination = get_or sets p (record { mask = 0 }) in
    let is : set.mask ≡ at ms p = mask_at sets p in
    let covered : Decides c.covered.result (Covered fs (at ms p))
    = subst (λ s. Decides c.covered.result (Covered fs s)) is (subst (λ cs. Decides c.covered.result (Covered (masks cs) set.mask)) c.as_slice.ensures.value c.covered.ensures) in
    elim c.if-not-covered.branch [
      | then-not-covered+then-fails w ↦
          let room = w.push.ensures.variant.1 (omega (arith, c.loop-set.invariant.short, length-map found (λ c. c.mask), c.as_slice-set-items.ensures.bound)) in
          let pushed = w.found-is ∙ on_ok w.push.result w.push.ensures.ok room in
          subst (Found fails source ms (p + 1)) (sym (masks_push found c.if-not-covered.found set pushed ∙ ap (λ s. fs ++ s ∷ []) is))
          (found_new fails source ms subs p inside fs c.loop-set.invariant (subst fails is (w.fails.ensures.0 w.if-fails.true)) (λ k. both_ways _ w.if-not-covered.true (covered.1 k)))
      | else-not-covered w ↦
          subst (Found fails source ms (p + 1)) (sym (ap masks w.found-is)) (elim w.else-not-covered.branch [
            | else-not-covered-via-then-not-covered+else-fails w' ↦
                found_passing fails source ms subs p inside fs c.loop-set.invariant (λ failing. both_ways _ w'.if-fails.false (w'.fails.ensures.1 (subst fails (sym is) failing)))
            | else-not-covered-via-else-not-covered w' ↦
                found_covered fails source ms subs p inside fs c.loop-set.invariant (covered.0 w'.if-not-covered.false)
          ])
    ]

pub returns : goal.returns
returns g c =
    let l = c.args.self.now.longest.level.now in
    let fails = Fails (g.M.ArrivalModel.meaning l.model.now) (table_of l.tasks.now) l.task in
    let source = source_of c.args.sources.now.sources in
    let sets = c.as_slice-set-items.result.now in
    let subs = subst (λ cs. Subsets source (masks cs)) (sym c.as_slice-set-items.ensures.value) c.subsets-sets.ensures in
    let ms = masks sets in
    let fs = masks c.loop-set.found in
    let end : c.loop-set.set-index ≡ length ms = omega (arith, length-map sets (λ c. c.mask), c.loop-set-test.false, c.loop-set.auto.set-index-end) in
    found_all fails source ms subs fs (subst (λ n. Found fails source ms n fs) end c.loop-set.invariant)
