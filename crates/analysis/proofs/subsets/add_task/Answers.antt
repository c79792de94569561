use Rattle.std.proofs.Common.{◌<◌, length, ap, ◌∙◌, arith}
use Rattle.std.proofs.lemmas.List.{length_push}
use Rattle.base.proofs.Results.{on_ok}
use Rattle.theory.specs.Search.{at}
use Rattle.analysis.specs.Sources.{masks}
use Rattle.analysis.proofs.Steps.{added_more, mask_at}
use Rattle.analysis.proofs.subsets.add_task.Goals as goal

pub loop-place-preserved : goal.loop-place-preserved
loop-place-preserved c =
    let old = c.args.sets.now in
    let mid = c.loop-place.sets in
    let p = c.loop-place.place in
    let inside : p < length old = omega (arith, c.len-place-end.ensures.value) in
    let read = mask_at c.as_slice.result.now p ∙ ap (λ cs. at (masks cs) p) c.as_slice.ensures.value in
    let pushed = on_ok c.push.result c.push.ensures.ok (c.push.ensures.variant.1 (omega (arith, c.requires.1, c.loop-place.invariant.0))) in (
      omega (arith, ap length pushed, length_push mid c.with.result, c.loop-place.invariant.0),
      added_more c.args.task c.requires.0 old mid c.push.new.self c.requires.2 p inside c.loop-place.invariant.1 _ c.with.result read c.with.ensures pushed,
    )
