-- Two staircases for each task.
use Rattle.std.proofs.Common.{◌≡◌, ◌*◌, List, [], ◌∷◌, ◌++◌, length, sym, refl, ◌∙◌, arith}
use Rattle.std.proofs.lemmas.List.{append_assoc, flat_map_more}
use Rattle.std.specs.List.{flat_map}
use Rattle.arrival.specs.declared.curve.TaskCurves.{TaskCurves}
use Rattle.staircase.specs.declared.stairs.Staircase.{Staircase}
use Rattle.staircase.specs.Values.{stairs_of}
use Rattle.settings.specs.Values.{two_of}

pub length_two : (ts : List (TaskCurves Staircase)) → length (flat_map two_of ts) ≡ 2 * length ts
length_two [] = refl
length_two (t ∷ ts) = omega (arith, length_two ts)

pub two_more : (ts : List (TaskCurves Staircase)) (t : TaskCurves Staircase) → flat_map two_of (ts ++ t ∷ []) ≡ (flat_map two_of ts ++ stairs_of t.typical ∷ []) ++ stairs_of t.overload ∷ []
two_more ts t = sym (flat_map_more two_of [] ts t) ∙ sym (append_assoc (flat_map two_of ts) (stairs_of t.typical ∷ []) (stairs_of t.overload ∷ []))
