-- The arrival model that a settings file describes.
use Rattle.std.specs.Prelude.{ℕ, cond, List, [], ◌∷◌, map, ◌==◌}
use Rattle.arrival.specs.declared.curve.TaskCurves.{TaskCurves}
use Rattle.arrival.specs.Chain.{chain}
use Rattle.arrival.specs.Meaning.{Meaning}
use Rattle.arrival.specs.Tasks.{curves_meaning}
use Rattle.pjd.specs.Curves.{Pjd, pjd_count}
use Rattle.staircase.specs.Stairs.{Stairs, stairs_count}
use Rattle.file_format.specs.Settings.{Settings, Curves}

-- three zeros are a class without releases
abbrev pub curve_count : Pjd → ℕ → ℕ
curve_count c w = cond (c.period == 0) 0 (pjd_count c w)

-- the curves of a task, by class
abbrev pub by_class : Curves → TaskCurves Pjd
by_class c = record { typical = c.typical; overload = c.overload }

-- two staircases to a task, the typical one first
abbrev pub two_by_two : List Stairs → List (TaskCurves Stairs)
two_by_two [] = []
two_by_two (a ∷ []) = []
two_by_two (a ∷ b ∷ ss) = record { typical = a; overload = b } ∷ two_by_two ss

-- the tasks that have curves, then those that have staircases
abbrev pub model_of : Settings → Meaning
model_of s = chain (curves_meaning curve_count (map by_class s.curves)) (curves_meaning stairs_count (two_by_two s.staircases))
