-- The models that reading fills mean what the settings say.
use Rattle.std.proofs.Common.{◌≡◌, ℕ, List, [], ◌∷◌, map, Some, None, Option, sym, refl, ap, ◌∙◌, arith}
use Rattle.std.specs.List.{flat_map}
use Rattle.std.proofs.lemmas.Bool.{cond-false, ne_eqb}
use Rattle.arrival.specs.declared.curve.TaskCurves.{TaskCurves}
use Rattle.arrival.specs.Chain.{chain}
use Rattle.arrival.specs.Tasks.{option_count, curves_meaning}
use Rattle.arrival.proofs.Renamed.{renamed, curves-renamed}
use Rattle.entries.specs.Values.{curve_of, curves_of}
use Rattle.file_format.specs.Models.{curve_count, by_class, two_by_two, model_of}
use Rattle.pjd.specs.declared.curve.PjdCurve.{PjdCurve}
use Rattle.pjd.specs.Curves.{pjd_count, numbers_of}
use Rattle.settings.specs.declared.settings.Settings.{Settings}
use Rattle.settings.specs.Values.{settings_of, two_of}
use Rattle.staircase.specs.declared.stairs.Staircase.{Staircase}
use Rattle.staircase.specs.Stairs.{stairs_count}
use Rattle.staircase.specs.Values.{stairs_of}
use Rattle.tables.specs.declared.task.Task.{Task}

-- what the code's curves count
abbrev pub pjd_counts : Option PjdCurve → ℕ → ℕ
pjd_counts = option_count (λ c. pjd_count (numbers_of c))

abbrev pub staircase_counts : Staircase → ℕ → ℕ
staircase_counts s = stairs_count (stairs_of s)

-- a curve has a period above 0
curve_same : (c : Option PjdCurve) (w : ℕ) → pjd_counts c w ≡ curve_count (curve_of c) w
curve_same None w = refl
curve_same (Some c) w =
    let some = c.in_range.0 in
    sym (cond-false _ 0 (pjd_count (numbers_of c) w) (ne_eqb c.period 0 (λ e. omega arith)))

curves_written : (cs : List (TaskCurves (Option PjdCurve))) → map (renamed curve_of) cs ≡ map by_class (map curves_of cs)
curves_written [] = refl
curves_written (c ∷ cs) = ap (λ l. renamed curve_of c ∷ l) (curves_written cs)

staircases_written : (ss : List (TaskCurves Staircase)) → map (renamed stairs_of) ss ≡ two_by_two (flat_map two_of ss)
staircases_written [] = refl
staircases_written (s ∷ ss) = ap (λ l. renamed stairs_of s ∷ l) (staircases_written ss)

pub model_meant : (ts : List Task) (models : Settings) → chain (curves_meaning pjd_counts models.curves) (curves_meaning staircase_counts models.staircases) ≡ model_of (settings_of ts models)
model_meant ts models =
    let first = curves-renamed curve_of pjd_counts curve_count curve_same models.curves ∙ ap (curves_meaning curve_count) (curves_written models.curves) in
    let second = curves-renamed stairs_of staircase_counts stairs_count (λ s w. refl) models.staircases ∙ ap (curves_meaning stairs_count) (staircases_written models.staircases) in
    λ i. chain (first i) (second i)
