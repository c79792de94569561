-- The laws of the model that has a curve for each task and class.
use Rattle.std.specs.Prelude.{◌≡◌, ℕ, ◌<◌, List, length, take, Some, None, Option, slice_index_or, refl}
use Rattle.std.proofs.Common.{sym, ap, ◌∙◌, arith, length-take, get_or-take}
use Rattle.std.specs.List.{slice_get}
use Rattle.std.proofs.lemmas.Option.{slice_get_past, slice_get-get_or}
use Rattle.arrival.specs.declared.class.Class.{Class}
use Rattle.arrival.specs.declared.class.Class.TheVariants.{Typical, Overload}
use Rattle.arrival.specs.declared.curve.TaskCurves.{TaskCurves}
use Rattle.arrival.specs.Meaning.{Lawful, CurveLaws}
use Rattle.arrival.specs.Tasks.{option_count, task_count, curves_meaning}

none_laws : CurveLaws (λ _. 0)
none_laws = record { zero_at_zero = refl; monotone = λ v w _ _. omega arith; at_most_length = λ w _. omega arith }

module _ {C : Type 0} (counts : C → ℕ → ℕ) where
  module _ (each : (c : C) → CurveLaws (counts c)) where
    pub option_laws : (c : Option C) → CurveLaws (option_count counts c)
    option_laws None = none_laws
    option_laws (Some c) = each c

    task_laws : (t : Option (TaskCurves C)) (k : Class) → CurveLaws (task_count counts t k)
    task_laws None k = none_laws
    task_laws (Some t) Typical = each t.typical
    task_laws (Some t) Overload = each t.overload

    pub curves_lawful : (ts : List (TaskCurves C)) → Lawful (curves_meaning counts ts)
    curves_lawful ts = record {
      zero_at_zero = λ j k. (task_laws (slice_get (take 255 ts) j) k).zero_at_zero;
      monotone = λ j k. (task_laws (slice_get (take 255 ts) j) k).monotone;
      at_most_length = λ j k. (task_laws (slice_get (take 255 ts) j) k).at_most_length;
      few_tasks = omega arith;
      absent_is_zero = λ j k w h _. ap (λ t. task_count counts t k w) (slice_get_past (take 255 ts) j (simp length-take (omega arith)));
    }

  module _ (ts : List (TaskCurves C)) (j : ℕ) (k : Class) (w : ℕ) where
    -- what a model reads at a task that it holds
    pub count_held : (d : TaskCurves C) → j < length ts → j < 255 → task_count counts (Some (slice_index_or ts j d)) k w ≡ (curves_meaning counts ts).count j k w
    count_held d h b =
        let in-front = slice_get-get_or (take 255 ts) j d (simp length-take (omega arith)) in
        sym (ap (λ t. task_count counts t k w) (in-front ∙ ap Some (get_or-take 255 ts j d b)))
