-- Curves that are written in another way and count the same make the same model.
use Rattle.std.proofs.Common.{◌≡◌, ℕ, zero, suc, min, List, [], ◌∷◌, map, take, sym, refl, ap, ◌∙◌}
use Rattle.std.specs.List.{slice_get}
use Rattle.std.proofs.lemmas.List.{length-map, take-map}
use Rattle.arrival.specs.declared.class.Class.{Class}
use Rattle.arrival.specs.declared.class.Class.TheVariants.{Typical, Overload}
use Rattle.arrival.specs.declared.curve.TaskCurves.{TaskCurves}
use Rattle.arrival.specs.Tasks.{task_count, curves_meaning}

module _ {C D : Type 0} (f : C → D) where
  -- the curves of both classes, written in the other way
  abbrev pub renamed : TaskCurves C → TaskCurves D
  renamed t = record { typical = f t.typical; overload = f t.overload }

  module _ (counts : C → ℕ → ℕ) (counts' : D → ℕ → ℕ) (same : (c : C) (w : ℕ) → counts c w ≡ counts' (f c) w) where
    count-renamed : (ts : List (TaskCurves C)) (j : ℕ) (k : Class) (w : ℕ) → task_count counts (slice_get ts j) k w ≡ task_count counts' (slice_get (map renamed ts) j) k w
    count-renamed [] j k w = refl
    count-renamed (t ∷ ts) zero Typical w = same t.typical w
    count-renamed (t ∷ ts) zero Overload w = same t.overload w
    count-renamed (t ∷ ts) (suc j) k w = count-renamed ts j k w

    pub curves-renamed : (ts : List (TaskCurves C)) → curves_meaning counts ts ≡ curves_meaning counts' (map renamed ts)
    curves-renamed ts = λ i. record {
      tasks = min (sym (length-map ts renamed) i) 255;
      count = λ j k w. (count-renamed (take 255 ts) j k w ∙ ap (λ l. task_count counts' (slice_get l j) k w) (sym (take-map renamed 255 ts))) i;
    }
