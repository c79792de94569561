-- The worked rows, by computation.
use Rattle.std.proofs.Common.{◌≡◌, ℕ, ◌+◌, ◌*◌, ◌/◌, ◌%◌, ◌≤◌, min, Bool, true, false, cond, eqb, List, [], ◌∷◌, map, sym, refl, ap, ◌∙◌, subst, inl, inr, le_refl, le-add_right, mul-le-mul_right, mod-lt, add-mul, div-add-mod', arith}
use native.Mathlib.Nat.{min-eq_left}
use Rattle.std.proofs.lemmas.Bool.{cases_lt, eqb-true}
use Rattle.arrival.specs.Meaning.{CurveLaws, Monotone}
use Rattle.arrival.specs.ChainLaws.{chain-monotone}
use Rattle.arrival.specs.Tasks.{curves_meaning}
use Rattle.arrival.specs.TasksLaws.{curves_lawful}
use Rattle.file_format.specs.Models.{curve_count, by_class, model_of}
use Rattle.file_format.specs.Settings.{Settings, Curves}
use Rattle.loads.specs.Tables.{times_table}
use Rattle.pjd.specs.Curves.{ceil, pjd_count}
use Rattle.pjd.specs.Laws.{pjd_laws}
use Rattle.staircase.specs.Stairs.{stairs_count}
use Rattle.tables.specs.Tasks.{Times}
use Rattle.theory.specs.Questions.{WindowLength}
use Rattle.theory.specs.Sums.{total}
use Rattle.theory.specs.Tables.{Table}
use Rattle.theory.proofs.Decisions.{admitted_is, all_below, all_members, all_pass, alone, bound_is, failing_is, finish_of, first_length, is_failing, is_late, is_minimal, is_window, length_from, minimal_is, minimal_only, none-late, of_sources, some_below, too_few, window_is, window_of}
use Rattle.worked.specs.Rows.{each, three, one, full, settings, IsMinimal, WorkedRows}

-- ---- the laws

or_none : (b : Bool) (f : ℕ → ℕ) → CurveLaws f → CurveLaws (λ w. cond b 0 (f w))
or_none true f laws = record { zero_at_zero = refl; monotone = λ v w _ _. omega arith; at_most_length = λ w _. omega arith }
or_none false f laws = laws

monotone : (ts : List Times) (cs : List Curves) → Monotone (model_of (settings ts cs))
monotone ts cs =
    chain-monotone (curves_meaning curve_count (map by_class cs)) (curves_meaning stairs_count [])
    (curves_lawful curve_count (λ c. or_none (eqb c.period 0) (pjd_count c) (pjd_laws c)) (map by_class cs)).monotone
    (λ j k v w _ _. omega arith)

-- ---- a window that never ends

abbrev table : Settings → Table
table s = times_table s.tasks

-- rounded up, a quotient times its divisor is not below its dividend
ceil-covers : (w d : ℕ) → 1 ≤ d → w ≤ ceil w d * d
ceil-covers w d some =
    let whole = div-add-mod' w d in
    let rest = mod-lt w some in
    elim (cases_lt 0 (w % d)) [
      | inl more ↦
          let up : min 1 (w % d) ≡ 1 = omega arith in
          omega (arith, ap (λ x. (w / d + x) * d) up, add-mul (w / d) 1 d)
      | inr none ↦ omega (arith, mul-le-mul_right d (le-add_right (w / d) (min 1 (w % d))))
    ]

-- the periods of the releases in a window cover it
covers : (p w : ℕ) → 1 ≤ p → w ≤ pjd_count (each p) w * p
covers p w some =
    let same : w + 0 ≡ w = omega arith in
    let one_way : pjd_count (each p) w ≡ ceil w p = ap (λ x. min (ceil x p) (ceil w p)) same ∙ min-eq_left (le_refl (ceil w p)) in
    subst (λ x. w ≤ x * p) (sym one_way) (ceil-covers w p some)

more-work : (L x y : ℕ) → 1 ≤ L → L ≤ x * 10 → L ≤ y * 1000 → 0 + 10 * (x + 0) + 1 * (y + 0) ≤ L → ⊥
more-work L x y some first second served = omega arith

-- the first task's work of a window fills it, and the second adds to it
never_served : (L : ℕ) → WindowLength (model_of full) (table full) 1 L → ⊥
unfolding total
never_served L window =
    more-work L (pjd_count (each 10) L) (pjd_count (each 1000) L) window.0.0 (covers 10 L (omega arith)) (covers 1000 L (omega arith)) window.0.1

-- ---- the rows

-- Behind L, the law and N stand, for a bound, a packing as the list of its numbers by set, a set that has a task of each minimal
-- combination, the total of the packing, the cells and the answer.
pub worked : WorkedRows
unfolding all_below all_members all_pass alone finish_of first_length is_failing is_late is_minimal is_window length_from of_sources some_below window_of total
worked =
    let three-rises : (D : ℕ) → Monotone (model_of (three D)) = λ D. monotone (three D).tasks (three D).curves in
    let one-rises : (D : ℕ) → Monotone (model_of (one D)) = λ D. monotone (one D).tasks (one D).curves in
    let admitted = admitted_is (model_of (three 8)) (table (three 8)) 2 10 90 9 (three-rises 8) 1 refl in
    let alone-admitted = admitted_is (model_of (one 11)) (table (one 11)) 0 5 40 18 (one-rises 11) 1 refl in
    let window-3 = window_is (model_of (three 3)) (table (three 3)) 2 9 refl in
    record {
      curve_counts = refl;
      staircase_counts = refl;
      window_of_three = (
        (admitted.window, refl, admitted.late),
        λ x. (
          λ minimal. eqb-true x 3 (minimal_only (model_of (three 8)) (table (three 8)) 2 10 90 9 (three-rises 8) (omega arith) admitted.window (λ s. eqb s 3) refl x minimal),
          λ e. subst (IsMinimal (three 8) 2 10 90 9) (sym e) ((minimal_is (model_of (three 8)) (table (three 8)) 2 10 90 9 (three-rises 8) (omega arith) admitted.window 3 (omega arith)).0 refl),
        ),
      );
      deadline_8 = (
        bound_is (model_of (three 8)) (table (three 8)) 2 10 90 9 (three-rises 8) 1 refl (0 ∷ 0 ∷ 0 ∷ 4 ∷ []) 2 4 35 4 refl refl,
        too_few (model_of (three 8)) (table (three 8)) 2 10 90 9 (three-rises 8) 1 refl 34 refl,
      );
      deadline_9 = none-late (model_of (three 9)) (table (three 9)) 2 10 90 9 (three-rises 9) 0 refl refl 0;
      deadline_6 = bound_is (model_of (three 6)) (table (three 6)) 2 10 90 9 (three-rises 6) 1 refl (0 ∷ 0 ∷ 4 ∷ []) 2 4 35 4 refl refl;
      deadline_4 = bound_is (model_of (three 4)) (table (three 4)) 2 10 90 9 (three-rises 4) 1 refl (0 ∷ 6 ∷ 4 ∷ []) 3 10 35 10 refl refl;
      deadline_3 = λ cells.
          inl (inr (
            refl,
            inr (
              omega arith,
              inr (
                (omega arith, omega arith),
                inr (
                  omega arith,
                  inr (
                    (9, omega arith, window-3),
                    inl (λ sound. sound ((failing_is (model_of (three 3)) (table (three 3)) 2 9 (three-rises 3) (omega arith) window-3 0).0 refl), refl),
                  ),
                ),
              ),
            ),
          ));
      one_task = (
        (alone-admitted.window, refl, alone-admitted.late),
        bound_is (model_of (one 11)) (table (one 11)) 0 5 40 18 (one-rises 11) 1 refl (0 ∷ 2 ∷ []) 1 2 3 2 refl refl,
        none-late (model_of (one 12)) (table (one 12)) 0 5 40 18 (one-rises 12) 0 refl refl 0,
      );
      no_window = λ cells.
          inl (inr (
            refl,
            inr (
              omega arith,
              inr (
                (omega arith, omega arith),
                inr (
                  omega arith,
                  inl (λ (L, low, window). never_served L window, refl),
                ),
              ),
            ),
          ));
    }
