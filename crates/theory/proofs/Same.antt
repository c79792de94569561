-- Combinations with the same tasks of a level give the same loads and least lengths.
use Rattle.std.proofs.Common.{◌≡◌, ℕ, suc, ◌+◌, ◌*◌, ◌<◌, ◌≤◌, Bool, cond, sym, ap, subst, arith}
use Rattle.arrival.specs.declared.class.Class.TheVariants.{Typical, Overload}
use Rattle.arrival.specs.Meaning.{Meaning}
use Rattle.theory.specs.Least.{Least, Serves}
use Rattle.theory.specs.Levels.{BusyLength, arrivals, demand}
use Rattle.theory.specs.Positions.{LatePosition}
use Rattle.theory.specs.Tables.{Table}
use Rattle.theory.proofs.Totals.{total_same}

pub arrivals_same : (m : Meaning) (c d : ℕ → Bool) (j w : ℕ) → c j ≡ d j → arrivals m c j w ≡ arrivals m d j w
arrivals_same m c d j w e = ap (λ b. m.count j Typical w + cond b (m.count j Overload w) 0) e

pub demand_same : (m : Meaning) (wcet : ℕ → ℕ) (c d : ℕ → Bool) (n w : ℕ) → ((j : ℕ) → j < n → c j ≡ d j) → demand m wcet c n w ≡ demand m wcet d n w
demand_same m wcet c d n w same = total_same _ _ n (λ j less. ap (λ a. wcet j * a) (arrivals_same m c d j w (same j less)))

module _ (f g : ℕ → ℕ) (same : (v : ℕ) → f v ≡ g v) where
  pub serves_same : (w : ℕ) → Serves f w → Serves g w
  serves_same w serves = (serves.0, omega (arith, serves.1, same w))

pub least_same : (f g : ℕ → ℕ) → ((v : ℕ) → f v ≡ g v) → (w : ℕ) → Least (Serves f) w → Least (Serves g) w
least_same f g same w least =
    (serves_same f g same w least.0, λ v less serves. least.1 v less (serves_same g f (λ v. sym (same v)) v serves))

-- the same positions are late
module _ (m : Meaning) (t : Table) (i : ℕ) (c d : ℕ → Bool) (same : (j : ℕ) → j < suc i → c j ≡ d j) where
  own_same : (w : ℕ) → arrivals m c i w ≡ arrivals m d i w
  own_same w = arrivals_same m c d i w (same i (omega arith))

  pub window_same : (L : ℕ) → BusyLength m t.wcet c i L → BusyLength m t.wcet d i L
  window_same = least_same _ _ (λ w. demand_same m t.wcet c d (suc i) w same)

  pub late_same : (q : ℕ) → LatePosition m t i c q → LatePosition m t i d q
  late_same q ((L, window, some, few), (E, F, earliest, finish, late)) = (
    (L, window_same L window, some, subst (λ n. q ≤ n) (own_same L) few),
    (
      E,
      F,
      (
        subst (λ n. q ≤ n) (own_same (E + 1)) earliest.0,
        λ v less h. earliest.1 v less (subst (λ n. q ≤ n) (sym (own_same (v + 1))) h),
      ),
      least_same _ _ (λ w. ap (λ x. q * t.wcet i + x) (demand_same m t.wcet c d i w (λ j h. same j (omega arith)))) F finish,
      late,
    ),
  )
