-- The laws of curves by period, jitter and distance.
use Rattle.std.specs.Prelude.{◌≡◌, ℕ, zero, suc, ◌+◌, ◌*◌, ◌/◌, ◌≤◌}
use Rattle.std.proofs.Common.{ap, ⊎_elim, div-mul-le_self, arith}
use Rattle.std.proofs.Math.Nat.{div-zero, mod-zero}
use Rattle.std.proofs.lemmas.Nat.{div-add-mod', le-div, mul-le}
use Rattle.std.proofs.lemmas.Bool.{cases_lt}
use Rattle.arrival.specs.Meaning.{CurveLaws}
use Rattle.pjd.specs.declared.curve.PjdCurve.{PjdCurve}
use Rattle.pjd.specs.Curves.{Pjd, ceil, pjd_count, numbers_of}

-- rounded up, a quotient does not exceed its dividend
pub ceil_small : (w d : ℕ) → ceil w d ≤ w
ceil_small w zero = omega (arith, div-zero w, mod-zero w)
ceil_small w (suc d) =
    let wide : w / suc d * 1 ≤ w / suc d * suc d = mul-le (w / suc d) 1 (w / suc d) (suc d) (omega arith) (omega arith) in
    omega (arith, div-add-mod' w (suc d))

ceil-rises : (v w d : ℕ) → v ≤ w → ceil v d ≤ ceil w d
ceil-rises v w zero le = omega (arith, div-zero v, mod-zero v, mod-zero w)
ceil-rises v w (suc n) le =
    let d = suc n in
    let whole : v / d ≤ w / d = le-div (v / d) w d (omega arith) (omega (arith, div-mul-le_self v d)) in
    ⊎_elim
    (λ less. omega arith)
    (λ more.
    let same : v / d ≡ w / d = omega arith in
    omega (arith, div-add-mod' v d, div-add-mod' w d, ap (λ q. q * d) same))
    (cases_lt (v / d) (w / d))

pub pjd_laws : (c : Pjd) → CurveLaws (pjd_count c)
pjd_laws c = record {
  zero_at_zero = omega (arith, ceil_small 0 c.distance);
  monotone = λ v w le _. omega (arith, ceil-rises (v + c.jitter) (w + c.jitter) c.period (omega arith), ceil-rises v w c.distance le);
  at_most_length = λ w _. omega (arith, ceil_small w c.distance);
}

pub curve_laws : (c : PjdCurve) → CurveLaws (pjd_count (numbers_of c))
curve_laws c = pjd_laws (numbers_of c)
