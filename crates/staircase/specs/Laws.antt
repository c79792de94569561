-- The laws of staircases.
use Rattle.std.specs.Prelude.{◌≡◌, ℕ, zero, suc, ◌+◌, ◌-◌, ◌*◌, ◌/◌, ◌%◌, ◌<◌, ◌≤◌, true, cond, leb, List, [], ◌∷◌, length, drop, ◌==◌, nat_le, refl}
use Rattle.std.proofs.Common.{ap, ⊎_elim, div-mul-le_self, zero-mul, arith}
use Rattle.std.proofs.lemmas.List.Sums.{sum_by-cons, count_by-le-length}
use Rattle.std.proofs.lemmas.Nat.{div-add-mod', le-div, mul-le}
use Rattle.std.proofs.lemmas.Bool.{cases_lt, cond_both, leb-true, leb-false, ltb-true, lt-ltb, eqb-true, le-leb, and_parts, and_from}
use Rattle.arrival.specs.Meaning.{CurveLaws}
use Rattle.staircase.specs.declared.stairs.Staircase.{Staircase}
use Rattle.staircase.specs.Stairs.{Stairs, points, rises, points_ok, up_to, stairs_count}
use Rattle.staircase.specs.Values.{stairs_of}

pub length-points : (n : ℕ) (bs : List ℕ) → length (points n bs) ≡ n
length-points zero bs = refl
length-points (suc n) bs = ap suc (length-points n (drop 4 bs))

up_to_cons : (r p : ℕ) (ps : List ℕ) → up_to r (p ∷ ps) ≡ cond (nat_le p r) 1 0 + up_to r ps
up_to_cons r p ps = sum_by-cons (λ x. cond (nat_le x r) 1 0) p ps

-- lawful points rise strictly from above 0
pub rises-from-ok : (repeat : ℕ) (ps : List ℕ) → points_ok repeat ps ≡ true → rises repeat 0 ps ≡ true
rises-from-ok repeat [] h = le-leb 0 repeat (omega arith)
rises-from-ok repeat (p ∷ ps) h =
    let both = and_parts (p == 1) (rises repeat p ps) h in
    and_from _ _ (lt-ltb 0 p (omega (arith, eqb-true p 1 both.0))) both.1

-- the points above `before` and not above r are at most r - before
up_to_rank : (repeat r before : ℕ) (ps : List ℕ) → rises repeat before ps ≡ true → up_to r ps ≤ r - before
up_to_rank repeat r before [] h = omega arith
up_to_rank repeat r before (p ∷ ps) h =
    let both = and_parts _ _ h in
    let up = ltb-true before p both.0 in
    let rest = up_to_rank repeat r p ps both.1 in
    rw (up_to_cons r p ps) (cond_both (nat_le p r) 1 0 (λ x. x + up_to r ps ≤ r - before) (λ e. omega (arith, leb-true p r e)) (λ e. omega (arith, leb-false p r e)))

-- there are at most as many points as ticks in a repeat
rises_short : (repeat before : ℕ) (ps : List ℕ) → rises repeat before ps ≡ true → length ps + before ≤ repeat
rises_short repeat before [] h = omega (arith, leb-true before repeat h)
rises_short repeat before (p ∷ ps) h =
    let both = and_parts _ _ h in
    omega (arith, ltb-true before p both.0, rises_short repeat p ps both.1)

step : (a b p : ℕ) → a ≤ b → cond (nat_le p a) 1 0 ≤ cond (nat_le p b) 1 0
step a b p h =
    cond_both (nat_le p a) 1 0 (λ x. x ≤ cond (nat_le p b) 1 0)
    (λ e. cond_both (nat_le p b) 1 0 (λ x. 1 ≤ x) (λ _. omega arith) (λ e'. absurd (omega (arith, leb-true p a e, leb-false p b e'))))
    (λ e. omega arith)

up_to-rises : (a b : ℕ) (ps : List ℕ) → a ≤ b → up_to a ps ≤ up_to b ps
up_to-rises a b [] h = omega arith
up_to-rises a b (p ∷ ps) h = omega (arith, up_to_cons a p ps, up_to_cons b p ps, step a b p h, up_to-rises a b ps h)

module _ (s : Stairs) (ok : points_ok s.repeat s.points ≡ true) where
  up : rises s.repeat 0 s.points ≡ true
  up = rises-from-ok s.repeat s.points ok

  -- the points of the whole repeats
  pub whole_small : (w : ℕ) → length s.points * (w / s.repeat) ≤ w
  whole_small w =
      let short = rises_short s.repeat 0 s.points up in
      omega (arith, mul-le (length s.points) (w / s.repeat) s.repeat (w / s.repeat) (omega arith) (omega arith), div-mul-le_self w s.repeat)

  pub count_small : (w : ℕ) → stairs_count s w ≤ w
  count_small w =
      let short = rises_short s.repeat 0 s.points up in
      let rest = up_to_rank s.repeat (w % s.repeat) 0 s.points up in
      omega (arith, mul-le (length s.points) (w / s.repeat) s.repeat (w / s.repeat) (omega arith) (omega arith), div-add-mod' w s.repeat)

  count-rises : (v w : ℕ) → 0 < s.repeat → v ≤ w → stairs_count s v ≤ stairs_count s w
  count-rises v w some h =
      let t = s.repeat in
      let ps = s.points in
      let whole : v / t ≤ w / t = le-div (v / t) w t some (omega (arith, div-mul-le_self v t)) in
      ⊎_elim
      (λ less.
      let next : length ps * (v / t + 1) ≤ length ps * (w / t) = mul-le (length ps) (v / t + 1) (length ps) (w / t) (omega arith) (omega arith) in
      omega (arith, count_by-le-length (λ p. leb p (v % t)) ps))
      (λ more.
      let same : v / t ≡ w / t = omega arith in
      let quotients = ap (λ q. q * t) same in
      let fronts = ap (λ q. length ps * q) same in
      omega (arith, up_to-rises (v % t) (w % t) ps (omega (arith, div-add-mod' v t, div-add-mod' w t))))
      (cases_lt (v / t) (w / t))

  -- no point at all: nothing is counted
  pub count_none : (w : ℕ) → length s.points ≡ 0 → stairs_count s w ≡ 0
  count_none w none = omega (arith, count_by-le-length (λ p. leb p (w % s.repeat)) s.points, ap (λ n. n * (w / s.repeat)) none, zero-mul (w / s.repeat))

  pub stairs_laws : CurveLaws (stairs_count s)
  stairs_laws = record {
    zero_at_zero = omega (arith, count_small 0);
    monotone = λ v w h _.
        ⊎_elim
        (λ some. count-rises v w some h)
        (λ none. omega (arith, count_none v (omega (arith, rises_short s.repeat 0 s.points up))))
        (cases_lt 0 s.repeat);
    at_most_length = λ w _. count_small w;
  }

pub staircase_laws : (s : Staircase) → CurveLaws (stairs_count (stairs_of s))
staircase_laws s = stairs_laws (stairs_of s) s.rising
