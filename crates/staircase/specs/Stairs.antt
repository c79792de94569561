-- Staircases: points that repeat, and what they count.
use Rattle.std.specs.Prelude.{ℕ, zero, suc, ◌+◌, ◌*◌, ◌/◌, ◌%◌, Bool, true, ◌&&◌, leb, List, [], ◌∷◌, length, drop, Ok, count_by, Result, ◌==◌, nat_le, nat_lt}
use Rattle.std.specs.Bool.{beq}
use Rattle.base.specs.Faults.{given}
use Rattle.base.specs.Numbers.{number}

pub record Stairs : Type 0 where
  pub repeat : ℕ
  pub points : List ℕ

-- the first n points in some bytes, four bytes each
abbrev pub points : ℕ → List ℕ → List ℕ
points zero bs = []
points (suc n) bs = number 4 0 bs ∷ points n (drop 4 bs)

-- the number of points and the repeat: the repeat is zero exactly if there is no point
abbrev pub head_ok : ℕ → ℕ → Bool
head_ok n repeat = nat_le n 64 && nat_le repeat 1000000 && beq (n == 0) (repeat == 0)

-- the points rise strictly from above `before`, and the last is at most the repeat
abbrev pub rises : ℕ → ℕ → List ℕ → Bool
rises repeat before [] = nat_le before repeat
rises repeat before (p ∷ ps) = nat_lt before p && rises repeat p ps

-- the first point, if any, is 1
abbrev pub points_ok : ℕ → List ℕ → Bool
points_ok repeat [] = true
points_ok repeat (p ∷ ps) = p == 1 && rises repeat p ps

-- making a staircase of n points that lie at the front of some bytes
abbrev pub stairs : ℕ → ℕ → List ℕ → Result Stairs ℕ
stairs n repeat bs =
    given (head_ok n repeat) 17
    (given (nat_le (4 * n) (length bs)) 11
    (given (points_ok repeat (points n bs)) 18
    (Ok (record { repeat = repeat; points = points n bs }))))

-- how many points are not above r
abbrev pub up_to : ℕ → List ℕ → ℕ
up_to r ps = count_by (λ p. leb p r) ps

-- how many releases a window of length w holds at most; no point: none
abbrev pub stairs_count : Stairs → ℕ → ℕ
stairs_count s w = length s.points * (w / s.repeat) + up_to (w % s.repeat) s.points
