-- The points of some bytes, by the chunks that they lie in.
use Rattle.std.proofs.Common.{◌≡◌, ℕ, zero, suc, ◌≤◌, List, ◌∷◌, map, take, drop, refl, arith}
use Rattle.std.proofs.lemmas.List.{take-take}
use Rattle.std.specs.Simd.{first_chunks}
use Rattle.base.specs.Numbers.{number, number_after}
use Rattle.staircase.specs.Stairs.{points}

pub points_in_chunks : (n m : ℕ) (bs : List ℕ) → n ≤ m → map (number 4 0) (take n (first_chunks 4 m bs)) ≡ points n bs
points_in_chunks zero m bs h = refl
points_in_chunks (suc n) zero bs h = absurd (omega arith)
points_in_chunks (suc n) (suc m) bs h =
    λ i. number_after 0 (take-take 4 4 bs (omega arith) i) ∷ points_in_chunks n m (drop 4 bs) (omega arith) i
