-- What is counted is at most the length, by the fields of a staircase.
use Rattle.std.proofs.Common.{ℕ, ◌+◌, ◌*◌, ◌/◌, ◌%◌, ◌≤◌, length}
use Rattle.std.proofs.lemmas.List.{length-map}
use Rattle.staircase.specs.declared.stairs.Staircase.{Staircase}
use Rattle.staircase.specs.Laws.{whole_small, count_small}
use Rattle.staircase.specs.Stairs.{up_to}
use Rattle.staircase.specs.Values.{stairs_of}

pub whole_at_most : (s : Staircase) (w : ℕ) → length s.points.now * (w / s.repeat) ≤ w
whole_at_most s w = simp length-map at (whole_small (stairs_of s) s.rising w)

pub count_at_most : (s : Staircase) (w : ℕ) → length s.points.now * (w / s.repeat) + up_to (w % s.repeat) (stairs_of s).points ≤ w
count_at_most s w = simp length-map at (count_small (stairs_of s) s.rising w)
