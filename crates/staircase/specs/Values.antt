-- What the code's staircases and faults stand for.
use Rattle.std.specs.Prelude.{ℕ, map}
use Rattle.base.specs.Numbers.{number}
use Rattle.staircase.specs.declared.stairs.Staircase.{Staircase}
use Rattle.staircase.specs.declared.stairs.StaircaseFault.{StaircaseFault}
use Rattle.staircase.specs.declared.stairs.StaircaseFault.TheVariants.{Head, Missing, Points}
use Rattle.staircase.specs.Stairs.{Stairs}

abbrev pub stairs_of : Staircase → Stairs
stairs_of s = record { repeat = s.repeat; points = map (number 4 0) s.points.now }

abbrev pub fault_number : StaircaseFault → ℕ
fault_number Head = 17
fault_number Missing = 11
fault_number Points = 18
