-- Curves by period, jitter and distance.
use Rattle.std.specs.Prelude.{ℕ, ◌+◌, ◌/◌, ◌%◌, min, Bool, ◌&&◌, Ok, Result, nat_le}
use Rattle.base.specs.Faults.{given}
use Rattle.pjd.specs.declared.curve.PjdCurve.{PjdCurve}
use Rattle.pjd.specs.declared.curve.CurveFault.{CurveFault}
use Rattle.pjd.specs.declared.curve.CurveFault.TheVariants.{OutOfRange}

pub record Pjd : Type 0 where
  pub period : ℕ
  pub jitter : ℕ
  pub distance : ℕ

-- which numbers make a curve
abbrev pub pjd_ok : Pjd → Bool
pjd_ok c =
    nat_le 1 c.period && nat_le c.period 1000000
    && nat_le c.jitter 10000000
    && nat_le 1 c.distance && nat_le c.distance c.period

-- making a curve
abbrev pub pjd : ℕ → ℕ → ℕ → Result Pjd ℕ
pjd period jitter distance =
    let c : Pjd = record { period = period; jitter = jitter; distance = distance } in
    given (pjd_ok c) 15 (Ok c)

-- x / y, rounded up
abbrev pub ceil : ℕ → ℕ → ℕ
ceil x y = x / y + min 1 (x % y)

-- how many releases a window of length w holds at most
abbrev pub pjd_count : Pjd → ℕ → ℕ
pjd_count c w = min (ceil (w + c.jitter) c.period) (ceil w c.distance)

-- the numbers that the code's values stand for
abbrev pub numbers_of : PjdCurve → Pjd
numbers_of c = record { period = c.period; jitter = c.jitter; distance = c.distance }

abbrev pub fault_number : CurveFault → ℕ
fault_number OutOfRange = 15
