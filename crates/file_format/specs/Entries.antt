-- The entries of a settings file, each at the front of some bytes. Numbers are unsigned, highest byte first.
use Rattle.std.specs.Prelude.{ℕ, ◌+◌, ◌*◌, Bool, ◌&&◌, ◌||◌, List, length, drop, Ok, Err, Result, ◌==◌, nat_le}
use Rattle.base.specs.Faults.{given}
use Rattle.base.specs.Numbers.{number}
use Rattle.pjd.specs.Curves.{Pjd, pjd_ok}
use Rattle.staircase.specs.Stairs.{Stairs, stairs}
use Rattle.tables.specs.Tasks.{Times, task}
use Rattle.file_format.specs.Settings.{Curves, Question}

-- what stands at the front of some bytes: a value and the number of its bytes, or the number of a fault
abbrev pub Front : Type 0 → Type 0
Front X = Result (X × ℕ) ℕ

-- a value of `size` bytes
abbrev pub sized : {X : Type 0} → ℕ → Result X ℕ → Front X
sized size (Ok x) = Ok (x, size)
sized size (Err f) = Err f

-- 4 bytes wcet, 4 bytes deadline
abbrev pub task_entry : List ℕ → Front Times
task_entry bs = given (nat_le 8 (length bs)) 11 (sized 8 (task (number 4 0 bs) (number 4 4 bs)))

-- 4 bytes period, 4 bytes jitter, 4 bytes distance, from byte i on
abbrev pub curve_at : ℕ → List ℕ → Pjd
curve_at i bs = record { period = number 4 i bs; jitter = number 4 (i + 4) bs; distance = number 4 (i + 8) bs }

-- a lawful curve, or a class without releases
abbrev pub curve_ok : Pjd → Bool
curve_ok c = (c.period == 0 && c.jitter == 0 && c.distance == 0) || pjd_ok c

-- the curve of the typical class, then that of the overload class
abbrev pub curves_entry : List ℕ → Front Curves
curves_entry bs =
    given (nat_le 24 (length bs)) 11
    (given (curve_ok (curve_at 0 bs) && curve_ok (curve_at 12 bs)) 15
    (Ok (record { typical = curve_at 0 bs; overload = curve_at 12 bs }, 24)))

-- 2 bytes number of points, 4 bytes repeat, then the points, 4 bytes each
abbrev pub staircase_entry : List ℕ → Front Stairs
staircase_entry bs =
    given (nat_le 6 (length bs)) 11
    (sized (6 + 4 * number 2 0 bs) (stairs (number 2 0 bs) (number 4 2 bs) (drop 6 bs)))

-- 1 byte task, 2 bytes number of jobs, 4 bytes span
abbrev pub question_entry : List ℕ → Front Question
question_entry bs =
    given (nat_le 7 (length bs)) 11
    (Ok (record { task = number 1 0 bs; jobs = number 2 1 bs; span = number 4 3 bs }, 7))
