-- An entry lies within its bytes.
use Rattle.std.specs.Prelude.{◌≡◌, ℕ, ◌+◌, ◌*◌, ◌≤◌, Bool, true, List, length, drop, Ok, nat_le}
use Rattle.std.proofs.Common.{length-drop, arith}
use Rattle.std.proofs.lemmas.Bool.{leb-true}
use Rattle.base.specs.Faults.{given}
use Rattle.base.specs.Numbers.{number}
use Rattle.file_format.specs.Entries.{sized, task_entry, curves_entry, staircase_entry, question_entry}
use Rattle.file_format.specs.Settings.{Curves, Question}
use Rattle.staircase.specs.Stairs.{Stairs}
use Rattle.tables.specs.Tasks.{Times}

-- the tests that were passed before curves or a staircase were made
curves_passed : {X : Type 0} (t u : Bool) (x : X) (size : ℕ) (found : X × ℕ) → given {F = ℕ} t 11 (given u 15 (Ok (x, size))) ≡ Ok found → (t ≡ true) × (found.1 ≡ size)
curves_passed t u x size found e = grind arith

stairs_passed : {X : Type 0} (t u v w : Bool) (x : X) (size : ℕ) (found : X × ℕ) → given t 11 (sized size (given u 17 (given v 11 (given w 18 (Ok x))))) ≡ Ok found → (t ≡ true) × (v ≡ true) × (found.1 ≡ size)
stairs_passed t u v w x size found e = grind arith

pub task_within : (bs : List ℕ) (found : Times × ℕ) → task_entry bs ≡ Ok found → found.1 ≤ length bs
task_within bs found e = grind arith

pub question_within : (bs : List ℕ) (found : Question × ℕ) → question_entry bs ≡ Ok found → found.1 ≤ length bs
question_within bs found e = grind arith

pub curves_within : (bs : List ℕ) (found : Curves × ℕ) → curves_entry bs ≡ Ok found → found.1 ≤ length bs
curves_within bs found e =
    let passed = curves_passed (nat_le 24 (length bs)) _ _ 24 found e in
    omega (arith, leb-true 24 (length bs) passed.0)

pub staircase_within : (bs : List ℕ) (found : Stairs × ℕ) → staircase_entry bs ≡ Ok found → found.1 ≤ length bs
staircase_within bs found e =
    let n = number 2 0 bs in
    let passed = stairs_passed (nat_le 6 (length bs)) _ (nat_le (4 * n) (length (drop 6 bs))) _ _ (6 + 4 * n) found e in
    omega (arith, leb-true 6 (length bs) passed.0, leb-true (4 * n) (length (drop 6 bs)) passed.1, length-drop 6 bs)
