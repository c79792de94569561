-- The settings file: the settings that its bytes say, or its first fault.
use Rattle.std.specs.Prelude.{ℕ, zero, suc, ◌+◌, ◌*◌, Bool, ◌&&◌, leb, List, [], ◌∷◌, ◌++◌, length, drop, Ok, Err, Result, ◌==◌, nat_eq, nat_le}
use Rattle.base.specs.Faults.{given}
use Rattle.base.specs.Numbers.{number}
use Rattle.file_format.specs.Settings.{Settings, Fault}
use Rattle.file_format.specs.Entries.{Front, task_entry, curves_entry, staircase_entry, question_entry}

abbrev pub fault : ℕ → ℕ → ℕ → ℕ → Fault
fault number section entry byte = record { number = number; section = section; entry = entry; byte = byte }

-- what was read at some byte, and the byte behind it
abbrev pub Read : Type 0 → Type 0
Read X = Result (X × ℕ) Fault

-- goes on with what was read and the byte behind it, unless that has a fault
abbrev pub after : {X Y : Type 0} → Read X → (X → ℕ → Result Y Fault) → Result Y Fault
after (Ok found) next = next found.0 found.1
after (Err f) next = Err f

-- the one-byte count of a section, at byte b; `wrong` is the number of a count that fails the test
abbrev pub count : List ℕ → ℕ → ℕ → (ℕ → Bool) → ℕ → Read ℕ
count file section wrong ok b =
    given (nat_le (b + 1) (length file)) (fault 11 section 0 b)
    (given (ok (number 1 b file)) (fault wrong section 0 b)
    (Ok (number 1 b file, b + 1)))

-- what stands at byte b as an entry of a section; a fault has that byte
abbrev pub placed : {X Y : Type 0} → ℕ → ℕ → ℕ → Front X → (X → ℕ → Result Y Fault) → Result Y Fault
placed section entry b (Ok found) next = next found.0 (b + found.1)
placed section entry b (Err number) next = Err (fault number section entry b)

-- n entries from byte b on, behind those that are done; entries are numbered from 1
unfoldable pub entries : {X : Type 0} → List ℕ → (List ℕ → Front X) → ℕ → List X → ℕ → ℕ → Read (List X)
entries file read section done zero b = Ok (done, b)
entries file read section done (suc n) b =
    placed section (length done + 1) b (read (drop b file)) λ x b. entries file read section (done ++ x ∷ []) n b

abbrev pub settings : List ℕ → Result Settings Fault
settings file =
    after (count file 1 12 (λ n. nat_le 1 n && nat_le n 32) 0) λ n b.
    after (entries file task_entry 1 [] n b) λ tasks b.
    after (count file 2 14 (λ n. leb n (length tasks)) b) λ n b.
    after (entries file curves_entry 2 [] n b) λ curves b.
    after (count file 3 16 (λ n. nat_eq (length curves + n) (length tasks)) b) λ n b.
    after (entries file staircase_entry 3 [] (2 * n) b) λ staircases b.
    after (count file 4 19 (λ n. leb n 16) b) λ n b.
    after (entries file question_entry 4 [] n b) λ questions b.
    given ((length file) == b) (fault 20 5 0 b)
    (Ok (record { tasks = tasks; curves = curves; staircases = staircases; questions = questions }))
