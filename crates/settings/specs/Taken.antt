-- What is taken from a file at some byte, and the byte behind it.
use Rattle.std.specs.Prelude.{ℕ, ◌+◌, List, [], ◌∷◌, ◌++◌, length, drop, Ok}
use Rattle.file_format.specs.Entries.{Front}
use Rattle.file_format.specs.File.{Read, placed}

-- what a value of the code stands for, with the byte behind it
abbrev pub taken : {V X : Type 0} → (V → X) → ℕ → V → X × ℕ
taken value b v = (value v, b)

module _ {X : Type 0} (file : List ℕ) (read : List ℕ → Front X) (section : ℕ) where
  -- entry number `entry`
  abbrev pub entry_at : ℕ → ℕ → Read X
  entry_at entry b = placed section entry b (read (drop b file)) λ x b. Ok (x, b)

  -- the entries that are done, and the next
  abbrev pub one_more : List X → ℕ → Read (List X)
  one_more done b = placed section (length done + 1) b (read (drop b file)) λ x b. Ok (done ++ x ∷ [], b)
