-- Unsigned numbers in bytes, highest byte first.
use Rattle.std.specs.Prelude.{ℕ, zero, suc, ◌+◌, ◌*◌, ◌/◌, ◌%◌, List, [], ◌∷◌, ◌++◌, take, drop}

-- the number that has the digits of n, and behind them these bytes, in base 256
abbrev pub number_after : ℕ → List ℕ → ℕ
number_after n [] = n
number_after n (b ∷ bs) = number_after (256 * n + b) bs

-- the number in w bytes from byte i on
abbrev pub number : ℕ → ℕ → List ℕ → ℕ
number w i bs = number_after 0 (take w (drop i bs))

-- n in w bytes
abbrev pub spelled : ℕ → ℕ → List ℕ
spelled zero n = []
spelled (suc w) n = spelled w (n / 256) ++ n % 256 ∷ []
