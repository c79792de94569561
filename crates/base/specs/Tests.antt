-- Tests that are asked in their order, each with the number of its refusal.
use Rattle.std.specs.Prelude.{◌≡◌, ℕ, ◌⊎◌, List, [], ◌∷◌}

-- all hold
abbrev pub Passed : List (Type 0 × ℕ) → Type 0
Passed [] = Unit {0}
Passed (t ∷ ts) = t.0 × Passed ts

-- n is the number of the first that fails
abbrev pub Refused : List (Type 0 × ℕ) → ℕ → Type 0
Refused [] n = ⊥
Refused (t ∷ ts) n = ((t.0 → ⊥) × (n ≡ t.1)) ⊎ (t.0 × Refused ts n)
