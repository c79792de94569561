-- Least numbers, and lengths that serve a load.
use Rattle.std.specs.Prelude.{ℕ, ◌^◌, ◌<◌, ◌≤◌}

-- n is the least number of which P holds
abbrev pub Least : (ℕ → Type 0) → ℕ → Type 0
Least P n = P n × ((v : ℕ) → v < n → P v → ⊥)

-- all work that is due within a window of length w fits into the window
abbrev pub Serves : (ℕ → ℕ) → ℕ → Type 0
Serves load w = (1 ≤ w) × (load w ≤ w)

-- a load is never smaller at a longer length; lengths have 32 bits
abbrev pub Rises : (ℕ → ℕ) → Type 0
Rises load = (v w : ℕ) → v ≤ w → w < 2 ^ 32 → load v ≤ load w
