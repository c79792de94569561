-- The service rule: among the waiting places below n, the one of the smallest task, and of these the first.
use Rattle.std.specs.Prelude.{◌≡◌, ℕ, ◌<◌, ◌≤◌, Option, MatchOption}

pub record First (n : ℕ) (waits : ℕ → Type 0) (task : ℕ → ℕ) (j : ℕ) : Type 0 where
  pub within : j < n
  pub waiting : waits j
  pub smallest : (i : ℕ) → i < n → waits i → task j ≤ task i
  pub earliest : (i : ℕ) → i < n → waits i → task i ≡ task j → j ≤ i

-- o is the place that is served; none exactly if none waits
abbrev pub Served : ℕ → (ℕ → Type 0) → (ℕ → ℕ) → Option ℕ → Type 0
Served n waits task o = MatchOption o ((i : ℕ) → i < n → waits i → ⊥) (First n waits task)
