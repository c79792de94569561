-- A table by numbers.
use Rattle.std.specs.Prelude.{ℕ}

-- how many tasks it has, and the times of each
pub record Table : Type 0 where
  pub tasks : ℕ
  pub wcet : ℕ → ℕ
  pub deadline : ℕ → ℕ
