-- A set of tasks with one more.
use Rattle.std.specs.Prelude.{ℕ, ◌+◌, ◌^◌, cond, not, ◌&&◌, nat_lt}
use Rattle.theory.specs.Sets.{member}

-- the set s with task j; it stays where it has j, or where no table has such a task
abbrev pub added : ℕ → ℕ → ℕ
added s j = cond (nat_lt j 32 && not (member s j)) (s + 2 ^ j) s
