-- The level of a task i is the tasks up to i. A combination is the set of its tasks that may be overloaded, as a test on their numbers.
use Rattle.std.specs.Prelude.{ℕ, suc, ◌+◌, ◌*◌, Bool, true, cond}
use Rattle.arrival.specs.declared.class.Class.TheVariants.{Typical, Overload}
use Rattle.arrival.specs.Meaning.{Meaning}
use Rattle.theory.specs.Least.{Least, Serves}
use Rattle.theory.specs.Sums.{total}

-- every task may be overloaded
abbrev pub every : ℕ → Bool
every j = true

-- at most so many jobs of task j are released in a window of length w: overload counts only within the combination
abbrev pub arrivals : Meaning → (ℕ → Bool) → ℕ → ℕ → ℕ
arrivals m c j w = m.count j Typical w + cond (c j) (m.count j Overload w) 0

-- the work that the tasks below n bring in a window of length w at most
abbrev pub demand : Meaning → (ℕ → ℕ) → (ℕ → Bool) → ℕ → ℕ → ℕ
demand m wcet c n w = total (λ j. wcet j * arrivals m c j w) n

-- the work of a whole level
abbrev pub level_load : Meaning → (ℕ → ℕ) → (ℕ → Bool) → ℕ → ℕ → ℕ
level_load m wcet c i w = demand m wcet c (suc i) w

-- the work of q jobs of task i and of the tasks before it
abbrev pub position_load : Meaning → (ℕ → ℕ) → (ℕ → Bool) → ℕ → ℕ → ℕ → ℕ
position_load m wcet c i q t = q * wcet i + demand m wcet c i t

-- L: the length of the longest busy window of the level
abbrev pub BusyLength : Meaning → (ℕ → ℕ) → (ℕ → Bool) → ℕ → ℕ → Type 0
BusyLength m wcet c i = Least (Serves (level_load m wcet c i))
