-- Jobs and their service by places and ticks, and the busy windows of a level.
use Rattle.std.proofs.Common.{◌≡◌, ℕ, suc, ◌+◌, ◌^◌, ◌<◌, ◌≤◌, Bool, true, false, ◌&&◌, eqb, ltb, leb, ◌⊎◌}
use Rattle.arrival.specs.declared.class.Class.{Class}
use Rattle.arrival.specs.declared.class.Class.TheVariants.{Overload}
use Rattle.arrival.specs.Meaning.{Meaning}
use Rattle.theory.specs.Conforming.{same_class}
use Rattle.theory.specs.Sums.{count}
use Rattle.theory.specs.Tables.{Table}

-- Jobs by their places, in the order of entry; the tick from t to t + 1 serves the job at the place `served t`, which is no place where
-- the processor is idle.
pub record Trace : Type 0 where
  pub jobs : ℕ
  pub task : ℕ → ℕ
  pub class : ℕ → Class
  pub release : ℕ → ℕ
  pub work : ℕ → ℕ
  pub served : ℕ → ℕ
  pub clock : ℕ

-- the units of job j that are served before clock t
abbrev pub units : Trace → ℕ → ℕ → ℕ
units R j t = count (λ u. eqb (R.served u) j) t

-- released, and with units left at t
abbrev pub Pending : Trace → ℕ → ℕ → Type 0
Pending R j t = (j < R.jobs) × (R.release j ≤ t) × (units R j t < R.work j)

-- job g goes before job h, or is h
abbrev pub Before : Trace → ℕ → ℕ → Type 0
Before R g h = (R.task g < R.task h) ⊎ ((R.task g ≡ R.task h) × (g ≤ h))

-- each tick before the clock serves the first of the pending jobs
pub record Ruled (R : Trace) : Type 0 where
  pub ordered : (g h : ℕ) → g ≤ h → h < R.jobs → R.release g ≤ R.release h
  pub some_work : (j : ℕ) → j < R.jobs → 1 ≤ R.work j
  pub pending : (t : ℕ) → t < R.clock → R.served t < R.jobs → Pending R (R.served t) t
  pub first : (t : ℕ) → t < R.clock → (g : ℕ) → Pending R g t → (R.served t < R.jobs) × Before R (R.served t) g

-- of task i and class k, and released in the window of length w from tick u on
abbrev pub released : Trace → ℕ → Class → ℕ → ℕ → ℕ → Bool
released R i k u w j = (eqb (R.task j) i && same_class k (R.class j)) && (leb u (R.release j) && ltb (R.release j) (u + w))

-- the jobs keep to a model and a table
pub record Keeps (R : Trace) (m : Meaning) (t : Table) : Type 0 where
  pub rated : (i : ℕ) (k : Class) (u w : ℕ) → w < 2 ^ 32 → count (released R i k u w) R.jobs ≤ m.count i k w
  pub within_wcet : (j : ℕ) → j < R.jobs → R.work j ≤ t.wcet (R.task j)
  pub short : R.clock < 2 ^ 32

-- ---- the level of task i

-- released before s and unfinished at s
abbrev pub left_over : Trace → ℕ → ℕ → ℕ → Bool
left_over R i s j = leb (R.task j) i && (ltb (R.release j) s && ltb (units R j s) (R.work j))

abbrev pub backlog : Trace → ℕ → ℕ → ℕ
backlog R i s = count (left_over R i s) R.jobs

abbrev pub quiet : Trace → ℕ → ℕ → Bool
quiet R i s = eqb (backlog R i s) 0

-- s is the last quiet time up to r
pub record Start (R : Trace) (i r s : ℕ) : Type 0 where
  pub before : s ≤ r
  pub rest : quiet R i s ≡ true
  pub last : (u : ℕ) → s < u → u ≤ r → quiet R i u ≡ false

-- the busy window of job x: from s, the last quiet time up to its release, to e, the first one after it, or to the clock
pub record Window (R : Trace) (i x s e : ℕ) : Type 0 where
  pub start : Start R i (R.release x) s
  pub after : R.release x < e
  pub reached : e ≤ R.clock
  pub busy : (u : ℕ) → R.release x < u → u < e → quiet R i u ≡ false
  pub ends : (quiet R i e ≡ true) ⊎ (e ≡ R.clock)

-- c has each task up to i of which an overload job is released from s on and before e
abbrev pub Covers : Trace → ℕ → (ℕ → Bool) → ℕ → ℕ → Type 0
Covers R i c s e = (j : ℕ) → j < R.jobs → R.task j ≤ i → R.class j ≡ Overload → s ≤ R.release j → R.release j < e → c (R.task j) ≡ true

-- the position of job x in a window from s on: itself and the jobs of its task before it
abbrev pub position : Trace → ℕ → ℕ → ℕ
position R s x = count (λ j. eqb (R.task j) (R.task x) && leb s (R.release j)) (suc x)

-- the clock is past the due tick of job x, at which it had units left
abbrev pub Late : Trace → ℕ → ℕ → Type 0
Late R deadline x = (R.release x + deadline < R.clock) × (units R x (R.release x + deadline) < R.work x)
