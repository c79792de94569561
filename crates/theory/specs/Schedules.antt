-- Jobs on one processor: what a schedule serves, and which jobs are late.
use Rattle.std.specs.Prelude.{◌≡◌, ℕ, zero, suc, ◌+◌, ◌<◌, ◌≤◌, Bool, false, cond, ◌&&◌, List, length, Some, None, Option, ◌==◌, nat_le, nat_lt, slice_index_or}
use Rattle.arrival.specs.declared.class.Class.{Class}
use Rattle.arrival.specs.declared.class.Class.TheVariants.{Typical}
use Rattle.theory.specs.Service.{Served}
use Rattle.theory.specs.Sums.{count}

pub record Job : Type 0 where
  pub task : ℕ
  pub class : Class
  pub release : ℕ
  pub work : ℕ

-- the job at a place; jobs are listed in the order of their entry
abbrev pub job : List Job → ℕ → Job
job jobs j = slice_index_or jobs j (record { task = 0; class = Typical; release = 0; work = 0 })

-- which job the tick from t to t + 1 serves, by its place; none where the processor is idle
abbrev pub Schedule : Type 0
Schedule = ℕ → Option ℕ

abbrev pub serves : Option ℕ → ℕ → Bool
serves None j = false
serves (Some i) j = i == j

-- the units of job j that are served before clock t
abbrev pub done : Schedule → ℕ → ℕ → ℕ
done served j t = count (λ u. serves (served u) j) t

-- at clock t job j is released and has units left
abbrev pub Unfinished : List Job → Schedule → ℕ → ℕ → Type 0
Unfinished jobs served t j = ((job jobs j).release ≤ t) × (done served j t < (job jobs j).work)

-- Each tick before clock c serves one unit of the unfinished job of the smallest task, and of these the one entered first; it is
-- idle where no job is unfinished.
abbrev pub KeepsRule : List Job → Schedule → ℕ → Type 0
KeepsRule jobs served c = (t : ℕ) → t < c → Served (length jobs) (Unfinished jobs served t) (λ j. (job jobs j).task) (served t)

-- The clock, up to c, at which a job of this work has its last unit served, where `units t` are served before clock t; 0 while it
-- is unfinished.
abbrev pub finish : ℕ → (ℕ → ℕ) → ℕ → ℕ
finish work units zero = 0
finish work units (suc t) = cond (nat_lt (units t) work && nat_le work (units (suc t))) (suc t) (finish work units t)

-- the due tick; deadlines go by task
abbrev pub due : (ℕ → ℕ) → Job → ℕ
due deadline x = x.release + deadline x.task

-- at clock c the job is unfinished and the clock is past its due tick, or it has finished after its due tick
abbrev pub late : (ℕ → ℕ) → Job → (ℕ → ℕ) → ℕ → Bool
late deadline x units c = cond (nat_lt (units c) x.work) (nat_lt (due deadline x) c) (nat_lt (due deadline x) (finish x.work units c))

-- place j has a job of task i, not before place a
abbrev pub from_place : List Job → ℕ → ℕ → ℕ → Bool
from_place jobs i a j = nat_le a j && (job jobs j).task == i

-- The consecutive jobs of task i from place a to place b: at most k, the first and the last released at most S apart.
pub record Sequence (jobs : List Job) (i k S a b : ℕ) : Type 0 where
  pub order : a ≤ b
  pub within : b < length jobs
  pub first : (job jobs a).task ≡ i
  pub last : (job jobs b).task ≡ i
  pub few : count (from_place jobs i a) (suc b) ≤ k
  pub near : (job jobs b).release ≤ (job jobs a).release + S

-- how many of these jobs are late at clock c
abbrev pub late_count : (ℕ → ℕ) → List Job → Schedule → ℕ → ℕ → ℕ → ℕ → ℕ
late_count deadline jobs served c i a b =
    count (λ j. from_place jobs i a j && late deadline (job jobs j) (done served j) c) (suc b)

-- of each sequence of up to k jobs of task i within S ticks, at most n are late at clock c
abbrev pub AtMostLate : (ℕ → ℕ) → List Job → Schedule → ℕ → ℕ → ℕ → ℕ → ℕ → Type 0
AtMostLate deadline jobs served c i k S n = (a b : ℕ) → Sequence jobs i k S a b → late_count deadline jobs served c i a b ≤ n
