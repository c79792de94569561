-- What the calls read off a log, and what they write to it.
use Rattle.std.specs.Prelude.{◌≡◌, ℕ, ◌+◌, ◌-◌, ◌<◌, ◌≤◌, Bool, true, false, cond, ◌&&◌, ◌||◌, List, ◌++◌, map, length, take, drop, Some, None, count_by, Option, ◌==◌, nat_lt, slice_index_or, slice_set}
use Rattle.arrival.specs.declared.class.Class.{Class}
use Rattle.arrival.specs.declared.class.Class.TheVariants.{Typical}
use Rattle.theory.specs.Conforming.{same_class}
use Rattle.dispatch.specs.declared.record.JobRecord.{JobRecord}

-- what is read behind the end of a log
abbrev pub no_record : JobRecord
no_record = record { task = 0; class = Typical; release = 0; due = 0; work = 0; left = 0; finish = 0; late = false }

abbrev pub record_at : List JobRecord → ℕ → JobRecord
record_at log j = slice_index_or log j no_record

abbrev pub is_task : ℕ → JobRecord → Bool
is_task i g = g.task == i

abbrev pub is_kind : ℕ → Class → JobRecord → Bool
is_kind i k g = is_task i g && same_class k g.class

-- From each record g of the kind on, the records of the kind and a new one do not exceed the count for the window from the release of
-- g up to and with the clock. A release after the clock is read as the clock.
abbrev pub WindowsAllow : (ℕ → ℕ) → ℕ → (JobRecord → Bool) → List JobRecord → Type 0
WindowsAllow count clock kind log =
    (g : ℕ) → g < length log → kind (record_at log g) ≡ true → count_by kind (drop g log) + 1 ≤ count (1 + (clock - (record_at log g).release))

-- one more job of the kind is allowed at the clock, behind the jobs of the log
pub record Allowed (count : ℕ → ℕ) (clock : ℕ) (kind : JobRecord → Bool) (log : List JobRecord) : Type 0 where
  pub alone : 1 ≤ count 1
  pub windows : WindowsAllow count clock kind log

-- the record at place j has units left
abbrev pub waits : List JobRecord → ℕ → Type 0
waits log j = 0 < (record_at log j).left

abbrev pub task_at : List JobRecord → ℕ → ℕ
task_at log j = (record_at log j).task

-- one unit less; the last one ends the job at clock t
abbrev pub unit_served : ℕ → JobRecord → JobRecord
unit_served t g = record {
  task = g.task;
  class = g.class;
  release = g.release;
  due = g.due;
  work = g.work;
  left = g.left - 1;
  finish = cond (g.left == 1) t g.finish;
  late = g.late;
}

-- finished after its due tick, or unfinished at a clock t past it
abbrev pub is_late : ℕ → JobRecord → Bool
is_late t g = cond (g.left == 0) (nat_lt g.due g.finish) (nat_lt g.due t)

-- marked if it is late at clock t; a mark is never cleared
abbrev pub marked : ℕ → JobRecord → JobRecord
marked t g = record {
  task = g.task;
  class = g.class;
  release = g.release;
  due = g.due;
  work = g.work;
  left = g.left;
  finish = g.finish;
  late = g.late || is_late t g;
}

-- the log after a unit of the record at the served place
abbrev pub served_log : ℕ → List JobRecord → Option ℕ → List JobRecord
served_log t log None = log
served_log t log (Some j) = slice_set log j (unit_served t (record_at log j))

-- the log after the first n records are marked
abbrev pub marked_log : ℕ → ℕ → List JobRecord → List JobRecord
marked_log t n log = map (marked t) (take n log) ++ drop n log
