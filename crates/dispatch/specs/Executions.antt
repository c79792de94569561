-- An execution: what happens to one run and one log from the start on, and what is promised of it.
use Rattle.std.specs.Prelude.{◌≡◌, ℕ, suc, ◌-◌, ◌<◌, ◌≤◌, Bool, true, false, List, [], ◌∷◌, ◌++◌, length, is_ok, Option, Result}
use Rattle.arrival.specs.declared.class.Class.{Class}
use Rattle.arrival.specs.Meaning.{Meaning, Lawful}
use Rattle.loads.specs.Tables.{table_of}
use Rattle.tables.specs.Tables.{ClosedTable, tasks_of}
use Rattle.theory.specs.Conforming.{Conforming}
use Rattle.theory.specs.Schedules.{AtMostLate, Job, job, KeepsRule, Schedule, done, due, finish, late}
use Rattle.dispatch.specs.declared.record.JobRecord.{JobRecord}
use Rattle.dispatch.specs.declared.refusal.Refusal.{Refusal}
use Rattle.dispatch.specs.declared.run.Run.{Run}
use Rattle.dispatch.specs.Calls.{Fresh, Released, Ticked}
use Rattle.dispatch.specs.Records.{record_at}

pub data Call : Type 0 where
  release : ℕ → Class → ℕ → Call
  tick : Call

-- a call, and whether it was accepted
pub data Event : Type 0 where
  accepted : Call → Event
  refused : Call → Event

abbrev pub event : Bool → Call → Event
event true call = accepted call
event false call = refused call

-- A call on a run and a log, as the contract of `release` or `tick` has it: what happened, and the run and the log that it leaves.
pub data Step (m : Meaning) (run : Run) (log : List JobRecord) : Event → Run → List JobRecord → Type 0 where
  releases : (task : ℕ) (class : Class) (work : ℕ) (r : Result ℕ Refusal) (run' : Run) (log' : List JobRecord)
      → Released m run log task class work r run' log' → Step m run log (event (is_ok r) (release task class work)) run' log'
  ticks : (r : Result (Option ℕ) Refusal) (run' : Run) (log' : List JobRecord)
      → Ticked run log r run' log' → Step m run log (event (is_ok r) tick) run' log'

-- An execution of a table under a model: a run just started, a log of any length and content, then any calls. It has what happened,
-- the newest first, and the run and the log that are left.
pub data Execution (m : Meaning) (table : ClosedTable) : List Event → Run → List JobRecord → Type 0 where
  starts : (run : Run) (log : List JobRecord) → Fresh table run → Execution m table [] run log
  goes_on : (es : List Event) (run : Run) (log : List JobRecord) (e : Event) (run' : Run) (log' : List JobRecord)
      → Execution m table es run log → Step m run log e run' log' → Execution m table (e ∷ es) run' log'

-- the number of accepted ticks
abbrev pub clock_of : List Event → ℕ
clock_of [] = 0
clock_of (accepted (release i k w) ∷ es) = clock_of es
clock_of (accepted tick ∷ es) = suc (clock_of es)
clock_of (refused call ∷ es) = clock_of es

-- the accepted releases in order, each released at the clock that it met
abbrev pub jobs_of : List Event → List Job
jobs_of [] = []
jobs_of (accepted (release i k w) ∷ es) = jobs_of es ++ record { task = i; class = k; release = clock_of es; work = w } ∷ []
jobs_of (accepted tick ∷ es) = jobs_of es
jobs_of (refused call ∷ es) = jobs_of es

-- the record of a job at clock c, of which `units t` are served before clock t; it is marked late exactly if the job is late
abbrev pub recorded : (ℕ → ℕ) → Job → (ℕ → ℕ) → ℕ → JobRecord
recorded deadline x units c = record {
  task = x.task;
  class = x.class;
  release = x.release;
  due = due deadline x;
  work = x.work;
  left = x.work - units c;
  finish = finish x.work units c;
  late = late deadline x units c;
}

-- a schedule of the jobs keeps the service rule up to the clock, and it is the only one
pub record Scheduled (jobs : List Job) (c : ℕ) : Type 0 where
  pub served : Schedule
  pub keeps : KeepsRule jobs served c
  pub only : (other : Schedule) → KeepsRule jobs other c → (t : ℕ) → t < c → other t ≡ served t

-- Table, clock and jobs are those of the calls, and the log holds each job as the one schedule serves it.
pub record LogAgrees (table : ClosedTable) (es : List Event) (run : Run) (log : List JobRecord) : Type 0 where
  pub same_table : run.table ≡ table
  pub clock : run.clock ≡ clock_of es
  pub entered : run.entered ≡ length (jobs_of es)
  pub room : length (jobs_of es) ≤ length log
  pub schedule : Scheduled (jobs_of es) (clock_of es)
  pub records : (j : ℕ) → j < length (jobs_of es)
      → record_at log j ≡ recorded (table_of (tasks_of table)).deadline (job (jobs_of es) j) (done schedule.served j) (clock_of es)

-- In every execution of the table under a lawful model the log agrees, and the jobs keep to the table and the model.
abbrev pub ExecutionsAgree : ClosedTable → Type 0
ExecutionsAgree table =
    (m : Meaning) → Lawful m → (es : List Event) (run : Run) (log : List JobRecord) → Execution m table es run log
    → LogAgrees table es run log × Conforming m (table_of (tasks_of table)) (jobs_of es) (clock_of es)

-- In every execution of the table under the model the log agrees, and of each sequence of up to k jobs of task i within S ticks, at
-- most a are late.
abbrev pub ExecutionPromise : Meaning → ClosedTable → ℕ → ℕ → ℕ → ℕ → Type 0
ExecutionPromise m table i k S a =
    (es : List Event) (run : Run) (log : List JobRecord) → Execution m table es run log
    → (f : LogAgrees table es run log)
    × AtMostLate (table_of (tasks_of table)).deadline (jobs_of es) f.schedule.served (clock_of es) i k S a
