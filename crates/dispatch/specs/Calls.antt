-- What a release and a tick answer, and what they leave, on a log of any content and length.
use Rattle.std.specs.Prelude.{◌≡◌, ℕ, ◌+◌, ◌<◌, ◌≤◌, false, List, [], ◌∷◌, length, take, Ok, Err, count_by, Option, Result, slice_set}
use Rattle.std.specs.Option.{option_map}
use Rattle.arrival.specs.declared.class.Class.{Class}
use Rattle.arrival.specs.Meaning.{Meaning}
use Rattle.base.specs.Tests.{Passed, Refused}
use Rattle.loads.specs.Tables.{table_of}
use Rattle.tables.specs.Tables.{ClosedTable, tasks_of}
use Rattle.theory.specs.Service.{Served}
use Rattle.dispatch.specs.declared.record.JobRecord.{JobRecord}
use Rattle.dispatch.specs.declared.refusal.Refusal.{Refusal}
use Rattle.dispatch.specs.declared.run.Run.{Run}
use Rattle.dispatch.specs.Records.{Allowed, is_kind, is_task, marked_log, served_log, task_at, waits}
use Rattle.dispatch.specs.Refusals.{refusal_number}

-- a run that was just started
pub record Fresh (table : ClosedTable) (run : Run) : Type 0 where
  pub same_table : run.table ≡ table
  pub clock : run.clock ≡ 0
  pub entered : run.entered ≡ 0

-- a refusal changes nothing
pub record Unchanged (run : Run) (log : List JobRecord) (run' : Run) (log' : List JobRecord) : Type 0 where
  pub same_run : run' ≡ run
  pub same_log : log' ≡ log

-- the record of a job that is released at the clock
abbrev pub new_record : Run → ℕ → Class → ℕ → JobRecord
new_record run task class work = record {
  task = task;
  class = class;
  release = run.clock;
  due = run.clock + (table_of (tasks_of run.table)).deadline task;
  work = work;
  left = work;
  finish = 0;
  late = false;
}

module _ (m : Meaning) (run : Run) (log : List JobRecord) (task : ℕ) (class : Class) (work : ℕ) where
  -- each with the number of its refusal
  abbrev pub release_tests : List (Type 0 × ℕ)
  release_tests =
      (m.tasks ≡ length (tasks_of run.table), 41)
      ∷ (task < length (tasks_of run.table), 42)
      ∷ ((1 ≤ work) × (work ≤ (table_of (tasks_of run.table)).wcet task), 43)
      ∷ (run.entered < length log, 44)
      ∷ (Allowed (m.count task class) run.clock (is_kind task class) (take run.entered log), 45)
      ∷ []

  -- The next record is written, and the answer is how many entered records are now of the task.
  pub record Enters (r : ℕ) (run' : Run) (log' : List JobRecord) : Type 0 where
    pub passed : Passed release_tests
    pub after : log' ≡ slice_set log run.entered (new_record run task class work)
    pub entered : run'.entered ≡ run.entered + 1
    pub answer : r ≡ count_by (is_task task) (take run'.entered log')
    pub clock : run'.clock ≡ run.clock
    pub same_table : run'.table ≡ run.table

  abbrev pub Released : Result ℕ Refusal → Run → List JobRecord → Type 0
  Released (Ok r) run' log' = Enters r run' log'
  Released (Err e) run' log' = Refused release_tests (refusal_number e) × Unchanged run log run' log'

-- The one of the first n records whose turn it is by the service rule has a unit served, up to clock t, and the answer is its task.
-- Where none of them has units left, none is served. The rule leaves one choice.
pub record ServesTurn (t n : ℕ) (log : List JobRecord) (r : Option ℕ) (log' : List JobRecord) : Type 0 where
  pub place : Option ℕ
  pub rule : Served n (waits log) (task_at log) place
  pub answer : r ≡ option_map (task_at log) place
  pub after : log' ≡ served_log t log place

module _ (run : Run) (log : List JobRecord) where
  abbrev pub tick_tests : List (Type 0 × ℕ)
  tick_tests = (run.entered ≤ length log, 46) ∷ (run.clock < 1000000000, 47) ∷ []

  -- The entered record whose turn it is has a unit served, the clock moves, and the entered records that are late are marked.
  pub record Advances (r : Option ℕ) (run' : Run) (log' : List JobRecord) : Type 0 where
    pub passed : Passed tick_tests
    pub between : List JobRecord
    pub serves : ServesTurn (run.clock + 1) run.entered log r between
    pub after : log' ≡ marked_log (run.clock + 1) run.entered between
    pub clock : run'.clock ≡ run.clock + 1
    pub entered : run'.entered ≡ run.entered
    pub same_table : run'.table ≡ run.table

  abbrev pub Ticked : Result (Option ℕ) Refusal → Run → List JobRecord → Type 0
  Ticked (Ok r) run' log' = Advances r run' log'
  Ticked (Err e) run' log' = Refused tick_tests (refusal_number e) × Unchanged run log run' log'
