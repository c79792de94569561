-- In every execution the log follows the one schedule that keeps the service rule.
use Rattle.std.proofs.Common.{◌≡◌, ℕ, suc, ◌+◌, ◌<◌, ◌≤◌, false, List, [], ◌∷◌, ◌++◌, length, set, Some, None, Ok, Err, Option, sym, refl, ap, ◌∙◌, subst, ⊎_elim, arith}
use Rattle.std.proofs.lemmas.Bool.{cases_eq, cond-true, cond-false, eq-eqb, ne_eqb}
use Rattle.std.proofs.lemmas.Grind.{common_steps}
use Rattle.std.proofs.lemmas.List.{length-take, length-drop, length_push, length-set, length-map, length-take-le, length-append, get_or-set_same, get_or-set_other, get_or-take, get_or-map, get_or_append_left}
use Rattle.arrival.specs.declared.class.Class.{Class}
use Rattle.arrival.specs.Meaning.{Meaning}
use Rattle.loads.specs.Tables.{table_of}
use Rattle.tables.specs.Tables.{ClosedTable, tasks_of}
use Rattle.theory.specs.Service.{Served}
use Rattle.theory.specs.Schedules.{Job, job, Schedule, done, Unfinished}
use Rattle.dispatch.specs.declared.record.JobRecord.{JobRecord}
use Rattle.dispatch.specs.declared.run.Run.{Run}
use Rattle.dispatch.specs.Calls.{Fresh, Unchanged, Enters, Advances, new_record}
use Rattle.dispatch.specs.Executions.{Execution, starts, goes_on, Step, releases, ticks, Call, release, tick, Event, accepted, refused, LogAgrees, clock_of, jobs_of, recorded}
use Rattle.dispatch.specs.Records.{no_record, record_at, waits, task_at, served_log, marked, unit_served, marked_log}
use Rattle.dispatch.proofs.Schedules.{one-schedule, silent, each-job, keeps_push, unit, extend, extend-done, extend-more, keeps-tick}
use Rattle.dispatch.proofs.Turns.{served_alike}
use Rattle.dispatch.proofs.Units.{with_fields, recorded-served, recorded_other, recorded_new, recorded_same}

-- no job is released after the clock
pub released_by : (es : List Event) (j : ℕ) → j < length (jobs_of es) → (job (jobs_of es) j).release ≤ clock_of es
released_by [] j h = absurd (omega arith)
released_by (accepted (release i k w) ∷ es) j h =
    each-job (jobs_of es) (record { task = i; class = k; release = clock_of es; work = w }) (λ _ x. x.release ≤ clock_of es) (released_by es) (omega arith) j h
released_by (accepted tick ∷ es) j h = let ih = released_by es j h in omega arith
released_by (refused call ∷ es) j h = released_by es j h

abbrev deadlines : ClosedTable → ℕ → ℕ
deadlines table = (table_of (tasks_of table)).deadline

begun : (table : ClosedTable) (run : Run) (log : List JobRecord) → Fresh table run → LogAgrees table [] run log
begun table run log f = record {
  same_table = f.same_table;
  clock = f.clock;
  entered = f.entered;
  room = omega arith;
  schedule = record { served = λ t. None; keeps = λ t h. absurd (omega arith); only = λ r o t h. absurd (omega arith) };
  records = λ j h. absurd (omega arith);
}

-- what a tick writes
get_d_marked : (t n j : ℕ) (xs : List JobRecord) → n ≤ length xs → j < n → record_at (marked_log t n xs) j ≡ marked t (record_at xs j)
get_d_marked t n j xs le h = grind (arith, common_steps, get_or_append_left, get_or-map, get_or-take, length-take-le, length-map)

length-served : (t : ℕ) (xs : List JobRecord) (o : Option ℕ) → length (served_log t xs o) ≡ length xs
length-served t xs None = refl
length-served t xs (Some i) = length-set xs i _

length_marked : (t n : ℕ) (xs : List JobRecord) → length (marked_log t n xs) ≡ length xs
length_marked t n xs = simp (length-append, length-map, length-take, length-drop) (omega arith)

module _ (dl : ℕ → ℕ) (jobs : List Job) (s : Schedule) (c : ℕ) (log : List JobRecord) (room : length jobs ≤ length log)
    (records : (j : ℕ) → j < length jobs → record_at log j ≡ recorded dl (job jobs j) (done s j) c) where
  -- the place that a tick serves is the one whose turn it is
  in_turn : ((j : ℕ) → j < length jobs → (job jobs j).release ≤ c) → (o : Option ℕ) → Served (length jobs) (waits log) (task_at log) o
      → Served (length jobs) (Unfinished jobs s c) (λ j. (job jobs j).task) o
  in_turn by =
      served_alike (length jobs) (waits log) (Unfinished jobs s c) (task_at log) (λ j. (job jobs j).task)
      (λ j h w. (by j h, omega (arith, w, ap (λ (g : JobRecord). g.left) (records j h))))
      (λ j h u. omega (arith, u.1, ap (λ (g : JobRecord). g.left) (records j h)))
      (λ j h. ap (λ (g : JobRecord). g.task) (records j h))

  module _ (j : ℕ) (h : j < length jobs) where
    before : (o : Option ℕ) → record_at log j ≡ recorded dl (job jobs j) (done (extend s c o) j) c
    before o = records j h ∙ recorded_same dl (job jobs j) (done s j) (done (extend s c o) j) c (λ t le. sym (extend-done s c o j t le))

    stays : (o : Option ℕ) → unit o j ≡ 0 → marked (suc c) (record_at log j) ≡ recorded dl (job jobs j) (done (extend s c o) j) (suc c)
    stays o none =
        ap (marked (suc c)) (before o) ∙ recorded_other dl (job jobs j) (done (extend s c o) j) c (omega (arith, none, extend-more s c o j))

    after-tick : (o : Option ℕ) → Served (length jobs) (Unfinished jobs s c) (λ k. (job jobs k).task) o
        → marked (suc c) (record_at (served_log (suc c) log o) j) ≡ recorded dl (job jobs j) (done (extend s c o) j) (suc c)
    after-tick None turn = stays None refl
    after-tick (Some i) turn =
        let o : Option ℕ = Some i in
        let served = unit_served (suc c) (record_at log i) in
        ⊎_elim
        (λ same.
        let here : i < length log = omega (arith, turn.within) in
        let at : record_at (set log i served) j ≡ unit_served (suc c) (record_at log j) =
        subst (λ k. record_at (set log i served) k ≡ unit_served (suc c) (record_at log k)) same (get_or-set_same log i served no_record here) in
        let less : done s j c < (job jobs j).work = subst (λ k. done s k c < (job jobs k).work) same turn.waiting.1 in
        let one : unit o j ≡ 1 = cond-true _ 1 0 (eq-eqb i j same) in
        ap (marked (suc c)) (at ∙ ap (unit_served (suc c)) (before o))
        ∙ recorded-served dl (job jobs j) (done (extend s c o) j) c (omega (arith, less, extend-done s c o j c (omega arith))) (omega (arith, one, extend-more s c o j)))
        (λ differ.
        ap (marked (suc c)) (get_or-set_other log i j served no_record (λ e. differ (sym e))) ∙ stays o (cond-false _ 1 0 (ne_eqb i j differ)))
        (cases_eq i j)

module _ (table : ClosedTable) (es : List Event) (run : Run) (log : List JobRecord) (f : LogAgrees table es run log) (run' : Run) (log' : List JobRecord) where
  kept : (call : Call) → Unchanged run log run' log' → LogAgrees table (refused call ∷ es) run' log'
  kept call u = record {
    same_table = ap (λ (r : Run). r.table) u.same_run ∙ f.same_table;
    clock = ap (λ (r : Run). r.clock) u.same_run ∙ f.clock;
    entered = ap (λ (r : Run). r.entered) u.same_run ∙ f.entered;
    room = subst (λ xs. length (jobs_of es) ≤ length xs) (sym u.same_log) f.room;
    schedule = f.schedule;
    records = λ j h. ap (λ xs. record_at xs j) u.same_log ∙ f.records j h;
  }

  one_more : (m : Meaning) (task : ℕ) (class : Class) (work r : ℕ) → Enters m run log task class work r run' log'
      → LogAgrees table (accepted (release task class work) ∷ es) run' log'
  one_more m task class work r e =
      let jobs = jobs_of es in
      let c = clock_of es in
      let dl = deadlines table in
      let s = f.schedule.served in
      let n = length jobs in
      let x : Job = record { task = task; class = class; release = c; work = work } in
      let new = new_record run task class work in
      let push = length_push jobs x in
      let len : length log' ≡ length log = ap length e.after ∙ length-set log run.entered new in
      let inside : n < length log = omega (arith, f.entered, e.passed.1.1.1.0) in
      let keeps = keeps_push jobs x s c (omega arith) f.schedule.keeps in
      let fresh : new ≡ with_fields dl x work 0 false =
      λ i. record { task = task; class = class; release = f.clock i; due = f.clock i + deadlines (f.same_table i) task; work = work; left = work; finish = 0; late = false } in
      record {
        same_table = e.same_table ∙ f.same_table;
        clock = e.clock ∙ f.clock;
        entered = e.entered ∙ ap (λ k. k + 1) f.entered ∙ sym push;
        room = omega arith;
        schedule = record { served = s; keeps = keeps; only = λ other o. one-schedule (jobs ++ x ∷ []) s other c keeps o };
        records = each-job jobs x (λ j y. record_at log' j ≡ recorded dl y (done s j) c)
            (λ j lt. ap (λ xs. record_at xs j) e.after ∙ get_or-set_other log run.entered j new no_record (λ q. omega (arith, q, f.entered)) ∙ f.records j lt)
            (ap (λ xs. record_at xs n) (e.after ∙ ap (λ k. set log k new) f.entered)
            ∙ get_or-set_same log n new no_record inside
            ∙ fresh
            ∙ recorded_new dl x (done s n) (λ t le. silent jobs s c f.schedule.keeps n (omega arith) t le) e.passed.1.1.0.0);
      }

  one-tick : (r : Option ℕ) → Advances run log r run' log' → LogAgrees table (accepted tick ∷ es) run' log'
  one-tick r a =
      let jobs = jobs_of es in
      let c = clock_of es in
      let n = length jobs in
      let s = f.schedule.served in
      let o = a.serves.place in
      let clk : run.clock + 1 ≡ suc c = omega (arith, f.clock) in
      let l : log' ≡ marked_log (suc c) n (served_log (suc c) log o) =
      a.after ∙ ap (marked_log (run.clock + 1) run.entered) a.serves.after ∙ λ i. marked_log (clk i) (f.entered i) (served_log (clk i) log o) in
      let turn = in_turn (deadlines table) jobs s c log f.room f.records (released_by es) o (subst (λ k. Served k (waits log) (task_at log) o) f.entered a.serves.rule) in
      let keeps = keeps-tick s c o jobs f.schedule.keeps turn in
      let len : length (served_log (suc c) log o) ≡ length log = length-served (suc c) log o in
      let len' : length log' ≡ length log = ap length l ∙ length_marked (suc c) n _ ∙ len in
      record {
        same_table = a.same_table ∙ f.same_table;
        clock = a.clock ∙ clk;
        entered = a.entered ∙ f.entered;
        room = omega (arith, f.room);
        schedule = record { served = extend s c o; keeps = keeps; only = λ other p. one-schedule jobs (extend s c o) other (suc c) keeps p };
        records = λ j h.
            ap (λ xs. record_at xs j) l ∙ get_d_marked (suc c) n j (served_log (suc c) log o) (omega (arith, f.room)) h
            ∙ after-tick (deadlines table) jobs s c log f.room f.records j h o turn;
      }

step : (m : Meaning) (table : ClosedTable) (es : List Event) (run : Run) (log : List JobRecord) {e : Event} {run' : Run} {log' : List JobRecord}
    → LogAgrees table es run log → Step m run log e run' log' → LogAgrees table (e ∷ es) run' log'
step m table es run log f (releases task class work (Ok r) run' log' e) = one_more table es run log f run' log' m task class work r e
step m table es run log f (releases task class work (Err x) run' log' e) = kept table es run log f run' log' (release task class work) e.1
step m table es run log f (ticks (Ok r) run' log' e) = one-tick table es run log f run' log' r e
step m table es run log f (ticks (Err x) run' log' e) = kept table es run log f run' log' tick e.1

agrees : (m : Meaning) (table : ClosedTable) {es : List Event} {run : Run} {log : List JobRecord} → Execution m table es run log → LogAgrees table es run log
agrees m table (starts run log fresh) = begun table run log fresh
agrees m table (goes_on es run log e run' log' x s) = step m table es run log (agrees m table x) s

pub log_agrees : (m : Meaning) (table : ClosedTable) (es : List Event) (run : Run) (log : List JobRecord) → Execution m table es run log → LogAgrees table es run log
log_agrees m table es run log x = agrees m table x

-- a run has its clock within the limit
pub clock_low : (m : Meaning) (table : ClosedTable) (es : List Event) (run : Run) (log : List JobRecord) → Execution m table es run log → clock_of es ≤ 1000000000
clock_low m table es run log x = subst (λ c. c ≤ 1000000000) (agrees m table x).clock run.clock_end
