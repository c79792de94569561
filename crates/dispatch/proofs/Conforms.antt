-- The jobs of every execution keep to the table and the model.
use Rattle.std.proofs.Common.{◌≡◌, ℕ, suc, ◌+◌, ◌-◌, ◌^◌, ◌<◌, ◌≤◌, Bool, true, cond, eqb, List, [], ◌∷◌, ◌++◌, map, length, take, Ok, Err, count_by, sym, refl, ap, ◌∙◌, subst, ⊎_elim, arith}
use Rattle.std.proofs.lemmas.List.Sums.{sum_by-cons, sum_by_push}
use Rattle.std.proofs.lemmas.Bool.Decides.{nat_tests}
use Rattle.std.proofs.lemmas.Bool.{cases_Bool, and_from, cond-true, cond-false, eqb-true}
use Rattle.std.proofs.lemmas.List.{length_push, length-take-le, length-map, get_or-map, get_or-take, ext_get_or}
use Rattle.arrival.specs.declared.class.Class.{Class}
use Rattle.arrival.specs.declared.class.Class.TheVariants.{Typical, Overload}
use Rattle.arrival.specs.Meaning.{Meaning, Monotone, Lawful}
use Rattle.loads.specs.Tables.{table_of}
use Rattle.tables.specs.Tables.{ClosedTable, tasks_of}
use Rattle.theory.specs.Conforming.{Conforming, in_window, same_class}
use Rattle.theory.specs.Schedules.{Job, job}
use Rattle.dispatch.specs.declared.record.JobRecord.{JobRecord}
use Rattle.dispatch.specs.declared.run.Run.{Run}
use Rattle.dispatch.specs.Calls.{Enters}
use Rattle.dispatch.specs.Executions.{Execution, starts, goes_on, Step, releases, ticks, release, tick, Event, accepted, refused, LogAgrees, clock_of, jobs_of, ExecutionsAgree}
use Rattle.dispatch.specs.Records.{no_record, is_kind, WindowsAllow}
use Rattle.dispatch.proofs.Agrees.{log_agrees, released_by}
use Rattle.dispatch.proofs.Counts.{count_le, count_map, count_places}
use Rattle.dispatch.proofs.Schedules.{each-job}

same_from_test : (a b : Class) → same_class a b ≡ true → a ≡ b
same_from_test Typical Typical e = refl
same_from_test Typical Overload e = cc
same_from_test Overload Typical e = cc
same_from_test Overload Overload e = refl

-- jobs are entered in the order of their releases
ordered : (es : List Event) (g h : ℕ) → g ≤ h → h < length (jobs_of es) → (job (jobs_of es) g).release ≤ (job (jobs_of es) h).release
ordered [] g h le less = absurd (omega arith)
ordered (accepted (release i k w) ∷ es) g h le less =
    let x : Job = record { task = i; class = k; release = clock_of es; work = w } in
    let jobs = jobs_of es in
    let push = length_push jobs x in
    each-job jobs x (λ b y. (a : ℕ) → a ≤ b → (job (jobs ++ x ∷ []) a).release ≤ y.release)
    (λ b lt a le. each-job jobs x (λ a y. a ≤ b → y.release ≤ (job jobs b).release) (λ a _ le. ordered es a b le lt) (λ le. absurd (omega arith)) a (omega arith) le)
    (λ a le. each-job jobs x (λ _ y. y.release ≤ clock_of es) (released_by es) (omega arith) a (omega arith))
    h less g le
ordered (accepted tick ∷ es) g h le less = ordered es g h le less
ordered (refused call ∷ es) g h le less = ordered es g h le less

abbrev job_of : JobRecord → Job
job_of g = record { task = g.task; class = g.class; release = g.release; work = g.work }

-- what a job in a window is
record Inside (i : ℕ) (k : Class) (u w : ℕ) (x : Job) : Type 0 where
  pub task : eqb x.task i ≡ true
  pub class : same_class k x.class ≡ true
  pub from : u ≤ x.release
  pub before : x.release < u + w

inside : (i : ℕ) (k : Class) (u w : ℕ) (x : Job) → in_window i k u w x ≡ true → Inside i k u w x
inside i k u w x e = record { task = grind (arith, nat_tests); class = grind (arith, nat_tests); from = grind (arith, nat_tests); before = grind (arith, nat_tests) }

-- a window up to and with the clock has room for one more
module _ (m : Meaning) (rises : Monotone m) (i : ℕ) (k : Class) (clock u w : ℕ) (low : u ≤ clock) (high : clock < u + w) (fits : w < 2 ^ 32) (one : 1 ≤ m.count i k 1) where
  abbrev here : JobRecord → Bool
  here g = in_window i k u w (job_of g)

  of_kind : (g : JobRecord) → here g ≡ true → is_kind i k g ≡ true
  of_kind g e = let at = inside i k u w (job_of g) e in and_from _ _ at.task at.class

  room_left : (gs : List JobRecord) → WindowsAllow (m.count i k) clock (is_kind i k) gs → count_by here gs + 1 ≤ m.count i k w
  room_left [] all = omega (arith, one, rises i k 1 w (omega arith) fits)
  room_left (g ∷ gs) all =
      let cons = sum_by-cons (λ (x : JobRecord). cond (here x) 1 0) g gs in
      ⊎_elim
      (λ yes.
      let at = inside i k u w (job_of g) yes in
      omega (arith, count_le (is_kind i k) here of_kind (g ∷ gs), all 0 (omega arith) (of_kind g yes), rises i k (1 + (clock - g.release)) w (omega (arith, at.from)) fits))
      (λ no. let p = cond-false {A = ℕ} (here g) 1 0 no in omega (arith, room_left gs (λ a less. all (suc a) (omega arith))))
      (cases_Bool (here g))

abbrev Rated : Meaning → List Job → Type 0
Rated m jobs = (i : ℕ) (k : Class) (u w : ℕ) → w < 2 ^ 32 → count_by (in_window i k u w) jobs ≤ m.count i k w

module _ (table : ClosedTable) (es : List Event) (run : Run) (log : List JobRecord) (f : LogAgrees table es run log) where
  -- the entered records are those of the jobs
  logged : map job_of (take run.entered log) ≡ jobs_of es
  logged =
      let n = length (jobs_of es) in
      let xs = take n log in
      let long = length-take-le n log f.room in
      ap (λ k. map job_of (take k log)) f.entered
      ∙ ext_get_or (job_of no_record) (map job_of xs) (jobs_of es) (length-map xs job_of ∙ long)
      (λ j h. let there : j < length xs = omega (arith, length-map xs job_of) in
      let less : j < n = omega arith in
      get_or-map job_of xs j no_record (job_of no_record) there ∙ ap job_of (get_or-take n log j no_record less ∙ f.records j less))

  rated-more : (m : Meaning) → Monotone m → (task : ℕ) (class : Class) (work r : ℕ) (run' : Run) (log' : List JobRecord) → Enters m run log task class work r run' log'
      → Rated m (jobs_of es) → Rated m (jobs_of (accepted (release task class work) ∷ es))
  rated-more m rises task class work r run' log' e ih i k u w fits =
      let x : Job = record { task = task; class = class; release = clock_of es; work = work } in
      let xs = take run.entered log in
      let allowed = e.passed.1.1.1.1.0 in
      let push = sum_by_push (λ y. cond (in_window i k u w y) 1 0) (jobs_of es) x in
      ⊎_elim
      (λ yes.
      let at = inside i k u w x yes in
      let same-task : task ≡ i = eqb-true _ _ at.task in
      let same_kind : class ≡ k = sym (same_from_test k class at.class) in
      let left = room_left m rises task class run.clock u w (omega (arith, at.from, f.clock)) (omega (arith, at.before, f.clock)) fits allowed.alone xs allowed.windows in
      let left' : count_by (λ (g : JobRecord). in_window i k u w (job_of g)) xs + 1 ≤ m.count i k w =
      subst (λ (p : ℕ × Class). count_by (λ (g : JobRecord). in_window p.0 p.1 u w (job_of g)) xs + 1 ≤ m.count p.0 p.1 w) (λ d. (same-task d, same_kind d)) left in
      let same = count_map job_of (in_window i k u w) xs ∙ ap (count_by (in_window i k u w)) logged in
      let p = cond-true {A = ℕ} (in_window i k u w x) 1 0 yes in
      omega arith)
      (λ no. let p = cond-false {A = ℕ} (in_window i k u w x) 1 0 no in omega (arith, ih i k u w fits))
      (cases_Bool (in_window i k u w x))

-- what is shown call by call
record Kept (m : Meaning) (table : ClosedTable) (jobs : List Job) : Type 0 where
  pub works : (j : ℕ) → j < length jobs → (1 ≤ (job jobs j).work) × ((job jobs j).work ≤ (table_of (tasks_of table)).wcet (job jobs j).task)
  pub rated : Rated m jobs

step : (m : Meaning) → Monotone m → (table : ClosedTable) (es : List Event) (run : Run) (log : List JobRecord) {e : Event} {run' : Run} {log' : List JobRecord}
    → LogAgrees table es run log → Kept m table (jobs_of es) → Step m run log e run' log' → Kept m table (jobs_of (e ∷ es))
step m rises table es run log f ih (releases task class work (Ok r) run' log' e) = record {
  works = each-job (jobs_of es) (record { task = task; class = class; release = clock_of es; work = work })
      (λ _ x. (1 ≤ x.work) × (x.work ≤ (table_of (tasks_of table)).wcet x.task)) ih.works
      (subst (λ (t : ClosedTable). (1 ≤ work) × (work ≤ (table_of (tasks_of t)).wcet task)) f.same_table e.passed.1.1.0);
  rated = rated-more table es run log f m rises task class work r run' log' e ih.rated;
}
step m rises table es run log f ih (releases task class work (Err x) run' log' e) = ih
step m rises table es run log f ih (ticks (Ok r) run' log' e) = ih
step m rises table es run log f ih (ticks (Err x) run' log' e) = ih

kept : (m : Meaning) → Monotone m → (table : ClosedTable) {es : List Event} {run : Run} {log : List JobRecord} → Execution m table es run log → Kept m table (jobs_of es)
kept m rises table (starts run log fresh) = record { works = λ j h. absurd (omega arith); rated = λ i k u w fits. omega arith }
kept m rises table (goes_on es run log e run' log' x s) = step m rises table es run log (log_agrees m table es run log x) (kept m rises table x) s

pub conforming : (m : Meaning) → Lawful m → (table : ClosedTable) (es : List Event) (run : Run) (log : List JobRecord) → Execution m table es run log
    → Conforming m (table_of (tasks_of table)) (jobs_of es) (clock_of es)
conforming m lawful table es run log x =
    let all = kept m lawful.monotone table x in
    record {
      ordered = ordered es;
      entered = released_by es;
      some_work = λ j h. (all.works j h).0;
      within_wcet = λ j h. (all.works j h).1;
      rated = λ i k u w fits. omega (arith, count_places (in_window i k u w) (jobs_of es) (job_of no_record), all.rated i k u w fits);
    }

pub executions_agree : (table : ClosedTable) → ExecutionsAgree table
executions_agree table m lawful es run log x = (log_agrees m table es run log x, conforming m lawful table es run log x)
