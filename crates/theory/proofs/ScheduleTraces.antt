-- The trace of a schedule, and what its late jobs are.
use Rattle.std.proofs.Common.{◌≡◌, ℕ, zero, suc, ◌^◌, ◌<◌, ◌≤◌, true, ◌&&◌, eqb, ltb, leb, ◌⊎◌, List, length, Some, None, Option, sym, refl, ap, ◌∙◌, subst, inl, inr, arith}
use Rattle.std.proofs.lemmas.Bool.{and_parts, cases_Bool, cases_lt, cond-false, cond-true, ltb-true, ne_eqb}
use Rattle.arrival.specs.Meaning.{Meaning}
use Rattle.theory.specs.Conforming.{Conforming}
use Rattle.theory.specs.Schedules.{Job, KeepsRule, Schedule, done, due, finish, job, late, serves}
use Rattle.theory.specs.Service.{Served}
use Rattle.theory.specs.Tables.{Table}
use Rattle.theory.proofs.Totals.{one_if, total_longer, total_same}
use Rattle.theory.proofs.Traces.{Keeps, Late, Ruled, Trace, units}

-- ---- what is served

-- the place that is served, and n where none is
abbrev place : ℕ → Option ℕ → ℕ
place n None = n
place n (Some j) = j

serves-place : (n : ℕ) (o : Option ℕ) (j : ℕ) → j < n → eqb (place n o) j ≡ serves o j
serves-place n None j less = ne_eqb n j (λ e. omega arith)
serves-place n (Some i) j less = refl

module _ (n : ℕ) (waits : ℕ → Type 0) (task : ℕ → ℕ) where
  place-waits : (o : Option ℕ) → Served n waits task o → place n o < n → waits (place n o)
  place-waits None rule less = absurd (omega arith)
  place-waits (Some j) rule less = rule.waiting

  place-first : (o : Option ℕ) → Served n waits task o → (g : ℕ) → g < n → waits g
      → (place n o < n) × ((task (place n o) < task g) ⊎ ((task (place n o) ≡ task g) × (place n o ≤ g)))
  place-first None rule g less pending = absurd (rule g less pending)
  place-first (Some j) rule g less pending = (
    rule.within,
    elim (cases_lt (task j) (task g)) [
      | inl lower ↦ inl lower
      | inr h ↦
          let same : task g ≡ task j = omega (arith, rule.smallest g less pending) in
          inr (sym same, rule.earliest g less pending same)
    ],
  )

-- ---- the trace

abbrev pub trace : List Job → Schedule → ℕ → Trace
trace jobs served c = record {
  jobs = length jobs;
  task = λ j. (job jobs j).task;
  class = λ j. (job jobs j).class;
  release = λ j. (job jobs j).release;
  work = λ j. (job jobs j).work;
  served = λ u. place (length jobs) (served u);
  clock = c;
}

module _ (jobs : List Job) (served : Schedule) (c : ℕ) where
  pub units-done : (j u : ℕ) → j < length jobs → units (trace jobs served c) j u ≡ done served j u
  units-done j u less =
      total_same (λ v. one_if (eqb (place (length jobs) (served v)) j)) (λ v. one_if (serves (served v) j)) u
      (λ v _. ap one_if (serves-place (length jobs) (served v) j less))

  module _ (m : Meaning) (t : Table) (conforming : Conforming m t jobs c) where
    pub ruled : KeepsRule jobs served c → Ruled (trace jobs served c)
    ruled rule = record {
      ordered = conforming.ordered;
      some_work = conforming.some_work;
      pending = λ u less known.
          let (past, more) = place-waits _ _ _ (served u) (rule u less) known in
          (known, past, omega (arith, units-done (place (length jobs) (served u)) u known));
      first = λ u less g (known, past, more). place-first _ _ _ (served u) (rule u less) g known (past, omega (arith, units-done g u known));
    }

    pub keeps : c < 2 ^ 32 → Keeps (trace jobs served c) m t
    keeps short = record { rated = conforming.rated; within_wcet = conforming.within_wcet; short = short }

-- ---- late jobs

-- units are never fewer later
module _ (work : ℕ) (units : ℕ → ℕ) (rise : (u v : ℕ) → u ≤ v → units u ≤ units v) where
  finish-after : (d c : ℕ) → d < finish work units c → (d < c) × (units d < work)
  finish-after d zero h = absurd (omega arith)
  finish-after d (suc c) h =
      elim (cases_Bool (ltb (units c) work && leb work (units (suc c)))) [
        | inl e ↦
            let more = ltb-true (units c) work (and_parts (ltb (units c) work) (leb work (units (suc c))) e).0 in
            let before : d < suc c = subst (λ x. d < x) (cond-true _ (suc c) (finish work units c) e) h in
            (before, omega (arith, rise d c (omega arith)))
        | inr e ↦
            let (before, more) = finish-after d c (subst (λ x. d < x) (cond-false _ (suc c) (finish work units c) e) h) in
            (omega arith, more)
      ]

-- at its due tick a late job had units left, and the clock is past it
pub late_at_due : (deadline : ℕ → ℕ) (x : Job) (units : ℕ → ℕ) → ((u v : ℕ) → u ≤ v → units u ≤ units v) → (c : ℕ)
    → late deadline x units c ≡ true → (due deadline x < c) × (units (due deadline x) < x.work)
late_at_due deadline x units rise c e =
    elim (cases_Bool (ltb (units c) x.work)) [
      | inl unfinished ↦
          let past = ltb-true (due deadline x) c (sym (cond-true _ _ _ unfinished) ∙ e) in
          (past, omega (arith, ltb-true (units c) x.work unfinished, rise (due deadline x) c (omega arith)))
      | inr full ↦ finish-after x.work units rise (due deadline x) c (ltb-true (due deadline x) (finish x.work units c) (sym (cond-false _ _ _ full) ∙ e))
    ]

pub late-job : (deadline : ℕ → ℕ) (jobs : List Job) (served : Schedule) (c j : ℕ) → j < length jobs
    → late deadline (job jobs j) (done served j) c ≡ true → Late (trace jobs served c) (deadline (job jobs j).task) j
late-job deadline jobs served c j known e =
    let (past, more) = late_at_due deadline (job jobs j) (done served j) (λ u v h. total_longer (λ w. one_if (serves (served w) j)) u v h) c e in
    (past, omega (arith, units-done jobs served c j (due deadline (job jobs j)) known))
