-- Schedules that keep the service rule: there is one at most, and how one goes on.
use Rattle.std.proofs.Common.{◌≡◌, ℕ, zero, suc, ◌+◌, ◌<◌, ◌≤◌, cond, eqb, List, [], ◌∷◌, ◌++◌, length, Some, None, Option, sym, refl, ap, ◌∙◌, subst, ⊎_elim, arith}
use Rattle.std.proofs.lemmas.Bool.{cases_lt, cond-true, cond-false, eq-eqb, ne_eqb}
use Rattle.std.proofs.lemmas.List.{get_or_append_left, get_or_push, length_push}
use Rattle.theory.specs.Service.{Served}
use Rattle.theory.specs.Schedules.{Job, job, Schedule, serves, done, Unfinished, KeepsRule}
use Rattle.theory.proofs.Totals.{total-suc, total_same, total-zero}
use Rattle.dispatch.proofs.Turns.{served-once, served_skips, served_alike}

-- the units that a tick adds to job j
abbrev pub unit : Option ℕ → ℕ → ℕ
unit o j = cond (serves o j) 1 0

pub done_more : (s : Schedule) (j t : ℕ) → done s j (suc t) ≡ done s j t + unit (s t) j
done_more s j t = total-suc (λ u. unit (s u) j) t

pub done_same : (s r : Schedule) (c : ℕ) → ((t : ℕ) → t < c → s t ≡ r t) → (j t : ℕ) → t ≤ c → done s j t ≡ done r j t
done_same s r c same j t h = total_same (λ u. unit (s u) j) (λ u. unit (r u) j) t (λ u less. ap (λ o. unit o j) (same u (omega arith)))

unit-none : (n : ℕ) (w : ℕ → Type 0) (task : ℕ → ℕ) (o : Option ℕ) (j : ℕ) → Served n w task o → n ≤ j → unit o j ≡ 0
unit-none n w task None j s le = refl
unit-none n w task (Some i) j s le = cond-false _ 1 0 (ne_eqb i j (λ e. omega (arith, s.within)))

-- a job that is not entered is not served
pub silent : (jobs : List Job) (s : Schedule) (c : ℕ) → KeepsRule jobs s c → (j : ℕ) → length jobs ≤ j → (t : ℕ) → t ≤ c → done s j t ≡ 0
silent jobs s c keeps j le t h =
    total_same (λ u. unit (s u) j) (λ _. 0) t
    (λ u less. unit-none (length jobs) (Unfinished jobs s u) (λ k. (job jobs k).task) (s u) j (keeps u (omega arith)) le)
    ∙ total-zero t

-- schedules with the same units served leave the same jobs unfinished
unfinished_same : (jobs : List Job) (s r : Schedule) (t : ℕ) → ((j : ℕ) → done s j t ≡ done r j t) → (o : Option ℕ)
    → Served (length jobs) (Unfinished jobs s t) (λ j. (job jobs j).task) o → Served (length jobs) (Unfinished jobs r t) (λ j. (job jobs j).task) o
unfinished_same jobs s r t same o =
    served_alike (length jobs) (Unfinished jobs s t) (Unfinished jobs r t) (λ j. (job jobs j).task) (λ j. (job jobs j).task)
    (λ j _ u. (u.0, omega (arith, u.1, same j))) (λ j _ u. (u.0, omega (arith, u.1, same j))) (λ j _. refl) o

-- two that keep the rule are one
pub one-schedule : (jobs : List Job) (s r : Schedule) (c : ℕ) → KeepsRule jobs s c → KeepsRule jobs r c → (t : ℕ) → t < c → r t ≡ s t
one-schedule jobs s r zero a b t h = absurd (omega arith)
one-schedule jobs s r (suc c) a b t h = go (one-schedule jobs s r c (λ u l. a u (omega arith)) (λ u l. b u (omega arith)))
  where
    go : ((u : ℕ) → u < c → r u ≡ s u) → r t ≡ s t
    go ih =
        ⊎_elim (ih t)
        (λ ge.
        let e : c ≡ t = omega arith in
        let top : r c ≡ s c =
        served-once (length jobs) (Unfinished jobs s c) (λ j. (job jobs j).task) (r c) (s c)
        (unfinished_same jobs r s c (λ j. done_same r s c ih j c (omega arith)) (r c) (b c (omega arith)))
        (a c (omega arith)) in
        subst (λ u. r u ≡ s u) e top)
        (cases_lt t c)

-- one more job, entered at clock c
module _ (jobs : List Job) (x : Job) where
  pub old_job : (j : ℕ) → j < length jobs → job (jobs ++ x ∷ []) j ≡ job jobs j
  old_job j h = get_or_append_left jobs (x ∷ []) _ j h

  pub new_job : job (jobs ++ x ∷ []) (length jobs) ≡ x
  new_job = get_or_push jobs x _ (length jobs) refl

  -- what holds of each job, and of the new one
  pub each-job : (P : ℕ → Job → Type 0) → ((j : ℕ) → j < length jobs → P j (job jobs j)) → P (length jobs) x
      → (j : ℕ) → j < length (jobs ++ x ∷ []) → P j (job (jobs ++ x ∷ []) j)
  each-job P old new j h =
      let n = length_push jobs x in
      ⊎_elim
      (λ lt. subst (P j) (sym (old_job j lt)) (old j lt))
      (λ ge. let e : length jobs ≡ j = omega arith in subst (λ k. P k (job (jobs ++ x ∷ []) k)) e (subst (P (length jobs)) (sym new_job) new))
      (cases_lt j (length jobs))

  pub keeps_push : (s : Schedule) (c : ℕ) → c ≤ x.release → KeepsRule jobs s c → KeepsRule (jobs ++ x ∷ []) s c
  keeps_push s c le keeps t h =
      let both = jobs ++ x ∷ [] in
      let key : ℕ → ℕ = λ j. (job both j).task in
      let new : (job both (length jobs)).release ≡ x.release = ap (λ (y : Job). y.release) new_job in
      subst (λ n. Served n (Unfinished both s t) key (s t)) (sym (length_push jobs x))
      (served_skips (Unfinished both s t) key (length jobs) (s t) (λ u. omega (arith, u.0))
      (served_alike (length jobs) (Unfinished jobs s t) (Unfinished both s t) (λ j. (job jobs j).task) key
      (λ j l u. subst (λ (y : Job). (y.release ≤ t) × (done s j t < y.work)) (sym (old_job j l)) u)
      (λ j l u. subst (λ (y : Job). (y.release ≤ t) × (done s j t < y.work)) (old_job j l) u)
      (λ j l. sym (ap (λ (y : Job). y.task) (old_job j l)))
      (s t) (keeps t h)))

-- one more tick
abbrev pub extend : Schedule → ℕ → Option ℕ → Schedule
extend s c o t = cond (eqb t c) o (s t)

module _ (s : Schedule) (c : ℕ) (o : Option ℕ) where
  extend_at : extend s c o c ≡ o
  extend_at = cond-true _ _ _ (eq-eqb c c refl)

  extend-below : (t : ℕ) → t < c → extend s c o t ≡ s t
  extend-below t h = cond-false _ _ _ (ne_eqb t c (λ e. omega arith))

  pub extend-done : (j t : ℕ) → t ≤ c → done (extend s c o) j t ≡ done s j t
  extend-done = done_same (extend s c o) s c extend-below

  pub extend-more : (j : ℕ) → done (extend s c o) j (suc c) ≡ done (extend s c o) j c + unit o j
  extend-more j = done_more (extend s c o) j c ∙ ap (λ p. done (extend s c o) j c + unit p j) extend_at

  pub keeps-tick : (jobs : List Job) → KeepsRule jobs s c → Served (length jobs) (Unfinished jobs s c) (λ j. (job jobs j).task) o → KeepsRule jobs (extend s c o) (suc c)
  keeps-tick jobs keeps turn t h =
      let Turn : ℕ → Option ℕ → Type 0 = λ u. Served (length jobs) (Unfinished jobs s u) (λ j. (job jobs j).task) in
      unfinished_same jobs s (extend s c o) t (λ j. sym (extend-done j t (omega arith))) (extend s c o t)
      (⊎_elim
      (λ lt. subst (Turn t) (sym (extend-below t lt)) (keeps t lt))
      (λ ge. let e : c ≡ t = omega arith in subst (λ u. Turn u (extend s c o u)) e (subst (Turn c) (sym extend_at) turn))
      (cases_lt t c))
