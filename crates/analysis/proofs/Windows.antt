-- Busy windows of a set that holds every task of a level, and an answer that is none.
use Rattle.std.proofs.Common.{◌≡◌, ℕ, suc, ◌<◌, ◌≤◌, Bool, List, true, Some, None, Option, sym, refl, subst, MatchOption, arith}
use Rattle.std.proofs.lemmas.Bool.Decides.{Decides-like}
use Rattle.std.specs.Option.{IsSome}
use Rattle.arrival.specs.Meaning.{Meaning}
use Rattle.tables.specs.declared.task.Task.{Task}
use Rattle.theory.specs.Least.{Serves}
use Rattle.theory.specs.Levels.{BusyLength, arrivals, every, level_load}
use Rattle.theory.specs.Positions.{LatePosition}
use Rattle.theory.specs.Questions.{HowMany, LateCount, WindowLength}
use Rattle.theory.specs.Tables.{Table}
use Rattle.theory.proofs.Same.{arrivals_same, demand_same, late_same, serves_same, window_same}

-- an optional answer, with other words for the same
pub option_weaker : {X : Type 0} (o : Option X) {P P' : Type 0} {Q Q' : X → Type 0} → MatchOption o P Q → (P → P') → ((x : X) → Q x → Q' x) → MatchOption o P' Q'
option_weaker None h f g = f h
option_weaker (Some x) h f g = g x h

-- what holds of a level holds of what its parts are
pub of_parts : (P : Meaning → List Task → ℕ → Type 0) {m m' : Meaning} {ts ts' : List Task} {i i' : ℕ} → m ≡ m' → ts ≡ ts' → i ≡ i' → P m ts i → P m' ts' i'
of_parts P {m} {m'} {ts} {ts'} {i} {i'} model tasks task h = subst (λ n. P n ts' i') model (subst (λ us. P m us i') tasks (subst (P m ts) task h))

-- there is an answer where none cannot be
pub some_answer : {X : Type 0} (o : Option X) (P : Type 0) (Q : X → Type 0) → MatchOption o P Q → (P → ⊥) → IsSome o
some_answer None P Q h never = absurd (never h)
some_answer (Some x) P Q h never = refl

module _ (m : Meaning) (t : Table) (i : ℕ) (c : ℕ → Bool) (full : (j : ℕ) → j < suc i → c j ≡ true) where
  pub none_longest : (limit top : ℕ) → top ≤ limit → ((w : ℕ) → w ≤ limit → Serves (level_load m t.wcet c i) w → ⊥) → (L : ℕ) × (L ≤ top) × WindowLength m t i L → ⊥
  none_longest limit top below none (L, short, window) = none L (omega arith) (serves_same _ _ (λ w. sym (demand_same m t.wcet c every (suc i) w full)) L window.0)

  pub longest : (L : ℕ) → BusyLength m t.wcet c i L → WindowLength m t i L
  longest = window_same m t i c every full

  pub late_count : (L N : ℕ) → HowMany (LatePosition m t i c) (arrivals m c i L) N → LateCount m t i L N
  late_count L N (test, decides, counted) =
      subst (λ k. HowMany (LatePosition m t i every) k N) (arrivals_same m c every i L (full i (omega arith))) (
        test,
        λ q some few. Decides-like (test q) (late_same m t i c every full q) (late_same m t i every c (λ j h. sym (full j h)) q) (decides q some few),
        counted,
      )
