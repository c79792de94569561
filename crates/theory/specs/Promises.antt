-- What an answer promises, over every lawful model.
use Rattle.std.specs.Prelude.{◌≡◌, ℕ, ◌^◌, ◌<◌, ◌≤◌, List, Ok, Result}
use Rattle.arrival.specs.declared.class.Class.{Class}
use Rattle.arrival.specs.Meaning.{Meaning, Lawful}
use Rattle.theory.specs.Conforming.{Conforming}
use Rattle.theory.specs.Questions.{Answer}
use Rattle.theory.specs.Schedules.{AtMostLate, Job, KeepsRule, Schedule}
use Rattle.theory.specs.Tables.{Table}

-- whatever conforming jobs a schedule serves by the rule: of each sequence of up to k jobs of task i within S ticks, at most a are late
abbrev pub SequencePromise : Meaning → Table → ℕ → ℕ → ℕ → ℕ → Type 0
SequencePromise m t i k S a =
    (jobs : List Job) (served : Schedule) (c : ℕ) → c ≤ 1000000000 → Conforming m t jobs c → KeepsRule jobs served c
    → AtMostLate t.deadline jobs served c i k S a

-- as many tasks, no wcet larger, no deadline shorter, no count larger
pub record Lighter (m : Meaning) (t : Table) (m' : Meaning) (t' : Table) : Type 0 where
  pub model_tasks : m'.tasks ≡ m.tasks
  pub table_tasks : t'.tasks ≡ t.tasks
  pub wcets : (j : ℕ) → t'.wcet j ≤ t.wcet j
  pub deadlines : (j : ℕ) → t.deadline j ≤ t'.deadline j
  pub counts : (j : ℕ) (k : Class) (w : ℕ) → w < 2 ^ 32 → m'.count j k w ≤ m.count j k w

-- a question that is answered with a is answered for every lighter table and model too, by at most a
abbrev pub ExchangePromise : Meaning → Table → ℕ → ℕ → ℕ → ℕ → ℕ → Type 0
ExchangePromise m t i k S cells a =
    (m' : Meaning) → Lawful m' → (t' : Table) → Lighter m t m' t'
    → (r : Result ℕ ℕ) → Answer m' t' i k S cells r → (a' : ℕ) × (r ≡ Ok a') × (a' ≤ a)
