-- The call for the longest busy window.
use Rattle.std.specs.Prelude.{◌≡◌, ℕ, ◌<◌, ◌≤◌, List, [], ◌∷◌, length, Ok, Err, Result}
use Rattle.arrival.specs.Meaning.{Meaning}
use Rattle.base.specs.Tests.{Passed, Refused}
use Rattle.loads.specs.Works.{wcet_of}
use Rattle.tables.specs.declared.task.Task.{Task}
use Rattle.theory.specs.Levels.{BusyLength, arrivals, every}
use Rattle.theory.specs.Tables.{Table}
use Rattle.analysis.specs.declared.refusal.Refusal.{Refusal}
use Rattle.analysis.specs.Refusals.{refusal_number}

-- the tests before an answer
abbrev pub window_tests : Meaning → List Task → ℕ → List (Type 0 × ℕ)
window_tests m ts i =
    (m.tasks ≡ length ts, 30)
    ∷ (i < length ts, 31)
    ∷ ((L : ℕ) × (L ≤ 1000000) × BusyLength m (wcet_of ts) every i L, 35)
    ∷ []

-- L and K, or the first test that fails
abbrev pub AnswersWindow : Meaning → List Task → ℕ → Result (ℕ × ℕ) Refusal → Type 0
AnswersWindow m ts i (Ok a) =
    Passed (window_tests m ts i) × BusyLength m (wcet_of ts) every i a.0 × (a.1 ≡ arrivals m every i a.0)
AnswersWindow m ts i (Err f) = Refused (window_tests m ts i) (refusal_number f)

-- the model belongs to the table, and the task is in it
abbrev pub OfTable : Meaning → Table → ℕ → Type 0
OfTable m t i = (m.tasks ≡ t.tasks) × (i < t.tasks)
