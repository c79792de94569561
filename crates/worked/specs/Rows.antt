-- The worked rows.
use Rattle.std.specs.Prelude.{◌≡◌, ℕ, List, [], ◌∷◌, map, Ok, Err, Result}
use Rattle.file_format.specs.Models.{model_of}
use Rattle.file_format.specs.Settings.{Settings, Curves}
use Rattle.loads.specs.Tables.{times_table}
use Rattle.pjd.specs.Curves.{Pjd, pjd_count}
use Rattle.staircase.specs.Stairs.{stairs_count}
use Rattle.tables.specs.Tasks.{Times}
use Rattle.theory.specs.Levels.{arrivals, every}
use Rattle.theory.specs.Questions.{WindowLength, LateCount, MinimalCombination, Answer}

-- ---- settings

abbrev pub curve : ℕ → ℕ → ℕ → Pjd
curve period jitter distance = record { period = period; jitter = jitter; distance = distance }

-- one release in each period
abbrev pub each : ℕ → Pjd
each period = curve period 0 period

-- no releases
abbrev pub none : Pjd
none = curve 0 0 0

-- tasks by wcet and deadline
abbrev pub times : ℕ → ℕ → Times
times wcet deadline = record { wcet = wcet; deadline = deadline }

abbrev pub curves : Pjd → Pjd → Curves
curves typical overload = record { typical = typical; overload = overload }

abbrev pub settings : List Times → List Curves → Settings
settings ts cs = record { tasks = ts; curves = cs; staircases = []; questions = [] }

-- three tasks, of which the last has deadline D
abbrev pub three : ℕ → Settings
three D =
    settings
    (times 2 5 ∷ times 3 10 ∷ times 4 D ∷ [])
    (curves none (each 20) ∷ curves none (each 30) ∷ curves (each 10) none ∷ [])

-- one task, with deadline D
abbrev pub one : ℕ → Settings
one D = settings (times 6 D ∷ []) (curves (each 10) (each 50) ∷ [])

-- two tasks, of which the first needs all time
abbrev pub full : Settings
full = settings (times 10 10 ∷ times 1 1000 ∷ []) (curves (each 10) none ∷ curves (each 1000) none ∷ [])

-- ---- what is asked of task i

module _ (s : Settings) (i : ℕ) where
  -- the longest busy window has length L, and of the K jobs in it N are late
  abbrev pub Window : ℕ → ℕ → ℕ → Type 0
  Window L K N =
      WindowLength (model_of s) (times_table s.tasks) i L
      × (arrivals (model_of s) every i L ≡ K)
      × LateCount (model_of s) (times_table s.tasks) i L N

  module _ (k S : ℕ) where
    -- with a window of length L, the set x is minimal
    abbrev pub IsMinimal : ℕ → ℕ → Type 0
    IsMinimal = MinimalCombination (model_of s) (times_table s.tasks) i k S

    -- the answer to k jobs within S ticks, with so many cells
    abbrev pub Answers : ℕ → Result ℕ ℕ → Type 0
    Answers = Answer (model_of s) (times_table s.tasks) i k S

-- ---- the rows

pub record WorkedRows : Type 0 where
  pub curve_counts : map (pjd_count (curve 10 15 2)) (0 ∷ 1 ∷ 3 ∷ 5 ∷ 6 ∷ 16 ∷ []) ≡ 0 ∷ 1 ∷ 2 ∷ 2 ∷ 3 ∷ 4 ∷ []
  pub staircase_counts : map (stairs_count (record { repeat = 20; points = 1 ∷ 2 ∷ 7 ∷ [] })) (6 ∷ 7 ∷ 20 ∷ 21 ∷ 27 ∷ []) ≡ 2 ∷ 3 ∷ 3 ∷ 4 ∷ 6 ∷ []
  -- the one minimal combination is of tasks 0 and 1
  pub window_of_three : Window (three 8) 2 9 1 1 × ((x : ℕ) → (IsMinimal (three 8) 2 10 90 9 x → x ≡ 3) × (x ≡ 3 → IsMinimal (three 8) 2 10 90 9 x))
  pub deadline_8 : Answers (three 8) 2 10 90 35 (Ok 4) × Answers (three 8) 2 10 90 34 (Err 38)
  pub deadline_9 : Answers (three 9) 2 10 90 0 (Ok 0)
  pub deadline_6 : Answers (three 6) 2 10 90 35 (Ok 4)
  pub deadline_4 : Answers (three 4) 2 10 90 35 (Ok 10)
  pub deadline_3 : (cells : ℕ) → Answers (three 3) 2 10 90 cells (Err 36)
  pub one_task : Window (one 11) 0 18 3 1 × Answers (one 11) 0 5 40 3 (Ok 2) × Answers (one 12) 0 5 40 0 (Ok 0)
  -- no length serves the second task
  pub no_window : (cells : ℕ) → Answers full 1 1 0 cells (Err 35)
