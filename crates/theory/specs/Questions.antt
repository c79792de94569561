-- The question: how many of k consecutive jobs of task i, that span at most S ticks, can be late?
use Rattle.std.specs.Prelude.{◌≡◌, ℕ, suc, ◌+◌, ◌-◌, ◌*◌, ◌<◌, ◌≤◌, min, Bool, ◌⊎◌, List, [], ◌∷◌, drop, Ok, Err, Decides, Result, nat_le}
use Rattle.arrival.specs.declared.class.Class.TheVariants.{Overload}
use Rattle.arrival.specs.Meaning.{Meaning}
use Rattle.base.specs.Tests.{Passed, Refused}
use Rattle.theory.specs.Levels.{BusyLength, arrivals, every}
use Rattle.theory.specs.Packings.{Greatest, states}
use Rattle.theory.specs.Positions.{LatePosition, Unschedulable}
use Rattle.theory.specs.Sets.{Minimal, member}
use Rattle.theory.specs.Sums.{count}
use Rattle.theory.specs.Tables.{Table}

-- n of the numbers from 1 to k have the property
abbrev pub HowMany : (ℕ → Type 0) → ℕ → ℕ → Type 0
HowMany P k n = (test : ℕ → Bool) × ((q : ℕ) → 1 ≤ q → q ≤ k → Decides (test q) (P q)) × (n ≡ count (λ q. test (q + 1)) k)

module _ (m : Meaning) (t : Table) (i : ℕ) where
  -- L: the longest busy window, where every task of the level may be overloaded
  abbrev pub WindowLength : ℕ → Type 0
  WindowLength L = BusyLength m t.wcet every i L

  -- N: how many positions of that window are late
  abbrev pub LateCount : ℕ → ℕ → Type 0
  LateCount L N = HowMany (LatePosition m t i every) (arrivals m every i L) N

  -- the tests before a busy window is answered
  abbrev pub window_tests : List (Type 0 × ℕ)
  window_tests =
      (m.tasks ≡ t.tasks, 30)
      ∷ (i < t.tasks, 31)
      ∷ ((L : ℕ) × (L ≤ 1000000) × WindowLength L, 35)
      ∷ []

  -- overload of the tasks in the set s can make a job late
  abbrev pub Fails : ℕ → Type 0
  Fails s = Unschedulable m t i (member s)

  module _ (k S : ℕ) where
    -- how often overload of task j can spoil windows of the k jobs: these lie within S ticks and a window at either end
    abbrev pub budget : ℕ → ℕ → ℕ
    budget L j = min k (m.count j Overload (S + 2 * L - 1))

    abbrev pub Source : ℕ → ℕ → Type 0
    Source L j = (j ≤ i) × (1 ≤ budget L j)

    abbrev pub MinimalCombination : ℕ → ℕ → Type 0
    MinimalCombination L = Minimal Fails (Source L)

    -- G: the greatest total of a packing of minimal combinations
    abbrev pub GreatestPacking : ℕ → ℕ → Type 0
    GreatestPacking L = Greatest (MinimalCombination L) (Source L) (budget L) (suc i)

    abbrev pub source_count : ℕ → ℕ
    source_count L = count (λ j. nat_le 1 (budget L j)) (suc i)

    -- the product of (budget + 1) over the sources; for a task that is none it is 1
    abbrev pub cell_count : ℕ → ℕ
    cell_count L = states (budget L) (suc i)

    -- the tests before N is known
    abbrev pub first_tests : List (Type 0 × ℕ)
    first_tests =
        (m.tasks ≡ t.tasks, 30)
        ∷ (i < t.tasks, 31)
        ∷ ((1 ≤ k) × (k ≤ 1000), 32)
        ∷ (S ≤ 1000000000, 33)
        ∷ ((L : ℕ) × (L ≤ 1000000) × WindowLength L, 35)
        ∷ (Fails 0 → ⊥, 36)
        ∷ []

    -- the tests that follow where N is above 0
    abbrev pub last_tests : ℕ → ℕ → List (Type 0 × ℕ)
    last_tests L cells = (source_count L ≤ 6, 37) ∷ (cell_count L ≤ cells, 38) ∷ []

    -- the first tests hold, and L and N are these
    pub record Admitted (L N : ℕ) : Type 0 where
      pub passed : Passed first_tests
      pub window : WindowLength L
      pub late : LateCount L N

    -- the answer where N is above 0
    abbrev pub Bound : ℕ → ℕ → ℕ → Type 0
    Bound L N a = (G : ℕ) × GreatestPacking L G × (a ≡ min k (N * G))

    -- the answer, with so many cells at hand, or the number of the refusal
    abbrev pub Answer : ℕ → Result ℕ ℕ → Type 0
    Answer cells (Err n) =
        Refused first_tests n
        ⊎ ((L : ℕ) × (N : ℕ) × Admitted L N × (1 ≤ N) × Refused (last_tests L cells) n)
    Answer cells (Ok a) =
        (L : ℕ) × (N : ℕ) × Admitted L N
        × (((N ≡ 0) × (a ≡ 0)) ⊎ ((1 ≤ N) × Passed (last_tests L cells) × Bound L N a))

    -- what becomes of the cells: with N above 0 the first ones may hold anything afterwards, and all others stay
    abbrev pub CellsAfter : Result ℕ ℕ → List ℕ → List ℕ → Type 0
    CellsAfter (Err n) before after = after ≡ before
    CellsAfter (Ok a) before after =
        (L : ℕ) (N : ℕ) → Admitted L N → (N ≡ 0 → after ≡ before) × (drop (cell_count L) after ≡ drop (cell_count L) before)
