-- The sources of a question as a list, sets of them, and the cells over the states of their budgets.
use Rattle.std.specs.Prelude.{◌≡◌, ℕ, ◌<◌, ◌≤◌, min, List, map, length, nat_le, slice_index, slice_index_or}
use Rattle.arrival.specs.declared.class.Class.TheVariants.{Overload}
use Rattle.arrival.specs.Meaning.{Meaning}
use Rattle.loads.specs.declared.combination.Combination.{Combination}
use Rattle.theory.specs.Packings.{states}
use Rattle.theory.specs.Search.{Among, Apart}
use Rattle.theory.specs.States.{AllTake, Filled, Most, Suits, digit, offset}
use Rattle.theory.specs.Sums.{count}
use Rattle.analysis.specs.declared.sources.Source.{Source}

-- the budget of task j: how many overload releases a window of the length `reach` holds, k at most
abbrev pub budget_within : Meaning → ℕ → ℕ → ℕ → ℕ
budget_within m k reach j = min k (m.count j Overload reach)

-- what is read behind the last source
abbrev pub no_source : Source
no_source = record { task = 0; budget = 0 }

abbrev pub task_of : List Source → ℕ → ℕ
task_of ss s = (slice_index_or ss s no_source).task

abbrev pub budget_of : List Source → ℕ → ℕ
budget_of ss s = (slice_index_or ss s no_source).budget

-- task j is one of the sources
abbrev pub source_of : List Source → ℕ → Type 0
source_of ss = Among (task_of ss) (length ss)

-- at most six tasks of a table, no two the same, with budgets of at most 1000
pub record Sources (ss : List Source) : Type 0 where
  pub few : length ss ≤ 6
  pub tasks : (s : ℕ) → s < length ss → task_of ss s < 32
  pub budgets : (s : ℕ) → s < length ss → budget_of ss s ≤ 1000
  pub apart : Apart (task_of ss) (length ss)

-- the list holds exactly the tasks below n that have a budget, with the budget that b gives
pub record Gathered (b : ℕ → ℕ) (n : ℕ) (ss : List Source) : Type 0 where
  pub counted : length ss ≡ count (λ j. nat_le 1 (b j)) n
  pub below : (s : ℕ) → s < length ss → task_of ss s < n
  pub budgets : (s : ℕ) → s < length ss → budget_of ss s ≡ b (task_of ss s)
  pub some_budget : (s : ℕ) → s < length ss → 1 ≤ budget_of ss s
  pub all : (j : ℕ) → j < n → 1 ≤ b j → source_of ss j
  pub apart : Apart (task_of ss) (length ss)
  pub cells : states (budget_of ss) (length ss) ≡ states b n

-- the sets of a list as numbers, each by the mask of its tasks
abbrev pub masks : List Combination → List ℕ
masks cs = map (λ c. c.mask) cs

-- how many states the budgets have, which is how many cells are needed
abbrev pub states_of : List Source → ℕ
states_of ss = states (budget_of ss) (length ss)

-- what is left of each budget in the state at a place
abbrev pub state_at : List Source → ℕ → ℕ → ℕ
state_at ss p = digit (budget_of ss) p

-- how many places back the state lies that has one less of each source in the set c
abbrev pub back_by : List Source → ℕ → ℕ
back_by ss c = offset (budget_of ss) (task_of ss) c (length ss)

-- in the state at place p each source in c has something left
abbrev pub HasLeft : List Source → ℕ → ℕ → Type 0
HasLeft ss p c = Suits (task_of ss) (length ss) (state_at ss p) c

-- v is the greatest number of sets of cs, with repetitions, that fit into what is left
abbrev pub MostOf : List ℕ → List Source → (ℕ → ℕ) → ℕ → Type 0
MostOf cs ss left v = Most cs (task_of ss) (length ss) left v

-- each set takes from some source
abbrev pub EachTakes : List ℕ → List Source → Type 0
EachTakes cs ss = AllTake cs (task_of ss) (length ss)

-- the cells before a place hold the greatest numbers of their states
abbrev pub CellsFilled : List ℕ → List Source → List ℕ → ℕ → Type 0
CellsFilled cs ss cells p = Filled cs (task_of ss) (length ss) (budget_of ss) (states_of ss) (λ x. slice_index cells x) p
