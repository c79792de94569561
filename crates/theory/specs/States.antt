-- Packings as lists of sets with repetitions, and the states of the budgets: one cell for each, in the order of their places.
-- The sources are t 0, t 1, .. below n; b gives the budget of each, d what is left of it, by the place in this list.
use Rattle.std.specs.Prelude.{◌≡◌, ℕ, ◌+◌, ◌*◌, ◌/◌, ◌%◌, ◌<◌, ◌≤◌, true, List, length, count_by}
use Rattle.std.specs.List.{ContainsAt as Has, AllByRecursion}
use Rattle.theory.specs.Packings.{states}
use Rattle.theory.specs.Search.{at}
use Rattle.theory.specs.Sets.{member}
use Rattle.theory.specs.Sums.{total, sum_if}

-- the list ps takes its sets from cs and fits into what is left
pub record Packed (cs : List ℕ) (t : ℕ → ℕ) (n : ℕ) (d : ℕ → ℕ) (ps : List ℕ) : Type 0 where
  pub listed : AllByRecursion (Has cs) ps
  pub fits : (s : ℕ) → s < n → count_by (λ c. member c (t s)) ps ≤ d s

-- v is the greatest length of such a list
pub record Most (cs : List ℕ) (t : ℕ → ℕ) (n : ℕ) (d : ℕ → ℕ) (v : ℕ) : Type 0 where
  pub some_list : (ps : List ℕ) × Packed cs t n d ps × (length ps ≡ v)
  pub no_longer : (ps : List ℕ) → Packed cs t n d ps → length ps ≤ v

-- d is a state of the budgets
abbrev pub Within : (ℕ → ℕ) → (ℕ → ℕ) → ℕ → Type 0
Within b d n = (s : ℕ) → s < n → d s ≤ b s

-- the place of a state
abbrev pub index : (ℕ → ℕ) → (ℕ → ℕ) → ℕ → ℕ
index b d n = total (λ s. d s * states b s) n

-- the state at a place
abbrev pub digit : (ℕ → ℕ) → ℕ → ℕ → ℕ
digit b p s = p / states b s % (b s + 1)

-- how far back the state lies that has one less of each source in the set c
abbrev pub offset : (ℕ → ℕ) → (ℕ → ℕ) → ℕ → ℕ → ℕ
offset b t c n = sum_if (λ s. member c (t s)) (states b) n

-- each source in c has something left
abbrev pub Suits : (ℕ → ℕ) → ℕ → (ℕ → ℕ) → ℕ → Type 0
Suits t n d c = (s : ℕ) → s < n → member c (t s) ≡ true → 1 ≤ d s

-- c takes from some source, so it does not fit any number of times
abbrev pub Takes : (ℕ → ℕ) → ℕ → ℕ → Type 0
Takes t n c = (s : ℕ) × (s < n) × (member c (t s) ≡ true)

abbrev pub AllTake : List ℕ → (ℕ → ℕ) → ℕ → Type 0
AllTake cs t n = (y : ℕ) → y < length cs → Takes t n (at cs y)

-- w cells, used as a ring, hold the greatest lengths of the last w states before place p
abbrev pub Filled : List ℕ → (ℕ → ℕ) → ℕ → (ℕ → ℕ) → ℕ → (ℕ → ℕ) → ℕ → Type 0
Filled cs t n b w cell p =
    (d : ℕ → ℕ) → Within b d n → index b d n < p → p ≤ index b d n + w → Most cs t n d (cell (index b d n % w))
