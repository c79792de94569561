-- Lists of sets of sources, as the search for the minimal ones goes through them.
use Rattle.std.specs.Prelude.{◌≡◌, ℕ, ◌+◌, ◌^◌, ◌<◌, ◌≤◌, false, List, ◌++◌, map, length, slice_index}
use Rattle.theory.specs.Sets.{Of, Subset, member}

-- the set at a place; the empty one behind the last
abbrev pub at : List ℕ → ℕ → ℕ
at sets p = slice_index sets p

-- the list holds each set of which P speaks, once, and nothing else
pub record Exactly (P : ℕ → Type 0) (sets : List ℕ) : Type 0 where
  pub each : (p : ℕ) → p < length sets → P (at sets p)
  pub all : (s : ℕ) → P s → (p : ℕ) × (p < length sets) × (at sets p ≡ s)
  pub once : (p q : ℕ) → p < length sets → q < length sets → at sets p ≡ at sets q → p ≡ q

-- the sets of sources, each behind its own subsets
pub record Subsets (source : ℕ → Type 0) (sets : List ℕ) : Type 0 where
  pub sources : (p : ℕ) → p < length sets → Of source (at sets p)
  pub all : (s : ℕ) → Of source s → (p : ℕ) × (p < length sets) × (at sets p ≡ s)
  pub order : (p q : ℕ) → p < length sets → q < length sets → Subset (at sets p) (at sets q) → p ≤ q

-- j is one of the first n tasks of t
abbrev pub Among : (ℕ → ℕ) → ℕ → ℕ → Type 0
Among t n j = (s : ℕ) × (s < n) × (t s ≡ j)

-- no two of the first n tasks of t are the same
abbrev pub Apart : (ℕ → ℕ) → ℕ → Type 0
Apart t n = (r s : ℕ) → r < n → s < n → t r ≡ t s → r ≡ s

-- task j is in none of the sets
abbrev pub Lacks : List ℕ → ℕ → Type 0
Lacks sets j = (p : ℕ) → p < length sets → member (at sets p) j ≡ false

-- the sets, and then each with task j added
abbrev pub doubled : ℕ → List ℕ → List ℕ
doubled j sets = sets ++ map (λ s. s + 2 ^ j) sets

-- some set of the list is a subset of s
abbrev pub Covered : List ℕ → ℕ → Type 0
Covered sets s = (x : ℕ) × (x < length sets) × Subset (at sets x) s
