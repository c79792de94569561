-- The answer to a question, from what its parts found.
use Rattle.std.proofs.Common.{◌≡◌, ℕ, ◌*◌, ◌<◌, ◌≤◌, min, List, [], ◌∷◌, length, drop, None, Ok, Err, Option, Result, ap, ◌∙◌, sym, refl, subst, inl, inr, arith}
use Rattle.std.specs.Option.{ok_or}
use Rattle.std.specs.Result.{IsErrAnd}
use Rattle.arrival.specs.Meaning.{Meaning}
use Rattle.base.specs.Tests.{Refused}
use Rattle.theory.specs.Levels.{arrivals, every}
use Rattle.theory.specs.Questions.{Admitted, Answer, CellsAfter, Fails, GreatestPacking, LateCount, WindowLength, cell_count, source_count}
use Rattle.theory.specs.Tables.{Table}
use Rattle.analysis.specs.declared.refusal.Refusal.{Refusal}
use Rattle.theory.proofs.Counting.{how_many_unique}
use Rattle.theory.proofs.Lateness.{least_unique}

-- the two promises of a question
abbrev pub Asked : Meaning → Table → ℕ → ℕ → ℕ → List ℕ → Result ℕ ℕ → List ℕ → Type 0
Asked m t i k S before r after = Answer m t i k S (length before) r × CellsAfter m t i k S r before after

module _ (m : Meaning) (t : Table) (i k S L N : ℕ)
    (fits : (m.tasks ≡ t.tasks) × (i < t.tasks)) (range : (1 ≤ k) × (k ≤ 1000) × (S ≤ 1000000000))
    (found : (L ≤ 1000000) × WindowLength m t i L × (Fails m t i 0 → ⊥)) (late : LateCount m t i L N) where
  admitted : Admitted m t i k S L N
  admitted =
      record {
        passed = (fits.0, (fits.1, ((range.0, range.1), (range.2, ((L, found.0, found.1), (found.2, tt))))));
        window = found.1;
        late = late;
      }

  pub asked_none : N ≡ 0 → (cells : List ℕ) → Asked m t i k S cells (Ok 0) cells
  asked_none none cells = ((L, N, admitted, inl (none, refl)), λ _ _ _. ((λ _. refl), refl))

  module _ (some : 1 ≤ N) where
    pub asked_sources : 6 < source_count m t i k S L → (cells : List ℕ) → Asked m t i k S cells (Err 37) cells
    asked_sources many cells = (inr (L, N, admitted, some, inl ((λ few. omega arith), refl)), refl)

    module _ (few : source_count m t i k S L ≤ 6) where
      pub asked_cells : (cells : List ℕ) → length cells < cell_count m t i k S L → Asked m t i k S cells (Err 38) cells
      asked_cells cells short = (inr (L, N, admitted, some, inr (few, inl ((λ room. omega arith), refl))), refl)

      pub asked_bound : (before after : List ℕ) → cell_count m t i k S L ≤ length before → (G a : ℕ) → GreatestPacking m t i k S L G → a ≡ min k (N * G)
          → drop (cell_count m t i k S L) after ≡ drop (cell_count m t i k S L) before → Asked m t i k S before (Ok a) after
      asked_bound before after room G a greatest smaller kept = (
        (L, N, admitted, inr (some, (few, (room, tt)), (G, greatest, smaller))),
        λ L' N' other.
            let same = least_unique _ L L' found.1 other.window in (
              (λ none.
                  let here = subst (λ x. LateCount m t i x N') (sym same) other.late in
                  absurd (omega (arith, how_many_unique _ (arrivals m every i L) N N' late here))),
              subst (λ x. drop (cell_count m t i k S x) after ≡ drop (cell_count m t i k S x) before) same kept,
            ),
      )

-- a refusal by the tests on the window, where those before it hold
pub asked_window : (m : Meaning) (t : Table) (i k S : ℕ) → (m.tasks ≡ t.tasks) × (i < t.tasks) → (1 ≤ k) × (k ≤ 1000) × (S ≤ 1000000000)
    → (n : ℕ) → Refused (((L : ℕ) × (L ≤ 1000000) × WindowLength m t i L, 35) ∷ (Fails m t i 0 → ⊥, 36) ∷ []) n → (cells : List ℕ) → Asked m t i k S cells (Err n) cells
asked_window m t i k S fits range n refused cells = (inl (inr (fits.0, inr (fits.1, inr ((range.0, range.1), inr (range.2, refused))))), refl)

-- the refusal in a result, or else this one
abbrev error_or : {X : Type 0} → Refusal → Result X Refusal → Refusal
error_or f (Ok _) = f
error_or f (Err g) = g

-- what `?` hands on where `ok_or` met no value
pub handed_on : {X A : Type 0} (o : Option X) (f g : Refusal) (r : Result A Refusal) → Err g ≡ ok_or o f → o ≡ None → IsErrAnd r (λ e. e ≡ g) → r ≡ Err f
handed_on o f g (Ok _) given none same = absurd same
handed_on o f g (Err e) given none same = ap Err (same ∙ ap (error_or f) given ∙ ap (λ p. error_or f (ok_or p f)) none)
