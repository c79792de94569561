-- How many points are not above a number, from a place that parts them.
use Rattle.std.proofs.Common.{◌≡◌, ℕ, zero, suc, ◌+◌, ◌<◌, ◌≤◌, true, cond, leb, List, [], ◌∷◌, length, get_or, sym, refl, ◌∙◌, arith}
use Rattle.std.proofs.lemmas.List.Sums.{sum_by-cons}
use Rattle.std.proofs.lemmas.Bool.{and_parts, ltb-true, le-leb, lt-leb}
use Rattle.staircase.specs.Stairs.{rises, up_to}

above : (repeat before : ℕ) (ps : List ℕ) → rises repeat before ps ≡ true → (j : ℕ) → j < length ps → before < get_or ps j 0
above repeat before [] h j less = absurd (omega arith)
above repeat before (p ∷ ps) h zero less = ltb-true before p (and_parts _ _ h).0
above repeat before (p ∷ ps) h (suc j) less =
    let both = and_parts _ _ h in
    omega (arith, ltb-true before p both.0, above repeat p ps both.1 j (omega arith))

-- rising points: a later one is not smaller
pub sorted : (repeat before : ℕ) (ps : List ℕ) → rises repeat before ps ≡ true → (i j : ℕ) → i ≤ j → j < length ps → get_or ps i 0 ≤ get_or ps j 0
sorted repeat before [] h i j le less = absurd (omega arith)
sorted repeat before (p ∷ ps) h zero zero le less = omega arith
sorted repeat before (p ∷ ps) h zero (suc j) le less = omega (arith, above repeat p ps (and_parts _ _ h).1 j (omega arith))
sorted repeat before (p ∷ ps) h (suc i) zero le less = absurd (omega arith)
sorted repeat before (p ∷ ps) h (suc i) (suc j) le less = sorted repeat p ps (and_parts _ _ h).1 i j (omega arith) (omega arith)

-- m points are not above r, and all behind them are
pub parted : (r m : ℕ) (ps : List ℕ) → m ≤ length ps → ((k : ℕ) → k < m → get_or ps k 0 ≤ r) → ((k : ℕ) → m ≤ k → k < length ps → r < get_or ps k 0) → up_to r ps ≡ m
parted r zero [] h low high = refl
parted r (suc m) [] h low high = absurd (omega arith)
parted r zero (p ∷ ps) h low high =
    sum_by-cons (λ x. cond (leb x r) 1 0) p ps
    ∙ (λ i. cond (lt-leb p r (high 0 (omega arith) (omega arith)) i) 1 0 + parted r 0 ps (omega arith) (λ k less. absurd (omega arith)) (λ k _ less. high (suc k) (omega arith) (omega arith)) i)
parted r (suc m) (p ∷ ps) h low high =
    sum_by-cons (λ x. cond (leb x r) 1 0) p ps
    ∙ (λ i. cond (le-leb p r (low 0 (omega arith)) i) 1 0 + parted r m ps (omega arith) (λ k less. low (suc k) (omega arith)) (λ k from less. high (suc k) (omega arith) (omega arith)) i)
    ∙ omega arith

-- what a search by halving has found: the points before `low` are not above r, and those from `high` on are
pub record Parts (r low high n : ℕ) (ps : List ℕ) : Type 0 where
  pub order : low ≤ high
  pub within : high ≤ n
  pub not_above : (k : ℕ) → k < low → get_or ps k 0 ≤ r
  pub above : (k : ℕ) → high ≤ k → k < n → r < get_or ps k 0

module _ (repeat : ℕ) (ps : List ℕ) (up : rises repeat 0 ps ≡ true) (r low high n : ℕ) (long : length ps ≡ n) (parts : Parts r low high n ps) where
  module _ (m p : ℕ) (less : m < high) (is : get_or ps m 0 ≡ p) where
    pub parts_low : p ≤ r → Parts r (m + 1) high n ps
    parts_low h = record {
      order = omega arith;
      within = parts.within;
      not_above = λ k lower. omega (arith, sorted repeat 0 ps up k m (omega arith) (omega (arith, parts.within)));
      above = parts.above;
    }

    pub parts_high : low ≤ m → r < p → Parts r low m n ps
    parts_high from h = record {
      order = from;
      within = omega (arith, parts.within);
      not_above = parts.not_above;
      above = λ k higher inside. omega (arith, sorted repeat 0 ps up m k higher (omega arith));
    }

  pub parts_all : high ≤ low → low ≡ up_to r ps
  parts_all met =
      sym (parted r low ps (omega (arith, parts.order, parts.within)) parts.not_above (λ k from less. parts.above k (omega arith) (omega arith)))
