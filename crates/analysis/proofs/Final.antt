-- From the sources and the sets that the code holds to the defined ones.
use Rattle.std.proofs.Common.{◌≡◌, ℕ, zero, suc, ◌<◌, ◌≤◌, Bool, true, false, ◌⊎◌, List, length, sym, refl, ap, ◌∙◌, subst, inl, inr, arith}
use Rattle.std.proofs.lemmas.Bool.{cases_eq, cases_Bool, false≢true}
use Rattle.theory.specs.Packings.{Greatest}
use Rattle.theory.specs.Search.{Exactly, at}
use Rattle.theory.specs.Sets.{Minimal, member}
use Rattle.theory.proofs.Masks.{no_tasks, below}
use Rattle.theory.proofs.Weights.{greatest_of}
use Rattle.analysis.specs.declared.sources.Source.{Source}
use Rattle.analysis.specs.Sources.{EachTakes, Gathered, MostOf, budget_of, source_of, task_of}

-- the sources of a question, by their budgets
abbrev pub Source-of : (ℕ → ℕ) → ℕ → ℕ → Type 0
Source-of b i j = (j ≤ i) × (1 ≤ b j)

-- one of the first n passes, or none does
some_of : (p : ℕ → Bool) (n : ℕ) → ((s : ℕ) × (s < n) × (p s ≡ true)) ⊎ ((s : ℕ) → s < n → p s ≡ false)
some_of p zero = inr (λ s l. absurd (omega arith))
some_of p (suc n) =
    elim (cases_Bool (p n)) [
      | inl e ↦ inl (n, omega arith, e)
      | inr f ↦ elim (some_of p n) [
        | inl (s, l, e) ↦ inl (s, omega arith, e)
        | inr none ↦ inr (λ s l. elim (cases_eq s n) [ inl o ↦ ap p o ∙ f | inr o ↦ none s (omega arith) ])
      ]
    ]

module _ (fails : ℕ → Type 0) (ss : List Source) (cs : List ℕ) (lists : Exactly (Minimal fails (source_of ss)) cs) where
  -- the empty set does not fail, so each minimal one has a source
  pub takes : (fails 0 → ⊥) → EachTakes cs ss
  takes safe y l =
      let m = lists.each y l in
      elim (some_of (λ s. member (at cs y) (task_of ss s)) (length ss)) [
        | inl t ↦ t
        | inr none ↦
            let e = no_tasks (at cs y) (λ j t. let (s, k, o) = m.sources j t in false≢true (sym (none s k) ∙ ap (member (at cs y)) o ∙ t)) in
            absurd (safe (subst fails e m.failing))
      ]

  module _ (b : ℕ → ℕ) (i : ℕ) (h : Gathered b (suc i) ss) where
    source_is : (j : ℕ) → source_of ss j → Source-of b i j
    source_is j (s, l, e) = (omega (arith, h.below s l), omega (arith, h.budgets s l, h.some_budget s l, ap b e))

    is_source : (j : ℕ) → Source-of b i j → source_of ss j
    is_source j (l, k) = h.all j (omega arith) k

    exact : Exactly (Minimal fails (Source-of b i)) cs
    exact =
        record {
          each = λ p l. let m = lists.each p l in record { sources = λ j e. source_is j (m.sources j e); failing = m.failing; least = m.least };
          all = λ x m. lists.all x (record { sources = λ j e. is_source j (m.sources j e); failing = m.failing; least = m.least });
          once = lists.once;
        }

    pub final : (G : ℕ) → MostOf cs ss (budget_of ss) G → Greatest (Minimal fails (Source-of b i)) (Source-of b i) b (suc i) G
    final G m =
        greatest_of (Minimal fails (Source-of b i)) (Source-of b i) b (suc i) cs exact
        (λ x c. below (suc i) x (λ j e. omega (arith, (c.sources j e).0)))
        (task_of ss) (budget_of ss) (length ss) is_source (λ s l. (source_is (task_of ss s) (s, l, refl), h.budgets s l)) G m
