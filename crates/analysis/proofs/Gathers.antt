-- One task more in the list of sources.
use Rattle.std.proofs.Common.{◌≡◌, ℕ, zero, suc, ◌+◌, ◌*◌, ◌<◌, ◌≤◌, cond, leb, List, [], ◌∷◌, ◌++◌, length, get_or, sym, refl, ap, ◌∙◌, inl, inr, mul-one, add-one, arith}
use Rattle.std.proofs.lemmas.List.{length_push, get_or_append_left, get_or_push}
use Rattle.std.proofs.lemmas.Bool.{cases_eq, cases_lt, le-leb, lt-leb, cond-true, cond-false}
use Rattle.theory.specs.Packings.{states}
use Rattle.theory.specs.Sums.{count}
use Rattle.theory.proofs.Totals.{total_none, total-suc}
use Rattle.analysis.specs.declared.sources.Source.{Source}
use Rattle.analysis.specs.Sources.{Gathered, budget_of, no_source}

abbrev sources_below : (ℕ → ℕ) → ℕ → ℕ
sources_below b n = count (λ j. leb 1 (b j)) n

pub gathered_none : (b : ℕ → ℕ) → Gathered b 0 []
gathered_none b =
    record {
      counted = sym (total_none _);
      below = λ s l. absurd (omega arith);
      budgets = λ s l. absurd (omega arith);
      some_budget = λ s l. absurd (omega arith);
      all = λ j l. absurd (omega arith);
      apart = λ r s l. absurd (omega arith);
      cells = refl;
    }

states_same : (a b : ℕ → ℕ) (n : ℕ) → ((s : ℕ) → s < n → a s ≡ b s) → states a n ≡ states b n
states_same a b zero h = refl
states_same a b (suc n) h = λ i. states_same a b n (λ s l. h s (omega arith)) i * (h n (omega arith) i + 1)

counted-more : (b : ℕ → ℕ) (n : ℕ) → 1 ≤ b n → sources_below b (suc n) ≡ sources_below b n + 1
counted-more b n h = omega (arith, total-suc (λ j. cond (leb 1 (b j)) 1 0) n, cond-true {A = ℕ} (leb 1 (b n)) 1 0 (le-leb 1 (b n) h))

counted_same : (b : ℕ → ℕ) (n : ℕ) → b n ≡ 0 → sources_below b (suc n) ≡ sources_below b n
counted_same b n h = omega (arith, total-suc (λ j. cond (leb 1 (b j)) 1 0) n, cond-false {A = ℕ} (leb 1 (b n)) 1 0 (lt-leb 1 (b n) (omega arith)))

pub counted_longer : (b : ℕ → ℕ) (m n : ℕ) → m ≤ n → sources_below b m ≤ sources_below b n
counted_longer b m zero h = let e : m ≡ 0 = omega arith in omega (arith, ap (sources_below b) e)
counted_longer b m (suc n) h =
    elim (cases_eq m (suc n)) [
      | inl e ↦ omega (arith, ap (sources_below b) e)
      | inr d ↦ omega (arith, counted_longer b m n (omega arith), total-suc (λ j. cond (leb 1 (b j)) 1 0) n)
    ]

module _ (b : ℕ → ℕ) (n : ℕ) (ss : List Source) (h : Gathered b n ss) where
  pub gathered_skip : b n ≡ 0 → Gathered b (suc n) ss
  gathered_skip z =
      record {
        counted = omega (arith, h.counted, counted_same b n z);
        below = λ s l. omega (arith, h.below s l);
        budgets = h.budgets;
        some_budget = h.some_budget;
        all = λ j l k. elim (cases_eq j n) [ inl e ↦ absurd (omega (arith, ap b e)) | inr d ↦ h.all j (omega arith) k ];
        apart = h.apart;
        cells = let one : b n + 1 ≡ 1 = omega arith in h.cells ∙ sym (ap (λ x. states b n * x) one ∙ mul-one (states b n));
      }

  pub too_many : 1 ≤ b n → 6 ≤ length ss → (m : ℕ) → n < m → 6 < sources_below b m
  too_many k l m r = omega (arith, h.counted, counted-more b n k, counted_longer b (suc n) m r)

  module _ (x : Source) (task : x.task ≡ n) (budget : x.budget ≡ b n) (reached-list : 1 ≤ x.budget) where
    abbrev more : List Source
    more = ss ++ x ∷ []

    long : length more ≡ length ss + 1
    long = length_push ss x

    old : (s : ℕ) → s < length ss → get_or more s no_source ≡ get_or ss s no_source
    old s l = get_or_append_left ss _ no_source s l

    new : get_or more (length ss) no_source ≡ x
    new = get_or_push ss x no_source (length ss) refl

    at_new : (s : ℕ) → s < length more → (s < length ss → ⊥) → get_or more s no_source ≡ x
    at_new s l out = let e : s ≡ length ss = omega (arith, long) in ap (λ z. get_or more z no_source) e ∙ new

    pub gathered_more : Gathered b (suc n) more
    gathered_more =
        record {
          counted = omega (arith, long, h.counted, counted-more b n (omega arith));
          below = λ s l. elim (cases_lt s (length ss)) [
            | inl k ↦ omega (arith, ap (λ z. z.task) (old s k), h.below s k)
            | inr k ↦ omega (arith, ap (λ z. z.task) (at_new s l (λ q. omega arith)), task)
          ];
          budgets = λ s l. elim (cases_lt s (length ss)) [
            | inl k ↦ ap (λ z. z.budget) (old s k) ∙ h.budgets s k ∙ sym (ap (λ z. b z.task) (old s k))
            | inr k ↦ let e = at_new s l (λ q. omega arith) in ap (λ z. z.budget) e ∙ budget ∙ sym (ap (λ z. b z.task) e ∙ ap b task)
          ];
          some_budget = λ s l. elim (cases_lt s (length ss)) [
            | inl k ↦ omega (arith, ap (λ z. z.budget) (old s k), h.some_budget s k)
            | inr k ↦ omega (arith, ap (λ z. z.budget) (at_new s l (λ q. omega arith)))
          ];
          all = λ j l k. elim (cases_eq j n) [
            | inl e ↦ (length ss, omega (arith, long), ap (λ z. z.task) new ∙ task ∙ sym e)
            | inr d ↦ let (s, q, e) = h.all j (omega arith) k in (s, omega (arith, long), ap (λ z. z.task) (old s q) ∙ e)
          ];
          apart = λ r s l k e. elim (cases_lt r (length ss)) [
            | inl p ↦ elim (cases_lt s (length ss)) [
              | inl q ↦ h.apart r s p q (sym (ap (λ z. z.task) (old r p)) ∙ e ∙ ap (λ z. z.task) (old s q))
              | inr q ↦ absurd (omega (arith, h.below r p, ap (λ z. z.task) (old r p), ap (λ z. z.task) (at_new s k (λ q'. omega arith)), task))
            ]
            | inr p ↦ elim (cases_lt s (length ss)) [
              | inl q ↦ absurd (omega (arith, h.below s q, ap (λ z. z.task) (old s q), ap (λ z. z.task) (at_new r l (λ q'. omega arith)), task))
              | inr q ↦ omega (arith, long)
            ]
          ];
          cells =
              ap (states (budget_of more)) (long ∙ add-one (length ss))
              ∙ (λ i. (states_same (budget_of more) (budget_of ss) (length ss) (λ s l. ap (λ z. z.budget) (old s l)) ∙ h.cells) i * ((ap (λ z. z.budget) new ∙ budget) i + 1));
        }
