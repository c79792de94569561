-- What a chain over the numbers below n found.
use Rattle.std.proofs.Common.{◌≡◌, ℕ, zero, suc, ◌+◌, ◌<◌, Bool, true, false, cond, length, get_or, sym, refl, ap, ◌∙◌, subst, filter, count_by, Decides, arith}
use Rattle.std.proofs.lemmas.Bool.{false≢true}
use Rattle.std.specs.Bool.{MatchBool}
use Rattle.std.specs.List.{AllWithin, HoldsAt, range_with_len}
use Rattle.std.proofs.lemmas.List.Sums.{length-filter, sum_by-cons}
use Rattle.std.proofs.lemmas.List.FromFn.{length-range_with_len, get_or-range_with_len}
use Rattle.theory.specs.Sums.{count, total}
use Rattle.theory.proofs.Totals.{total_none, total-suc, total_same, total_split}

-- `any` is answered true if some number has the property, and false if none has
pub any_below : (P : ℕ → Type 0) (n : ℕ) (r : Bool)
    → MatchBool r ((k : ℕ) × (k < length (range_with_len 0 n)) × HoldsAt P (range_with_len 0 n) k) (AllWithin (λ k. P k → ⊥) (range_with_len 0 n) 0 (length (range_with_len 0 n)))
    → MatchBool r ((k : ℕ) × (k < n) × P k) ((k : ℕ) → k < n → P k → ⊥)
any_below P n true (k, less, holds) =
    let within : k < n = omega (arith, length-range_with_len 0 n) in
    let is : get_or (range_with_len 0 n) k 0 ≡ k = omega (arith, get_or-range_with_len 0 n k 0 within) in
    (k, within, subst P is (holds 0))
any_below P n false none = λ k less.
    let is : get_or (range_with_len 0 n) k 0 ≡ k = omega (arith, get_or-range_with_len 0 n k 0 less) in
    subst (λ x. P x → ⊥) is (none k 0 (omega arith) (omega (arith, length-range_with_len 0 n)))

-- a test whose two answers say whether a fact holds
pub decides_by : {A B P : Type 0} (r : Bool) → MatchBool r A B → (A → P) → (B → P → ⊥) → Decides r P
decides_by true a holds fails = (λ _. holds a, λ _. refl)
decides_by false b holds fails = (λ e. absurd (false≢true e), λ p. absurd (fails b p))

-- the numbers from a on that pass a test, counted by the list of them
count_range : (p : ℕ → Bool) (a n : ℕ) → count_by p (range_with_len a n) ≡ count (λ k. p (a + k)) n
count_range p a zero = sym (total_none _)
count_range p a (suc n) =
    let f = λ (k : ℕ). cond {A = ℕ} (p (a + k)) 1 0 in
    let one : 1 + n ≡ suc n = omega arith in
    let rest = total_same (λ k. f (1 + k)) (λ k. cond {A = ℕ} (p (a + 1 + k)) 1 0) n (λ k _. let same : a + (1 + k) ≡ a + 1 + k = omega arith in ap (λ x. cond {A = ℕ} (p x) 1 0) same) in
    let front : f 0 ≡ cond {A = ℕ} (p a) 1 0 = let same : a + 0 ≡ a = omega arith in ap (λ x. cond {A = ℕ} (p x) 1 0) same in
    omega (
      arith,
      sum_by-cons (λ x. cond {A = ℕ} (p x) 1 0) a (range_with_len (a + 1) n),
      count_range p (a + 1) n,
      ap (total f) one,
      total_split f 1 n,
      total-suc f 0,
      total_none f,
      rest,
      front,
    )

-- the numbers below n that pass a test
pub count_below : (p : ℕ → Bool) (n : ℕ) → length (filter p (range_with_len 0 n)) ≡ count p n
count_below p n =
    length-filter p (range_with_len 0 n) ∙ count_range p 0 n
    ∙ total_same _ _ n (λ k _. let same : 0 + k ≡ k = omega arith in ap (λ x. cond {A = ℕ} (p x) 1 0) same)
