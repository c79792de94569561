-- Sets as tests on the tasks' numbers, and written as numbers.
use Rattle.std.proofs.Common.{◌≡◌, ℕ, zero, suc, ◌+◌, ◌^◌, ◌<◌, ◌≤◌, Bool, true, false, cond, sym, ap, ◌∙◌, inl, inr, arith}
use Rattle.std.proofs.lemmas.Bool.{cases_eq, cases_lt, cases_Bool, both_ways}
use Rattle.theory.specs.Sets.{member}
use Rattle.theory.specs.Sums.{total}
use Rattle.theory.proofs.Masks.{added_same, added_other, below, empty_lacks}
use Rattle.theory.proofs.Totals.{total_none, total-suc}

-- the set of the tasks below n that pass the test c, written as a number
abbrev pub mask_of : (ℕ → Bool) → ℕ → ℕ
mask_of c n = total (λ j. cond (c j) (2 ^ j) 0) n

step : (c : ℕ → Bool) (n : ℕ) (x : Bool) → c n ≡ x → mask_of c (suc n) ≡ mask_of c n + cond x (2 ^ n) 0
step c n x e = total-suc _ n ∙ ap (λ y. mask_of c n + cond y (2 ^ n) 0) e

pub mask_high : (c : ℕ → Bool) (n j : ℕ) → n ≤ j → member (mask_of c n) j ≡ false
mask_high c zero j h = ap (λ x. member x j) (total_none _) ∙ empty_lacks j
mask_high c (suc n) j h =
    let here = mask_high c n n (omega arith) in
    let there = mask_high c n j (omega arith) in
    elim (cases_Bool (c n)) [
      | inl t ↦ ap (λ x. member x j) (step c n true t) ∙ added_other n (mask_of c n) j here (λ e. omega arith) ∙ there
      | inr f ↦ let e : mask_of c n + 0 ≡ mask_of c n = omega arith in ap (λ x. member x j) (step c n false f ∙ e) ∙ there
    ]

pub mask_low : (c : ℕ → Bool) (n j : ℕ) → j < n → member (mask_of c n) j ≡ c j
mask_low c zero j h = absurd (omega arith)
mask_low c (suc n) j h =
    elim (cases_Bool (c n)) [
      | inl t ↦
          let s = ap (λ x. member x j) (step c n true t) in
          elim (cases_eq j n) [
            | inl e ↦ s ∙ ap (member (mask_of c n + 2 ^ n)) e ∙ added_same n (mask_of c n) (mask_high c n n (omega arith)) ∙ sym (ap c e ∙ t)
            | inr d ↦ s ∙ added_other n (mask_of c n) j (mask_high c n n (omega arith)) d ∙ mask_low c n j (omega arith)
          ]
      | inr f ↦
          let e : mask_of c n + 0 ≡ mask_of c n = omega arith in
          let s = ap (λ x. member x j) (step c n false f ∙ e) in
          elim (cases_eq j n) [
            | inl o ↦ s ∙ mask_high c n j (omega arith) ∙ sym (ap c o ∙ f)
            | inr d ↦ s ∙ mask_low c n j (omega arith)
          ]
    ]

-- a test that only tasks below n pass is that of the set written as a number
pub mask_is : (c : ℕ → Bool) (n : ℕ) → ((j : ℕ) → c j ≡ true → j < n) → member (mask_of c n) ≡ c
mask_is c n h = λ i j. at j i
  where
    at : (j : ℕ) → member (mask_of c n) j ≡ c j
    at j = elim (cases_lt j n) [
      | inl l ↦ mask_low c n j l
      | inr l ↦ mask_high c n j l ∙ sym (elim (cases_Bool (c j)) [ inl t ↦ absurd (omega (arith, h j t)) | inr f ↦ f ])
    ]

pub mask_below : (c : ℕ → Bool) (n : ℕ) → mask_of c n < 2 ^ n
mask_below c n = below n (mask_of c n) (λ k e. elim (cases_lt k n) [ inl l ↦ l | inr l ↦ absurd (both_ways _ (mask_high c n k l) e) ])
