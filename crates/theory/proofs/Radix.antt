-- States of budgets and their places: numbers of mixed base, the states' counts as the place values.
use Rattle.std.proofs.Common.{◌≡◌, ℕ, zero, suc, ◌+◌, ◌-◌, ◌*◌, ◌/◌, ◌%◌, ◌<◌, ◌≤◌, Bool, true, false, cond, sym, refl, ap, ◌∙◌, inl, inr, mul-le-mul_right, mod-eq_of_lt, mul_comm, add-mul, mul-pos, mul-add, arith}
use lib.Arith.{mod-mul}
use Rattle.std.proofs.lemmas.Nat.{mul-add-lt, div-mul-add, mod-mul-add, mod_below, div-add-mod'}
use Rattle.std.proofs.lemmas.Bool.{cases_eq, cases_lt, cond-true}
use Rattle.theory.specs.Packings.{states}
use Rattle.theory.specs.Sets.{member}
use Rattle.theory.specs.States.{Suits, Within, digit, index, offset}
use Rattle.theory.specs.Sums.{total}
use Rattle.theory.proofs.Totals.{total_part}

pub states_positive : (b : ℕ → ℕ) (n : ℕ) → 1 ≤ states b n
states_positive b zero = omega arith
states_positive b (suc n) = mul-pos (states_positive b n) (omega arith)

pub index_lt : (b d : ℕ → ℕ) (n : ℕ) → Within b d n → index b d n < states b n
unfolding total
index_lt b d zero h = omega arith
index_lt b d (suc n) h =
    let low = index_lt b d n (λ s l. h s (omega arith)) in
    omega (arith, mul-add-lt (d n) (states b n) (index b d n) (b n + 1) (omega (arith, h n (omega arith))) low)

pub index_same : (b d e : ℕ → ℕ) (n : ℕ) → Within b d n → Within b e n → index b d n ≡ index b e n → (s : ℕ) → s < n → d s ≡ e s
unfolding total
index_same b d e zero h k same s l = absurd (omega arith)
index_same b d e (suc n) h k same s l =
    let h' : Within b d n = λ s l. h s (omega arith) in
    let k' : Within b e n = λ s l. k s (omega arith) in
    let turned : d n * states b n + index b d n ≡ e n * states b n + index b e n = omega arith in
    let top = sym (div-mul-add (d n) (states b n) (index b d n) (index_lt b d n h')) ∙ ap (λ x. x / states b n) turned ∙ div-mul-add (e n) (states b n) (index b e n) (index_lt b e n k') in
    let rest = sym (mod-mul-add (d n) (states b n) (index b d n) (index_lt b d n h')) ∙ ap (λ x. x % states b n) turned ∙ mod-mul-add (e n) (states b n) (index b e n) (index_lt b e n k') in
    elim (cases_eq s n) [ inl o ↦ ap d o ∙ top ∙ sym (ap e o) | inr o ↦ index_same b d e n h' k' rest s (omega arith) ]

pub index_digits : (b : ℕ → ℕ) (p n : ℕ) → index b (digit b p) n ≡ p % states b n
unfolding total
index_digits b p zero = omega arith
index_digits b p (suc n) =
    omega (arith, index_digits b p n, mod-mul p {m = b n + 1} {c = states b n} (omega arith) (states_positive b n), ap (λ x. p % x) (mul_comm (b n + 1) (states b n)))

pub index_at : (b : ℕ → ℕ) (p n : ℕ) → p < states b n → index b (digit b p) n ≡ p
index_at b p n h = index_digits b p n ∙ mod-eq_of_lt h

pub digit-within : (b : ℕ → ℕ) (p n : ℕ) → Within b (digit b p) n
digit-within b p n s l = omega (arith, mod_below (p / states b s) (b s + 1) (omega arith))

pub index-full : (b : ℕ → ℕ) (n : ℕ) → index b b n + 1 ≡ states b n
unfolding total
index-full b zero = refl
index-full b (suc n) = omega (arith, index-full b n, mul-add (states b n) (b n) 1)

-- one of each source in c less
abbrev pub without : (ℕ → ℕ) → ℕ → (ℕ → ℕ) → ℕ → ℕ
without t c d s = d s - cond (member c (t s)) 1 0

one_less : (x : Bool) (d st : ℕ) → (x ≡ true → 1 ≤ d) → (d - cond x 1 0) * st + cond x st 0 ≡ d * st
one_less true d st h = let e : d ≡ (d - 1) + 1 = omega (arith, h refl) in omega (arith, ap (λ x. x * st) e, add-mul (d - 1) 1 st)
one_less false d st h = let e : d - 0 ≡ d = omega arith in omega (arith, ap (λ x. x * st) e)

pub index-without : (b t d : ℕ → ℕ) (c n : ℕ) → Suits t n d c → index b (without t c d) n + offset b t c n ≡ index b d n
unfolding total
index-without b t d c zero h = refl
index-without b t d c (suc n) h =
    omega (arith, index-without b t d c n (λ s l e. h s (omega arith) e), one_less (member c (t n)) (d n) (states b n) (h n (omega arith)))

pub offset_part : (b t : ℕ → ℕ) (c n s : ℕ) → s < n → member c (t s) ≡ true → states b s ≤ offset b t c n
offset_part b t c n s l e = omega (arith, total_part (λ k. cond (member c (t k)) (states b k) 0) n s l, cond-true (member c (t s)) (states b s) 0 e)

-- a ring of w places
pub ring_apart : (w x p : ℕ) → x < p → p < x + w → x % w ≡ p % w → ⊥
ring_apart w x p l h e =
    let a = div-add-mod' x w in
    let b = div-add-mod' p w in
    elim (cases_lt (x / w) (p / w)) [
      | inl o ↦ omega (arith, mul-le-mul_right w o, add-mul (x / w) 1 w)
      | inr o ↦ omega (arith, mul-le-mul_right w o)
    ]
