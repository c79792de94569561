-- Sets written as numbers, by their bits.
use Rattle.std.proofs.Common.{◌≡◌, ℕ, zero, suc, ◌+◌, ◌-◌, ◌/◌, ◌%◌, ◌^◌, ◌<◌, ◌≤◌, min, true, false, eqb, sym, refl, ap, ◌∙◌, subst, inl, inr, arith, pow_mono}
use native.Mathlib.Nat.{pow-succ', div-div-eq-div-mul, div-eq_of_lt}
use lib.Arith.{bin_ind}
use lib.Bits.{bit_and, bit_or, or_disjoint, or_step, or_zero_r, and_mask, and_step, and_zero_l, and_le_r}
use Rattle.std.proofs.lemmas.Nat.{and_shr, and_mod}
use Rattle.std.proofs.lemmas.Bool.{eq-eqb, ne_eqb, eqb-true, eqb-false, cases_eq}
use Rattle.theory.specs.Sets.{Subset, member}

pub half : (s j : ℕ) → member s (suc j) ≡ member (s / 2) j
half s j = ap (λ x. eqb (x % 2) 1) (ap (λ x. s / x) (pow-succ' 2 j) ∙ sym (div-div-eq-div-mul s 2 (2 ^ j)))

pub low : (s : ℕ) → member s 0 ≡ eqb (s % 2) 1
low s = let e : s / 1 ≡ s = omega arith in ap (λ x. eqb (x % 2) 1) e

-- a member that is not there yet, added
pub added_same : (t m : ℕ) → member m t ≡ false → member (m + 2 ^ t) t ≡ true
added_same zero m f =
    let o : m % 2 ≡ 1 → ⊥ = eqb-false (m % 2) 1 (sym (low m) ∙ f) in
    low (m + 1) ∙ eq-eqb ((m + 1) % 2) 1 (omega arith)
added_same (suc t) m f =
    let e : (m + 2 ^ suc t) / 2 ≡ m / 2 + 2 ^ t = omega (arith, pow-succ' 2 t) in
    half (m + 2 ^ suc t) t ∙ ap (λ x. member x t) e ∙ added_same t (m / 2) (sym (half m t) ∙ f)

pub added_other : (t m k : ℕ) → member m t ≡ false → (k ≡ t → ⊥) → member (m + 2 ^ t) k ≡ member m k
added_other zero m zero f n = absurd (n refl)
added_other zero m (suc k) f n =
    let o : m % 2 ≡ 1 → ⊥ = eqb-false (m % 2) 1 (sym (low m) ∙ f) in
    let e : (m + 1) / 2 ≡ m / 2 = omega arith in
    half (m + 1) k ∙ ap (λ x. member x k) e ∙ sym (half m k)
added_other (suc t) m zero f n =
    let e : (m + 2 ^ suc t) % 2 ≡ m % 2 = omega (arith, pow-succ' 2 t) in
    low (m + 2 ^ suc t) ∙ ap (λ x. eqb x 1) e ∙ sym (low m)
added_other (suc t) m (suc k) f n =
    let e : (m + 2 ^ suc t) / 2 ≡ m / 2 + 2 ^ t = omega (arith, pow-succ' 2 t) in
    half (m + 2 ^ suc t) k ∙ ap (λ x. member x k) e ∙ added_other t (m / 2) k (sym (half m t) ∙ f) (λ o. n (ap suc o)) ∙ sym (half m k)

-- a member taken away
pub removed : (t m : ℕ) → member m t ≡ true → (2 ^ t ≤ m) × (member (m - 2 ^ t) t ≡ false)
removed zero m e =
    let o = eqb-true (m % 2) 1 (sym (low m) ∙ e) in
    (omega arith, low (m - 1) ∙ ne_eqb ((m - 1) % 2) 1 (λ z. omega arith))
removed (suc t) m e =
    let (le, f) = removed t (m / 2) (sym (half m t) ∙ e) in
    let g : (m - 2 ^ suc t) / 2 ≡ m / 2 - 2 ^ t = omega (arith, pow-succ' 2 t) in
    (omega (arith, pow-succ' 2 t), half (m - 2 ^ suc t) t ∙ ap (λ x. member x t) g ∙ f)

-- `|` adds a member
and_none : (t m : ℕ) → member m t ≡ false → bit_and m (2 ^ t) ≡ 0
and_none zero m f = let o : m % 2 ≡ 1 → ⊥ = eqb-false (m % 2) 1 (sym (low m) ∙ f) in omega (arith, and_mask m 1)
and_none (suc t) m f =
    let g : 2 ^ suc t / 2 ≡ 2 ^ t = omega (arith, pow-succ' 2 t) in
    omega (arith, and_step m (2 ^ suc t), ap (bit_and (m / 2)) g, and_none t (m / 2) (sym (half m t) ∙ f), pow-succ' 2 t)

pub or_adds : (t m : ℕ) → member m t ≡ false → bit_or m (2 ^ t) ≡ m + 2 ^ t
or_adds t m f = or_disjoint m (2 ^ t) (and_none t m f)

-- a member that is there stays
pub or_keeps : (t m : ℕ) → member m t ≡ true → bit_or m (2 ^ t) ≡ m
or_keeps zero m e = let o = eqb-true (m % 2) 1 (sym (low m) ∙ e) in omega (arith, or_step m 1, or_zero_r (m / 2))
or_keeps (suc t) m e =
    let half-power : 2 ^ suc t / 2 ≡ 2 ^ t = omega (arith, pow-succ' 2 t) in
    omega (arith, or_step m (2 ^ suc t), ap (bit_or (m / 2)) half-power, or_keeps t (m / 2) (sym (half m t) ∙ e), pow-succ' 2 t)

pub empty_lacks : (j : ℕ) → member 0 j ≡ false
empty_lacks zero = refl
empty_lacks (suc j) = half 0 j ∙ empty_lacks j

pub subset_half : (a b : ℕ) → Subset a b → Subset (a / 2) (b / 2)
subset_half a b h j e = sym (half b j) ∙ h (suc j) (half a j ∙ e)

pub subset_low : (a b : ℕ) → Subset a b → min (a % 2) (b % 2) ≡ a % 2
subset_low a b h =
    elim (cases_eq (a % 2) 1) [
      | inl e ↦ let f = eqb-true (b % 2) 1 (sym (low b) ∙ h 0 (low a ∙ eq-eqb _ _ e)) in omega arith
      | inr e ↦ omega arith
    ]

-- a subset by `&`
pub subset_and : (a b : ℕ) → Subset a b → bit_and a b ≡ a
subset_and = bin_ind (λ a. (b : ℕ) → Subset a b → bit_and a b ≡ a) (λ b h. and_zero_l b)
    (λ a ih b h. omega (arith, and_step a b, ih (b / 2) (subset_half a b h), subset_low a b h))

pub and_bit : (a b j : ℕ) → bit_and a b / 2 ^ j % 2 ≡ bit_and (a / 2 ^ j % 2) (b / 2 ^ j % 2)
and_bit a b j = ap (λ x. x % 2) (and_shr a b j) ∙ and_mod (a / 2 ^ j) (b / 2 ^ j) 1

pub and_subset : (a b : ℕ) → bit_and a b ≡ a → Subset a b
and_subset a b e j h =
    let one = eqb-true (a / 2 ^ j % 2) 1 h in
    let low : bit_and (a / 2 ^ j % 2) (b / 2 ^ j % 2) ≤ b / 2 ^ j % 2 = and_le_r _ _ in
    let same = sym (ap (λ x. x / 2 ^ j % 2) e) ∙ and_bit a b j in
    eq-eqb (b / 2 ^ j % 2) 1 (omega arith)

pub subset_refl : (a : ℕ) → Subset a a
subset_refl a j h = h

pub subset_trans : (a b c : ℕ) → Subset a b → Subset b c → Subset a c
subset_trans a b c f g j h = g j (f j h)

pub subset_le : (a b : ℕ) → Subset a b → a ≤ b
subset_le a b f = subst (λ x. x ≤ b) (subset_and a b f) (and_le_r a b)

pub no_tasks : (m : ℕ) → ((j : ℕ) → member m j ≡ true → ⊥) → m ≡ 0
no_tasks m h = omega (arith, subset_le m 0 (λ j e. absurd (h j e)))

-- a set of tasks below j
pub below : (j m : ℕ) → ((k : ℕ) → member m k ≡ true → k < j) → m < 2 ^ j
below zero m h = let e = no_tasks m (λ k t. omega (arith, h k t)) in omega arith
below (suc j) m h =
    let r = below j (m / 2) (λ k t. omega (arith, h (suc k) (half m k ∙ t))) in
    omega (arith, pow-succ' 2 j)

-- no task from n on is in a set of tasks below n
pub behind-none : (s n j : ℕ) → s < 2 ^ n → n ≤ j → member s j ≡ false
behind-none s n j small high = ap (λ x. eqb (x % 2) 1) (div-eq_of_lt (omega (arith, pow_mono high)))
