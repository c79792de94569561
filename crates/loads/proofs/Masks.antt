-- Masks of 32 bits.
use Rattle.std.proofs.Common.{◌≡◌, ℕ, ◌+◌, ◌^◌, ◌<◌, true, false, not, ◌&&◌, ltb, sym, refl, ap, ◌∙◌, inl, inr}
use lib.Bits.{bit_or}
use Rattle.std.proofs.lemmas.Bool.{and_from, and_right, cases_Bool, cond-false, cond-true, lt-ltb, not_from_false, not_from_true}
use Rattle.theory.specs.Sets.{member}
use Rattle.theory.proofs.Decisions.{all_below, decides_all}
use Rattle.theory.proofs.Masks.{or_adds, or_keeps}
use Rattle.loads.specs.Added.{added}

-- every task of a table is in it
pub every-member : (mask : ℕ) → mask ≡ 4294967295 → (j : ℕ) → j < 32 → member mask j ≡ true
unfolding all_below
every-member mask e j less =
    ap (λ x. member x j) e ∙ (decides_all (member 4294967295) (λ j. member 4294967295 j ≡ true) 32 (λ _ _. (λ h. h, λ h. h))).0 refl j less

-- a task that is not there yet is added as its bit
pub added_new : (mask j : ℕ) → j < 32 → member mask j ≡ false → added mask j ≡ mask + 2 ^ j
added_new mask j less missing =
    cond-true (ltb j 32 && not (member mask j)) _ mask (and_from (ltb j 32) _ (lt-ltb j 32 less) (not_from_false _ missing))

-- `|` with the bit of a task adds it
pub or_added : (mask j : ℕ) → j < 32 → bit_or mask (2 ^ j) ≡ added mask j
or_added mask j less =
    elim (cases_Bool (member mask j)) [
      | inl there ↦ or_keeps j mask there ∙ sym (cond-false (ltb j 32 && not (member mask j)) (mask + 2 ^ j) mask (and_right (ltb j 32) _ (not_from_true _ there)))
      | inr missing ↦ or_adds j mask missing ∙ sym (added_new mask j less missing)
    ]
