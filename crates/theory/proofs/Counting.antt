-- How many numbers have a property, one number after another.
use Rattle.std.proofs.Common.{◌≡◌, ℕ, ◌+◌, ◌≤◌, Bool, false, cond, eqb, Decides, sym, refl, ap, ◌∙◌, subst, inl, inr, arith}
use Rattle.std.proofs.lemmas.Bool.{cases_eq, cond-true, cond-false, eq-eqb, ne_eqb}
use Rattle.theory.specs.Questions.{HowMany}
use Rattle.theory.proofs.Totals.{count_mono, total_longer, total_more, total_none, total_same}

pub how_many_none : (P : ℕ → Type 0) → HowMany P 0 0
how_many_none P = ((λ _. false), (λ q some few. absurd (omega arith)), sym (total_none _))

-- the next number has the property, or has it not
pub how_many_more : (P : ℕ → Type 0) (k n : ℕ) (r : Bool) → HowMany P k n → Decides r (P (k + 1)) → HowMany P (k + 1) (n + cond r 1 0)
how_many_more P k n r (test, decides, counted) next =
    let now' = λ (q : ℕ). cond (eqb q (k + 1)) r (test q) in
    let here : now' (k + 1) ≡ r = cond-true (eqb (k + 1) (k + 1)) r (test (k + 1)) (eq-eqb (k + 1) (k + 1) refl) in
    let old = λ (q : ℕ) (ne : q ≡ k + 1 → ⊥). cond-false (eqb q (k + 1)) r (test q) (ne_eqb q (k + 1) ne) in (
      now',
      λ q some few. elim (cases_eq q (k + 1)) [
        | inl e ↦ subst (λ x. Decides (now' x) (P x)) (sym e) (subst (λ b. Decides b (P (k + 1))) (sym here) next)
        | inr ne ↦ subst (λ b. Decides b (P q)) (sym (old q ne)) (decides q some (omega arith))
      ],
      sym (total_more (λ q. cond (now' (q + 1)) 1 0) k
          ∙ (λ i. total_same (λ q. cond (now' (q + 1)) 1 0) (λ q. cond (test (q + 1)) 1 0) k (λ q less. ap (λ b. cond {A = ℕ} b 1 0) (old (q + 1) (λ e. omega arith))) i
          + cond {A = ℕ} (here i) 1 0)
          ∙ ap (λ x. x + cond {A = ℕ} r 1 0) (sym counted)),
    )

-- fewer numbers with a property that implies the other
pub how_many_le : (P Q : ℕ → Type 0) (k l n o : ℕ) → k ≤ l → ((q : ℕ) → P q → Q q) → HowMany P k n → HowMany Q l o → n ≤ o
how_many_le P Q k l n o less implies (test, decides, counted) (test', decides', counted') =
    let each =
    count_mono (λ q. test (q + 1)) (λ q. test' (q + 1)) k
    (λ q below e. (decides' (q + 1) (omega arith) (omega arith)).1 (implies (q + 1) ((decides (q + 1) (omega arith) (omega arith)).0 e))) in
    omega (arith, total_longer (λ q. cond (test' (q + 1)) 1 0) k l less)

pub how_many_unique : (P : ℕ → Type 0) (k n o : ℕ) → HowMany P k n → HowMany P k o → n ≡ o
how_many_unique P k n o a b =
    omega (arith, how_many_le P P k k n o (omega arith) (λ _ h. h) a b, how_many_le P P k k o n (omega arith) (λ _ h. h) b a)
