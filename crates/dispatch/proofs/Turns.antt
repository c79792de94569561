-- The service rule, place by place, and that it names one place.
use Rattle.std.proofs.Common.{◌≡◌, ℕ, ◌+◌, ◌<◌, ◌≤◌, Some, None, Option, sym, refl, ap, ◌∙◌, arith}
use borrow.Author.Count.{below_more}
use Rattle.theory.specs.Service.{Served}

-- one place more that does not wait
module _ (w : ℕ → Type 0) (task : ℕ → ℕ) (i : ℕ) where
  pub served_skips : (o : Option ℕ) → (w i → ⊥) → Served i w task o → Served (i + 1) w task o
  served_skips None not s = below_more (λ k. w k → ⊥) i s not
  served_skips (Some b) not s = record {
    within = omega (arith, s.within);
    waiting = s.waiting;
    smallest = below_more (λ k. w k → task b ≤ task k) i s.smallest (λ x. absurd (not x));
    earliest = below_more (λ k. w k → task k ≡ task b → b ≤ k) i s.earliest (λ x. absurd (not x));
  }

pub served-once : (n : ℕ) (w : ℕ → Type 0) (task : ℕ → ℕ) (o p : Option ℕ) → Served n w task o → Served n w task p → o ≡ p
served-once n w task None None s t = refl
served-once n w task None (Some j) s t = absurd (s j t.within t.waiting)
served-once n w task (Some i) None s t = absurd (t i s.within s.waiting)
served-once n w task (Some i) (Some j) s t =
    let a = s.smallest j t.within t.waiting in
    let b = t.smallest i s.within s.waiting in
    let e : task j ≡ task i = omega arith in
    let x = s.earliest j t.within t.waiting e in
    let y = t.earliest i s.within s.waiting (sym e) in
    let z : i ≡ j = omega arith in
    ap Some z

-- the rule over places that wait alike, with tasks alike
pub served_alike : (n : ℕ) (w v : ℕ → Type 0) (task key : ℕ → ℕ) → ((j : ℕ) → j < n → w j → v j) → ((j : ℕ) → j < n → v j → w j)
    → ((j : ℕ) → j < n → task j ≡ key j) → (o : Option ℕ) → Served n w task o → Served n v key o
served_alike n w v task key to back same None s = λ i h x. s i h (back i h x)
served_alike n w v task key to back same (Some j) s =
    let e = same j s.within in
    record {
      within = s.within;
      waiting = to j s.within s.waiting;
      smallest = λ i h x. omega (arith, s.smallest i h (back i h x), same i h);
      earliest = λ i h x q. s.earliest i h (back i h x) (same i h ∙ q ∙ sym e);
    }
