-- The subsets of the sources in an order in which each stands behind its own subsets, and the minimal ones by one pass over it.
use Rattle.std.proofs.Common.{◌≡◌, ℕ, suc, ◌+◌, ◌-◌, ◌^◌, ◌<◌, ◌≤◌, true, false, List, [], ◌∷◌, ◌++◌, map, length, sym, refl, ap, ◌∙◌, subst, inl, inr, arith}
use Rattle.std.proofs.lemmas.List.{length-append, length-map, length_push, get_or_append_left, get_or-append_right, get_or-map, get_or_push}
use Rattle.std.proofs.lemmas.Bool.{both_ways, cases_eq, cases_lt, cases_Bool}
use Rattle.theory.specs.Search.{Among, Apart, Covered, Exactly, Lacks, Subsets, at, doubled}
use Rattle.theory.specs.Sets.{Minimal, Of, Subset, member}
use Rattle.theory.proofs.Masks.{added_same, added_other, removed, no_tasks, subset_trans, subset_refl, empty_lacks}

-- the sets of the first sources
abbrev pub First : (ℕ → ℕ) → ℕ → List ℕ → Type 0
First t n ms = Subsets (Among t n) ms

pub first-none : (t : ℕ → ℕ) → First t 0 (0 ∷ [])
first-none t =
    record {
      sources = λ p h j e. let z : p ≡ 0 = omega arith in absurd (both_ways _ (ap (λ x. member (at (0 ∷ []) x) j) z ∙ empty_lacks j) e);
      all = λ m of. (0, omega arith, sym (no_tasks m (λ j e. omega (arith, (of j e).1))));
      order = λ p q h k s. omega arith;
    }

module _ (t : ℕ → ℕ) (n : ℕ) (apart : Apart t (suc n)) (ms : List ℕ) (h : First t n ms) where
  long : length (doubled (t n) ms) ≡ length ms + length ms
  long = length-append ms (map (λ m. m + 2 ^ t n) ms) ∙ ap (λ x. length ms + x) (length-map ms (λ m. m + 2 ^ t n))

  left_at : (p : ℕ) → p < length ms → at (doubled (t n) ms) p ≡ at ms p
  left_at p b = get_or_append_left ms _ 0 p b

  right_at : (p : ℕ) → length ms ≤ p → p < length (doubled (t n) ms) → (p - length ms < length ms) × (at (doubled (t n) ms) p ≡ at ms (p - length ms) + 2 ^ t n)
  right_at p b c =
      let small : p - length ms < length ms = omega (arith, long) in
      (small, get_or-append_right ms _ (length ms) p 0 refl b ∙ get_or-map (λ m. m + 2 ^ t n) ms (p - length ms) 0 0 small)

  lacks_of : (m : ℕ) → Of (Among t n) m → member m (t n) ≡ false
  lacks_of m of =
      elim (cases_Bool (member m (t n))) [
        | inl e ↦ let (s, l, o) = of (t n) e in absurd (omega (arith, apart s n (omega arith) (omega arith) o))
        | inr f ↦ f
      ]

  pub lacks : Lacks ms (t n)
  lacks p b = lacks_of (at ms p) (h.sources p b)

  subset_added : (x y : ℕ) → member x (t n) ≡ false → member y (t n) ≡ false → Subset (x + 2 ^ t n) (y + 2 ^ t n) → Subset x y
  subset_added x y a b s k e =
      elim (cases_eq k (t n)) [
        | inl o ↦ absurd (both_ways _ a (subst (λ z. member x z ≡ true) o e))
        | inr o ↦ sym (added_other (t n) y k b o) ∙ s k (added_other (t n) x k a o ∙ e)
      ]

  pub first_more : First t (suc n) (doubled (t n) ms)
  first_more =
      record {
        sources = λ p b. elim (cases_lt p (length ms)) [
          | inl l ↦ subst (Of (Among t (suc n))) (sym (left_at p l)) (λ j e. let (s, k, o) = h.sources p l j e in (s, omega arith, o))
          | inr r ↦
              let (q, e) = right_at p r b in
              subst (Of (Among t (suc n))) (sym e) (λ k u. elim (cases_eq k (t n)) [
                | inl o ↦ (n, omega arith, sym o)
                | inr o ↦ let (s, c, i) = h.sources (p - length ms) q k (sym (added_other (t n) _ k (lacks _ q) o) ∙ u) in (s, omega arith, i)
              ])
        ];
        all = λ m of.
            let rest : (x : ℕ) → member x (t n) ≡ false → ((k : ℕ) → member x k ≡ true → member m k ≡ true) → Of (Among t n) x
            = λ x f s k e. let (r, c, i) = of k (s k e) in
            elim (cases_eq r n) [
              | inl o ↦ absurd (both_ways _ f (subst (λ z. member x z ≡ true) (sym i ∙ ap t o) e))
              | inr o ↦ (r, omega arith, i)
            ] in
            elim (cases_Bool (member m (t n))) [
              | inr f ↦ let (p, c, e) = h.all m (rest m f (λ k e. e)) in (p, omega (arith, long), left_at p c ∙ e)
              | inl u ↦
                  let (le, f) = removed (t n) m u in
                  let back : m - 2 ^ t n + 2 ^ t n ≡ m = omega arith in
                  let (p, c, e) = h.all (m - 2 ^ t n) (rest (m - 2 ^ t n) f (λ k v. elim (cases_eq k (t n)) [
                    | inl o ↦ subst (λ z. member m z ≡ true) (sym o) u
                    | inr o ↦ subst (λ z. member z k ≡ true) back (added_other (t n) (m - 2 ^ t n) k f o ∙ v)
                  ])) in
                  let (q, g) = right_at (length ms + p) (omega arith) (omega (arith, long)) in
                  let same : length ms + p - length ms ≡ p = omega arith in
                  (length ms + p, omega (arith, long), g ∙ ap (λ x. at ms x + 2 ^ t n) same ∙ ap (λ x. x + 2 ^ t n) e ∙ back)
            ];
        order = λ p q b c s. elim (cases_lt p (length ms)) [
          | inl l ↦ elim (cases_lt q (length ms)) [
            | inl l' ↦ h.order p q l l' (subst (λ x. Subset x (at ms q)) (left_at p l) (subst (λ x. Subset (at (doubled (t n) ms) p) x) (left_at q l') s))
            | inr r' ↦ omega arith
          ]
          | inr r ↦
              let (u, e) = right_at p r b in
              elim (cases_lt q (length ms)) [
                | inl l' ↦
                    absurd (both_ways _ (ap (λ x. member x (t n)) (left_at q l') ∙ lacks q l') (s (t n) (ap (λ x. member x (t n)) e ∙ added_same (t n) _ (lacks _ u))))
                | inr r' ↦
                    let (v, f) = right_at q r' c in
                    let o = h.order (p - length ms) (q - length ms) u v
                    (subset_added _ _ (lacks _ u) (lacks _ v) (subst (λ x. Subset x (at ms (q - length ms) + 2 ^ t n)) e (subst (λ x. Subset (at (doubled (t n) ms) p) x) f s))) in
                    omega arith
              ]
        ];
      }

-- the pass: what is found among the first p
pub record Found (fails source : ℕ → Type 0) (ms : List ℕ) (p : ℕ) (fs : List ℕ) : Type 0 where
  pub each : (x : ℕ) → x < length fs → Minimal fails source (at fs x)
  pub once : (x y : ℕ) → x < length fs → y < length fs → at fs x ≡ at fs y → x ≡ y
  pub covers : (q : ℕ) → q < p → fails (at ms q) → (x : ℕ) × (x < length fs) × Subset (at fs x) (at ms q)
  pub short : length fs ≤ p

module _ (fails source : ℕ → Type 0) (ms : List ℕ) (subs : Subsets source ms) where
  module _ (p : ℕ) (inside : p < length ms) (fs : List ℕ) (h : Found fails source ms p fs) where
    pub found_covered : Covered fs (at ms p) → Found fails source ms (p + 1) fs
    found_covered c =
        record {
          each = h.each;
          once = h.once;
          covers = λ q l b. elim (cases_eq q p) [ inl e ↦ subst (λ z. Covered fs (at ms z)) (sym e) c | inr n ↦ h.covers q (omega arith) b ];
          short = omega (arith, h.short);
        }

    pub found_passing : (fails (at ms p) → ⊥) → Found fails source ms (p + 1) fs
    found_passing passes =
        record {
          each = h.each;
          once = h.once;
          covers = λ q l b. elim (cases_eq q p) [ inl e ↦ absurd (passes (subst (λ z. fails (at ms z)) e b)) | inr n ↦ h.covers q (omega arith) b ];
          short = omega (arith, h.short);
        }

    abbrev more : List ℕ
    more = fs ++ at ms p ∷ []

    old_at : (x : ℕ) → x < length fs → at more x ≡ at fs x
    old_at x b = get_or_append_left fs _ 0 x b

    new_at : (x : ℕ) → x < length more → (x < length fs → ⊥) → (x ≡ length fs) × (at more x ≡ at ms p)
    new_at x b n =
        let e : x ≡ length fs = omega (arith, length_push fs (at ms p)) in
        (e, get_or_push fs (at ms p) 0 x (sym e))

    pub found_new : fails (at ms p) → (Covered fs (at ms p) → ⊥) → Found fails source ms (p + 1) more
    found_new failing none =
        let long = length_push fs (at ms p) in
        record {
          each = λ x b. elim (cases_lt x (length fs)) [
            | inl l ↦ subst (Minimal fails source) (sym (old_at x l)) (h.each x l)
            | inr r ↦
                subst (Minimal fails source) (sym (new_at x b (λ l. omega arith)).1)
                (record {
                  sources = subs.sources p inside;
                  failing = failing;
                  least = λ y s f.
                      let (q, ql, e) = subs.all y (λ j e. subs.sources p inside j (s j e)) in
                      let le = subs.order q p ql inside (subst (λ z. Subset z (at ms p)) (sym e) s) in
                      elim (cases_eq q p) [
                        | inl o ↦ sym e ∙ ap (at ms) o
                        | inr o ↦
                            let (x', b', c) = h.covers q (omega arith) (subst fails (sym e) f) in
                            absurd (none (x', b', subset_trans (at fs x') (at ms q) (at ms p) c (subst (λ z. Subset z (at ms p)) (sym e) s)))
                      ];
                })
          ];
          once = λ x y b c e. elim (cases_lt x (length fs)) [
            | inl l ↦ elim (cases_lt y (length fs)) [
              | inl l' ↦ h.once x y l l' (sym (old_at x l) ∙ e ∙ old_at y l')
              | inr r' ↦ absurd (none (x, l, subst (λ z. Subset (at fs x) z) (sym (old_at x l) ∙ e ∙ (new_at y c (λ i. omega arith)).1) (subset_refl (at fs x))))
            ]
            | inr r ↦ elim (cases_lt y (length fs)) [
              | inl l' ↦ absurd (none (y, l', subst (λ z. Subset (at fs y) z) (sym (old_at y l') ∙ sym e ∙ (new_at x b (λ i. omega arith)).1) (subset_refl (at fs y))))
              | inr r' ↦ omega arith
            ]
          ];
          covers = λ q l b. elim (cases_eq q p) [
            | inl e ↦ (length fs, omega arith, subst (λ z. Subset z (at ms q)) (sym (new_at (length fs) (omega arith) (λ i. omega arith)).1) (subst (λ z. Subset (at ms p) (at ms z)) (sym e) (subset_refl (at ms p))))
            | inr n ↦ let (x, c, s) = h.covers q (omega arith) b in (x, omega arith, subst (λ z. Subset z (at ms q)) (sym (old_at x c)) s)
          ];
          short = omega (arith, h.short);
        }

  pub found_all : (fs : List ℕ) → Found fails source ms (length ms) fs → Exactly (Minimal fails source) fs
  found_all fs h =
      record {
        each = h.each;
        all = λ m is.
            let (q, l, e) = subs.all m is.sources in
            let (x, b, s) = h.covers q l (subst fails (sym e) is.failing) in
            (x, b, is.least (at fs x) (subst (λ z. Subset (at fs x) z) e s) (h.each x b).failing);
        once = h.once;
      }
