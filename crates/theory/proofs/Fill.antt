-- The cells, filled in the order of their places, hold the greatest lengths of packed lists.
use Rattle.std.proofs.Common.{◌≡◌, ℕ, suc, ◌+◌, ◌-◌, ◌%◌, ◌<◌, ◌≤◌, cond, List, [], ◌∷◌, length, count_by, sym, ◌∙◌, subst, inl, inr, arith}
use Rattle.std.specs.List.{ContainsAt as Has, AllByRecursion}
use Rattle.std.proofs.lemmas.List.Sums.{sum_by-cons}
use Rattle.std.proofs.lemmas.Bool.{cases_eq, cases_Bool, cond-true, cond-false}
use Rattle.theory.specs.Packings.{states}
use Rattle.theory.specs.Search.{at}
use Rattle.theory.specs.Sets.{member}
use Rattle.theory.specs.States.{AllTake, Filled, Most, Packed, Suits, Takes, digit, index, offset}
use Rattle.theory.specs.Sums.{total}
use Rattle.theory.proofs.Radix.{states_positive, index_same, index_at, digit-within, index-full, without, index-without, offset_part, ring_apart}
use Rattle.theory.proofs.Totals.{total_le, total_add, total_part, total_same}

counted : (t : ℕ → ℕ) (s c : ℕ) (ps : List ℕ) → count_by (λ x. member x (t s)) (c ∷ ps) ≡ cond (member c (t s)) 1 0 + count_by (λ x. member x (t s)) ps
counted t s c ps = sum_by-cons (λ x. cond (member x (t s)) 1 0) c ps

module _ (cs : List ℕ) (t : ℕ → ℕ) (n : ℕ) where
  pub most_same : (d e : ℕ → ℕ) → ((s : ℕ) → s < n → d s ≡ e s) → (v : ℕ) → Most cs t n d v → Most cs t n e v
  most_same d e h v m =
      let (ps, pk, le) = m.some_list in
      record {
        some_list = (ps, record { listed = pk.listed; fits = λ s l. omega (arith, pk.fits s l, h s l) }, le);
        no_longer = λ qs pq. m.no_longer qs (record { listed = pq.listed; fits = λ s l. omega (arith, pq.fits s l, h s l) });
      }

  pub packed_none : (d : ℕ → ℕ) → Packed cs t n d []
  packed_none d = record { listed = tt; fits = λ s l. omega arith }

  -- one set more, and one less
  pub packed_more : (d : ℕ → ℕ) (c : ℕ) → Has cs c → Suits t n d c → (ps : List ℕ) → Packed cs t n (without t c d) ps → Packed cs t n d (c ∷ ps)
  packed_more d c inside suits ps pk =
      record {
        listed = (inside, pk.listed);
        fits = λ s l. elim (cases_Bool (member c (t s))) [
          | inl e ↦ omega (arith, counted t s c ps, pk.fits s l, cond-true {A = ℕ} (member c (t s)) 1 0 e, suits s l e)
          | inr e ↦ omega (arith, counted t s c ps, pk.fits s l, cond-false {A = ℕ} (member c (t s)) 1 0 e)
        ];
      }

  pub packed_suits : (d : ℕ → ℕ) (c : ℕ) (ps : List ℕ) → Packed cs t n d (c ∷ ps) → Suits t n d c
  packed_suits d c ps pk s l e = omega (arith, counted t s c ps, pk.fits s l, cond-true {A = ℕ} (member c (t s)) 1 0 e)

  pub packed_less : (d : ℕ → ℕ) (c : ℕ) (ps : List ℕ) → Packed cs t n d (c ∷ ps) → Packed cs t n (without t c d) ps
  packed_less d c ps pk = record { listed = pk.listed.1; fits = λ s l. omega (arith, counted t s c ps, pk.fits s l) }

  -- each set takes from a source, so no packing has more than all budgets together
  module _ (takes : AllTake cs t n) where
    takes_has : (c : ℕ) → Has cs c → Takes t n c
    takes_has c (y, l, e) = subst (Takes t n) (e 0) (takes y l)

    members : (ps : List ℕ) → AllByRecursion (Has cs) ps → length ps ≤ total (λ s. count_by (λ x. member x (t s)) ps) n
    members [] h = omega arith
    members (c ∷ ps) (h, hs) =
        let (s, l, e) = takes_has c h in
        omega (
          arith,
          members ps hs,
          total_same (λ s. count_by (λ x. member x (t s)) (c ∷ ps)) (λ s. cond (member c (t s)) 1 0 + count_by (λ x. member x (t s)) ps) n (λ s l. counted t s c ps),
          total_add (λ s. cond (member c (t s)) 1 0) (λ s. count_by (λ x. member x (t s)) ps) n,
          total_part (λ s. cond (member c (t s)) 1 0) n s l,
          cond-true {A = ℕ} (member c (t s)) 1 0 e,
        )

    pub most_bound : (d : ℕ → ℕ) (v : ℕ) → Most cs t n d v → v ≤ total d n
    most_bound d v m =
        let (ps, pk, le) = m.some_list in
        omega (arith, members ps pk.listed, total_le (λ s. count_by (λ x. member x (t s)) ps) d n pk.fits)

  module _ (b : ℕ → ℕ) (w : ℕ) where
    abbrev Full : (ℕ → ℕ) → ℕ → Type 0
    Full cell p = Filled cs t n b w cell p

    module _ (cell : ℕ → ℕ) (p : ℕ) (h : Full cell p) (inside : p < states b n) where
      -- what stands for the state that lacks one of each source in c
      pub before : (c : ℕ) → Takes t n c → Suits t n (digit b p) c → offset b t c n ≤ w → Most cs t n (without t c (digit b p)) (cell ((p - offset b t c n) % w))
      before c (s, l, e) suits near =
          let back = index-without b t (digit b p) c n suits in
          let here = index_at b p n inside in
          let some-way : 1 ≤ offset b t c n = omega (arith, offset_part b t c n s l e, states_positive b s) in
          let place : index b (without t c (digit b p)) n ≡ p - offset b t c n = omega arith in
          subst (λ x. Most cs t n (without t c (digit b p)) (cell (x % w))) place
          (h (without t c (digit b p)) (λ s l. omega (arith, digit-within b p n s l)) (omega arith) (omega arith))

      -- with c added to it, a list for the state at p
      pub reached : (c : ℕ) → Has cs c → Takes t n c → Suits t n (digit b p) c → offset b t c n ≤ w
          → (ps : List ℕ) × Packed cs t n (digit b p) ps × (length ps ≡ cell ((p - offset b t c n) % w) + 1)
      reached c here takes suits near =
          let (ps, pk, le) = (before c takes suits near).some_list in
          (c ∷ ps, packed_more (digit b p) c here suits ps pk, omega arith)

      -- what no set exceeds and some list reaches is the greatest length
      pub greatest : (v : ℕ) → AllTake cs t n → ((y : ℕ) → y < length cs → Suits t n (digit b p) (at cs y) → offset b t (at cs y) n ≤ w)
          → ((ps : List ℕ) × Packed cs t n (digit b p) ps × (length ps ≡ v))
          → ((y : ℕ) → y < length cs → Suits t n (digit b p) (at cs y) → cell ((p - offset b t (at cs y) n) % w) + 1 ≤ v)
          → Most cs t n (digit b p) v
      greatest v takes near reached-list above = record { some_list = reached-list; no_longer = most }
        where
          most : (ps : List ℕ) → Packed cs t n (digit b p) ps → length ps ≤ v
          most [] pk = omega arith
          most (c ∷ ps) pk =
              let (y, l, e) = pk.listed.0 in
              let pk' = subst (λ z. Packed cs t n (digit b p) (z ∷ ps)) (sym (e 0)) pk in
              let suits = packed_suits (digit b p) (at cs y) ps pk' in
              omega (arith, (before (at cs y) (takes y l) suits (near y l suits)).no_longer ps (packed_less (digit b p) (at cs y) ps pk'), above y l suits)

      -- the cell of place p, written
      pub filled_more : (after : ℕ → ℕ) → ((x : ℕ) → (x ≡ p % w → ⊥) → after x ≡ cell x) → Most cs t n (digit b p) (after (p % w)) → Full after (suc p)
      filled_more after kept m d here l k =
          elim (cases_eq (index b d n) p) [
            | inl e ↦
                subst (λ x. Most cs t n d (after (x % w))) (sym e)
                (most_same (digit b p) d (λ s q. sym (index_same b d (digit b p) n here (digit-within b p n) (e ∙ sym (index_at b p n inside)) s q)) (after (p % w)) m)
            | inr e ↦
                subst (Most cs t n d) (sym (kept (index b d n % w) (λ o. ring_apart w (index b d n) p (omega arith) (omega arith) o))) (h d here (omega arith) (omega arith))
          ]

    -- the last cell is that of the whole budgets
    pub filled_all : (cell : ℕ → ℕ) → 1 ≤ w → Full cell (states b n) → Most cs t n b (cell ((states b n - 1) % w))
    filled_all cell pos h =
        let e : index b b n ≡ states b n - 1 = omega (arith, index-full b n) in
        subst (λ x. Most cs t n b (cell (x % w))) e (h b (λ s l. omega arith) (omega (arith, index-full b n)) (omega (arith, index-full b n)))
