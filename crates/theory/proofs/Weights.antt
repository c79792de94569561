-- A packing gives each set a number, a packed list repeats it as often: the same packings.
use Rattle.std.proofs.Common.{◌≡◌, ℕ, zero, suc, ◌+◌, ◌^◌, ◌<◌, ◌≤◌, Bool, true, cond, ◌&&◌, eqb, List, [], ◌∷◌, ◌++◌, length, replicate, count_by, sym, refl, ap, ◌∙◌, subst, inl, inr, arith}
use Rattle.std.specs.List.{ContainsAt as Has, AllByRecursion}
use Rattle.std.proofs.ByRecursion.{All-append, All-weaker}
use Rattle.std.proofs.lemmas.List.{length-append, length-replicate, get_or_default}
use Rattle.std.proofs.lemmas.List.Sums.{sum_by-cons, sum_by-append}
use Rattle.std.proofs.lemmas.Bool.{cases_eq, cases_Bool, cond-true, cond-false, lt-ltb, ne_eqb}
use Rattle.theory.specs.Packings.{Greatest}
use Rattle.theory.specs.Search.{Exactly}
use Rattle.theory.specs.Sets.{member}
use Rattle.theory.specs.States.{Most}
use Rattle.theory.specs.Sums.{total, sum_if}
use Rattle.theory.proofs.Totals.{cond_add, cond_nothing, hit_once, one_if, total_add, total_same, total-zero}

-- from numbers of times to a list
abbrev pub spread : (ℕ → ℕ) → ℕ → List ℕ
spread w zero = []
spread w (suc n) = spread w n ++ replicate (w n) n

count-replicate : (p : ℕ → Bool) (k x : ℕ) → count_by p (replicate k x) ≡ cond (p x) k 0
count-replicate p zero x = elim (cases_Bool (p x)) [ inl e ↦ sym (cond-true (p x) 0 0 e) | inr e ↦ sym (cond-false (p x) 0 0 e) ]
count-replicate p (suc k) x =
    let ih = count-replicate p k x in
    let c = sum_by-cons (λ (y : ℕ). cond (p y) 1 0) x (replicate k x) in
    elim (cases_Bool (p x)) [
      | inl e ↦ omega (arith, cond-true {A = ℕ} (p x) 1 0 e, cond-true (p x) k 0 e, cond-true (p x) (suc k) 0 e)
      | inr e ↦ omega (arith, cond-false {A = ℕ} (p x) 1 0 e, cond-false (p x) k 0 e, cond-false (p x) (suc k) 0 e)
    ]

pub spread-count : (p : ℕ → Bool) (w : ℕ → ℕ) (n : ℕ) → count_by p (spread w n) ≡ sum_if p w n
unfolding total
spread-count p w zero = refl
spread-count p w (suc n) =
    omega (arith, sum_by-append (λ (y : ℕ). cond (p y) 1 0) (spread w n) (replicate (w n) n), count-replicate p (w n) n, spread-count p w n)

pub spread-length : (w : ℕ → ℕ) (n : ℕ) → length (spread w n) ≡ total w n
unfolding total
spread-length w zero = refl
spread-length w (suc n) = omega (arith, length-append (spread w n) (replicate (w n) n), length-replicate (w n) n, spread-length w n)

all_replicate : (P : ℕ → Type 0) (k x : ℕ) → (1 ≤ k → P x) → AllByRecursion P (replicate k x)
all_replicate P zero x h = tt
all_replicate P (suc k) x h = (h (omega arith), all_replicate P k x (λ l. h (omega arith)))

pub spread-all : (P : ℕ → Type 0) (w : ℕ → ℕ) (n : ℕ) → ((m : ℕ) → 1 ≤ w m → P m) → AllByRecursion P (spread w n)
spread-all P w zero h = tt
spread-all P w (suc n) h = All-append P (spread w n) (replicate (w n) n) (spread-all P w n h) (all_replicate P (w n) n (h n))

-- from a list to numbers of times
abbrev pub times : List ℕ → ℕ → ℕ
times ps m = count_by (λ x. eqb x m) ps

pub times-count : (p : ℕ → Bool) (n : ℕ) (ps : List ℕ) → AllByRecursion (λ m. m < n) ps → sum_if p (times ps) n ≡ count_by p ps
times-count p n [] h = total_same (λ k. cond (p k) (times [] k) 0) (λ _. 0) n (λ k l. cond_nothing (p k)) ∙ total-zero n
times-count p n (x ∷ ps) (h, hs) =
    omega (
      arith,
      total_same (λ m. cond (p m) (times (x ∷ ps) m) 0) (λ m. cond (p m) (cond (eqb x m) 1 0) 0 + cond (p m) (times ps m) 0) n
          (λ m l. ap (λ z. cond (p m) z 0) (sum_by-cons (λ (y : ℕ). cond (eqb y m) 1 0) x ps) ∙ cond_add (p m) (cond (eqb x m) 1 0) (times ps m)),
      total_add (λ m. cond (p m) (cond (eqb x m) 1 0) 0) (λ m. cond (p m) (times ps m) 0) n,
      hit_once p x n,
      ap (λ b. one_if (b && p x)) (lt-ltb x n h),
      times-count p n ps hs,
      sum_by-cons (λ (y : ℕ). cond (p y) 1 0) x ps,
    )

pub times-member : (P : ℕ → Type 0) (m : ℕ) (ps : List ℕ) → AllByRecursion P ps → 1 ≤ times ps m → P m
times-member P m [] h l = absurd (omega arith)
times-member P m (x ∷ ps) (h, hs) l =
    elim (cases_eq x m) [
      | inl e ↦ subst P e h
      | inr e ↦ times-member P m ps hs (omega (arith, sum_by-cons (λ (y : ℕ). cond (eqb y m) 1 0) x ps, cond-false {A = ℕ} (eqb x m) 1 0 (ne_eqb x m e)))
    ]

pub count-every : (ps : List ℕ) → count_by (λ _. true) ps ≡ length ps
count-every [] = refl
count-every (x ∷ ps) = omega (arith, sum_by-cons (λ (y : ℕ). cond {A = ℕ} true 1 0) x ps, count-every ps)

-- the two ways to say the greatest
module _ (C source : ℕ → Type 0) (budget : ℕ → ℕ) (width : ℕ) (cs : List ℕ) (lists : Exactly C cs) (small : (m : ℕ) → C m → m < 2 ^ width)
    (t b : ℕ → ℕ) (n : ℕ) (place : (j : ℕ) → source j → (s : ℕ) × (s < n) × (t s ≡ j)) (named : (s : ℕ) → s < n → source (t s) × (b s ≡ budget (t s))) where
  has_C : (m : ℕ) → Has cs m → C m
  has_C m (p, l, e) = subst C (e 0) (lists.each p l)

  C_has : (m : ℕ) → C m → Has cs m
  C_has m c = let (p, l, e) = lists.all m c in (p, l, λ d. get_or_default cs p d 0 l ∙ e)

  pub greatest_of : (G : ℕ) → Most cs t n b G → Greatest C source budget width G
  greatest_of G m =
      let (ps, pk, le) = m.some_list in
      let all-C = All-weaker (Has cs) C has_C ps pk.listed in
      let low = All-weaker C (λ m. m < 2 ^ width) small ps all-C in
      record {
        some_packing = (
          times ps,
          record {
            only = λ m l. times-member C m ps all-C l;
            fits = λ j src.
                let (s, l, e) = place j src in
                omega (arith, times-count (λ m. member m j) (2 ^ width) ps low, ap (λ j. count_by (λ m. member m j) ps) e, pk.fits s l, (named s l).1, ap budget e);
          },
          times-count (λ _. true) (2 ^ width) ps low ∙ count-every ps ∙ le,
        );
        no_larger = λ w pw.
            omega (
              arith,
              spread-length w (2 ^ width),
              m.no_longer (spread w (2 ^ width))
                  (record {
                    listed = All-weaker C (Has cs) C_has (spread w (2 ^ width)) (spread-all C w (2 ^ width) pw.only);
                    fits = λ s l. omega (arith, spread-count (λ m. member m (t s)) w (2 ^ width), pw.fits (t s) (named s l).0, (named s l).1);
                  }),
            );
      }
