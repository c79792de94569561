-- Sums and counts over the numbers below a bound.
use Rattle.std.proofs.Common.{◌≡◌, ℕ, zero, suc, ◌+◌, ◌*◌, ◌<◌, ◌≤◌, Bool, true, false, cond, ◌&&◌, eqb, ltb, sym, refl, ap, ◌∙◌, subst, inl, inr, not-suc-le-zero, add-zero, add-suc, mul-one, add-one, arith}
use native.Mathlib.Nat.{le_dest}
use Rattle.std.proofs.lemmas.Bool.{and_from, cases_Bool, cases_eq, cases_lt, cond_both, eq-eqb, false≢true, le-ltb, lt-ltb}
use Rattle.std.proofs.lemmas.Bool.Decides.{nat_tests}
use Rattle.theory.specs.Sums.{count, sum_if, total}

pub total_none : (f : ℕ → ℕ) → total f 0 ≡ 0
unfolding total
total_none f = refl

pub total-suc : (f : ℕ → ℕ) (n : ℕ) → total f (suc n) ≡ total f n + f n
unfolding total
total-suc f n = refl

-- the same, as code counts
pub total_more : (f : ℕ → ℕ) (n : ℕ) → total f (n + 1) ≡ total f n + f n
total_more f n = ap (total f) (add-one n) ∙ total-suc f n

pub total_le : (f g : ℕ → ℕ) (n : ℕ) → ((j : ℕ) → j < n → f j ≤ g j) → total f n ≤ total g n
unfolding total
total_le f g zero h = omega arith
total_le f g (suc n) h = omega (arith, total_le f g n (λ j less. h j (omega arith)), h n (omega arith))

-- sums of what is the same below the bound
pub total_same : (f g : ℕ → ℕ) (n : ℕ) → ((j : ℕ) → j < n → f j ≡ g j) → total f n ≡ total g n
total_same f g n h =
    omega (arith, total_le f g n (λ j less. omega (arith, h j less)), total_le g f n (λ j less. omega (arith, h j less)))

pub total_add : (f g : ℕ → ℕ) (n : ℕ) → total (λ j. f j + g j) n ≡ total f n + total g n
unfolding total
total_add f g zero = omega arith
total_add f g (suc n) = omega (arith, total_add f g n)

pub total-zero : (n : ℕ) → total (λ _. 0) n ≡ 0
unfolding total
total-zero zero = refl
total-zero (suc n) = omega (arith, total-zero n)

-- one term of a sum
pub total_part : (f : ℕ → ℕ) (n j : ℕ) → j < n → f j ≤ total f n
unfolding total
total_part f zero j less = omega arith
total_part f (suc n) j less =
    elim (cases_eq j n) [ inl e ↦ omega (arith, ap f e) | inr other ↦ omega (arith, total_part f n j (omega arith)) ]

-- a sum of terms that are at most m
pub total_most : (f : ℕ → ℕ) (n m : ℕ) → ((j : ℕ) → j < n → f j ≤ m) → total f n ≤ n * m
unfolding total
total_most f zero m h = omega arith
total_most f (suc n) m h = omega (arith, total_most f n m (λ j less. h j (omega arith)), h n (omega arith))

-- one term smaller, none larger
pub total_lt : (f g : ℕ → ℕ) (n x : ℕ) → ((j : ℕ) → j < n → f j ≤ g j) → x < n → f x < g x → total f n < total g n
unfolding total
total_lt f g zero x h b s = omega arith
total_lt f g (suc n) x h b s =
    let before : (j : ℕ) → j < n → f j ≤ g j = λ j less. h j (omega arith) in
    elim (cases_eq x n) [
      | inl e ↦ omega (arith, total_le f g n before, ap f e, ap g e)
      | inr d ↦ omega (arith, total_lt f g n x before (omega arith) s, h n (omega arith))
    ]

pub total_nothing : (f : ℕ → ℕ) (n : ℕ) → ((j : ℕ) → j < n → f j ≡ 0) → total f n ≡ 0
total_nothing f n h = total_same f (λ _. 0) n h ∙ total-zero n

pub total-times : (c : ℕ) (f : ℕ → ℕ) (n : ℕ) → total (λ j. c * f j) n ≡ c * total f n
unfolding total
total-times c f zero = omega arith
total-times c f (suc n) = omega (arith, total-times c f n)

pub total_swap : (f : ℕ → ℕ → ℕ) (n m : ℕ) → total (λ a. total (f a) m) n ≡ total (λ b. total (λ a. f a b) n) m
unfolding total
total_swap f zero m = sym (total-zero m)
total_swap f (suc n) m = omega (arith, total_swap f n m, total_add (λ b. total (λ a. f a b) n) (f n) m)

pub total_split : (f : ℕ → ℕ) (a n : ℕ) → total f (a + n) ≡ total f a + total (λ j. f (a + j)) n
unfolding total
total_split f a zero = simp add-zero (omega arith)
total_split f a (suc n) = rw (add-suc a n) (omega (arith, total_split f a n))

pub total_longer : (f : ℕ → ℕ) (m n : ℕ) → m ≤ n → total f m ≤ total f n
unfolding total
total_longer f m zero h = let e : m ≡ 0 = omega arith in omega (arith, ap (total f) e)
total_longer f m (suc n) h =
    elim (cases_eq m (suc n)) [ inl e ↦ omega (arith, ap (total f) e) | inr d ↦ omega (arith, total_longer f m n (omega arith)) ]

-- where a sum is above 0, some term is
pub total_some : (f : ℕ → ℕ) (n : ℕ) → 1 ≤ total f n → (j : ℕ) × (j < n) × (1 ≤ f j)
unfolding total
total_some f zero h = absurd (not-suc-le-zero h)
total_some f (suc n) h =
    elim (cases_lt 0 (f n)) [
      | inl some ↦ (n, omega arith, some)
      | inr none ↦ let r = total_some f n (omega arith) in (r.0, omega (arith, r.1), r.2)
    ]

-- ---- counts

-- what a number that passes, or fails, a test adds to a count
abbrev pub one_if : Bool → ℕ
one_if b = cond b 1 0

pub one_if-true : {b : Bool} → b ≡ true → one_if b ≡ 1
one_if-true e = ap one_if e

pub one_if-false : {b : Bool} → b ≡ false → one_if b ≡ 0
one_if-false e = ap one_if e

pub one_if_most : (b : Bool) → one_if b ≤ 1
one_if_most true = omega arith
one_if_most false = omega arith

pub count-all : (p : ℕ → Bool) (n : ℕ) → ((j : ℕ) → j < n → p j ≡ true) → count p n ≡ n
unfolding total
count-all p zero h = refl
count-all p (suc n) h = simp (h n (omega arith)) (omega (arith, count-all p n (λ j less. h j (omega arith))))

-- where a count is above 0, some number passes
pub count_some : (p : ℕ → Bool) (n : ℕ) → 0 < count p n → (j : ℕ) × (j < n) × (p j ≡ true)
count_some p n h =
    let (j, less, some) = total_some (λ j. one_if (p j)) n h in
    (j, less, elim (cases_Bool (p j)) [ inl e ↦ e | inr e ↦ absurd (omega (arith, one_if-false e)) ])

pub count-one : (p : ℕ → Bool) (n j : ℕ) → j < n → p j ≡ true → 1 ≤ count p n
count-one p n j less e = omega (arith, total_part (λ k. one_if (p k)) n j less, one_if-true e)

pub count_none : (p : ℕ → Bool) (n : ℕ) → count p n ≡ 0 → (j : ℕ) → j < n → p j ≡ false
count_none p n h j less = elim (cases_Bool (p j)) [ inl e ↦ absurd (omega (arith, count-one p n j less e)) | inr e ↦ e ]

pub cond_mono : (a b : Bool) (x y : ℕ) → (a ≡ true → (b ≡ true) × (x ≤ y)) → cond a x 0 ≤ cond b y 0
cond_mono true true x y h = (h refl).1
cond_mono true false x y h = absurd (false≢true (h refl).0)
cond_mono false b x y h = omega arith

pub count_mono : (p q : ℕ → Bool) (n : ℕ) → ((j : ℕ) → j < n → p j ≡ true → q j ≡ true) → count p n ≤ count q n
count_mono p q n h =
    total_le (λ j. one_if (p j)) (λ j. one_if (q j)) n (λ j less. cond_mono (p j) (q j) 1 1 (λ e. (h j less e, omega arith)))

-- x is hit once where it lies below n, and brings c
pub hit_sum : (p : ℕ → Bool) (c x n : ℕ) → sum_if p (λ j. cond (eqb x j) c 0) n ≡ cond (ltb x n && p x) c 0
unfolding total
hit_sum p c x zero = grind (arith, nat_tests)
hit_sum p c x (suc n) =
    let before = hit_sum p c x n in
    elim (cases_eq x n) [ inl e ↦ let same = ap p e in grind (arith, nat_tests) | inr d ↦ grind (arith, nat_tests) ]

pub hit_once : (p : ℕ → Bool) (x n : ℕ) → sum_if p (λ j. one_if (eqb x j)) n ≡ one_if (ltb x n && p x)
hit_once p = hit_sum p 1

pub cond_add : (b : Bool) (x y : ℕ) → cond b (x + y) 0 ≡ cond b x 0 + cond b y 0
cond_add true x y = refl
cond_add false x y = omega arith

pub cond_nothing : (b : Bool) → ◌≡◌ {A = ℕ} (cond b 0 0) 0
cond_nothing true = refl
cond_nothing false = refl

-- each number u below w adds f u to its group: the sum over the chosen groups below n
pub sum_by_group : (p : ℕ → Bool) (f group : ℕ → ℕ) (n w : ℕ) → sum_if p (λ j. sum_if (λ u. eqb (group u) j) f w) n ≡ sum_if (λ u. ltb (group u) n && p (group u)) f w
unfolding total
sum_by_group p f group n zero = total_nothing (λ j. cond (p j) 0 0) n (λ j _. cond_nothing (p j))
sum_by_group p f group n (suc w) =
    let before : ℕ → ℕ = λ j. sum_if (λ u. eqb (group u) j) f w in
    let last : ℕ → ℕ = λ j. cond (eqb (group w) j) (f w) 0 in
    total_same _ (λ j. cond (p j) (before j) 0 + cond (p j) (last j) 0) n (λ j _. cond_add (p j) (before j) (last j))
    ∙ total_add (λ j. cond (p j) (before j) 0) (λ j. cond (p j) (last j) 0) n
    ∙ omega (arith, sum_by_group p f group n w, hit_sum p (f w) (group w) n)

-- the units that the chosen places below n receive in w ticks are the ticks that serve one of them
pub units_by_tick : (p : ℕ → Bool) (served : ℕ → ℕ) (n w : ℕ) → sum_if p (λ j. count (λ u. eqb (served u) j) w) n ≡ count (λ u. ltb (served u) n && p (served u)) w
units_by_tick p = sum_by_group p (λ _. 1)

-- the work of the chosen jobs, task by task
pub by_task : (p : ℕ → Bool) (task work wcet : ℕ → ℕ) (n m : ℕ) → ((j : ℕ) → j < n → p j ≡ true → (task j < m) × (work j ≤ wcet (task j)))
    → sum_if p work n ≤ total (λ k. wcet k * count (λ j. eqb (task j) k && p j) n) m
by_task p task work wcet n m h =
    let part : ℕ → ℕ → ℕ = λ j k. wcet k * one_if (eqb (task j) k && p j) in
    let own : (j : ℕ) → j < n → p j ≡ true → work j ≤ total (part j) m =
    λ j less e.
    let hit = one_if-true (and_from _ _ (eq-eqb (task j) (task j) refl) e) in
    let whole : part j (task j) ≡ wcet (task j) = ap (λ x. wcet (task j) * x) hit ∙ mul-one (wcet (task j)) in
    omega (arith, total_part (part j) m (task j) (h j less e).0, (h j less e).1) in
    let each : (j : ℕ) → j < n → cond (p j) (work j) 0 ≤ total (part j) m =
    λ j less. cond_both (p j) (work j) 0 (λ x. x ≤ total (part j) m) (own j less) (λ _. omega arith) in
    let jobs = total_le (λ j. cond (p j) (work j) 0) (λ j. total (part j) m) n each in
    let turned = total_swap part n m in
    let tasks = total_same (λ k. total (λ j. part j k) n) (λ k. wcet k * count (λ j. eqb (task j) k && p j) n) m (λ k _. total-times (wcet k) (λ j. one_if (eqb (task j) k && p j)) n) in
    omega arith

-- a count over the first m as one over all
pub count_front : (q : ℕ → Bool) (m n : ℕ) → m ≤ n → count (λ j. ltb j m && q j) n ≡ count q m
count_front q m n h = let (k, e) = le_dest h in subst (λ n. count (λ j. ltb j m && q j) n ≡ count q m) e (front k)
  where
    front : (k : ℕ) → count (λ j. ltb j m && q j) (m + k) ≡ count q m
    front k =
        let split = total_split (λ j. one_if (ltb j m && q j)) m k in
        let same = total_same (λ j. one_if (ltb j m && q j)) (λ j. one_if (q j)) m (λ j less. ap (λ b. one_if (b && q j)) (lt-ltb j m less)) in
        let rest = total_nothing (λ j. one_if (ltb (m + j) m && q (m + j))) k (λ j _. ap (λ b. one_if (b && q (m + j))) (le-ltb (m + j) m (omega arith))) in
        omega arith

-- the chosen numbers below n, group by group
pub groups : (p : ℕ → Bool) (group : ℕ → ℕ) (n m : ℕ) → total (λ s. count (λ j. eqb (group j) s && p j) n) m ≡ count (λ j. p j && ltb (group j) m) n
groups p group n m =
    sym (total_swap (λ j s. one_if (eqb (group j) s && p j)) n m)
    ∙ total_same (λ j. total (λ s. one_if (eqb (group j) s && p j)) m) (λ j. one_if (p j && ltb (group j) m)) n
    (λ j _. total_same (λ s. one_if (eqb (group j) s && p j)) (λ s. cond (p j) (one_if (eqb (group j) s)) 0) m (λ s _. turn (eqb (group j) s) (p j))
    ∙ hit_once (λ _. p j) (group j) m ∙ turn (ltb (group j) m) (p j) ∙ join (p j) (ltb (group j) m))
  where
    turn : (a b : Bool) → one_if (a && b) ≡ cond b (one_if a) 0
    turn true true = refl
    turn true false = refl
    turn false true = refl
    turn false false = refl

    join : (a b : Bool) → cond a (one_if b) 0 ≡ one_if (a && b)
    join true b = refl
    join false b = refl

-- the chosen numbers whose rank passes a test are as many as the ranks that pass it
one_rank : (b : Bool) (m : ℕ) (test : ℕ → Bool) → count (λ q. test (q + 1)) m + one_if (b && test (m + one_if b)) ≡ count (λ q. test (q + 1)) (m + one_if b)
one_rank true m test = sym (total_more (λ q. one_if (test (q + 1))) m)
one_rank false m test = rw (add-zero m) (add-zero _)

pub ranks : (p test : ℕ → Bool) (n : ℕ) → count (λ j. p j && test (count p (suc j))) n ≡ count (λ q. test (q + 1)) (count p n)
unfolding total
ranks p test zero = refl
ranks p test (suc n) = omega (arith, ranks p test n, one_rank (p n) (count p n) test)

-- a test that only numbers below m pass
pub count-below : (p : ℕ → Bool) (m n : ℕ) → ((j : ℕ) → p j ≡ true → j < m) → count p n ≤ count p m
count-below p m zero h = omega (arith, total_none (λ j. one_if (p j)))
count-below p m (suc n) h =
    elim (cases_lt n m) [
      | inl less ↦ total_longer (λ j. one_if (p j)) (suc n) m less
      | inr more ↦
          let fails : one_if (p n) ≡ 0 = elim (cases_Bool (p n)) [ inl e ↦ absurd (omega (arith, h n e)) | inr e ↦ one_if-false e ] in
          omega (arith, total-suc (λ j. one_if (p j)) n, count-below p m n h)
    ]
