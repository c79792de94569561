-- What the definitions say of given settings, decided by computation.
use Rattle.std.proofs.Common.{◌≡◌, ℕ, zero, suc, ◌+◌, ◌-◌, ◌*◌, ◌^◌, ◌<◌, ◌≤◌, min, Bool, true, false, cond, not, ◌&&◌, ◌||◌, eqb, ltb, leb, List, [], ◌∷◌, length, get_or, Ok, Err, Decides, sym, refl, ◌∙◌, subst, inl, inr, arith}
use Rattle.std.proofs.lemmas.List.{get_or_past}
use Rattle.std.proofs.lemmas.Bool.{cases_eq, cases_lt, cases_Bool, cond_both, cond-true, and_parts, and_from, leb-true, le-leb, ltb-true, eqb-true, not-true, false≢true}
use Rattle.std.proofs.lemmas.Bool.Decides.{Decides-eqb, Decides-like, Decides-and, Decides-below_or, not_from_Decides}
use Rattle.arrival.specs.Meaning.{Meaning, Monotone}
use Rattle.theory.specs.Least.{Least, Serves}
use Rattle.theory.specs.Levels.{BusyLength, arrivals, every, level_load, position_load}
use Rattle.theory.specs.Packings.{Packing}
use Rattle.theory.specs.Positions.{LatePosition}
use Rattle.theory.specs.Questions.{WindowLength, Fails, budget, Source, MinimalCombination, GreatestPacking, source_count, cell_count, Admitted, Answer}
use Rattle.theory.specs.Sets.{member, Subset, Of}
use Rattle.theory.specs.Sums.{total, sum_if, count}
use Rattle.theory.specs.Tables.{Table}
use Rattle.theory.proofs.Lateness.{late_decides, position-few, serves-position, serves-within}
use Rattle.theory.proofs.Masks.{behind-none, below, subset_le}
use Rattle.theory.proofs.Totals.{total_add, total_le, total_none, total_part, total-suc}

-- ---- tests

unfoldable pub all_below : (ℕ → Bool) → ℕ → Bool
all_below p zero = true
all_below p (suc n) = p n && all_below p n

unfoldable pub some_below : (ℕ → Bool) → ℕ → Bool
some_below p zero = false
some_below p (suc n) = p n || some_below p n

pub decides_all : (p : ℕ → Bool) (P : ℕ → Type 0) (n : ℕ) → ((k : ℕ) → k < n → Decides (p k) (P k)) → Decides (all_below p n) ((k : ℕ) → k < n → P k)
unfolding all_below
decides_all p P zero each = (λ _ k less. absurd (omega arith), λ _. refl)
decides_all p P (suc n) each =
    Decides-like (p n && all_below p n)
    (λ h k less. elim (cases_eq k n) [ inl e ↦ subst P (sym e) h.0 | inr other ↦ h.1 k (omega arith) ])
    (λ h. (h n (omega arith), λ k less. h k (omega arith)))
    (Decides-and (p n) (all_below p n) (each n (omega arith)) (decides_all p P n (λ k less. each k (omega arith))))

pub decides_some : (p : ℕ → Bool) (P : ℕ → Type 0) → ((k : ℕ) → Decides (p k) (P k)) → (n : ℕ) → Decides (some_below p n) ((k : ℕ) × (k < n) × P k)
unfolding some_below
decides_some p P each = Decides-below_or p P (some_below p) each refl (λ _. refl)

unfoldable pub all_pass : List Bool → Bool
all_pass [] = true
all_pass (b ∷ bs) = b && all_pass bs

abbrev Passing : List Bool → Type 0
Passing [] = Unit {0}
Passing (b ∷ bs) = (b ≡ true) × Passing bs

passing : (bs : List Bool) → all_pass bs ≡ true → Passing bs
unfolding all_pass
passing [] e = tt
passing (b ∷ bs) e = let (here, rest) = and_parts b (all_pass bs) e in (here, passing bs rest)

itself : (b : Bool) → Decides b (b ≡ true)
itself b = (λ e. e, λ e. e)

-- where a test passes, another does
decides_if : {P Q : Type 0} (a b : Bool) → Decides a P → Decides b Q → Decides (cond a b true) (P → Q)
decides_if true b p q = (λ e _. q.0 e, λ h. q.1 (h (p.0 refl)))
decides_if false b p q = (λ _ h. absurd (false≢true (p.1 h)), λ _. refl)

-- ---- members of a set of tasks below n

unfoldable pub all_members : ℕ → ℕ → (ℕ → Bool) → Bool
all_members n s p = all_below (λ j. cond (member s j) (p j) true) n

pub decides_members : (n s : ℕ) (p : ℕ → Bool) (P : ℕ → Type 0) → s < 2 ^ n → ((j : ℕ) → j < n → Decides (p j) (P j)) → Decides (all_members n s p) ((j : ℕ) → member s j ≡ true → P j)
unfolding all_members
decides_members n s p P small each =
    Decides-like (all_members n s p)
    (λ h j e. elim (cases_lt j n) [ inl less ↦ h j less e | inr high ↦ absurd (false≢true (sym (behind-none s n j small high) ∙ e)) ])
    (λ h j less e. h j e)
    (decides_all _ (λ j. member s j ≡ true → P j) n (λ j less. decides_if (member s j) (p j) (itself (member s j)) (each j less)))

-- ---- lengths

-- the first length from w on that serves the load, if one of the next n does
unfoldable pub length_from : (ℕ → ℕ) → ℕ → ℕ → ℕ
length_from load zero w = w
length_from load (suc n) w = cond (leb (load w) w) w (length_from load n (suc w))

length_from-least : (load : ℕ → ℕ) (n w : ℕ) → 1 ≤ w → ((v : ℕ) → v < w → Serves load v → ⊥) → Serves load (w + n) → Least (Serves load) (length_from load n w) × (length_from load n w ≤ w + n)
unfolding length_from
length_from-least load zero w some none serves =
    let same : w + 0 ≡ w = omega arith in
    ((subst (Serves load) same serves, none), omega arith)
length_from-least load (suc n) w some none serves =
    cond_both (leb (load w) w) w (length_from load n (suc w)) (λ v. Least (Serves load) v × (v ≤ w + suc n))
    (λ e. (((some, leb-true (load w) w e), none), omega arith))
    (λ e.
    let same : w + suc n ≡ suc w + n = omega arith in
    let (first, low) =
    length_from-least load n (suc w) (omega arith)
    (λ v less found. elim (cases_eq v w) [
      | inl here ↦ false≢true (sym e ∙ le-leb (load w) w (subst (λ x. load x ≤ x) here found.1))
      | inr other ↦ none v (omega arith) found
    ])
    (subst (Serves load) same serves) in
    (first, omega arith))

unfoldable pub first_length : (ℕ → ℕ) → ℕ → ℕ
first_length load n = length_from load (n - 1) 1

pub first_length_least : (load : ℕ → ℕ) (n : ℕ) → Serves load n → Least (Serves load) (first_length load n) × (first_length load n ≤ n)
unfolding first_length
first_length_least load n serves =
    let same : n ≡ 1 + (n - 1) = omega (arith, serves.0) in
    let (first, low) = length_from-least load (n - 1) 1 (omega arith) (λ v less found. omega (arith, found.0)) (subst (Serves load) same serves) in
    (first, omega arith)

-- ---- positions and sets that fail

-- L is the length of the longest busy window; a smaller set of tasks has a window that is no longer
module _ (m : Meaning) (t : Table) (i L : ℕ) where
  abbrev window_load : ℕ → ℕ
  window_load = level_load m t.wcet every i

  unfoldable pub is_window : Bool
  is_window = all_pass (leb 1 L ∷ leb (window_load L) L ∷ eqb (first_length window_load L) L ∷ [])

  pub window_is : is_window ≡ true → WindowLength m t i L
  unfolding is_window
  window_is e =
      let (some, (serves, (first, _))) = passing _ e in
      subst (λ w. WindowLength m t i w) (eqb-true (first_length window_load L) L first)
      (first_length_least window_load L (leb-true 1 L some, leb-true (window_load L) L serves)).0

  module _ (c : ℕ → Bool) where
    unfoldable pub window_of : ℕ
    window_of = first_length (level_load m t.wcet c i) L

    unfoldable pub finish_of : ℕ → ℕ
    finish_of q = first_length (position_load m t.wcet c i q) window_of

    unfoldable pub is_late : ℕ → Bool
    is_late q = (leb 1 q && leb q (arrivals m c i window_of)) && (ltb (t.deadline i) (finish_of q) && leb q (arrivals m c i (finish_of q - t.deadline i)))

  unfoldable pub is_failing : ℕ → Bool
  is_failing s = some_below (is_late (member s)) (suc (arrivals m (member s) i (window_of (member s))))

  module _ (monotone : Monotone m) (short : L < 2 ^ 32) (window : WindowLength m t i L) where
    module _ (c : ℕ → Bool) where
      window_of_least : BusyLength m t.wcet c i (window_of c) × (window_of c ≤ L)
      unfolding window_of
      window_of_least = first_length_least (level_load m t.wcet c i) L (serves-within m monotone t i c every (λ _ _. refl) L short window.0)

      pub late_is : (q : ℕ) → Decides (is_late c q) (LatePosition m t i c q)
      unfolding is_late finish_of
      late_is q =
          let (busy, low) = window_of_least in
          let decided : 1 ≤ q → q ≤ arrivals m c i (window_of c) → Decides (ltb (t.deadline i) (finish_of c q) && leb q (arrivals m c i (finish_of c q - t.deadline i))) (LatePosition m t i c q) =
          λ some few.
          let (finish, early) = first_length_least (position_load m t.wcet c i q) (window_of c) (serves-position m monotone t i c q (window_of c) few busy.0) in
          late_decides m monotone t i c (window_of c) (omega arith) busy q (finish_of c q) some few early finish in (
            λ e.
                let (range, rest) = and_parts (leb 1 q && leb q (arrivals m c i (window_of c))) _ e in
                let (some, few) = and_parts (leb 1 q) (leb q (arrivals m c i (window_of c))) range in
                (decided (leb-true 1 q some) (leb-true q (arrivals m c i (window_of c)) few)).0 rest,
            λ late.
                let (some, few) = position-few m monotone t i c (window_of c) (omega arith) busy q late.0 in
                and_from _ _ (and_from _ _ (le-leb 1 q some) (le-leb q (arrivals m c i (window_of c)) few)) ((decided some few).1 late),
          )

    pub failing_is : (s : ℕ) → Decides (is_failing s) (Fails m t i s)
    unfolding is_failing
    failing_is s =
        Decides-like (is_failing s)
        (λ (q, less, late). (q, late))
        (λ (q, late).
        let (busy, low) = window_of_least (member s) in
        let (some, few) = position-few m monotone t i (member s) (window_of (member s)) (omega arith) busy q late.0 in
        (q, omega arith, late))
        (decides_some (is_late (member s)) (LatePosition m t i (member s)) (late_is (member s)) (suc (arrivals m (member s) i (window_of (member s)))))

-- ---- packings

-- where each allowed set has a task of h, a packing has no more than the budgets of these tasks
module _ (allowed source : ℕ → Type 0) (budget : ℕ → ℕ) (n : ℕ) (number : ℕ → ℕ) (packing : Packing allowed source budget n number) (h : ℕ) (hit : (s : ℕ) → allowed s → (j : ℕ) × (j < n) × ((member h j && member s j) ≡ true)) where
  -- the numbers of the sets below w that hold task j, counted where it is in h
  share : ℕ → ℕ → ℕ
  share w j = cond (member h j) (sum_if (λ s. member s j) number w) 0

  -- what the set w adds to the share of task j
  part : ℕ → ℕ → ℕ
  part w j = cond (member h j && member w j) (number w) 0

  share_more : (w j : ℕ) → share w j + part w j ≤ share (suc w) j
  unfolding share part
  share_more w j =
      let sums = total-suc (λ s. cond (member s j) (number s) 0) w in
      elim (cases_Bool (member h j)) [ inl e ↦ simp e (omega arith) | inr e ↦ simp e (omega arith) ]

  part_all : (w : ℕ) → number w ≤ total (part w) n
  unfolding part
  part_all w =
      elim (cases_lt 0 (number w)) [
        | inl some ↦
            let (j, less, e) = hit w (packing.only w some) in
            omega (arith, total_part (part w) n j less, cond-true _ (number w) 0 e)
        | inr none ↦ omega arith
      ]

  shared : (w : ℕ) → total number w ≤ total (share w) n
  shared zero = omega (arith, total_none number)
  shared (suc w) =
      omega (arith, total-suc number w, shared w, part_all w, total_add (share w) (part w) n, total_le _ _ n (λ j _. share_more w j))

  pub hit_most : Of source h → total number (2 ^ n) ≤ sum_if (member h) budget n
  unfolding share
  hit_most of =
      let each : (j : ℕ) → share (2 ^ n) j ≤ cond (member h j) (budget j) 0 =
      λ j. elim (cases_Bool (member h j)) [ inl e ↦ simp e (packing.fits j (of j e)) | inr e ↦ simp e (omega arith) ] in
      omega (arith, shared (2 ^ n), total_le _ _ n (λ j _. each j))

-- ---- minimal combinations and the answer

module _ (m : Meaning) (t : Table) (i k S L : ℕ) where
  unfoldable pub of_sources : ℕ → Bool
  of_sources s = all_members (suc i) s (λ j. leb 1 (budget m t i k S L j))

  -- x lies within s and fails only if it is s
  unfoldable pub alone : ℕ → ℕ → Bool
  alone s x = cond (all_members (suc i) x (member s) && is_failing m t i L x) (eqb x s) true

  unfoldable pub is_minimal : ℕ → Bool
  is_minimal s = of_sources s && (is_failing m t i L s && all_below (alone s) (2 ^ suc i))

  -- the packing with the numbers of `best` has the total G, and so have the budgets of the tasks of h, of which each minimal combination has one
  abbrev pub greatest_tests : List ℕ → ℕ → ℕ → List Bool
  greatest_tests best h G =
      leb (length best) (2 ^ suc i)
      ∷ all_below (λ s. cond (leb 1 (get_or best s 0)) (is_minimal s) true) (2 ^ suc i)
      ∷ all_below (λ j. leb (sum_if (λ s. member s j) (λ s. get_or best s 0) (2 ^ suc i)) (budget m t i k S L j)) (suc i)
      ∷ eqb (total (λ s. get_or best s 0) (2 ^ suc i)) G
      ∷ ltb h (2 ^ suc i)
      ∷ of_sources h
      ∷ all_below (λ s. cond (is_minimal s) (some_below (λ j. member h j && member s j) (suc i)) true) (2 ^ suc i)
      ∷ eqb (sum_if (member h) (budget m t i k S L) (suc i)) G
      ∷ []

  abbrev pub admitted_tests : ℕ → List Bool
  admitted_tests N =
      eqb m.tasks t.tasks
      ∷ ltb i t.tasks
      ∷ leb 1 k
      ∷ leb k 1000
      ∷ leb S 1000000000
      ∷ leb L 1000000
      ∷ is_window m t i L
      ∷ not (is_failing m t i L 0)
      ∷ eqb N (count (λ q. is_late m t i L every (q + 1)) (arrivals m every i L))
      ∷ []

  module _ (monotone : Monotone m) (short : L < 2 ^ 32) (window : WindowLength m t i L) where
    sources_are : (s : ℕ) → s < 2 ^ suc i → Decides (of_sources s) (Of (Source m t i k S L) s)
    unfolding of_sources
    sources_are s small =
        decides_members (suc i) s (λ j. leb 1 (budget m t i k S L j)) (Source m t i k S L) small
        (λ j less. (λ e. (omega arith, leb-true 1 (budget m t i k S L j) e), λ source. le-leb 1 (budget m t i k S L j) source.1))

    minimal_below : (s : ℕ) → MinimalCombination m t i k S L s → s < 2 ^ suc i
    minimal_below s minimal = below (suc i) s (λ j e. omega (arith, (minimal.sources j e).0))

    pub minimal_is : (s : ℕ) → s < 2 ^ suc i → Decides (is_minimal s) (MinimalCombination m t i k S L s)
    unfolding is_minimal alone
    minimal_is s small =
        Decides-like (is_minimal s)
        (λ (of, (failing, least)). record {
          sources = of;
          failing = failing;
          least = λ x sub fails. least x (omega (arith, subset_le x s sub)) (sub, fails);
        })
        (λ minimal. (minimal.sources, (minimal.failing, λ x less (sub, fails). minimal.least x sub fails)))
        (Decides-and _ _ (sources_are s small)
        (Decides-and _ _ (failing_is m t i L monotone short window s)
        (decides_all (alone s) (λ x. Subset x s × Fails m t i x → x ≡ s) (2 ^ suc i) (λ x less.
        decides_if _ (eqb x s)
        (Decides-and _ _ (decides_members (suc i) x (member s) (λ j. member s j ≡ true) less (λ j _. itself (member s j))) (failing_is m t i L monotone short window x))
        (Decides-eqb x s)))))

    -- what a test says of every set that the computation finds minimal
    pub minimal_only : (p : ℕ → Bool) → all_below (λ s. cond (is_minimal s) (p s) true) (2 ^ suc i) ≡ true → (s : ℕ) → MinimalCombination m t i k S L s → p s ≡ true
    minimal_only p e s minimal =
        (decides_all _ (λ s. MinimalCombination m t i k S L s → p s ≡ true) (2 ^ suc i) (λ s less. decides_if (is_minimal s) (p s) (minimal_is s less) (itself (p s)))
        ).0 e s (minimal_below s minimal) minimal

    pub greatest_is : (best : List ℕ) (h G : ℕ) → all_pass (greatest_tests best h G) ≡ true → GreatestPacking m t i k S L G
    greatest_is best h G e =
        let n = suc i in
        let number : ℕ → ℕ = λ s. get_or best s 0 in
        let (in_List, (allowed, (fit, (sums, (small, (of, (hits, (bound, _)))))))) = passing (greatest_tests best h G) e in
        let listed : (s : ℕ) → 1 ≤ number s → s < 2 ^ n =
        λ s some. elim (cases_lt s (2 ^ n)) [
          | inl less ↦ less
          | inr more ↦ absurd (omega (arith, get_or_past best s 0 (omega (arith, leb-true (length best) (2 ^ n) in_List))))
        ] in
        let only : (s : ℕ) → s < 2 ^ n → 1 ≤ number s → MinimalCombination m t i k S L s =
        (decides_all _ _ (2 ^ n) (λ s less. decides_if _ _ (leb-true 1 (number s), le-leb 1 (number s)) (minimal_is s less))).0 allowed in
        let fits : (j : ℕ) → j < n → sum_if (λ s. member s j) number (2 ^ n) ≤ budget m t i k S L j =
        (decides_all _ _ n (λ j _. (leb-true _ _, le-leb _ _))).0 fit in
        let hit : (s : ℕ) → MinimalCombination m t i k S L s → (j : ℕ) × (j < n) × ((member h j && member s j) ≡ true) =
        λ s minimal. (decides_some (λ j. member h j && member s j) _ (λ j. itself _) n).0 (minimal_only _ hits s minimal) in
        record {
          some_packing = (number, record { only = λ s some. only s (listed s some) some; fits = λ j source. fits j (omega (arith, source.0)) }, eqb-true _ G sums);
          no_larger = λ other packing.
              omega (arith, eqb-true (sum_if (member h) (budget m t i k S L) n) G bound, hit_most _ _ _ n other packing h hit ((sources_are h (ltb-true h (2 ^ n) small)).0 of));
        }

  pub admitted_is : Monotone m → (N : ℕ) → all_pass (admitted_tests N) ≡ true → Admitted m t i k S L N
  admitted_is monotone N e =
      let (same, (held, (some, (few, (span, (low, (window, (sound, (late, _))))))))) = passing (admitted_tests N) e in
      let low = leb-true L 1000000 low in
      let short : L < 2 ^ 32 = omega arith in
      let is = window_is m t i L window in
      let none = not_from_Decides (is_failing m t i L 0) (failing_is m t i L monotone short is 0) (not-true (is_failing m t i L 0) sound) in
      record {
        passed = (eqb-true m.tasks t.tasks same, (ltb-true i t.tasks held, ((leb-true 1 k some, leb-true k 1000 few), (leb-true S 1000000000 span, ((L, low, is), (none, tt))))));
        window = is;
        late = (is_late m t i L every, λ q _ _. late_is m t i L monotone short is every q, eqb-true N _ late);
      }

  abbrev pub bound_tests : ℕ → ℕ → ℕ → ℕ → List Bool
  bound_tests N G cells a = leb 1 N ∷ leb (source_count m t i k S L) 6 ∷ leb (cell_count m t i k S L) cells ∷ eqb a (min k (N * G)) ∷ []

  abbrev pub too_few_tests : ℕ → ℕ → List Bool
  too_few_tests N cells = leb 1 N ∷ leb (source_count m t i k S L) 6 ∷ ltb cells (cell_count m t i k S L) ∷ []

  module _ (monotone : Monotone m) (N : ℕ) (admitted : all_pass (admitted_tests N) ≡ true) where
    -- no position is late
    pub none-late : N ≡ 0 → (cells : ℕ) → Answer m t i k S cells (Ok 0)
    none-late none cells = (L, N, admitted_is monotone N admitted, inl (none, refl))

    pub bound_is : (best : List ℕ) (h G cells a : ℕ) → all_pass (greatest_tests best h G) ≡ true → all_pass (bound_tests N G cells a) ≡ true → Answer m t i k S cells (Ok a)
    bound_is best h G cells a greatest e =
        let is = admitted_is monotone N admitted in
        let (some, (few, (fit, (same, _)))) = passing (bound_tests N G cells a) e in
        let short : L < 2 ^ 32 = omega (arith, leb-true L 1000000 (passing (admitted_tests N) admitted).1.1.1.1.1.0) in (
          L,
          N,
          is,
          inr (
            leb-true 1 N some,
            (leb-true (source_count m t i k S L) 6 few, (leb-true (cell_count m t i k S L) cells fit, tt)),
            (G, greatest_is monotone short is.window best h G greatest, eqb-true a (min k (N * G)) same),
          ),
        )

    -- the cells are too few
    pub too_few : (cells : ℕ) → all_pass (too_few_tests N cells) ≡ true → Answer m t i k S cells (Err 38)
    too_few cells e =
        let (some, (few, (more, _))) = passing (too_few_tests N cells) e in
        inr (L, N, admitted_is monotone N admitted, leb-true 1 N some, inr (leb-true (source_count m t i k S L) 6 few, inl (λ fit. omega (arith, ltb-true cells (cell_count m t i k S L) more), refl)))
