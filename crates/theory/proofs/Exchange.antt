-- A question that is answered is answered for every lighter table and model too, by no more.
use Rattle.std.proofs.Common.{◌≡◌, ℕ, zero, suc, ◌+◌, ◌-◌, ◌*◌, ◌^◌, ◌<◌, ◌≤◌, Bool, true, cond, ◌&&◌, eqb, ltb, leb, ◌⊎◌, Ok, Err, Result, sym, refl, ◌∙◌, subst, inl, inr, mul-le-mul, arith}
use Rattle.std.proofs.lemmas.Bool.{and_from, and_parts, cases_lt, cond_both, cond-true, eqb-true, le-leb, leb-true, lt-ltb}
use Rattle.arrival.specs.declared.class.Class.TheVariants.{Overload}
use Rattle.arrival.specs.Meaning.{Meaning, Lawful, Monotone}
use Rattle.base.specs.Tests.{Passed}
use Rattle.base.proofs.Tests.{not-refused}
use Rattle.theory.specs.Levels.{every, level_load}
use Rattle.theory.specs.Packings.{Greatest, states}
use Rattle.theory.specs.Positions.{LatePosition}
use Rattle.theory.specs.Promises.{ExchangePromise, Lighter}
use Rattle.theory.specs.Questions.{Admitted, Answer, Bound, Fails, GreatestPacking, LateCount, MinimalCombination, Source, WindowLength, budget, cell_count, first_tests, last_tests, source_count}
use Rattle.theory.specs.Sets.{Subset, member}
use Rattle.theory.specs.Sums.{sum_if, total}
use Rattle.theory.specs.Tables.{Table}
use Rattle.theory.proofs.Combinations.{late-before, minimal_in, window_shorter, window-within}
use Rattle.theory.proofs.Counting.{how_many_le}
use Rattle.theory.proofs.Lateness.{least_serving, least_unique}
use Rattle.theory.proofs.Lighter.{arrivals_le, level_le}
use Rattle.theory.proofs.Masks.{below}
use Rattle.theory.proofs.Totals.{count_mono, sum_by_group, total_le, total_nothing, total_some}

-- smaller budgets have no more states
fewer_states : (b b' : ℕ → ℕ) (n : ℕ) → ((j : ℕ) → b' j ≤ b j) → states b' n ≤ states b n
fewer_states b b' zero h = omega arith
fewer_states b b' (suc n) h = mul-le-mul (fewer_states b b' n h) (omega (arith, h n))

-- ---- a packing of sets gives one of sets inside them, with no smaller a total

-- x is an allowed set of tasks below n, inside s
abbrev Inside : (ℕ → Type 0) → ℕ → ℕ → ℕ → Type 0
Inside allowed n s x = Subset x s × (x < 2 ^ n) × allowed x

-- number' packs sets that have an allowed one inside, and the budgets have room for them
module _ (allowed source : ℕ → Type 0) (budget number' : ℕ → ℕ) (n : ℕ)
    (inside : (s : ℕ) → 1 ≤ number' s → (x : ℕ) × Inside allowed n s x)
    (room : (j : ℕ) → source j → sum_if (λ s. member s j) number' (2 ^ n) ≤ budget j) where
  pick : (s : ℕ) → (x : ℕ) × (1 ≤ number' s → Inside allowed n s x)
  pick s = elim (cases_lt 0 (number' s)) [ inl some ↦ let (x, is) = inside s some in (x, λ _. is) | inr none ↦ (0, λ some. absurd (omega arith)) ]

  chosen : ℕ → ℕ
  chosen s = (pick s).0

  chosen_is : (s : ℕ) → 1 ≤ number' s → Inside allowed n s (chosen s)
  unfolding chosen
  chosen_is s = (pick s).1

  -- the sum over the sets for which x is chosen
  abbrev moved : ℕ → ℕ
  moved x = sum_if (λ s. eqb (chosen s) x) number' (2 ^ n)

  moved-only : (x : ℕ) → 1 ≤ moved x → allowed x
  moved-only x some =
      let (s, _, here) = total_some (λ s. cond (eqb (chosen s) x) (number' s) 0) (2 ^ n) some in
      cond_both (eqb (chosen s) x) (number' s) 0 (λ v. 1 ≤ v → allowed x)
      (λ same some. subst allowed (eqb-true (chosen s) x same) (chosen_is s some).2)
      (λ _ none. absurd (omega arith)) here

  moved-fits : (j : ℕ) → source j → sum_if (λ x. member x j) moved (2 ^ n) ≤ budget j
  moved-fits j src =
      let hit = λ (s : ℕ). ltb (chosen s) (2 ^ n) && member (chosen s) j in
      let fewer =
      total_le (λ s. cond (hit s) (number' s) 0) (λ s. cond (member s j) (number' s) 0) (2 ^ n)
      (λ s _. cond_both (hit s) (number' s) 0 (λ v. v ≤ cond (member s j) (number' s) 0)
      (λ e. elim (cases_lt 0 (number' s)) [
        | inl some ↦ omega (arith, cond-true (member s j) (number' s) 0 ((chosen_is s some).0 j (and_parts (ltb (chosen s) (2 ^ n)) (member (chosen s) j) e).1))
        | inr none ↦ omega arith
      ])
      (λ _. omega arith)) in
      omega (arith, sum_by_group (λ x. member x j) number' chosen (2 ^ n) (2 ^ n), room j src)

  moved-total : total number' (2 ^ n) ≤ total moved (2 ^ n)
  moved-total =
      let hit = λ (s : ℕ). ltb (chosen s) (2 ^ n) && true in
      let all =
      total_le number' (λ s. cond (hit s) (number' s) 0) (2 ^ n)
      (λ s _. elim (cases_lt 0 (number' s)) [
        | inl some ↦ omega (arith, cond-true (hit s) (number' s) 0 (and_from _ _ (lt-ltb (chosen s) (2 ^ n) (chosen_is s some).1) refl))
        | inr none ↦ omega arith
      ]) in
      omega (arith, sum_by_group (λ _. true) number' chosen (2 ^ n) (2 ^ n))

  moved_most : (G : ℕ) → Greatest allowed source budget n G → total number' (2 ^ n) ≤ G
  moved_most G greatest = omega (arith, moved-total, greatest.no_larger moved (record { only = moved-only; fits = moved-fits }))

-- ---- what a lighter table and model brings

module _ (m : Meaning) (monotone : Monotone m) (t : Table) (m' : Meaning) (t' : Table) (lighter : Lighter m t m' t') (i k S L : ℕ) (low : L ≤ 1000000) (span : S ≤ 1000000000) (window : WindowLength m t i L) where
  -- what is late in the lighter one is late in the heavier one, under the same set
  late_heavier : (c : ℕ → Bool) (q : ℕ) → LatePosition m' t' i c q → LatePosition m t i c q
  late_heavier c =
      let (L₁, shorter, window₁) = window-within m monotone t i L (omega arith) window c in
      late-before m m' monotone lighter.counts t t' lighter.wcets c c (λ _ h. h) i L₁ (omega arith) window₁ (lighter.deadlines i)

  fails_heavier : (s : ℕ) → Fails m' t' i s → Fails m t i s
  fails_heavier s (q, late) = (q, late_heavier (member s) q late)

  window_exists : (L' : ℕ) × (L' ≤ L) × WindowLength m' t' i L'
  window_exists =
      let load = level_le m m' monotone lighter.counts t.wcet t'.wcet lighter.wcets every every (λ _ h. h) i L L (omega arith) (omega arith) in
      least_serving (level_load m' t'.wcet every i) L (window.0.0, omega (arith, window.0.1))

  module _ (L' : ℕ) (window' : WindowLength m' t' i L') where
    shorter : L' ≤ L
    shorter = window_shorter m m' monotone lighter.counts t t' lighter.wcets every every (λ _ h. h) i L (omega arith) window L' window'

    late_fewer : (N N' : ℕ) → LateCount m t i L N → LateCount m' t' i L' N' → N' ≤ N
    late_fewer N N' late late' =
        how_many_le (LatePosition m' t' i every) (LatePosition m t i every) _ _ N' N
        (arrivals_le m m' monotone lighter.counts t.wcet t'.wcet lighter.wcets every every (λ _ h. h) i L' L shorter (omega arith))
        (late_heavier every) late' late

    budget_le : (j : ℕ) → budget m' t' i k S L' j ≤ budget m t i k S L j
    budget_le j =
        let ends = shorter in
        omega (arith, lighter.counts j Overload (S + 2 * L' - 1) (omega arith), monotone j Overload (S + 2 * L' - 1) (S + 2 * L - 1) (omega arith) (omega arith))

    fewer_sources : source_count m' t' i k S L' ≤ source_count m t i k S L
    fewer_sources =
        count_mono (λ j. leb 1 (budget m' t' i k S L' j)) (λ j. leb 1 (budget m t i k S L j)) (suc i)
        (λ j _ e. le-leb 1 (budget m t i k S L j) (omega (arith, budget_le j, leb-true 1 (budget m' t' i k S L' j) e)))

    fewer_cells : cell_count m' t' i k S L' ≤ cell_count m t i k S L
    fewer_cells = fewer_states (budget m t i k S L) (budget m' t' i k S L') (suc i) budget_le

    packing_smaller : (G G' : ℕ) → GreatestPacking m t i k S L G → GreatestPacking m' t' i k S L' G' → G' ≤ G
    packing_smaller G G' greatest greatest' =
        let (number', packing', same) = greatest'.some_packing in
        let inside : (s : ℕ) → 1 ≤ number' s → (x : ℕ) × Inside (MinimalCombination m t i k S L) (suc i) s x =
        λ s some.
        let minimal' = packing'.only s some in
        let (x, sub, minimal) =
        minimal_in m monotone t i L (omega arith) window (Source m t i k S L) s
        (λ j e. let (level, some) = minimal'.sources j e in (level, omega (arith, budget_le j)))
        (fails_heavier s minimal'.failing) in
        (x, (sub, below (suc i) x (λ j e. omega (arith, (minimal.sources j e).0)), minimal)) in
        let room : (j : ℕ) → Source m t i k S L j → sum_if (λ s. member s j) number' (2 ^ suc i) ≤ budget m t i k S L j =
        λ j (level, _). elim (cases_lt 0 (budget m' t' i k S L' j)) [
          | inl some ↦ omega (arith, budget_le j, packing'.fits j (level, some))
          | inr none ↦
              let nothing =
              total_nothing (λ s. cond (member s j) (number' s) 0) (2 ^ suc i)
              (λ s _. cond_both (member s j) (number' s) 0 (λ v. v ≡ 0)
              (λ e. elim (cases_lt 0 (number' s)) [ inl some ↦ absurd (omega (arith, ((packing'.only s some).sources j e).1)) | inr free ↦ omega arith ])
              (λ _. refl)) in
              omega arith
        ] in
        omega (arith, moved_most (MinimalCombination m t i k S L) (Source m t i k S L) (budget m t i k S L) number' (suc i) inside room G greatest)

  -- the first tests hold for the lighter one too
  passed_lighter : Passed (first_tests m t i k S) → Passed (first_tests m' t' i k S)
  passed_lighter (same, (held, (jobs, (_, (_, (schedulable, _)))))) =
      let (L', shorter, window') = window_exists in
      let short : L' ≤ 1000000 = omega arith in
      let last : i < t'.tasks = omega (arith, lighter.table_tasks) in
      (lighter.model_tasks ∙ same ∙ sym lighter.table_tasks, (last, (jobs, (span, ((L', short, window'), (λ fails. schedulable (fails_heavier 0 fails), tt))))))

  -- the heavier one is answered with a
  module _ (N cells a : ℕ) (admitted : Admitted m t i k S L N) (answer : ((N ≡ 0) × (a ≡ 0)) ⊎ ((1 ≤ N) × Passed (last_tests m t i k S L cells) × Bound m t i k S L N a)) where
    answered : (r : Result ℕ ℕ) → Answer m' t' i k S cells r → (a' : ℕ) × (r ≡ Ok a') × (a' ≤ a)
    answered (Err n) (inl refused) = absurd (not-refused (first_tests m' t' i k S) n (passed_lighter admitted.passed) refused)
    answered (Err n) (inr (L', N', admitted', some, refused)) =
        let fewer = late_fewer L' admitted'.window N N' admitted.late admitted'.late in
        elim answer [
          | inl (none, _) ↦ absurd (omega arith)
          | inr (_, (few, (fit, _)), _) ↦
              absurd (not-refused (last_tests m' t' i k S L' cells) n
              (omega (arith, fewer_sources L' admitted'.window), (omega (arith, fewer_cells L' admitted'.window), tt)) refused)
        ]
    answered (Ok a') (L', N', admitted', inl (none, nothing)) = (a', refl, omega arith)
    answered (Ok a') (L', N', admitted', inr (some, _, (G', greatest', is'))) =
        let fewer = late_fewer L' admitted'.window N N' admitted.late admitted'.late in
        elim answer [
          | inl (none, _) ↦ absurd (omega arith)
          | inr (_, _, (G, greatest, is)) ↦
              (a', refl, omega (arith, mul-le-mul fewer (packing_smaller L' admitted'.window G G' greatest greatest')))
        ]

pub exchange_promise : (m : Meaning) → Lawful m → (t : Table) (i k S cells a : ℕ) → Answer m t i k S cells (Ok a) → ExchangePromise m t i k S cells a
exchange_promise m lawful t i k S cells a (L, N, admitted, answer) m' lawful' t' lighter =
    let (_, (_, (_, (span, ((L₀, low, window), _))))) = admitted.passed in
    let same = least_unique _ L₀ L window admitted.window in
    answered m lawful.monotone t m' t' lighter i k S L (omega arith) span admitted.window N cells a admitted answer
