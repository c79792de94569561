-- The late jobs among jobs released near each other are at most the late positions times the greatest packing.
use Rattle.std.proofs.Common.{◌≡◌, ℕ, suc, ◌+◌, ◌-◌, ◌*◌, ◌^◌, ◌<◌, ◌≤◌, Bool, true, cond, ◌&&◌, eqb, ltb, leb, sym, refl, ap, ◌∙◌, subst, inl, inr, mul-le-mul_left, arith}
use native.Mathlib.Nat.{le-min}
use Rattle.std.proofs.lemmas.Bool.{and_from, and_parts, cases_Bool, cond_both, eq-eqb, eqb-true, false≢true, le-leb, lt-ltb, ltb-false, ltb-true}
use Rattle.arrival.specs.declared.class.Class.TheVariants.{Overload}
use Rattle.arrival.specs.Meaning.{Meaning, Monotone}
use Rattle.theory.specs.Conforming.{same_class}
use Rattle.theory.specs.Levels.{arrivals, every}
use Rattle.theory.specs.Packings.{Packing}
use Rattle.theory.specs.Positions.{LatePosition}
use Rattle.theory.specs.Questions.{GreatestPacking, LateCount, MinimalCombination, Source, WindowLength, budget}
use Rattle.theory.specs.Sets.{member}
use Rattle.theory.specs.Sums.{count, total}
use Rattle.theory.specs.Tables.{Table}
use Rattle.theory.proofs.Busy.{busy-length}
use Rattle.theory.proofs.Combinations.{late-within, minimal_within, window-within}
use Rattle.theory.proofs.Counting.{how_many_unique}
use Rattle.theory.proofs.Decisions.{is_late, late_is}
use Rattle.theory.proofs.LateJobs.{late-job, window}
use Rattle.theory.proofs.Lateness.{position-few}
use Rattle.theory.proofs.Masks.{below}
use Rattle.theory.proofs.Quiet.{start}
use Rattle.theory.proofs.Totals.{count-below, count_mono, count-one, count_some, groups, one_if, one_if-false, one_if_most, one_if-true, ranks, total_le, total-times}
use Rattle.theory.proofs.Traces.{Keeps, Late, Ruled, Trace, Window, position, released}
use Rattle.theory.proofs.Windows.{OverloadIn, overloaded, overloaded-covers, overloaded_has, same_window, start_of}

-- a late job of task i among the places from a to b
pub record LateJob (R : Trace) (i deadline a b j : ℕ) : Type 0 where
  pub from : a ≤ j
  pub upto : j ≤ b
  pub own : R.task j ≡ i
  pub misses : Late R deadline j

-- Jobs between the places a and b, which are released at most S apart, pass the test `late`; there are at most k of them, and they
-- are late jobs of task i.
module _ (R : Trace) (ruled : Ruled R) (m : Meaning) (monotone : Monotone m) (t : Table) (keeps : Keeps R m t)
    (i k S L : ℕ) (low : L ≤ 1000000) (span : S ≤ 1000000000) (longest : WindowLength m t i L)
    (a b : ℕ) (known : b < R.jobs) (near : R.release b ≤ R.release a + S)
    (late : ℕ → Bool) (late-is_late : (j : ℕ) → j < suc b → late j ≡ true → LateJob R i (t.deadline i) a b j) (few : count late (suc b) ≤ k) where
  abbrev begin : ℕ → ℕ
  begin = start_of R ruled i

  -- the busy window of a late job, and its late position
  record InWindow (j : ℕ) : Type 0 where
    end : ℕ
    busy : Window R i j (begin j) end
    near_start : end ≤ begin j + L
    position_late : LatePosition m t i (overloaded R ruled i (begin j) end) (position R (begin j) j)

  in_window : (j : ℕ) → LateJob R i (t.deadline i) a b j → InWindow j
  in_window j job =
      let inside : j < R.jobs = omega (arith, job.upto) in
      let (e, busy) = window R ruled i j (omega (arith, job.misses.0)) in
      let c : ℕ → Bool = overloaded R ruled i (begin j) e in
      let (L', short, length) = window-within m monotone t i L (omega arith) longest c in
      record {
        end = e;
        busy = busy;
        near_start = busy-length R ruled i j inside (omega (arith, job.own)) (begin j) busy.start e busy.reached busy.busy m t keeps every (λ _ _ _ _ _ _. refl) L (omega arith) longest.0;
        position_late = late-job R ruled i m monotone t keeps c j inside job.own (begin j) e busy (overloaded-covers R ruled i (begin j) e) job.misses L' (omega arith) length;
      }

  -- ---- one window has at most as many late jobs as there are late positions

  abbrev late_position : ℕ → Bool
  late_position = is_late m t i L every

  abbrev positions : ℕ
  positions = count (λ q. late_position (q + 1)) (arrivals m every i L)

  -- a late job in the window that starts at s
  abbrev late_in : ℕ → ℕ → Bool
  late_in s j = eqb (begin j) s && late j

  late_in_parts : (s j : ℕ) → j < suc b → late_in s j ≡ true → (begin j ≡ s) × LateJob R i (t.deadline i) a b j
  late_in_parts s j less e =
      let (at, is) = and_parts (eqb (begin j) s) (late j) e in
      (eqb-true (begin j) s at, late-is_late j less is)

  window_most : (s : ℕ) → count (late_in s) (suc b) ≤ positions
  window_most s =
      let peers : ℕ → Bool = λ j. eqb (R.task j) i && leb s (R.release j) in
      let ranked =
      count_mono (late_in s) (λ j. peers j && late_position (count peers (suc j))) (suc b)
      (λ j less e.
      let (same, job) = late_in_parts s j less e in
      let held = in_window j job in
      let worst = late-within m monotone t i L (omega arith) longest (overloaded R ruled i (begin j) held.end) every (λ _ _. refl) (position R (begin j) j) held.position_late in
      let rank : position R (begin j) j ≡ count peers (suc j) =
      ap (λ z. count (λ g. eqb (R.task g) z && leb (begin j) (R.release g)) (suc j)) job.own
      ∙ ap (λ z. count (λ g. eqb (R.task g) i && leb z (R.release g)) (suc j)) same in
      and_from _ _ (and_from _ _ (eq-eqb _ _ job.own) (le-leb _ _ (omega (arith, held.busy.start.before))))
      (ap late_position (sym rank) ∙ (late_is m t i L monotone (omega arith) longest every (position R (begin j) j)).1 worst)) in
      let whole = ranks peers late_position (suc b) in
      let held =
      count-below (λ q. late_position (q + 1)) (arrivals m every i L) (count peers (suc b))
      (λ q e.
      let (some, fits) = position-few m monotone t i every L (omega arith) longest (q + 1) ((late_is m t i L monotone (omega arith) longest every (q + 1)).0 e).0 in
      omega arith) in
      omega arith

  -- ---- the windows with a late job, each with a minimal combination in it

  abbrev affected : ℕ → Bool
  affected s = ltb 0 (count (late_in s) (suc b))

  -- the ticks at which such a window can have releases
  abbrev first_tick : ℕ
  first_tick = R.release a + 1 - L

  abbrev reach : ℕ
  reach = S + 2 * L - 1

  -- an overload job of task k that is released there
  abbrev meets : ℕ → ℕ → Bool
  meets k = released R k Overload first_tick reach

  meets_in : ℕ → ℕ → ℕ → Bool
  meets_in s k g = eqb (begin g) s && meets k g

  meets_of : (s j : ℕ) → begin j ≡ s → LateJob R i (t.deadline i) a b j → (e : ℕ) → Window R i j (begin j) e → e ≤ begin j + L
      → (k g : ℕ) → OverloadIn R ruled i (begin j) e k g → meets_in s k g ≡ true
  unfolding meets_in
  meets_of s j same job e busy short k g (there, task, class, lo, hi) =
      let early = ruled.ordered a j job.from (omega (arith, job.upto)) in
      let late = ruled.ordered j b job.upto known in
      let before = busy.start.before in
      let after = busy.after in
      and_from _ _ (eq-eqb _ _ (same_window R ruled i j (begin j) e busy g lo hi ∙ same))
      (and_from _ _ (and_from _ _ (eq-eqb _ _ task) (ap (same_class Overload) class))
      (and_from _ _ (le-leb first_tick (R.release g) (omega arith)) (lt-ltb (R.release g) (first_tick + reach) (omega arith))))

  meets_most : (k : ℕ) → count (meets k) R.jobs ≤ m.count k Overload reach
  meets_most k = keeps.rated k Overload first_tick reach (omega arith)

  meets_fewer : (s k : ℕ) → count (meets_in s k) R.jobs ≤ count (meets k) R.jobs
  unfolding meets_in
  meets_fewer s k = count_mono (meets_in s k) (meets k) R.jobs (λ g _ e. (and_parts (eqb (begin g) s) (meets k g) e).1)

  -- a minimal combination of which each task has an overload release in the window that starts at s
  abbrev Chosen : ℕ → ℕ → Type 0
  Chosen s x = MinimalCombination m t i k S L x × ((j : ℕ) → member x j ≡ true → 1 ≤ count (meets_in s j) R.jobs)

  choose : (s : ℕ) → affected s ≡ true → (x : ℕ) × Chosen s x
  choose s e =
      let some = ltb-true 0 (count (late_in s) (suc b)) e in
      let (j, less, here) = count_some (late_in s) (suc b) some in
      let (same, job) = late_in_parts s j less here in
      let held = in_window j job in
      let c : ℕ → Bool = overloaded R ruled i (begin j) held.end in
      let seen : (g : ℕ) → c g ≡ true → (g ≤ i) × (1 ≤ count (meets_in s g) R.jobs) =
      λ g in_c.
      let (level, (h, is)) = overloaded_has R ruled i (begin j) held.end g in_c in
      (level, count-one (meets_in s g) R.jobs h is.0 (meets_of s j same job held.end held.busy held.near_start g h is)) in
      let one-job : 1 ≤ k = omega (arith, count_mono (late_in s) late (suc b) (λ j _ e. (and_parts (eqb (begin j) s) (late j) e).1)) in
      let source : (g : ℕ) → c g ≡ true → Source m t i k S L g =
      λ g in_c. let (level, met) = seen g in_c in (level, le-min one-job (omega (arith, meets_fewer s g, meets_most g))) in
      let (x, within, minimal) = minimal_within m monotone t i L (omega arith) longest (Source m t i k S L) (λ j src. src.0) c source (position R (begin j) j, held.position_late) in
      (x, (minimal, λ g in-x. (seen g (within g in-x)).1))

  pick : (s : ℕ) → (x : ℕ) × (affected s ≡ true → Chosen s x)
  pick s = elim (cases_Bool (affected s)) [ inl e ↦ let (x, is) = choose s e in (x, λ _. is) | inr e ↦ (0, λ is. absurd (false≢true (sym e ∙ is))) ]

  chosen : ℕ → ℕ
  chosen s = (pick s).0

  chosen_is : (s : ℕ) → affected s ≡ true → Chosen s (chosen s)
  unfolding chosen
  chosen_is s e = (pick s).1 e

  -- every window starts before this
  abbrev top : ℕ
  top = suc R.clock

  -- the late jobs, window by window
  by_window : total (λ s. count (late_in s) (suc b)) top ≡ count late (suc b)
  by_window =
      let all = groups late begin (suc b) top in
      let more =
      count_mono late (λ j. late j && ltb (begin j) top) (suc b)
      (λ j less e. and_from _ _ e (lt-ltb (begin j) top (omega (arith, (start R ruled i (R.release j)).1.before, (late-is_late j less e).misses.0)))) in
      let fewer = count_mono (λ j. late j && ltb (begin j) top) late (suc b) (λ j _ e. (and_parts (late j) (ltb (begin j) top) e).0) in
      omega arith

  few-windows : count affected top ≤ k
  few-windows =
      let each =
      total_le (λ s. one_if (affected s)) (λ s. count (late_in s) (suc b)) top
      (λ s _. elim (cases_Bool (affected s)) [
        | inl e ↦ omega (arith, one_if_most (affected s), ltb-true 0 (count (late_in s) (suc b)) e)
        | inr e ↦ omega (arith, one_if-false e)
      ]) in
      omega (arith, by_window)

  meets_by_window : (j : ℕ) → total (λ s. count (meets_in s j) R.jobs) top ≤ count (meets j) R.jobs
  unfolding meets_in
  meets_by_window j =
      let all = groups (meets j) begin R.jobs top in
      let fewer = count_mono (λ g. meets j g && ltb (begin g) top) (meets j) R.jobs (λ g _ e. (and_parts (meets j g) (ltb (begin g) top) e).0) in
      omega arith

  -- the affected windows whose combination has task j
  abbrev hit_by : ℕ → ℕ → Bool
  hit_by j s = affected s && member (chosen s) j

  few_hit : (j : ℕ) → count (hit_by j) top ≤ budget m t i k S L j
  few_hit j =
      let windows = count_mono (hit_by j) affected top (λ s _ e. (and_parts (affected s) (member (chosen s) j) e).0) in
      let each =
      total_le (λ s. one_if (hit_by j s)) (λ s. count (meets_in s j) R.jobs) top
      (λ s _. elim (cases_Bool (hit_by j s)) [
        | inl e ↦
            let (is, has) = and_parts (affected s) (member (chosen s) j) e in
            omega (arith, one_if_most (hit_by j s), (chosen_is s is).1 j has)
        | inr e ↦ omega (arith, one_if-false e)
      ]) in
      le-min (omega (arith, few-windows)) (omega (arith, meets_by_window j, meets_most j))

  -- how many affected windows have the combination x
  abbrev number : ℕ → ℕ
  number x = count (λ s. eqb (chosen s) x && affected s) top

  packing : Packing (MinimalCombination m t i k S L) (Source m t i k S L) (budget m t i k S L) (suc i) number
  packing = record {
    only = λ x some.
        let (s, _, e) = count_some (λ s. eqb (chosen s) x && affected s) top some in
        let (same, is) = and_parts (eqb (chosen s) x) (affected s) e in
        subst (MinimalCombination m t i k S L) (eqb-true (chosen s) x same) (chosen_is s is).0;
    fits = λ j source.
        let each =
        total_le (λ x. cond (member x j) (number x) 0) (λ x. count (λ s. eqb (chosen s) x && hit_by j s) top) (2 ^ suc i)
        (λ x _.
        cond_both (member x j) (number x) 0 (λ n. n ≤ count (λ s. eqb (chosen s) x && hit_by j s) top)
        (λ has. count_mono (λ s. eqb (chosen s) x && affected s) (λ s. eqb (chosen s) x && hit_by j s) top
        (λ s _ e.
        let (same, is) = and_parts (eqb (chosen s) x) (affected s) e in
        and_from _ _ same (and_from _ _ is (ap (λ y. member y j) (eqb-true (chosen s) x same) ∙ has))))
        (λ _. omega arith)) in
        let all = groups (hit_by j) chosen top (2 ^ suc i) in
        let fewer = count_mono (λ s. hit_by j s && ltb (chosen s) (2 ^ suc i)) (hit_by j) top (λ s _ e. (and_parts (hit_by j s) (ltb (chosen s) (2 ^ suc i)) e).0) in
        omega (arith, few_hit j);
  }

  packed : (G : ℕ) → GreatestPacking m t i k S L G → count affected top ≤ G
  packed G greatest =
      let all = groups affected chosen top (2 ^ suc i) in
      let more =
      count_mono affected (λ s. affected s && ltb (chosen s) (2 ^ suc i)) top
      (λ s _ e. and_from _ _ e (lt-ltb (chosen s) (2 ^ suc i) (below (suc i) (chosen s) (λ j has. omega (arith, ((chosen_is s e).0.sources j has).0))))) in
      omega (arith, greatest.no_larger number packing)

  -- each window has at most N of the late jobs
  by_positions : (N : ℕ) → LateCount m t i L N → count late (suc b) ≤ N * count affected top
  by_positions N counted =
      let same : N ≡ positions =
      how_many_unique (LatePosition m t i every) (arrivals m every i L) N positions counted (late_position, λ q _ _. late_is m t i L monotone (omega arith) longest every q, refl) in
      let each =
      total_le (λ s. count (late_in s) (suc b)) (λ s. N * one_if (affected s)) top
      (λ s _. elim (cases_Bool (affected s)) [
        | inl e ↦ omega (arith, window_most s, ap (λ z. N * z) (one_if-true e))
        | inr e ↦ omega (arith, ltb-false 0 (count (late_in s) (suc b)) e)
      ]) in
      let times = total-times N (λ s. one_if (affected s)) top in
      omega (arith, by_window)

  pub late_jobs_bound : (N G : ℕ) → LateCount m t i L N → GreatestPacking m t i k S L G → count late (suc b) ≤ N * G
  late_jobs_bound N G counted greatest = omega (arith, by_positions N counted, mul-le-mul_left N (packed G greatest))

  -- where no position is late, no job is
  pub late-jobs-none : (N : ℕ) → N ≡ 0 → LateCount m t i L N → count late (suc b) ≤ 0
  late-jobs-none N none counted = omega (arith, by_positions N counted, ap (λ n. n * count affected top) none)
