-- Least numbers, the windows of smaller sets, and which positions are late.
use Rattle.std.proofs.Common.{◌≡◌, ℕ, zero, suc, ◌+◌, ◌-◌, ◌*◌, ◌^◌, ◌<◌, ◌≤◌, Bool, true, false, ◌&&◌, ltb, leb, ◌⊎◌, Decides, sym, ap, ◌∙◌, subst, inl, inr, mul_comm, mul-le-mul_left, arith}
use Rattle.std.proofs.lemmas.Bool.{cases_eq, cases_lt, cases_Bool, and_parts, and_from, leb-true, le-leb, ltb-true, lt-ltb, false≢true}
use Rattle.arrival.specs.Meaning.{Meaning, Monotone}
use Rattle.theory.specs.Least.{Least, Serves}
use Rattle.theory.specs.Levels.{BusyLength, arrivals, level_load, position_load}
use Rattle.theory.specs.Positions.{Position, Earliest, Finish, LatePosition, Unschedulable}
use Rattle.theory.specs.Tables.{Table}
use Rattle.theory.proofs.Lighter.{Within, arrivals_rise, level_le}
use Rattle.theory.proofs.Totals.{total-suc}

-- ---- least numbers

-- the first number from a on that passes the test, among n
abbrev pub First : (ℕ → Bool) → ℕ → ℕ → Type 0
First p a e = (a ≤ e) × (p e ≡ true) × ((u : ℕ) → a ≤ u → u < e → p u ≡ false)

pub first-true : (p : ℕ → Bool) (a n : ℕ) → ((e : ℕ) × (e < a + n) × First p a e) ⊎ ((u : ℕ) → a ≤ u → u < a + n → p u ≡ false)
first-true p a zero = inr (λ u lo hi. absurd (omega arith))
first-true p a (suc n) =
    elim (first-true p a n) [
      | inl h ↦ inl (h.0, omega (arith, h.1), h.2)
      | inr none ↦
          elim (cases_Bool (p (a + n))) [
            | inl e ↦ inl (a + n, omega arith, (omega arith, e, none))
            | inr e ↦ inr (λ u lo hi. elim (cases_eq u (a + n)) [ inl q ↦ ap p q ∙ e | inr q ↦ none u lo (omega arith) ])
          ]
    ]

-- where n has a property that can be tested, there is a least number that has it
pub least : (P : ℕ → Type 0) (p : ℕ → Bool) → ((v : ℕ) → Decides (p v) (P v)) → (n : ℕ) → P n → (v : ℕ) × (v ≤ n) × Least P v
least P p decides n h =
    elim (first-true p 0 (suc n)) [
      | inl r ↦ (r.0, omega (arith, r.1), ((decides r.0).0 r.2.1, λ v b q. false≢true (sym (r.2.2 v (omega arith) b) ∙ (decides v).1 q)))
      | inr none ↦ absurd (false≢true (sym (none n (omega arith) (omega arith)) ∙ (decides n).1 h))
    ]

pub least_unique : (P : ℕ → Type 0) (a b : ℕ) → Least P a → Least P b → a ≡ b
least_unique P a b p q =
    elim (cases_lt a b) [
      | inl h ↦ absurd (q.1 a h p.0)
      | inr h ↦ elim (cases_lt b a) [ inl g ↦ absurd (p.1 b g q.0) | inr g ↦ omega arith ]
    ]

-- whether a length serves a load can be tested
pub least_serving : (load : ℕ → ℕ) (n : ℕ) → Serves load n → (v : ℕ) × (v ≤ n) × Least (Serves load) v
least_serving load =
    least (Serves load) (λ w. leb 1 w && leb (load w) w)
    (λ w. (
      λ e. let (a, b) = and_parts (leb 1 w) (leb (load w) w) e in (leb-true 1 w a, leb-true (load w) w b),
      λ e. and_from _ _ (le-leb 1 w e.0) (le-leb (load w) w e.1),
    ))

-- ---- positions

module _ (m : Meaning) (monotone : Monotone m) (t : Table) (i : ℕ) (c : ℕ → Bool) where
  -- a length that serves a larger set serves this one
  pub serves-within : (d : ℕ → Bool) → Within c d → (L : ℕ) → L < 2 ^ 32 → Serves (level_load m t.wcet d i) L → Serves (level_load m t.wcet c i) L
  serves-within d within L fits serves =
      (serves.0, omega (arith, serves.1, level_le m m monotone (λ _ _ _ _. omega arith) t.wcet t.wcet (λ _. omega arith) d c within i L L (omega arith) fits))

  -- the length of the window serves each of its positions
  pub serves-position : (q L : ℕ) → q ≤ arrivals m c i L → Serves (level_load m t.wcet c i) L → Serves (position_load m t.wcet c i q) L
  serves-position q L few serves =
      (serves.0, omega (arith, serves.1, total-suc (λ j. t.wcet j * arrivals m c j L) i, mul-le-mul_left (t.wcet i) few, mul_comm q (t.wcet i)))

  pub earliest_exists : (q n : ℕ) → q ≤ arrivals m c i (n + 1) → (E : ℕ) × (E ≤ n) × Earliest m t i c q E
  earliest_exists q =
      least (λ e. q ≤ arrivals m c i (e + 1)) (λ e. leb q (arrivals m c i (e + 1)))
      (λ e. (leb-true q (arrivals m c i (e + 1)), le-leb q (arrivals m c i (e + 1))))

  module _ (L : ℕ) (short : L < 2 ^ 32) (window : BusyLength m t.wcet c i L) where
    pub position-few : (q : ℕ) → Position m t i c q → (1 ≤ q) × (q ≤ arrivals m c i L)
    position-few q p = (p.2, subst (λ n. q ≤ arrivals m c i n) (least_unique _ p.0 L p.1 window) p.3)

    -- late exactly if q jobs can be released more than a deadline before the finish
    pub late_decides : (q F : ℕ) → 1 ≤ q → q ≤ arrivals m c i L → F ≤ L → Finish m t i c q F → Decides (ltb (t.deadline i) F && leb q (arrivals m c i (F - t.deadline i))) (LatePosition m t i c q)
    late_decides q F some few below finish =
        let D = t.deadline i in (
          λ e.
              let (later, released) = and_parts (ltb D F) (leb q (arrivals m c i (F - D))) e in
              let gap = ltb-true D F later in
              let back : F - D - 1 + 1 ≡ F - D = omega arith in
              let (E, early, earliest) = earliest_exists q (F - D - 1) (subst (λ n. q ≤ arrivals m c i n) (sym back) (leb-true q (arrivals m c i (F - D)) released)) in
              ((L, window, some, few), (E, F, earliest, finish, omega arith)),
          λ (p, (E, F', earliest, finish', late)).
              let same = least_unique _ F F' finish finish' in
              let gap : E + 1 ≤ F - D = omega arith in
              and_from _ _ (lt-ltb D F (omega arith))
              (le-leb q (arrivals m c i (F - D)) (omega (arith, earliest.0, arrivals_rise m monotone t.wcet c i (E + 1) (F - D) gap (omega arith)))),
        )

    -- no position is late
    pub schedulable : ((q : ℕ) → 1 ≤ q → q ≤ arrivals m c i L → LatePosition m t i c q → ⊥) → Unschedulable m t i c → ⊥
    schedulable none (q, late) = let (some, few) = position-few q late.0 in none q some few late
