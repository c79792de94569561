-- Fewer releases, less work, a longer deadline and a smaller set bring no new late position; and each set that fails has a minimal one in it.
use Rattle.std.proofs.Common.{◌≡◌, ℕ, suc, ◌+◌, ◌-◌, ◌^◌, ◌<◌, ◌≤◌, Bool, true, ◌&&◌, eqb, sym, refl, subst, inl, inr, arith}
use lib.Bits.{bit_and}
use Rattle.std.proofs.lemmas.Bool.{cases_lt}
use Rattle.std.proofs.lemmas.Bool.Decides.{Decides-and, Decides-eqb, Decides-like}
use Rattle.arrival.specs.Meaning.{Meaning, Monotone}
use Rattle.theory.specs.Levels.{BusyLength, arrivals, every, level_load, position_load}
use Rattle.theory.specs.Positions.{LatePosition, Unschedulable}
use Rattle.theory.specs.Questions.{Fails, WindowLength}
use Rattle.theory.specs.Sets.{Minimal, Of, Subset, member}
use Rattle.theory.specs.Tables.{Table}
use Rattle.theory.proofs.Decisions.{failing_is, is_failing}
use Rattle.theory.proofs.Lateness.{earliest_exists, least, least_serving, serves-position, serves-within}
use Rattle.theory.proofs.Lighter.{Fewer, Less, Within, arrivals_le, level_le, position_le}
use Rattle.theory.proofs.Masks.{and_subset, subset_and, subset_le, subset_refl, subset_trans}
use Rattle.theory.proofs.SetsAsTests.{mask_is, mask_of}

-- m', t' and c' bring less than m, t and c
module _ (m m' : Meaning) (monotone : Monotone m) (fewer : Fewer m' m) (t t' : Table) (less : Less t'.wcet t.wcet) (c c' : ℕ → Bool) (within : Within c' c) (i L : ℕ) (short : L < 2 ^ 32) (window : BusyLength m t.wcet c i L) where
  pub window_shorter : (L' : ℕ) → BusyLength m' t'.wcet c' i L' → L' ≤ L
  window_shorter L' window' =
      elim (cases_lt L L') [
        | inl h ↦ absurd (window'.1 L h (window.0.0, omega (arith, window.0.1, level_le m m' monotone fewer t.wcet t'.wcet less c c' within i L L (omega arith) short)))
        | inr h ↦ h
      ]

  -- what is late where less is brought was late before
  pub late-before : t.deadline i ≤ t'.deadline i → (q : ℕ) → LatePosition m' t' i c' q → LatePosition m t i c q
  late-before deadline q ((L', window', some, few), (E, F, earliest, finish, late)) =
      let shorter = window_shorter L' window' in
      let more = arrivals_le m m' monotone fewer t.wcet t'.wcet less c c' within i in
      let held : q ≤ arrivals m c i L = omega (arith, more L' L shorter short) in
      let last : L' ≡ L' - 1 + 1 = omega (arith, window'.0.0) in
      let early : E < L' = elim (cases_lt E L') [
        | inl h ↦ h
        | inr h ↦ absurd (earliest.1 (L' - 1) (omega arith) (subst (λ w. q ≤ arrivals m' c' i w) last few))
      ] in
      let (E₁, sooner, earliest₁) = earliest_exists m monotone t i c q E (omega (arith, earliest.0, more (E + 1) (E + 1) (omega arith) (omega arith))) in
      let (F₁, low, finish₁) = least_serving (position_load m t.wcet c i q) L (serves-position m monotone t i c q L held window.0) in
      let later : F ≤ F₁ = elim (cases_lt F₁ F) [
        | inl h ↦
            let load = position_le m m' monotone fewer t.wcet t'.wcet less c c' within i q F₁ F₁ (omega arith) (omega arith) in
            absurd (finish.1 F₁ h (finish₁.0.0, omega (arith, finish₁.0.1)))
        | inr h ↦ h
      ] in
      ((L, window, some, held), (E₁, F₁, earliest₁, finish₁, omega arith))

module _ (m : Meaning) (monotone : Monotone m) (t : Table) (i L : ℕ) (short : L < 2 ^ 32) (window : WindowLength m t i L) where
  -- each set of tasks has a longest busy window
  pub window-within : (c : ℕ → Bool) → (L' : ℕ) × (L' ≤ L) × BusyLength m t.wcet c i L'
  window-within c = least_serving (level_load m t.wcet c i) L (serves-within m monotone t i c every (λ _ _. refl) L short window.0)

  -- what is late under a set is late under a larger one
  pub late-within : (c d : ℕ → Bool) → Within c d → (q : ℕ) → LatePosition m t i c q → LatePosition m t i d q
  late-within c d within =
      let (L', low, window') = window-within d in
      late-before m m monotone (λ _ _ _ _. omega arith) t t (λ _. omega arith) d c within i L' (omega arith) window' (omega arith)

  module _ (source : ℕ → Type 0) where
    -- the smallest number of a subset that fails is minimal
    pub minimal_in : (s : ℕ) → Of source s → Fails m t i s → (x : ℕ) × Subset x s × Minimal (Fails m t i) source x
    minimal_in s of fails =
        let (x, low, ((sub, failing), least-one)) =
        least (λ x. Subset x s × Fails m t i x) (λ x. eqb (bit_and x s) x && is_failing m t i L x)
        (λ x. Decides-and _ _ (Decides-like _ (and_subset x s) (subset_and x s) (Decides-eqb (bit_and x s) x)) (failing_is m t i L monotone short window x))
        s (subset_refl s, fails) in (
          x,
          sub,
          record {
            sources = λ j e. of j (sub j e);
            failing = failing;
            least = λ y part fails. elim (cases_lt y x) [
              | inl h ↦ absurd (least-one y h (subset_trans y x s part sub, fails))
              | inr h ↦ omega (arith, subset_le y x part)
            ];
          },
        )

    -- the same of a set given as a test
    pub minimal_within : ((j : ℕ) → source j → j ≤ i) → (c : ℕ → Bool) → ((j : ℕ) → c j ≡ true → source j) → Unschedulable m t i c
        → (x : ℕ) × Within (member x) c × Minimal (Fails m t i) source x
    minimal_within level c of fails =
        let is = mask_is c (suc i) (λ j e. omega (arith, level j (of j e))) in
        let (x, sub, minimal) =
        minimal_in (mask_of c (suc i)) (subst (λ d. (j : ℕ) → d j ≡ true → source j) (sym is) of) (subst (Unschedulable m t i) (sym is) fails) in
        (x, subst (λ d. (j : ℕ) → member x j ≡ true → d j ≡ true) is sub, minimal)
