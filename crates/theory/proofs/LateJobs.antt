-- A late job has a late position in its busy window.
use Rattle.std.proofs.Common.{◌≡◌, ℕ, suc, ◌+◌, ◌-◌, ◌^◌, ◌<◌, ◌≤◌, Bool, ◌&&◌, eqb, leb, refl, inl, inr, arith}
use Rattle.std.proofs.lemmas.Bool.{and_from, cases_lt, eq-eqb, le-leb}
use Rattle.arrival.specs.Meaning.{Meaning, Monotone}
use Rattle.theory.specs.Levels.{BusyLength, arrivals, position_load}
use Rattle.theory.specs.Positions.{LatePosition}
use Rattle.theory.specs.Tables.{Table}
use Rattle.theory.proofs.Busy.{busy-length}
use Rattle.theory.proofs.JobPositions.{position_arrives, position_finishes}
use Rattle.theory.proofs.Lateness.{earliest_exists, first-true, least_serving, serves-position}
use Rattle.theory.proofs.Lighter.{arrivals_rise}
use Rattle.theory.proofs.Quiet.{quiet_all, start, units_mono}
use Rattle.theory.proofs.Totals.{count-one}
use Rattle.theory.proofs.Traces.{Covers, Keeps, Late, Ruled, Trace, Window, position, quiet, units}

module _ (R : Trace) (ruled : Ruled R) (i : ℕ) where
  -- a job that is released before the clock has a busy window
  pub window : (x : ℕ) → R.release x < R.clock → (e : ℕ) × Window R i x (start R ruled i (R.release x)).0 e
  window x before =
      let (s, begins) = start R ruled i (R.release x) in
      elim (first-true (quiet R i) (suc (R.release x)) (R.clock - R.release x)) [
        | inl (e, low, (after, rest, busy)) ↦ (e, record { start = begins; after = after; reached = omega arith; busy = λ u lo hi. busy u lo hi; ends = inl rest })
        | inr none ↦ (R.clock, record { start = begins; after = before; reached = omega arith; busy = λ u lo hi. none u lo (omega arith); ends = inr refl })
      ]

  module _ (m : Meaning) (monotone : Monotone m) (t : Table) (keeps : Keeps R m t) (c : ℕ → Bool)
      (x : ℕ) (known : x < R.jobs) (own : R.task x ≡ i) (s e : ℕ) (busy : Window R i x s e) (covers : Covers R i c s e) (late : Late R (t.deadline i) x) where
    -- no length up to its due tick serves the position of a late job
    none-serves : (w : ℕ) → s + w ≤ R.release x + t.deadline i → position_load m t.wcet c i (position R s x) w ≤ w → ⊥
    none-serves w due serves =
        let finished : R.work x ≤ units R x (R.release x + t.deadline i) = elim (cases_lt e (s + w)) [
          | inr h ↦
              let by-then = position_finishes R ruled i m t keeps c x known own s busy.start w (omega (arith, late.0)) (λ j n l o lo hi. covers j n l o lo (omega arith)) serves in
              omega (arith, units_mono R ruled x (s + w) (R.release x + t.deadline i) due)
          | inl h ↦
              elim busy.ends [
                | inl rest ↦ omega (arith, quiet_all R ruled i e rest x known (omega arith) busy.after, units_mono R ruled x e (R.release x + t.deadline i) (omega arith))
                | inr end ↦ absurd (omega (arith, late.0))
              ]
        ] in
        omega (arith, late.1)

    -- c has the tasks with an overload release in the window
    pub late-job : (L : ℕ) → L < 2 ^ 32 → BusyLength m t.wcet c i L → LatePosition m t i c (position R s x)
    late-job L fits length =
        let q = position R s x in
        let r = R.release x - s in
        let before = busy.start.before in
        let after = busy.after in
        let ends = busy.reached in
        let short = keeps.short in
        let end = busy-length R ruled i x known (omega arith) s busy.start e busy.reached busy.busy m t keeps c covers L fits length.0 in
        let arrived : q ≤ arrivals m c i (r + 1) =
        position_arrives R ruled i m t keeps c x known own s busy.start (r + 1) (omega arith) (omega arith) (λ j n l o lo hi. covers j n l o lo (omega arith)) in
        let few : q ≤ arrivals m c i L = omega (arith, arrivals_rise m monotone t.wcet c i (r + 1) L (omega arith) fits) in
        let some : 1 ≤ q = count-one (λ j. eqb (R.task j) (R.task x) && leb s (R.release j)) (suc x) x (omega arith) (and_from _ _ (eq-eqb (R.task x) (R.task x) refl) (le-leb _ _ before)) in
        let (E, early, earliest) = earliest_exists m monotone t i c q r arrived in
        let (F, low, finish) = least_serving (position_load m t.wcet c i q) L (serves-position m monotone t i c q L few length.0) in
        let misses : E + t.deadline i < F = elim (cases_lt (E + t.deadline i) F) [
          | inl h ↦ h
          | inr h ↦ absurd (none-serves F (omega arith) finish.0.1)
        ] in
        ((L, length, some, few), (E, F, earliest, finish, misses))
