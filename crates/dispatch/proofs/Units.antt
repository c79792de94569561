-- The record of a job, tick by tick.
use Rattle.std.proofs.Common.{◌≡◌, ℕ, zero, suc, ◌+◌, ◌-◌, ◌<◌, ◌≤◌, Bool, false, cond, ◌&&◌, ◌||◌, eqb, ltb, leb, sym, refl, ap, arith}
use Rattle.std.proofs.lemmas.Bool.Decides.{nat_tests}
use Rattle.theory.specs.Schedules.{Job, finish, due}
use Rattle.dispatch.specs.declared.record.JobRecord.{JobRecord}
use Rattle.dispatch.specs.Records.{unit_served, marked}
use Rattle.dispatch.specs.Executions.{recorded}

-- a job's record by the fields that change
abbrev pub with_fields : (ℕ → ℕ) → Job → ℕ → ℕ → Bool → JobRecord
with_fields dl x l f b = record { task = x.task; class = x.class; release = x.release; due = due dl x; work = x.work; left = l; finish = f; late = b }

fields : (dl : ℕ → ℕ) (x : Job) {l l' f f' : ℕ} {b b' : Bool} → l ≡ l' → f ≡ f' → b ≡ b' → with_fields dl x l f b ≡ with_fields dl x l' f' b'
fields dl x p q r = λ i. with_fields dl x (p i) (q i) (r i)

-- w is the work, u and v the units before and after the tick from clock c, d the due tick, f and g the finish before and after
finish-served : (w u v c f : ℕ) → u < w → v ≡ u + 1 → cond (eqb (w - u) 1) (suc c) f ≡ cond (ltb u w && leb w v) (suc c) f
finish-served w u v c f lt e = grind (arith, nat_tests)

finish_other : (w u v c f : ℕ) → v ≡ u → f ≡ cond (ltb u w && leb w v) (suc c) f
finish_other w u v c f e = grind (arith, nat_tests)

late-served : (w u v c d f g h : ℕ) → u < w → v ≡ u + 1 → g ≡ h → h ≡ cond (ltb u w && leb w v) (suc c) f
    → (cond (ltb u w) (ltb d c) (ltb d f) || cond (eqb (w - u - 1) 0) (ltb d g) (ltb d (suc c))) ≡ cond (ltb v w) (ltb d (suc c)) (ltb d h)
late-served w u v c d f g h lt e same is = grind (arith, nat_tests)

late_other : (w u v c d f g : ℕ) → v ≡ u → g ≡ f
    → (cond (ltb u w) (ltb d c) (ltb d f) || cond (eqb (w - u) 0) (ltb d f) (ltb d (suc c))) ≡ cond (ltb v w) (ltb d (suc c)) (ltb d g)
late_other w u v c d f g e h = grind (arith, nat_tests)

late_new : (u w d c f : ℕ) → u < w → c ≤ d → false ≡ cond (ltb u w) (ltb d c) (ltb d f)
late_new u w d c f lt le = grind (arith, nat_tests)

module _ (dl : ℕ → ℕ) (x : Job) (units : ℕ → ℕ) (c : ℕ) where
  pub recorded-served : units c < x.work → units (suc c) ≡ units c + 1
      → marked (suc c) (unit_served (suc c) (recorded dl x units c)) ≡ recorded dl x units (suc c)
  recorded-served lt e =
      let f = finish-served x.work (units c) (units (suc c)) c (finish x.work units c) lt e in
      fields dl x (omega arith) f (late-served x.work (units c) (units (suc c)) c (due dl x) (finish x.work units c) _ _ lt e f refl)

  pub recorded_other : units (suc c) ≡ units c → marked (suc c) (recorded dl x units c) ≡ recorded dl x units (suc c)
  recorded_other e =
      let f = finish_other x.work (units c) (units (suc c)) c (finish x.work units c) e in
      fields dl x (omega arith) f (late_other x.work (units c) (units (suc c)) c (due dl x) (finish x.work units c) _ e (sym f))

-- a job that was just entered
module _ (dl : ℕ → ℕ) (x : Job) (units : ℕ → ℕ) (silent : (t : ℕ) → t ≤ x.release → units t ≡ 0) (some : 1 ≤ x.work) where
  never : (t : ℕ) → t ≤ x.release → finish x.work units t ≡ 0
  never zero h = refl
  never (suc t) h =
      let a = silent t (omega arith) in
      let b = silent (suc t) h in
      let ih = never t (omega arith) in
      grind (arith, nat_tests)

  pub recorded_new : with_fields dl x x.work 0 false ≡ recorded dl x units x.release
  recorded_new =
      let a = silent x.release (omega arith) in
      let f = never x.release (omega arith) in
      fields dl x (omega arith) (sym f) (late_new (units x.release) x.work (due dl x) x.release (finish x.work units x.release) (omega arith) (omega arith))

-- only the units up to c count
module _ (dl : ℕ → ℕ) (x : Job) (units other : ℕ → ℕ) where
  finish_same : (c : ℕ) → ((t : ℕ) → t ≤ c → units t ≡ other t) → finish x.work units c ≡ finish x.work other c
  finish_same zero same = refl
  finish_same (suc c) same =
      let a = same c (omega arith) in
      let b = same (suc c) (omega arith) in
      let ih = finish_same c (λ t h. same t (omega arith)) in
      cc

  pub recorded_same : (c : ℕ) → ((t : ℕ) → t ≤ c → units t ≡ other t) → recorded dl x units c ≡ recorded dl x other c
  recorded_same c same =
      let a = same c (omega arith) in
      let f = finish_same c same in
      fields dl x (ap (λ n. x.work - n) a) f (λ i. cond (ltb (a i) x.work) (ltb (due dl x) c) (ltb (due dl x) (f i)))
