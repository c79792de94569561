-- No length below the load of an unserved one serves it.
use Rattle.std.proofs.Common.{ℕ, ◌^◌, ◌<◌, ⊎_elim, arith}
use Rattle.std.proofs.lemmas.Bool.{cases_lt}
use Rattle.theory.specs.Least.{Rises, Serves}

pub below : (f : ℕ → ℕ) → Rises f → (w : ℕ) → ((v : ℕ) → v < w → Serves f v → ⊥) → (v : ℕ) → v < f w → v < 2 ^ 32 → Serves f v → ⊥
below f rises w none v less fits serves =
    ⊎_elim (λ h. none v h serves) (λ h. omega (arith, rises w v h fits, serves.1)) (cases_lt v w)
