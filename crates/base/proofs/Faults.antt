-- Answers that are accepted or refused.
use Rattle.std.proofs.Common.{◌≡◌, ℕ, Bool, true, false, Ok, Err, Result, refl, arith}
use Rattle.base.specs.Faults.{given}

-- an answer is accepted or refused, and its value is one
pub same_ok : {X F : Type 0} (x y : X) → ◌≡◌ {A = Result X F} (Ok x) (Ok y) → x ≡ y
same_ok x y h = cc

pub no_ok : {X F : Type 0} (f : F) (x : X) → ◌≡◌ {A = Result X F} (Err f) (Ok x) → ⊥
no_ok f x h = let z : ◌≡◌ {A = ℕ} 0 1 = cc in omega arith

-- an answer behind a test: the test was passed
pub given-ok : {X F : Type 0} (t : Bool) (f : F) (a : Result X F) (x : X) → given t f a ≡ Ok x → (t ≡ true) × (a ≡ Ok x)
given-ok true f a x h = (refl, h)
given-ok false f a x h = absurd (no_ok f x h)
