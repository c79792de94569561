-- Tests that all hold refuse nothing.
use Rattle.std.proofs.Common.{ℕ, List, [], ◌∷◌, inl, inr}
use Rattle.base.specs.Tests.{Passed, Refused}

pub not-refused : (tests : List (Type 0 × ℕ)) (n : ℕ) → Passed tests → Refused tests n → ⊥
not-refused [] n passed refused = refused
not-refused (t ∷ ts) n passed (inl h) = h.0 passed.0
not-refused (t ∷ ts) n passed (inr h) = not-refused ts n passed.1 h.1
