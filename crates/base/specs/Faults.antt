-- Answers that may be refused by a number.
use Rattle.std.specs.Prelude.{◌≡◌, Bool, cond, Ok, Err, Result}

-- the answer if the test holds, else the fault: tests that follow one another are asked in their order
abbrev pub given : {X F : Type 0} → Bool → F → Result X F → Result X F
given test fault answer = cond test answer (Err fault)

-- an answer of the code in numbers: what its value and what its fault stand for
abbrev pub in_numbers : {V X E F : Type 0} → (V → X) → (E → F) → Result V E → Result X F
in_numbers value fault (Ok v) = Ok (value v)
in_numbers value fault (Err e) = Err (fault e)

-- a call that changes what it is lent: that becomes the defined value, or the call is refused by the defined number and it stays
abbrev pub Becomes : {S X E F : Type 0} → (S → X) → (E → F) → Result X F → Result (Unit {0}) E → S → S → Type 0
Becomes value fault (Ok x) (Ok _) old new = value new ≡ x
Becomes value fault (Ok x) (Err e) old new = ⊥
Becomes value fault (Err f) (Ok _) old new = ⊥
Becomes value fault (Err f) (Err e) old new = (fault e ≡ f) × (value new ≡ value old)
