-- What a call that was accepted has done.
use Rattle.std.proofs.Common.{Ok, Err, IsOk, OnOk, Result}
use Rattle.std.proofs.lemmas.Bool.{false≢true}

pub on_ok : {T E P : Type 0} (r : Result T E) → OnOk r P → IsOk r → P
on_ok (Ok x) h is = h
on_ok (Err e) h is = absurd (false≢true is)
