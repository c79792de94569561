-- What a file is that is read, and what is read of the bytes of settings.
use Rattle.std.proofs.Common.{◌≡◌, ℕ, ◌<◌, List, get_or, Ok, Err, Fits, w8, sym, ap, ◌∙◌, arith}
use Rattle.std.proofs.ByRecursion.{All-from_get_or}
use Rattle.base.proofs.Faults.{same_ok, no_ok}
use Rattle.file_format.specs.File.{settings}
use Rattle.file_format.specs.Settings.{Settings, Fault}
use Rattle.file_format.proofs.RoundTrip.{reads_back, spells_back}
use Rattle.settings.specs.Read.{AreBytesOf}

-- a file that is the bytes of settings is read as those
read_bytes : (f : List ℕ) (s : Settings) → AreBytesOf f s → settings f ≡ Ok s
unfolding AreBytesOf
read_bytes f s bytes = ap settings (sym bytes.1) ∙ reads_back s bytes.0

pub are_bytes : (f : List ℕ) (s : Settings) → ((i : ℕ) → Fits w8 (get_or f i 0)) → settings f ≡ Ok s → AreBytesOf f s
unfolding AreBytesOf
are_bytes f s small e = spells_back f s (All-from_get_or (λ b. b < 256) f 0 (λ i _. omega (arith, small i))) e

pub same_settings : (f : List ℕ) (t s : Settings) → settings f ≡ Ok t → AreBytesOf f s → t ≡ s
same_settings f t s e bytes = same_ok t s (sym e ∙ read_bytes f s bytes)

pub no_bytes : (f : List ℕ) (x : Fault) (s : Settings) → settings f ≡ Err x → AreBytesOf f s → ⊥
no_bytes f x s e bytes = no_ok x s (sym e ∙ read_bytes f s bytes)
