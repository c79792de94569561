-- The numbers of the refusals, and their text.
use Rattle.std.specs.Prelude.{ℕ, List, ◌++◌, codes, decimal}
use Rattle.analysis.specs.declared.refusal.Refusal.{Refusal}
use Rattle.analysis.specs.declared.refusal.Refusal.TheVariants.{OtherTasks, NoSuchTask, JobsOutOfRange, SpanTooLong, NoBusyWindow, TypicalMisses, TooManySources, TooFewCells}

abbrev pub refusal_number : Refusal → ℕ
refusal_number OtherTasks = 30
refusal_number NoSuchTask = 31
refusal_number JobsOutOfRange = 32
refusal_number SpanTooLong = 33
refusal_number NoBusyWindow = 35
refusal_number TypicalMisses = 36
refusal_number TooManySources = 37
refusal_number TooFewCells = 38

abbrev pub refusal_text : Refusal → List ℕ
refusal_text f = codes "refused " ++ decimal (refusal_number f)
