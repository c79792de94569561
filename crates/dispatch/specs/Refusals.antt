-- The numbers of the refusals, and their text.
use Rattle.std.specs.Prelude.{ℕ, List, ◌++◌, codes, decimal}
use Rattle.dispatch.specs.declared.refusal.Refusal.{Refusal}
use Rattle.dispatch.specs.declared.refusal.Refusal.TheVariants.{OtherTasks, NoSuchTask, WorkOutOfRange, LogFull, TooManyReleases, LogTooShort, ClockAtEnd}

abbrev pub refusal_number : Refusal → ℕ
refusal_number OtherTasks = 41
refusal_number NoSuchTask = 42
refusal_number WorkOutOfRange = 43
refusal_number LogFull = 44
refusal_number TooManyReleases = 45
refusal_number LogTooShort = 46
refusal_number ClockAtEnd = 47

abbrev pub refusal_text : Refusal → List ℕ
refusal_text f = codes "refused " ++ decimal (refusal_number f)
