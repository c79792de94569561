-- What the code's entries and faults stand for.
use Rattle.std.specs.Prelude.{◌≡◌, ℕ, Some, None, Option}
use Rattle.arrival.specs.declared.curve.TaskCurves.{TaskCurves}
use Rattle.pjd.specs.declared.curve.PjdCurve.{PjdCurve}
use Rattle.pjd.specs.Curves.{Pjd, numbers_of}
use Rattle.pjd.specs.Curves as pjd
use Rattle.staircase.specs.Values.{stairs_of}
use Rattle.staircase.specs.Values as staircase
use Rattle.tables.specs.Tasks.{Times, times_of}
use Rattle.tables.specs.Tasks as task
use Rattle.file_format.specs.Settings as file
use Rattle.file_format.specs.File.{fault}
use Rattle.entries.specs.declared.fault.Cause.{Cause}
use Rattle.entries.specs.declared.fault.Cause.TheVariants as cause
use Rattle.entries.specs.declared.fault.FileFault.{FileFault}
use Rattle.entries.specs.declared.question.Question.{Question}

-- a class without releases has three zeros in a file
abbrev pub curve_of : Option PjdCurve → Pjd
curve_of None = record { period = 0; jitter = 0; distance = 0 }
curve_of (Some c) = numbers_of c

abbrev pub curves_of : TaskCurves (Option PjdCurve) → file.Curves
curves_of c = record { typical = curve_of c.typical; overload = curve_of c.overload }

abbrev pub question_of : Question → file.Question
question_of q = record { task = q.task; jobs = q.jobs; span = q.span }

-- a value of the code with its number of bytes
abbrev pub with_size : {V X : Type 0} → (V → X) → V × ℕ → X × ℕ
with_size value r = (value r.0, r.1)

-- the numbers of the causes
abbrev pub cause_number : Cause → ℕ
cause_number cause.Missing = 11
cause_number cause.TaskCount = 12
cause_number (cause.Task f) = task.fault_number f
cause_number cause.CurveCount = 14
cause_number (cause.Curve f) = pjd.fault_number f
cause_number cause.StaircaseCount = 16
cause_number (cause.Staircase f) = staircase.fault_number f
cause_number cause.QuestionCount = 19
cause_number cause.Trailing = 20

abbrev pub fault_of : FileFault → file.Fault
fault_of f = fault (cause_number f.cause) f.place.section f.place.entry f.place.byte

-- a fault becomes a cause of its number
abbrev pub Numbered : {F : Type 0} → (F → ℕ) → (F → Cause → Type 0) → Type 0
Numbered {F} number gives = (f : F) (c : Cause) → gives f c → cause_number c ≡ number f
