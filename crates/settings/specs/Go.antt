-- What a reader that stands within a file will answer; the contracts of its steps speak of this.
use Rattle.std.specs.Prelude.{◌≡◌, ℕ, ◌+◌, ◌-◌, ◌*◌, ◌<◌, Bool, List, [], ◌∷◌, ◌++◌, ◌&&◌, length, Ok, Err, Result, ◌==◌, ◌≢◌, nat_eq, nat_le}
use Rattle.base.specs.Faults.{given}
use Rattle.entries.specs.declared.fault.FileFault.{FileFault}
use Rattle.entries.specs.Values.{fault_of}
use Rattle.file_format.specs.Entries.{task_entry, curves_entry, staircase_entry, question_entry}
use Rattle.file_format.specs.File.{fault, after, count, entries}
use Rattle.file_format.specs.Settings.{Settings, Fault}
use Rattle.staircase.specs.Values.{stairs_of}
use Rattle.settings.specs.declared.reader.Reader.{Reader}
use Rattle.settings.specs.declared.reader.Section.{Section}
use Rattle.settings.specs.declared.reader.Section.TheVariants as in-section
use Rattle.settings.specs.Values.{settings_of}

-- which count each section may have, behind the settings so far
abbrev pub tasks_ok : ℕ → Bool
tasks_ok n = nat_le 1 n && nat_le n 32

abbrev pub curves_ok : Settings → ℕ → Bool
curves_ok s n = nat_le n (length s.tasks)

abbrev pub staircases_ok : Settings → ℕ → Bool
staircases_ok s n = nat_eq (length s.curves + n) (length s.tasks)

abbrev pub questions_ok : ℕ → Bool
questions_ok n = nat_le n 16

-- what is left of the definition in each section: behind the settings so far, n entries are due from byte b on
module _ (f : List ℕ) where
  unfoldable pub questions_on : Settings → ℕ → ℕ → Result Settings Fault
  questions_on s n b =
      after (entries f question_entry 4 s.questions n b) λ qs b.
      given (length f == b) (fault 20 5 0 b) (Ok (record s { questions = qs }))

  unfoldable pub staircases_on : Settings → ℕ → ℕ → Result Settings Fault
  staircases_on s n b =
      after (entries f staircase_entry 3 s.staircases n b) λ ss b.
      after (count f 4 19 questions_ok b) (questions_on (record s { staircases = ss }))

  unfoldable pub curves_on : Settings → ℕ → ℕ → Result Settings Fault
  curves_on s n b =
      after (entries f curves_entry 2 s.curves n b) λ cs b.
      after (count f 3 16 (staircases_ok (record s { curves = cs })) b) λ n b. staircases_on (record s { curves = cs }) (2 * n) b

  unfoldable pub tasks_on : Settings → ℕ → ℕ → Result Settings Fault
  tasks_on s n b =
      after (entries f task_entry 1 s.tasks n b) λ ts b.
      after (count f 2 14 (curves_ok (record s { tasks = ts })) b) (curves_on (record s { tasks = ts }))

  unfoldable pub all_on : Settings → ℕ → Result Settings Fault
  all_on s b = after (count f 1 12 tasks_ok b) (tasks_on s)

-- the settings so far
abbrev pub so_far : Reader → Settings
so_far r = settings_of r.tasks r.settings

-- and with the typical staircase of a task whose overload one is due
abbrev pub with_typical : Reader → Settings
with_typical r = record (so_far r) { staircases = (so_far r).staircases ++ stairs_of r.typical ∷ [] }

-- the answer, by the section that the reader is in
abbrev pub go_in : Section → Reader → Result Settings Fault
go_in in-section.Start r = all_on r.cursor.file.now (so_far r) r.cursor.at
go_in in-section.Tasks r = tasks_on r.cursor.file.now (so_far r) r.due r.cursor.at
go_in in-section.Curves r = curves_on r.cursor.file.now (so_far r) r.due r.cursor.at
go_in in-section.Typical r = staircases_on r.cursor.file.now (so_far r) (2 * r.due) r.cursor.at
go_in in-section.Overload r = staircases_on r.cursor.file.now (with_typical r) (2 * r.due - 1) r.cursor.at
go_in in-section.Questions r = questions_on r.cursor.file.now (so_far r) r.due r.cursor.at
go_in in-section.End r = Ok (so_far r)

abbrev pub go : Reader → Result Settings Fault
go r = go_in r.section r

-- a number that falls with each step
abbrev pub weight_in : Section → ℕ → ℕ
weight_in in-section.Start due = 4000
weight_in in-section.Tasks due = 3000 + due
weight_in in-section.Curves due = 2000 + due
weight_in in-section.Typical due = 1000 + 2 * due
weight_in in-section.Overload due = 999 + 2 * due
weight_in in-section.Questions due = 1 + due
weight_in in-section.End due = 0

abbrev pub weight : Reader → ℕ
weight r = weight_in r.section r.due

-- the answer is kept, and the end is nearer
pub record Kept (r s : Reader) : Type 0 where
  pub answer : go s ≡ go r
  pub nearer : (r.section ≢ in-section.End) → weight s < weight r

-- a step keeps the answer, or finds the fault that is the answer
abbrev pub Stepped : Reader → Reader → Result (Unit {0}) FileFault → Type 0
Stepped r s (Ok _) = Kept r s
Stepped r s (Err f) = go r ≡ Err (fault_of f)
