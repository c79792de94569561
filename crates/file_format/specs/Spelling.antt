-- The bytes of settings, and which settings have a file.
use Rattle.std.specs.Prelude.{◌≡◌, ℕ, ◌+◌, ◌*◌, ◌/◌, ◌^◌, ◌<◌, ◌≤◌, true, ◌&&◌, List, ◌++◌, length, Ok}
use Rattle.std.specs.List.{flat_map, AllByRecursion}
use Rattle.base.specs.Numbers.{spelled}
use Rattle.pjd.specs.Curves.{Pjd}
use Rattle.staircase.specs.Stairs.{Stairs, head_ok, points_ok}
use Rattle.tables.specs.Tasks.{Times, task_ok}
use Rattle.file_format.specs.Settings.{Settings, Curves, Question}
use Rattle.file_format.specs.Entries.{curve_ok}
use Rattle.file_format.specs.File.{settings}

abbrev pub spell_task : Times → List ℕ
spell_task t = spelled 4 t.wcet ++ spelled 4 t.deadline

abbrev pub spell_curve : Pjd → List ℕ
spell_curve c = spelled 4 c.period ++ (spelled 4 c.jitter ++ spelled 4 c.distance)

abbrev pub spell_curves : Curves → List ℕ
spell_curves c = spell_curve c.typical ++ spell_curve c.overload

abbrev pub spell_staircase : Stairs → List ℕ
spell_staircase s = spelled 2 (length s.points) ++ (spelled 4 s.repeat ++ flat_map (spelled 4) s.points)

abbrev pub spell_question : Question → List ℕ
spell_question q = spelled 1 q.task ++ (spelled 2 q.jobs ++ spelled 4 q.span)

-- the sections one after another, each behind its count; staircases are counted by their tasks
abbrev pub spell : Settings → List ℕ
spell s =
    spelled 1 (length s.tasks) ++ (flat_map spell_task s.tasks
    ++ (spelled 1 (length s.curves) ++ (flat_map spell_curves s.curves
    ++ (spelled 1 (length s.staircases / 2) ++ (flat_map spell_staircase s.staircases
    ++ (spelled 1 (length s.questions) ++ flat_map spell_question s.questions))))))

-- settings that have a file
pub record Lawful (s : Settings) : Type 0 where
  pub some_tasks : 1 ≤ length s.tasks
  pub few_tasks : length s.tasks ≤ 32
  pub tasks : AllByRecursion (λ t. task_ok t ≡ true) s.tasks
  pub curves : AllByRecursion (λ c. (curve_ok c.typical && curve_ok c.overload) ≡ true) s.curves
  pub staircases : AllByRecursion (λ t. (head_ok (length t.points) t.repeat && points_ok t.repeat t.points) ≡ true) s.staircases
  pub two_each : 2 * length s.curves + length s.staircases ≡ 2 * length s.tasks
  pub few_questions : length s.questions ≤ 16
  pub questions : AllByRecursion (λ q. (q.task < 2 ^ 8) × (q.jobs < 2 ^ 16) × (q.span < 2 ^ 32)) s.questions

-- the bytes of lawful settings are read back as those settings
abbrev pub ReadsBack : Type 0
ReadsBack = (s : Settings) → Lawful s → settings (spell s) ≡ Ok s

-- a file that is read is the bytes of lawful settings
abbrev pub SpellsBack : Type 0
SpellsBack = (file : List ℕ) (s : Settings) → AllByRecursion (λ b. b < 256) file → settings file ≡ Ok s → Lawful s × (spell s ≡ file)
