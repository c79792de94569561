-- What a reader of a settings file holds in each section, and that there is room for what is due.
use Rattle.std.specs.Prelude.{◌≡◌, ℕ, ◌+◌, ◌≤◌, List, length}
use Rattle.std.proofs.Props.{props}
use Rattle.tables.specs.declared.task.Task.{Task}
use Rattle.settings.specs.declared.reader.Section.{Section}
use Rattle.settings.specs.declared.reader.Section.TheVariants as in-section
use Rattle.settings.specs.declared.settings.Settings.{Settings}

-- by the entries of the section that are due, the tasks and what else was read
abbrev pub Room : Section → ℕ → List Task → Settings → Type 0
Room in-section.Start due ts s = length ts + length s.curves + length s.staircases + length s.questions ≡ 0
Room in-section.Tasks due ts s =
    (1 ≤ length ts + due) × (length ts + due ≤ 32) × (length s.curves + length s.staircases + length s.questions ≡ 0)
Room in-section.Curves due ts s =
    (1 ≤ length ts) × (length ts ≤ 32) × (length s.curves + due ≤ length ts) × (length s.staircases + length s.questions ≡ 0)
Room in-section.Typical due ts s = (1 ≤ length ts) × (length s.staircases + due ≤ 32) × (length s.questions ≡ 0)
Room in-section.Overload due ts s = (1 ≤ length ts) × (1 ≤ due) × (length s.staircases + due ≤ 32) × (length s.questions ≡ 0)
Room in-section.Questions due ts s = (1 ≤ length ts) × (length s.questions + due ≤ 16)
Room in-section.End due ts s = 1 ≤ length ts

pub room_prop : (st : Section) (due : ℕ) (ts : List Task) (s : Settings) → IsProp (Room st due ts s)
room_prop in-section.Start due ts s = Prim.hlevel props
room_prop in-section.Tasks due ts s = Prim.hlevel props
room_prop in-section.Curves due ts s = Prim.hlevel props
room_prop in-section.Typical due ts s = Prim.hlevel props
room_prop in-section.Overload due ts s = Prim.hlevel props
room_prop in-section.Questions due ts s = Prim.hlevel props
room_prop in-section.End due ts s = Prim.hlevel props
