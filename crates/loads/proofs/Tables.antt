-- A list of tasks and the list of their times stand for the same table.
use Rattle.std.proofs.Common.{◌≡◌, ℕ, zero, suc, List, [], ◌∷◌, map, Some, None, Option, refl, sym}
use Rattle.std.specs.List.{slice_get}
use Rattle.std.specs.Option.{option_map_or}
use Rattle.std.proofs.lemmas.List.{length-map}
use Rattle.tables.specs.declared.task.Task.{Task}
use Rattle.tables.specs.Tasks.{Times, times_of}
use Rattle.loads.specs.Tables.{table_of, times_table}
use Rattle.loads.specs.Works.{wcet_in}

-- what is read of a task is read of its times
read_of-map : (read : Option Task → ℕ) (f : Times → ℕ) → read None ≡ 0 → ((t : Task) → read (Some t) ≡ f (times_of t))
    → (ts : List Task) (j : ℕ) → read (slice_get ts j) ≡ option_map_or f (slice_get (map times_of ts) j) 0
read_of-map read f none some [] j = none
read_of-map read f none some (t ∷ ts) zero = some t
read_of-map read f none some (t ∷ ts) (suc j) = read_of-map read f none some ts j

pub table_of-times : (ts : List Task) → table_of ts ≡ times_table (map times_of ts)
table_of-times ts = λ i. record {
  tasks = sym (length-map ts times_of) i;
  wcet = λ j. read_of-map wcet_in (λ t. t.wcet) refl (λ _. refl) ts j i;
  deadline = λ j. read_of-map (λ o. option_map_or (λ t. t.deadline) o 0) (λ t. t.deadline) refl (λ _. refl) ts j i;
}
