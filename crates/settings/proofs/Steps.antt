-- What one step of a reader keeps.
use Rattle.std.proofs.Common.{◌≡◌, ℕ, suc, ◌+◌, ◌-◌, ◌*◌, ◌<◌, List, [], ◌∷◌, ◌++◌, length, drop, IsErrAnd, Ok, Err, Result, sym, refl, ap, ◌∙◌, subst, arith}
use Rattle.std.specs.Prelude.{◌==◌}
use Rattle.std.proofs.lemmas.List.{length_push}
use Rattle.base.specs.Faults.{given}
use Rattle.staircase.specs.Values.{stairs_of}
use Rattle.entries.specs.declared.fault.FileFault.{FileFault}
use Rattle.entries.specs.Values.{fault_of}
use Rattle.file_format.specs.Entries.{Front, task_entry, curves_entry, staircase_entry, question_entry}
use Rattle.file_format.specs.File.{Read, settings, fault, after, count, entries, placed}
use Rattle.file_format.specs.Settings.{Settings, Fault}
use Rattle.settings.specs.declared.reader.Reader.{Reader}
use Rattle.settings.specs.declared.reader.Section.{Section}
use Rattle.settings.specs.declared.reader.Section.TheVariants.{Start, Tasks, Curves, Typical, Overload, Questions}
use Rattle.settings.specs.Go.{tasks_ok, curves_ok, staircases_ok, questions_ok, so_far, with_typical, Kept, Stepped, go_in, weight_in, all_on, tasks_on, curves_on, staircases_on, questions_on}
use Rattle.settings.specs.Room.{Room}
use Rattle.settings.proofs.Staircases.{length_two}
use Rattle.settings.specs.Taken.{entry_at, one_more}

-- the room of a reader whose section is known
pub room_in : (r : Reader) (st : Section) → r.section ≡ st → Room st r.due r.tasks r.settings
room_in r st is = subst (λ t. Room t r.due r.tasks r.settings) is r.room

-- a reader in the section st, whose answer hangs on what is read next
module _ (r : Reader) (st : Section) (is : r.section ≡ st) {X : Type 0} (read : Read X) (next : X → ℕ → Result Settings Fault) (hangs : go_in st r ≡ after read next) where
  pub stops : (s : Reader) (o : Result (Unit {0}) FileFault) (f : FileFault) → Err (fault_of f) ≡ read → IsErrAnd o (λ e. e ≡ f) → Stepped r s o
  stops s (Ok u) f e by = absurd by
  stops s (Err g) f e by = ap (λ t. go_in t r) is ∙ hangs ∙ ap (λ o. after o next) (sym e) ∙ ap (λ f. Err (fault_of f)) (sym by)

  pub moves : (s : Reader) (st' : Section) → s.section ≡ st' → (x : X) (b : ℕ) → Ok (x, b) ≡ read → go_in st' s ≡ next x b → weight_in st' s.due < weight_in st r.due → Kept r s
  moves s st' is' x b e same less = record {
    answer = ap (λ t. go_in t s) is' ∙ same ∙ sym (ap (λ t. go_in t r) is ∙ hangs ∙ ap (λ o. after o next) (sym e));
    nearer = λ _. subst (λ t. weight_in t s.due < weight_in r.section r.due) (sym is') (subst (λ t. weight_in st' s.due < weight_in t r.due) (sym is) less);
  }

-- of n entries that are due, the next is read; `made` is what is told of it
module _ {X Y Z : Type 0} (f : List ℕ) (read : List ℕ → Front X) (section : ℕ) (done : List X) (m b : ℕ) (next : List X → ℕ → Result Y Fault) (made : X → Z) (next' : Z → ℕ → Result Y Fault) (same : (x : X) (b : ℕ) → after (entries f read section (done ++ x ∷ []) m b) next ≡ next' (made x) b) where
  read_next : (entry : ℕ) (a : Front X) → after (placed section entry b a (λ x b. entries f read section (done ++ x ∷ []) m b)) next ≡ after (placed section entry b a (λ x b. Ok (made x, b))) next'
  read_next entry (Ok found) = same found.0 (b + found.1)
  read_next entry (Err n) = refl

  entry_due : (n entry : ℕ) → n ≡ suc m → entry ≡ length done + 1 → after (entries f read section done n b) next ≡ after (placed section entry b (read (drop b f)) (λ x b. Ok (made x, b))) next'
  unfolding entries
  entry_due n entry e at =
      ap (λ n. after (entries f read section done n b) next) e
      ∙ read_next (length done + 1) (read (drop b f))
      ∙ ap (λ k. after (placed section k b (read (drop b f)) (λ x b. Ok (made x, b))) next') (sym at)

-- what the answer of a reader hangs on, by its section
module _ (r : Reader) where
  pub start_hangs : go_in Start r ≡ after (count r.cursor.file.now 1 12 tasks_ok r.cursor.at) (tasks_on r.cursor.file.now (so_far r))
  unfolding all_on
  start_hangs = refl

  -- an entry is due
  module _ (some : 0 < r.due) where
    pub task_due : go_in Tasks r ≡ after (one_more r.cursor.file.now task_entry 1 (so_far r).tasks r.cursor.at) (λ ts b. tasks_on r.cursor.file.now (record (so_far r) { tasks = ts }) (r.due - 1) b)
    unfolding tasks_on
    task_due = entry_due r.cursor.file.now task_entry 1 (so_far r).tasks (r.due - 1) r.cursor.at _ _ _ (λ x b. refl) r.due _ (omega arith) refl

    pub curves_due : go_in Curves r ≡ after (one_more r.cursor.file.now curves_entry 2 (so_far r).curves r.cursor.at) (λ cs b. curves_on r.cursor.file.now (record (so_far r) { curves = cs }) (r.due - 1) b)
    unfolding curves_on
    curves_due = entry_due r.cursor.file.now curves_entry 2 (so_far r).curves (r.due - 1) r.cursor.at _ _ _ (λ x b. refl) r.due _ (omega arith) refl

    pub typical_due : (entry : ℕ) → entry ≡ 2 * length r.settings.staircases + 1 → go_in Typical r ≡ after (entry_at r.cursor.file.now staircase_entry 3 entry r.cursor.at) (λ x b. staircases_on r.cursor.file.now (record (so_far r) { staircases = (so_far r).staircases ++ x ∷ [] }) (2 * r.due - 1) b)
    unfolding staircases_on
    typical_due entry at =
        entry_due r.cursor.file.now staircase_entry 3 (so_far r).staircases (2 * r.due - 1) r.cursor.at _ _ _ (λ x b. refl) (2 * r.due) entry (omega arith) (omega (arith, length_two r.settings.staircases))

    pub question_due : go_in Questions r ≡ after (one_more r.cursor.file.now question_entry 4 (so_far r).questions r.cursor.at) (λ qs b. questions_on r.cursor.file.now (record (so_far r) { questions = qs }) (r.due - 1) b)
    unfolding questions_on
    question_due = entry_due r.cursor.file.now question_entry 4 (so_far r).questions (r.due - 1) r.cursor.at _ _ _ (λ x b. refl) r.due _ (omega arith) refl

  pub overload_due : r.section ≡ Overload → (entry : ℕ) → entry ≡ 2 * length r.settings.staircases + 2 → go_in Overload r ≡ after (entry_at r.cursor.file.now staircase_entry 3 entry r.cursor.at) (λ x b. staircases_on r.cursor.file.now (record (so_far r) { staircases = (with_typical r).staircases ++ x ∷ [] }) (2 * (r.due - 1)) b)
  unfolding staircases_on
  overload_due is entry at =
      let room = room_in r Overload is in
      entry_due r.cursor.file.now staircase_entry 3 (with_typical r).staircases (2 * (r.due - 1)) r.cursor.at _ _ _ (λ x b. refl) (2 * r.due - 1) entry (omega arith) (omega (arith, length_two r.settings.staircases, length_push (so_far r).staircases (stairs_of r.typical)))

  -- no entry is due any more
  module _ (none : r.due ≡ 0) where
    pub tasks_done : go_in Tasks r ≡ after (count r.cursor.file.now 2 14 (curves_ok (so_far r)) r.cursor.at) (curves_on r.cursor.file.now (so_far r))
    unfolding tasks_on entries
    tasks_done = ap (λ n. tasks_on r.cursor.file.now (so_far r) n r.cursor.at) none

    pub curves_done : go_in Curves r ≡ after (count r.cursor.file.now 3 16 (staircases_ok (so_far r)) r.cursor.at) (λ n b. staircases_on r.cursor.file.now (so_far r) (2 * n) b)
    unfolding curves_on entries
    curves_done = ap (λ n. curves_on r.cursor.file.now (so_far r) n r.cursor.at) none

    pub staircases_done : go_in Typical r ≡ after (count r.cursor.file.now 4 19 questions_ok r.cursor.at) (questions_on r.cursor.file.now (so_far r))
    unfolding staircases_on entries
    staircases_done = ap (λ n. staircases_on r.cursor.file.now (so_far r) (2 * n) r.cursor.at) none

    pub questions_done : go_in Questions r ≡ given (length r.cursor.file.now == r.cursor.at) (fault 20 5 0 r.cursor.at) (Ok (so_far r))
    unfolding questions_on entries
    questions_done = ap (λ n. questions_on r.cursor.file.now (so_far r) n r.cursor.at) none

pub from_start : (f : List ℕ) → all_on f (record { tasks = []; curves = []; staircases = []; questions = [] }) 0 ≡ settings f
unfolding all_on tasks_on curves_on staircases_on questions_on
from_start f = refl
