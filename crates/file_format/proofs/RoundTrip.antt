-- A settings file and its settings: each gives the other.
use Rattle.std.proofs.Common.{◌≡◌, ℕ, ◌+◌, ◌*◌, ◌/◌, ◌≤◌, ◌&&◌, eqb, leb, List, [], ◌++◌, length, drop, Ok, Result, sym, refl, ap, ◌∙◌, subst, arith, length-append, length-drop}
use Rattle.std.specs.List.{flat_map}
use Rattle.std.proofs.lemmas.List.{append-nil, drop_all}
use Rattle.std.proofs.lemmas.Bool.{cond-true, le-leb, leb-true, eqb-true, eq-eqb, and_parts, and_from}
use Rattle.base.specs.Numbers.{spelled}
use Rattle.base.proofs.Faults.{same_ok, given-ok}
use Rattle.file_format.specs.Settings.{Settings, Fault}
use Rattle.file_format.specs.File.{Read, after, fault, settings}
use Rattle.file_format.specs.Spelling.{spell, spell_question, Lawful, ReadsBack, SpellsBack}
use Rattle.file_format.proofs.Spelled.{Bytes, behind}
use Rattle.file_format.proofs.Entry.{BacksAt, after-ok, section_backs, count_backs}
use Rattle.file_format.proofs.EntryKinds.{task_backs, curves_backs, staircase_backs, question_backs}

-- the file ends with these bytes, from byte b on
abbrev Ends : List ℕ → ℕ → List ℕ → Type 0
Ends file b rest = (b ≤ length file) × (drop b file ≡ rest)

at_end : (file : List ℕ) (b : ℕ) → Ends file b [] → length file ≡ b
at_end file b here = omega (arith, length-drop b file, ap length here.1)

-- what stands at byte b is read, and the reader goes on behind it
module _ {X Y : Type 0} {file : List ℕ} {b : ℕ} {r : Read X} {sp : X → List ℕ} {Good : X → Type 0} (backs : BacksAt file b r sp Good) (next : X → ℕ → Result Y Fault) where
  then : {y : Result Y Fault} (x : X) (rest : List ℕ) → Good x → Ends file b (sp x ++ rest) → (Ends file (b + length (sp x)) rest → next x (b + length (sp x)) ≡ y) → after r next ≡ y
  then x rest good here more =
      let within : b + length (sp x) ≤ length file = omega (arith, length-drop b file, ap length here.1, length-append (sp x) rest) in
      ap (λ r. after r next) (backs.back x rest good here.1)
      ∙ more (within, behind b (length (sp x)) file (sp x) rest refl here.1)

read_spelled : (s : Settings) (file : List ℕ) → Lawful s → file ≡ spell s → settings file ≡ Ok s
read_spelled s file ok same =
    let half : 2 * (length s.staircases / 2) ≡ length s.staircases = omega arith in
    then (count_backs file 1 12 (λ n. leb 1 n && leb n 32) 0) _ (length s.tasks) _
    (omega arith, and_from _ _ (le-leb 1 _ ok.some_tasks) (le-leb _ 32 ok.few_tasks)) (omega arith, same) λ here.
    then (section_backs file 1 task_backs _ _) _ s.tasks _ (refl, ok.tasks) here λ here.
    then (count_backs file 2 14 (λ n. leb n (length s.tasks)) _) _ (length s.curves) _
    (omega arith, le-leb _ _ (omega arith)) here λ here.
    then (section_backs file 2 curves_backs _ _) _ s.curves _ (refl, ok.curves) here λ here.
    then (count_backs file 3 16 (λ n. eqb (length s.curves + n) (length s.tasks)) _) _ (length s.staircases / 2) _
    (omega arith, eq-eqb _ _ (omega arith)) here λ here.
    then (section_backs file 3 staircase_backs _ _) _ s.staircases _ (sym half, ok.staircases) here λ here.
    then (count_backs file 4 19 (λ n. leb n 16) _) _ (length s.questions) _
    (omega arith, le-leb _ 16 ok.few_questions) here λ here.
    then (section_backs file 4 question_backs _ _) _ s.questions [] (refl, ok.questions) (here.0, here.1 ∙ sym (append-nil _)) λ here.
    cond-true (eqb (length file) _) (Ok s) _ (eq-eqb (length file) _ (at_end file _ here))

pub reads_back : ReadsBack
reads_back s ok = read_spelled s (spell s) ok refl

-- what was read at byte b stands there, and the reader went on behind it
module _ {X Y C : Type 0} {file : List ℕ} {b : ℕ} {r : Read X} {sp : X → List ℕ} {Good : X → Type 0} (backs : BacksAt file b r sp Good) (next : X → ℕ → Result Y Fault) where
  was : {y : Y} → Bytes file → after r next ≡ Ok y → ((x : X) (e : ℕ) → Good x → drop b file ≡ sp x ++ drop e file → next x e ≡ Ok y → C) → C
  was small h more =
      let found = after-ok r next _ h in
      let here = backs.forth found.0 found.1 small found.2 in
      more found.0 found.1 here.0 here.1 found.3

joins : {whole front rest front' rest' : List ℕ} → whole ≡ front ++ rest → front ≡ front' → rest ≡ rest' → whole ≡ front' ++ rest'
joins here p q = here ∙ (λ i. p i ++ q i)

pub spells_back : SpellsBack
spells_back file s small h =
    was (count_backs file 1 12 (λ n. leb 1 n && leb n 32) 0) _ small h λ n-tasks b1 few_tasks h1 h.
    was (section_backs file 1 task_backs n-tasks b1) _ small h λ tasks b2 all-tasks h2 h.
    was (count_backs file 2 14 (λ n. leb n (length tasks)) b2) _ small h λ n-curves b3 few-curves h3 h.
    was (section_backs file 2 curves_backs n-curves b3) _ small h λ curves b4 all-curves h4 h.
    was (count_backs file 3 16 (λ n. eqb (length curves + n) (length tasks)) b4) _ small h λ n-others b5 others h5 h.
    was (section_backs file 3 staircase_backs (2 * n-others) b5) _ small h λ staircases b6 all-staircases h6 h.
    was (count_backs file 4 19 (λ n. leb n 16) b6) _ small h λ n-questions b7 few_questions h7 h.
    was (section_backs file 4 question_backs n-questions b7) _ small h λ questions b8 all-questions h8 h.
    let found : Settings = record { tasks = tasks; curves = curves; staircases = staircases; questions = questions } in
    let whole = given-ok (eqb (length file) b8) (fault 20 5 0 b8) (Ok found) s h in
    let some = and_parts (leb 1 n-tasks) (leb n-tasks 32) few_tasks.1 in
    let at_least : 1 ≤ n-tasks = leb-true 1 n-tasks some.0 in
    let at_most : n-tasks ≤ 32 = leb-true n-tasks 32 some.1 in
    let each : length curves + n-others ≡ length tasks = eqb-true (length curves + n-others) (length tasks) others.1 in
    let asked : n-questions ≤ 16 = leb-true n-questions 16 few_questions.1 in
    let half : n-others ≡ length staircases / 2 = omega arith in
    let lawful : Lawful found = record {
      some_tasks = omega arith;
      few_tasks = omega arith;
      tasks = all-tasks.1;
      curves = all-curves.1;
      staircases = all-staircases.1;
      two_each = omega arith;
      few_questions = omega arith;
      questions = all-questions.1;
    } in
    let nothing : drop b8 file ≡ [] = drop_all b8 file (omega (arith, eqb-true (length file) b8 whole.0)) in
    let bytes : file ≡ spell found =
    joins h1 (ap (spelled 1) (sym all-tasks.0))
    (joins h2 refl
    (joins h3 (ap (spelled 1) (sym all-curves.0))
    (joins h4 refl
    (joins h5 (ap (spelled 1) half)
    (joins h6 refl
    (joins h7 (ap (spelled 1) (sym all-questions.0))
    (joins h8 refl nothing ∙ append-nil (flat_map spell_question questions)))))))) in
    subst (λ s. Lawful s × (spell s ≡ file)) (same_ok found s whole.1) (lawful, sym bytes)
