-- The four kinds of entries: each is read as it is spelled.
use Rattle.std.proofs.Common.{◌≡◌, ℕ, zero, suc, ◌+◌, ◌*◌, ◌^◌, ◌<◌, ◌≤◌, true, ◌&&◌, ltb, leb, List, [], ◌∷◌, ◌++◌, length, drop, Ok, Err, Result, sym, refl, ap, ◌∙◌, subst, arith, length-append, length-drop}
use Rattle.std.specs.List.{flat_map, AllByRecursion}
use Rattle.std.proofs.lemmas.Bool.{cond-true, le-leb, leb-true, ltb-true, and_parts, and_from}
use Rattle.std.proofs.lemmas.List.{drop-drop}
use Rattle.std.proofs.ByRecursion.{All-drop, All-weaker}
use Rattle.std.proofs.lemmas.Bool.Decides.{nat_tests}
use Rattle.base.specs.Faults.{given}
use Rattle.base.specs.Numbers.{number, spelled}
use Rattle.base.proofs.Faults.{same_ok, given-ok}
use Rattle.pjd.specs.Curves.{Pjd}
use Rattle.staircase.specs.Stairs.{Stairs, points, head_ok, rises, points_ok, stairs}
use Rattle.staircase.specs.Laws.{length-points, rises-from-ok}
use Rattle.tables.specs.Tasks.{Times, task, task_ok}
use Rattle.file_format.specs.Settings.{Curves, Question}
use Rattle.file_format.specs.Entries.{Front, sized, task_entry, curve_at, curve_ok, curves_entry, staircase_entry, question_entry}
use Rattle.file_format.specs.Spelling.{spell_task, spell_curve, spell_curves, spell_staircase, spell_question}
use Rattle.file_format.proofs.Spelled.{Bytes, behind, number_here, here_number, number_below}
use Rattle.file_format.proofs.Entry.{Backs, sized-ok}

abbrev pub GoodTask : Times → Type 0
GoodTask t = task_ok t ≡ true

abbrev pub GoodCurves : Curves → Type 0
GoodCurves c = (curve_ok c.typical && curve_ok c.overload) ≡ true

abbrev pub GoodStairs : Stairs → Type 0
GoodStairs s = (head_ok (length s.points) s.repeat && points_ok s.repeat s.points) ≡ true

abbrev pub GoodQuestion : Question → Type 0
GoodQuestion q = (q.task < 2 ^ 8) × (q.jobs < 2 ^ 16) × (q.span < 2 ^ 32)

-- what holds of the value and size that were made holds of those that were read
module _ {X : Type 0} (sp : X → List ℕ) (Good : X → Type 0) (bs : List ℕ) where
  as_read : (x y : X × ℕ) → ◌≡◌ {A = Front X} (Ok x) (Ok y) → Good x.0 → bs ≡ sp x.0 ++ drop x.1 bs → Good y.0 × (bs ≡ sp y.0 ++ drop y.1 bs)
  as_read x y same good here = subst (λ z. Good z.0 × (bs ≡ sp z.0 ++ drop z.1 bs)) (same_ok x y same) (good, here)

task_small : (t : Times) → GoodTask t → (t.wcet < 256 ^ 4) × (t.deadline < 256 ^ 4)
task_small t h = grind (arith, nat_tests)

pub task_backs : Backs task_entry spell_task GoodTask
task_backs = record {
  back = λ t bs rest good here.
      let small = task_small t good in
      let all = spell_task t ++ rest in
      let wcet : number 4 0 all ≡ t.wcet = number_here 4 t.wcet 0 all (spelled 4 t.deadline ++ rest) small.0 refl in
      let deadline : number 4 4 all ≡ t.deadline = number_here 4 t.deadline 4 all rest small.1 refl in
      ap task_entry here
      ∙ cond-true (leb 8 (length all)) _ _ (le-leb 8 (length all) (omega arith))
      ∙ (λ i. sized 8 (task (wcet i) (deadline i)))
      ∙ ap (sized 8) (cond-true (task_ok t) (Ok t) (Err 13) good);
  forth = λ t size bs small h.
      let wcet = number 4 0 bs in
      let deadline = number 4 4 bs in
      let made : Times = record { wcet = wcet; deadline = deadline } in
      let far = given-ok (leb 8 (length bs)) 11 (sized 8 (task wcet deadline)) (t, size) h in
      let long : 8 ≤ length bs = leb-true 8 (length bs) far.0 in
      let good = sized-ok 8 (task_ok made) 13 (Ok made) (t, size) far.1 in
      as_read spell_task GoodTask bs (made, 8) (t, size) good.1 good.0
      (here_number 4 0 bs (omega arith) small ∙ ap (λ l. spelled 4 wcet ++ l) (here_number 4 4 bs (omega arith) small));
}

curve_small : (c : Pjd) → curve_ok c ≡ true → (c.period < 256 ^ 4) × (c.jitter < 256 ^ 4) × (c.distance < 256 ^ 4)
curve_small c h = grind (arith, nat_tests)

-- a curve at byte i
curve_here : (c : Pjd) (i : ℕ) (bs rest : List ℕ) → curve_ok c ≡ true → drop i bs ≡ spell_curve c ++ rest → curve_at i bs ≡ c
curve_here c i bs rest good here =
    let small = curve_small c good in
    let p = spelled 4 c.period in
    let j = spelled 4 c.jitter in
    let d = spelled 4 c.distance in
    let period = number_here 4 c.period i bs (j ++ (d ++ rest)) small.0 here in
    let jitter = number_here 4 c.jitter (i + 4) bs (d ++ rest) small.1 (behind i 4 bs p (j ++ (d ++ rest)) refl here) in
    let distance = number_here 4 c.distance (i + 8) bs rest small.2 (behind i 8 bs (p ++ j) (d ++ rest) refl here) in
    λ k. record { period = period k; jitter = jitter k; distance = distance k }

here_curve : (i : ℕ) (bs : List ℕ) → i + 12 ≤ length bs → Bytes bs → drop i bs ≡ spell_curve (curve_at i bs) ++ drop (i + 12) bs
here_curve i bs long small =
    let c = curve_at i bs in
    let second : i + 4 + 4 ≡ i + 8 = omega arith in
    let third : i + 8 + 4 ≡ i + 12 = omega arith in
    here_number 4 i bs (omega arith) small
    ∙ ap (λ l. spelled 4 c.period ++ l) (here_number 4 (i + 4) bs (omega arith) small)
    ∙ ap (λ k. spelled 4 c.period ++ (spelled 4 c.jitter ++ drop k bs)) second
    ∙ ap (λ l. spelled 4 c.period ++ (spelled 4 c.jitter ++ l)) (here_number 4 (i + 8) bs (omega arith) small)
    ∙ ap (λ k. spell_curve c ++ drop k bs) third

pub curves_backs : Backs curves_entry spell_curves GoodCurves
curves_backs = record {
  back = λ c bs rest good here.
      let all = spell_curves c ++ rest in
      let each = and_parts (curve_ok c.typical) (curve_ok c.overload) good in
      let typical : curve_at 0 all ≡ c.typical = curve_here c.typical 0 all (spell_curve c.overload ++ rest) each.0 refl in
      let overload : curve_at 12 all ≡ c.overload = curve_here c.overload 12 all rest each.1 refl in
      ap curves_entry here
      ∙ cond-true (leb 24 (length all)) _ _ (le-leb 24 (length all) (omega arith))
      ∙ (λ i. given (curve_ok (typical i) && curve_ok (overload i)) 15 (Ok (record { typical = typical i; overload = overload i }, 24)))
      ∙ cond-true (curve_ok c.typical && curve_ok c.overload) (Ok (c, 24)) (Err 15) good;
  forth = λ c size bs small h.
      let typical = curve_at 0 bs in
      let overload = curve_at 12 bs in
      let made : Curves = record { typical = typical; overload = overload } in
      let far = given-ok (leb 24 (length bs)) 11 (given (curve_ok typical && curve_ok overload) 15 (Ok (made, 24))) (c, size) h in
      let long : 24 ≤ length bs = leb-true 24 (length bs) far.0 in
      let good = given-ok (curve_ok typical && curve_ok overload) 15 (Ok (made, 24)) (c, size) far.1 in
      as_read spell_curves GoodCurves bs (made, 24) (c, size) good.1 good.0
      (here_curve 0 bs (omega arith) small ∙ ap (λ l. spell_curve typical ++ l) (here_curve 12 bs (omega arith) small));
}

pub question_backs : Backs question_entry spell_question GoodQuestion
question_backs = record {
  back = λ q bs rest good here.
      let all = spell_question q ++ rest in
      let jobs = spelled 2 q.jobs in
      let span = spelled 4 q.span in
      let first : number 1 0 all ≡ q.task = number_here 1 q.task 0 all (jobs ++ (span ++ rest)) good.0 refl in
      let second : number 2 1 all ≡ q.jobs = number_here 2 q.jobs 1 all (span ++ rest) good.1 refl in
      let third : number 4 3 all ≡ q.span = number_here 4 q.span 3 all rest good.2 refl in
      ap question_entry here
      ∙ cond-true (leb 7 (length all)) _ _ (le-leb 7 (length all) (omega arith))
      ∙ (λ i. Ok (record { task = first i; jobs = second i; span = third i }, 7));
  forth = λ q size bs small h.
      let made : Question = record { task = number 1 0 bs; jobs = number 2 1 bs; span = number 4 3 bs } in
      let far = given-ok (leb 7 (length bs)) 11 (Ok (made, 7)) (q, size) h in
      let long : 7 ≤ length bs = leb-true 7 (length bs) far.0 in
      as_read spell_question GoodQuestion bs (made, 7) (q, size) far.1
      (number_below 1 0 bs (omega arith) small, number_below 2 1 bs (omega arith) small, number_below 4 3 bs (omega arith) small)
      (here_number 1 0 bs (omega arith) small
      ∙ ap (λ l. spelled 1 made.task ++ l) (here_number 2 1 bs (omega arith) small)
      ∙ ap (λ l. spelled 1 made.task ++ (spelled 2 made.jobs ++ l)) (here_number 4 3 bs (omega arith) small));
}

-- points that rise are not above the repeat
rises_small : (repeat before : ℕ) (ps : List ℕ) → rises repeat before ps ≡ true → (before ≤ repeat) × AllByRecursion (λ p. p ≤ repeat) ps
rises_small repeat before [] h = (leb-true before repeat h, tt)
rises_small repeat before (p ∷ ps) h =
    let each = and_parts (ltb before p) (rises repeat p ps) h in
    let more = rises_small repeat p ps each.1 in
    (omega (arith, ltb-true before p each.0, more.0), (more.0, more.1))

length-points-spelled : (ps : List ℕ) → length (flat_map (spelled 4) ps) ≡ 4 * length ps
length-points-spelled [] = refl
length-points-spelled (p ∷ ps) = omega (arith, length-points-spelled ps)

points_here : (ps bs rest : List ℕ) → AllByRecursion (λ p. p < 256 ^ 4) ps → bs ≡ flat_map (spelled 4) ps ++ rest → points (length ps) bs ≡ ps
points_here [] bs rest small here = refl
points_here (p ∷ ps) bs rest small here =
    let first : number 4 0 bs ≡ p = number_here 4 p 0 bs (flat_map (spelled 4) ps ++ rest) small.0 here in
    let more = points_here ps (drop 4 bs) rest small.1 (ap (drop 4) here) in
    λ i. first i ∷ more i

here_points : (n : ℕ) (bs : List ℕ) → 4 * n ≤ length bs → Bytes bs → bs ≡ flat_map (spelled 4) (points n bs) ++ drop (4 * n) bs
here_points zero bs long small = refl
here_points (suc n) bs long small =
    let at : 4 + 4 * n ≡ 4 * suc n = omega arith in
    here_number 4 0 bs (omega arith) small
    ∙ ap (λ l. spelled 4 (number 4 0 bs) ++ l)
    (here_points n (drop 4 bs) (omega (arith, length-drop 4 bs)) (All-drop (λ b. b < 256) 4 bs small)
    ∙ ap (λ l. flat_map (spelled 4) (points n (drop 4 bs)) ++ l) (drop-drop (4 * n) 4 bs ∙ ap (λ k. drop k bs) at))

stairs_small : (s : Stairs) → GoodStairs s → (length s.points < 256 ^ 2) × (s.repeat < 256 ^ 4) × AllByRecursion (λ p. p < 256 ^ 4) s.points
stairs_small s good =
    let n = length s.points in
    let each = and_parts (head_ok n s.repeat) (points_ok s.repeat s.points) good in
    let head : (n ≤ 64) × (s.repeat ≤ 1000000) = grind (arith, nat_tests) in
    let up = rises_small s.repeat 0 s.points (rises-from-ok s.repeat s.points each.1) in
    (omega arith, omega arith, All-weaker (λ p. p ≤ s.repeat) (λ p. p < 256 ^ 4) (λ p h. omega arith) s.points up.1)

-- a staircase with its points at the front of some bytes
stairs_here : (s : Stairs) (bs rest : List ℕ) → GoodStairs s → bs ≡ flat_map (spelled 4) s.points ++ rest → stairs (length s.points) s.repeat bs ≡ Ok s
stairs_here s bs rest good here =
    let n = length s.points in
    let each = and_parts (head_ok n s.repeat) (points_ok s.repeat s.points) good in
    let long : 4 * n ≤ length bs = omega (arith, ap length here, length-append (flat_map (spelled 4) s.points) rest, length-points-spelled s.points) in
    cond-true (head_ok n s.repeat) _ _ each.0
    ∙ cond-true (leb (4 * n) (length bs)) _ _ (le-leb (4 * n) (length bs) long)
    ∙ ap (λ ps. given (points_ok s.repeat ps) 18 (Ok (record { repeat = s.repeat; points = ps }))) (points_here s.points bs rest (stairs_small s good).2 here)
    ∙ cond-true (points_ok s.repeat s.points) (Ok s) (Err 18) each.1

pub staircase_backs : Backs staircase_entry spell_staircase GoodStairs
staircase_backs = record {
  back = λ s bs rest good here.
      let n = length s.points in
      let small = stairs_small s good in
      let body = flat_map (spelled 4) s.points ++ rest in
      let all = spelled 2 n ++ (spelled 4 s.repeat ++ body) in
      let count : number 2 0 all ≡ n = number_here 2 n 0 all (spelled 4 s.repeat ++ body) small.0 refl in
      let repeat : number 4 2 all ≡ s.repeat = number_here 4 s.repeat 2 all body small.1 refl in
      let whole : 6 + 4 * n ≡ length (spell_staircase s) = omega (arith, length-points-spelled s.points) in
      ap staircase_entry here
      ∙ cond-true (leb 6 (length all)) _ _ (le-leb 6 (length all) (omega arith))
      ∙ (λ i. sized (6 + 4 * count i) (stairs (count i) (repeat i) body))
      ∙ ap (sized (6 + 4 * n)) (stairs_here s body rest good refl)
      ∙ (λ i. Ok (s, whole i));
  forth = λ s size bs small h.
      let n = number 2 0 bs in
      let repeat = number 4 2 bs in
      let body = drop 6 bs in
      let ps = points n body in
      let made : Stairs = record { repeat = repeat; points = ps } in
      let whole = 6 + 4 * n in
      let enough : Result Stairs ℕ = given (points_ok repeat ps) 18 (Ok made) in
      let far = given-ok (leb 6 (length bs)) 11 (sized whole (stairs n repeat body)) (s, size) h in
      let head = sized-ok whole (head_ok n repeat) 17 (given (leb (4 * n) (length body)) 11 enough) (s, size) far.1 in
      let further = sized-ok whole (leb (4 * n) (length body)) 11 enough (s, size) head.1 in
      let good = sized-ok whole (points_ok repeat ps) 18 (Ok made) (s, size) further.1 in
      let long : 6 ≤ length bs = leb-true 6 (length bs) far.0 in
      let longer : 4 * n ≤ length body = leb-true (4 * n) (length body) further.0 in
      let counted : length ps ≡ n = length-points n body in
      let rest : body ≡ flat_map (spelled 4) ps ++ drop whole bs = here_points n body longer (All-drop (λ b. b < 256) 6 bs small) ∙ ap (λ l. flat_map (spelled 4) ps ++ l) (drop-drop (4 * n) 6 bs) in
      as_read spell_staircase GoodStairs bs (made, whole) (s, size) good.1
      (and_from (head_ok (length ps) repeat) (points_ok repeat ps) (ap (λ k. head_ok k repeat) counted ∙ head.0) good.0)
      (here_number 2 0 bs (omega arith) small
      ∙ ap (λ l. spelled 2 n ++ l) (here_number 4 2 bs (omega arith) small)
      ∙ (λ i. spelled 2 (sym counted i) ++ (spelled 4 repeat ++ rest i)));
}
