-- What a tick does to the front of a log it does to the log.
use Rattle.std.proofs.Common.{◌≡◌, ℕ, ◌<◌, ◌≤◌, List, ◌++◌, map, length, take, drop, Some, None, Option, refl, ap, ◌∙◌, subst, arith}
use Rattle.std.proofs.lemmas.List.{get_or-take, length-take-le, set-append_left, take-append-drop}
use Rattle.std.proofs.lemmas.Grind.{common_steps}
use Rattle.std.proofs.Math.Seq.{drop-append_seam, take-append_seam}
use Rattle.std.specs.Option.{option_map}
use Rattle.theory.specs.Service.{Served}
use Rattle.dispatch.specs.declared.record.JobRecord.{JobRecord}
use Rattle.dispatch.specs.Calls.{ServesTurn}
use Rattle.dispatch.specs.Records.{no_record, record_at, marked, marked_log, served_log, task_at, unit_served, waits}
use Rattle.dispatch.proofs.Turns.{served_alike}

module _ (t n : ℕ) (log : List JobRecord) (le : n ≤ length log) where
  abbrev front : List JobRecord
  front = take n log

  long : length front ≡ n
  long = length-take-le n log le

  read : (j : ℕ) → j < n → record_at front j ≡ record_at log j
  read j h = get_or-take n log j no_record h

  answered : (o : Option ℕ) → Served n (waits log) (task_at log) o → option_map (task_at front) o ≡ option_map (task_at log) o
  answered None s = refl
  answered (Some j) s = ap (λ (g : JobRecord). Some g.task) (read j s.within)

  written : (o : Option ℕ) → Served n (waits log) (task_at log) o → served_log t front o ++ drop n log ≡ served_log t log o
  written None s = take-append-drop n log
  written (Some j) s = grind (arith, common_steps, set-append_left front (drop n log) j (unit_served t (record_at log j)), read, long)

  pub serves-front : {r : Option ℕ} {log' : List JobRecord} → ServesTurn t (length front) front r log' → ServesTurn t n log r (log' ++ drop n log)
  serves-front {r} {log'} s =
      let rule : Served n (waits log) (task_at log) s.place =
      served_alike n (waits front) (waits log) (task_at front) (task_at log)
      (λ j h w. omega (arith, w, ap (λ (g : JobRecord). g.left) (read j h)))
      (λ j h w. omega (arith, w, ap (λ (g : JobRecord). g.left) (read j h)))
      (λ j h. ap (λ (g : JobRecord). g.task) (read j h))
      s.place (subst (λ k. Served k (waits front) (task_at front) s.place) long s.rule) in
      record {
        place = s.place;
        rule = rule;
        answer = s.answer ∙ answered s.place rule;
        after = ap (λ xs. xs ++ drop n log) s.after ∙ written s.place rule;
      }

  pub marks-front : (rs : List JobRecord) → length rs ≡ length front → map (marked t) rs ++ drop n log ≡ marked_log t n (rs ++ drop n log)
  marks-front rs e = grind (arith, common_steps, take-append_seam, drop-append_seam, long)
