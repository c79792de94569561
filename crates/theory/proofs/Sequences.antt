-- No sequence has more late jobs than the answer.
use Rattle.std.proofs.Common.{◌≡◌, ℕ, suc, ◌*◌, ◌<◌, ◌≤◌, min, Bool, true, ◌&&◌, eqb, leb, List, Ok, sym, subst, inl, inr, le_trans, arith}
use native.Mathlib.Nat.{le-min}
use Rattle.std.proofs.lemmas.Bool.{and_parts, eqb-true, leb-true}
use Rattle.arrival.specs.Meaning.{Meaning, Lawful}
use Rattle.theory.specs.Conforming.{Conforming}
use Rattle.theory.specs.Promises.{SequencePromise}
use Rattle.theory.specs.Questions.{Admitted, Answer, GreatestPacking}
use Rattle.theory.specs.Schedules.{Job, KeepsRule, Schedule, Sequence, done, from_place, job, late, late_count}
use Rattle.theory.specs.Tables.{Table}
use Rattle.theory.proofs.AffectedWindows.{LateJob, late_jobs_bound, late-jobs-none}
use Rattle.theory.proofs.Lateness.{least_unique}
use Rattle.theory.proofs.ScheduleTraces.{keeps, late-job, ruled, trace}
use Rattle.theory.proofs.Totals.{count_mono}
use Rattle.theory.proofs.Traces.{Late}

module _ (m : Meaning) (lawful : Lawful m) (t : Table) (i k S L N : ℕ) (admitted : Admitted m t i k S L N)
    (jobs : List Job) (served : Schedule) (c : ℕ) (short : c ≤ 1000000000) (conforming : Conforming m t jobs c) (rule : KeepsRule jobs served c)
    (a b : ℕ) (sequence : Sequence jobs i k S a b) where
  abbrev is_late : ℕ → Bool
  is_late j = from_place jobs i a j && late t.deadline (job jobs j) (done served j) c

  low : L ≤ 1000000
  low =
      let (L', short, window) = admitted.passed.1.1.1.1.0 in
      subst (λ x. x ≤ 1000000) (least_unique _ L' L window admitted.window) short

  few : late_count t.deadline jobs served c i a b ≤ k
  few =
      le_trans (count_mono is_late (from_place jobs i a) (suc b) (λ j _ e. (and_parts (from_place jobs i a j) (late t.deadline (job jobs j) (done served j) c) e).0)) sequence.few

  late-is_late : (j : ℕ) → j < suc b → is_late j ≡ true → LateJob (trace jobs served c) i (t.deadline i) a b j
  late-is_late j less e =
      let (of, is) = and_parts (from_place jobs i a j) (late t.deadline (job jobs j) (done served j) c) e in
      let (from, task) = and_parts (leb a j) (eqb (job jobs j).task i) of in
      let own = eqb-true (job jobs j).task i task in
      record {
        from = leb-true a j from;
        upto = omega arith;
        own = own;
        misses = subst (λ z. Late (trace jobs served c) (t.deadline z) j) own (late-job t.deadline jobs served c j (omega (arith, sequence.within)) is);
      }

  pub some_late : (G : ℕ) → GreatestPacking m t i k S L G → late_count t.deadline jobs served c i a b ≤ min k (N * G)
  some_late G greatest =
      le-min few
      (late_jobs_bound (trace jobs served c) (ruled jobs served c m t conforming rule) m lawful.monotone t (keeps jobs served c m t conforming (omega arith))
      i k S L low admitted.passed.1.1.1.0 admitted.window a b sequence.within sequence.near is_late late-is_late few N G admitted.late greatest)

  pub none-late : N ≡ 0 → late_count t.deadline jobs served c i a b ≤ 0
  none-late none =
      late-jobs-none (trace jobs served c) (ruled jobs served c m t conforming rule) m lawful.monotone t (keeps jobs served c m t conforming (omega arith))
      i k S L low admitted.passed.1.1.1.0 admitted.window a b sequence.within sequence.near is_late late-is_late few N none admitted.late

pub sequence_promise : (m : Meaning) → Lawful m → (t : Table) (i k S cells a : ℕ) → Answer m t i k S cells (Ok a) → SequencePromise m t i k S a
sequence_promise m lawful t i k S cells a (L, N, admitted, inl (none, is)) jobs served c short conforming rule x y sequence =
    subst (λ n. late_count t.deadline jobs served c i x y ≤ n) (sym is) (none-late m lawful t i k S L N admitted jobs served c short conforming rule x y sequence none)
sequence_promise m lawful t i k S cells a (L, N, admitted, inr (some, tests, (G, greatest, is))) jobs served c short conforming rule x y sequence =
    subst (λ n. late_count t.deadline jobs served c i x y ≤ n) (sym is) (some_late m lawful t i k S L N admitted jobs served c short conforming rule x y sequence G greatest)
