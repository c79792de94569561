-- The test of the windows, from the newest record back.
use Rattle.std.proofs.Common.{◌≡◌, ℕ, zero, suc, ◌+◌, ◌-◌, ◌≤◌, Bool, true, cond, ◌&&◌, leb, Decides, filter, List, [], ◌∷◌, ◌++◌, length, reverse, count_by, sym, refl, ap, ◌∙◌, arith}
use Rattle.std.proofs.Math.Bool.{and-true}
use Rattle.std.proofs.lemmas.Grind.{common_steps}
use Rattle.std.proofs.lemmas.Bool.Decides.{Decides-and, nat_tests}
use Rattle.std.proofs.lemmas.List.{length-append, reverse-append}
use Rattle.std.proofs.lemmas.List.Elements.{filter-append}
use Rattle.std.proofs.lemmas.List.Folds.{list_all-append}
use Rattle.std.proofs.lemmas.List.Sums.{sum_by-cons}
use Rattle.std.specs.List.{enumerate_from, list_all}
use Rattle.dispatch.specs.declared.record.JobRecord.{JobRecord}
use Rattle.dispatch.specs.Records.{WindowsAllow}

enumerate-append : {X : Type 0} (n : ℕ) (xs ys : List X) → enumerate_from n (xs ++ ys) ≡ enumerate_from n xs ++ enumerate_from (n + length xs) ys
enumerate-append n [] ys = let e : n ≡ n + 0 = omega arith in ap (λ k. enumerate_from k ys) e
enumerate-append n (x ∷ xs) ys =
    let e : n + 1 + length xs ≡ n + suc (length xs) = omega arith in
    ap (λ ps. (n, x) ∷ ps) (enumerate-append (n + 1) xs ys ∙ ap (λ k. enumerate_from (n + 1) xs ++ enumerate_from k ys) e)

module _ (count : ℕ → ℕ) (clock : ℕ) (kind : JobRecord → Bool) where
  -- the records of the kind, newest first
  abbrev newest : List JobRecord → List JobRecord
  newest log = filter kind (reverse log)

  -- one more job behind a record and the n of the kind behind it
  abbrev pub fits : ℕ × JobRecord → Bool
  fits p = leb (p.0 + 1 + 1) (count (1 + (clock - p.1.release)))

  abbrev pub windows_test : List JobRecord → Bool
  windows_test log = list_all fits (enumerate_from 0 (newest log))

  one_older : (g : JobRecord) (log : List JobRecord) → newest (g ∷ log) ≡ newest log ++ cond (kind g) (g ∷ []) []
  one_older g log = ap (filter kind) (reverse-append (g ∷ []) log) ∙ filter-append kind (reverse log) (g ∷ [])

  length-newest : (log : List JobRecord) → length (newest log) ≡ count_by kind log
  length-newest [] = refl
  length-newest (g ∷ log) = grind (arith, common_steps, nat_tests, one_older, length-append, length-newest log, sum_by-cons)

  -- what is asked of the oldest record
  abbrev Oldest : JobRecord → List JobRecord → Type 0
  Oldest g log = kind g ≡ true → count_by kind (g ∷ log) + 1 ≤ count (1 + (clock - g.release))

  abbrev oldest_test : JobRecord → List JobRecord → Bool
  oldest_test g log = cond (kind g) (fits (count_by kind log, g)) true

  test_more : (g : JobRecord) (log : List JobRecord) → windows_test (g ∷ log) ≡ (windows_test log && oldest_test g log)
  test_more g log = grind (arith, common_steps, nat_tests, one_older, enumerate-append, list_all-append, length-newest, and-true)

  oldest_decides : (g : JobRecord) (log : List JobRecord) → Decides (oldest_test g log) (Oldest g log)
  oldest_decides g log =
      let more = sum_by-cons (λ x. cond (kind x) 1 0) g log in
      ((λ e is. grind (arith, nat_tests)), λ asked. grind (arith, nat_tests))

  older_allow : (g : JobRecord) (log : List JobRecord) → WindowsAllow count clock kind log → Oldest g log → WindowsAllow count clock kind (g ∷ log)
  older_allow g log all here zero h is = here is
  older_allow g log all here (suc i) h is = all i (omega arith) is

  pub windows_decide : (log : List JobRecord) → Decides (windows_test log) (WindowsAllow count clock kind log)
  windows_decide [] = ((λ _ i h _. absurd (omega arith)), λ _. refl)
  windows_decide (g ∷ log) =
      let both = Decides-and (windows_test log) (oldest_test g log) (windows_decide log) (oldest_decides g log) in (
        (λ e. let parts = both.0 (sym (test_more g log) ∙ e) in older_allow g log parts.0 parts.1),
        λ all. test_more g log ∙ both.1 ((λ i h is. all (suc i) (omega arith) is), all 0 (omega arith)),
      )
