-- Counts over lists.
use Rattle.std.proofs.Common.{◌≡◌, ℕ, zero, suc, ◌+◌, ◌≤◌, Bool, true, cond, List, [], ◌∷◌, map, length, get_or, take, count_by, sym, refl, ap, ◌∙◌, add-one, arith}
use Rattle.std.proofs.lemmas.List.{take_all}
use Rattle.std.proofs.lemmas.List.Sums.{sum_by-cons, sum_by-le-sum_by, sum_by_more}
use Rattle.theory.specs.Sums.{count}
use Rattle.theory.proofs.Totals.{cond_mono, total_none, total-suc}

module _ {X : Type 0} where
  count_front : (p : X → Bool) (xs : List X) (d : X) (n : ℕ) → n ≤ length xs → count (λ j. p (get_or xs j d)) n ≡ count_by p (take n xs)
  count_front p xs d zero h = total_none _
  count_front p xs d (suc n) h =
      total-suc (λ j. cond (p (get_or xs j d)) 1 0) n
      ∙ ap (λ m. m + cond (p (get_or xs n d)) 1 0) (count_front p xs d n (omega arith))
      ∙ sym (sum_by_more (λ x. cond (p x) 1 0) xs n d (omega arith))
      ∙ ap (λ m. count_by p (take m xs)) (add-one n)

  -- a count by place is the count of the list
  pub count_places : (p : X → Bool) (xs : List X) (d : X) → count (λ j. p (get_or xs j d)) (length xs) ≡ count_by p xs
  count_places p xs d = count_front p xs d (length xs) (omega arith) ∙ ap (count_by p) (take_all (length xs) xs (omega arith))

  -- fewer pass a test that is stricter
  pub count_le : (loose strict : X → Bool) → ((x : X) → strict x ≡ true → loose x ≡ true) → (xs : List X) → count_by strict xs ≤ count_by loose xs
  count_le loose strict sub xs =
      sum_by-le-sum_by (λ x. cond (strict x) 1 0) (λ x. cond (loose x) 1 0) xs (λ x. cond_mono (strict x) (loose x) 1 1 (λ e. (sub x e, omega arith)))

  pub count_map : {Y : Type 0} (f : X → Y) (p : Y → Bool) (xs : List X) → count_by (λ x. p (f x)) xs ≡ count_by p (map f xs)
  count_map f p [] = refl
  count_map f p (x ∷ xs) =
      sum_by-cons (λ y. cond (p (f y)) 1 0) x xs ∙ ap (λ n. cond (p (f x)) 1 0 + n) (count_map f p xs)
      ∙ sym (sum_by-cons (λ y. cond (p y) 1 0) (f x) (map f xs))
