-- Lists of combinations, as the code reads them and adds to them.
use Rattle.std.proofs.Common.{◌≡◌, ℕ, zero, suc, ◌+◌, ◌^◌, ◌<◌, List, [], ◌∷◌, ◌++◌, map, length, get_or, take, sym, refl, ap, ◌∙◌, arith}
use Rattle.std.proofs.lemmas.List.{append_assoc, get_or_append_left, length-map, map_more, map_push}
use Rattle.loads.specs.declared.combination.Combination.{Combination}
use Rattle.loads.specs.Added.{added}
use Rattle.loads.proofs.Masks.{added_new}
use Rattle.theory.specs.Search.{Lacks, at}
use Rattle.analysis.specs.Sources.{masks}

-- what is read at a place
pub mask_at : (cs : List Combination) (i : ℕ) → (get_or cs i (record { mask = 0 })).mask ≡ at (masks cs) i
mask_at [] i = refl
mask_at (c ∷ cs) zero = refl
mask_at (c ∷ cs) (suc i) = mask_at cs i

pub masks_push : (old new : List Combination) (c : Combination) → new ≡ old ++ c ∷ [] → masks new ≡ masks old ++ c.mask ∷ []
masks_push old new c pushed = ap masks pushed ∙ map_push (λ c. c.mask) old c

-- one more of the sets with task j added
pub added_more : (j : ℕ) → j < 32 → (old mid new : List Combination) → Lacks (masks old) j → (p : ℕ) → p < length old
    → masks mid ≡ masks old ++ map (λ s. s + 2 ^ j) (take p (masks old))
    → (s : ℕ) (d : Combination) → s ≡ at (masks mid) p → d.mask ≡ added s j → new ≡ mid ++ d ∷ []
    → masks new ≡ masks old ++ map (λ s. s + 2 ^ j) (take (p + 1) (masks old))
added_more j low old mid new lacks p less so_far s d read with_it pushed =
    let inside : p < length (masks old) = omega (arith, length-map old (λ c. c.mask)) in
    let is : s ≡ at (masks old) p
    = read ∙ ap (λ xs. at xs p) so_far ∙ get_or_append_left (masks old) _ 0 p inside in
    let sum : d.mask ≡ at (masks old) p + 2 ^ j
    = with_it ∙ ap (λ s. added s j) is ∙ added_new (at (masks old) p) j low (lacks p inside) in
    masks_push mid new d pushed
    ∙ ap (λ xs. xs ++ d.mask ∷ []) so_far
    ∙ append_assoc (masks old) (map (λ s. s + 2 ^ j) (take p (masks old))) (d.mask ∷ [])
    ∙ ap (λ s. masks old ++ (map (λ s. s + 2 ^ j) (take p (masks old)) ++ s ∷ [])) sum
    ∙ ap (λ xs. masks old ++ xs) (sym (map_more (λ s. s + 2 ^ j) (masks old) p 0 inside))
