-- One cell from the cells before it.
use Rattle.std.proofs.Common.{◌≡◌, ℕ, ◌+◌, ◌-◌, ◌%◌, ◌<◌, ◌≤◌, List, length, get_or, set, sym, ap, ◌∙◌, subst, mod-eq_of_lt, add-one, arith}
use Rattle.std.proofs.ByRecursion.{has_get_or}
use Rattle.std.proofs.lemmas.List.{get_or-set_same, get_or-set_other}
use Rattle.theory.specs.Search.{at}
use Rattle.theory.specs.States.{Packed}
use Rattle.theory.proofs.Fill.{before, filled_all, filled_more, greatest, most_bound, reached}
use Rattle.theory.proofs.Radix.{digit-within, index_at, index-without, states_positive, without}
use Rattle.theory.proofs.Totals.{total_most}
use Rattle.analysis.specs.declared.sources.Source.{Source}
use Rattle.analysis.specs.Sources.{CellsFilled, EachTakes, HasLeft, MostOf, Sources, back_by, budget_of, state_at, states_of, task_of}

module _ (cs : List ℕ) (ss : List Source) (h : Sources ss) (takes : EachTakes cs ss) (cells : List ℕ) (p : ℕ) (within : p < states_of ss)
    (filled : CellsFilled cs ss cells p) where
  pub back_in : (c : ℕ) → HasLeft ss p c → back_by ss c ≤ p
  back_in c left =
      omega (arith, index-without (budget_of ss) (task_of ss) (state_at ss p) c (length ss) left, index_at (budget_of ss) p (length ss) within)

  slot : (c : ℕ) → (p - back_by ss c) % states_of ss ≡ p - back_by ss c
  slot c = mod-eq_of_lt (omega arith)

  pub low : (y : ℕ) → y < length cs → HasLeft ss p (at cs y) → get_or cells (p - back_by ss (at cs y)) 0 ≤ 6000
  low y l left =
      let c = at cs y in
      let b = budget_of ss in
      let n = length ss in
      let m = before cs (task_of ss) n b (states_of ss) (λ x. get_or cells x 0) p filled within c (takes y l) left (omega (arith, back_in c left)) in
      let v = most_bound cs (task_of ss) n takes (without (task_of ss) c (state_at ss p)) _ m in
      omega (
        arith,
        v,
        ap (λ x. get_or cells x 0) (slot c),
        total_most (without (task_of ss) c (state_at ss p)) n 1000 (λ s k. omega (arith, digit-within b p n s k, h.budgets s k)),
        h.few,
      )

  pub reach : (y : ℕ) → y < length cs → HasLeft ss p (at cs y)
      → (ps : List ℕ) × Packed cs (task_of ss) (length ss) (state_at ss p) ps × (length ps ≡ get_or cells (p - back_by ss (at cs y)) 0 + 1)
  reach y l left =
      let c = at cs y in
      let (ps, pk, e) = reached cs (task_of ss) (length ss) (budget_of ss) (states_of ss) (λ x. get_or cells x 0) p filled within c (has_get_or cs y 0 l) (takes y l) left (omega (arith, back_in c left)) in
      (ps, pk, e ∙ ap (λ x. get_or cells x 0 + 1) (slot c))

  abbrev pub Above : ℕ → ℕ → Type 0
  Above y v = (x : ℕ) → x < y → HasLeft ss p (at cs x) → get_or cells (p - back_by ss (at cs x)) 0 + 1 ≤ v

  pub done : (v : ℕ) → ((ps : List ℕ) × Packed cs (task_of ss) (length ss) (state_at ss p) ps × (length ps ≡ v)) → Above (length cs) v → MostOf cs ss (state_at ss p) v
  done v reached-list above =
      greatest cs (task_of ss) (length ss) (budget_of ss) (states_of ss) (λ x. get_or cells x 0) p filled within v takes
      (λ y l left. omega (arith, back_in (at cs y) left)) reached-list
      (λ y l left. subst (λ x. get_or cells x 0 + 1 ≤ v) (sym (slot (at cs y))) (above y l left))

  pub write : (v : ℕ) → states_of ss ≤ length cells → MostOf cs ss (state_at ss p) v → CellsFilled cs ss (set cells p v) (p + 1)
  write v room m =
      let here : p % states_of ss ≡ p = mod-eq_of_lt within in
      subst (CellsFilled cs ss (set cells p v)) (sym (add-one p))
      (filled_more cs (task_of ss) (length ss) (budget_of ss) (states_of ss) (λ x. get_or cells x 0) p filled within (λ x. get_or (set cells p v) x 0)
      (λ x ne. get_or-set_other cells p x v 0 (λ e. ne (e ∙ sym here)))
      (subst (MostOf cs ss (state_at ss p)) (sym (ap (λ x. get_or (set cells p v) x 0) here ∙ get_or-set_same cells p v 0 (omega arith))) m))

pub last : (cs : List ℕ) (ss : List Source) (cells : List ℕ) → CellsFilled cs ss cells (states_of ss) → MostOf cs ss (budget_of ss) (get_or cells (states_of ss - 1) 0)
last cs ss cells filled =
    let pos = states_positive (budget_of ss) (length ss) in
    let here : (states_of ss - 1) % states_of ss ≡ states_of ss - 1 = mod-eq_of_lt (omega arith) in
    subst (λ x. MostOf cs ss (budget_of ss) (get_or cells x 0)) here (filled_all cs (task_of ss) (length ss) (budget_of ss) (states_of ss) (λ x. get_or cells x 0) pos filled)
