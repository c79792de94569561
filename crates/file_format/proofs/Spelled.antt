-- Numbers and their bytes, at some place of a list.
use Rattle.std.proofs.Common.{◌≡◌, ℕ, zero, suc, ◌+◌, ◌*◌, ◌/◌, ◌%◌, ◌^◌, ◌<◌, ◌≤◌, List, [], ◌∷◌, ◌++◌, length, get_or, take, drop, sym, refl, ap, ◌∙◌, pow-suc, arith, length-append, length-drop, take-suc}
use native.Mathlib.Nat.{mod-add-div}
use Rattle.std.specs.List.{AllByRecursion}
use Rattle.std.proofs.lemmas.List.{drop_at, take_at, drop-drop, take-append-drop, length_push}
use Rattle.std.proofs.ByRecursion.{All-get_or, All-drop}
use Rattle.std.proofs.lemmas.Nat.{div_below}
use Rattle.base.specs.Numbers.{number, number_after, spelled}

-- every byte is below 256
abbrev pub Bytes : List ℕ → Type 0
Bytes bs = AllByRecursion (λ b. b < 256) bs

pub length-spelled : (w n : ℕ) → length (spelled w n) ≡ w
length-spelled zero n = refl
length-spelled (suc w) n = length_push (spelled w (n / 256)) (n % 256) ∙ omega (arith, length-spelled w (n / 256))

after_push : (a : ℕ) (bs : List ℕ) (b : ℕ) → number_after a (bs ++ b ∷ []) ≡ 256 * number_after a bs + b
after_push a [] b = refl
after_push a (x ∷ bs) b = after_push (256 * a + x) bs b

-- w bytes hold every number below 256 ^ w
number_spelled : (w n : ℕ) → n < 256 ^ w → number_after 0 (spelled w n) ≡ n
number_spelled zero n h = omega arith
number_spelled (suc w) n h =
    after_push 0 (spelled w (n / 256)) (n % 256)
    ∙ ap (λ k. 256 * k + n % 256) (number_spelled w (n / 256) (div_below n 256 (256 ^ w) (omega arith) (rw pow-suc at h)))
    ∙ omega (arith, mod-add-div n 256)

-- the number of one byte more
number_more : (w : ℕ) (bs : List ℕ) → w < length bs → number_after 0 (take (suc w) bs) ≡ 256 * number_after 0 (take w bs) + get_or bs w 0
number_more w bs h = ap (number_after 0) (take-suc bs w 0 h) ∙ after_push 0 (take w bs) (get_or bs w 0)

number_small : (w : ℕ) (bs : List ℕ) → w ≤ length bs → Bytes bs → number_after 0 (take w bs) < 256 ^ w
number_small zero bs h small = omega arith
number_small (suc w) bs h small =
    omega (arith, number_more w bs (omega arith), number_small w bs (omega arith) small, All-get_or (λ b. b < 256) bs w 0 (omega arith) small, pow-suc 256 w)

-- w bytes are those of their number
spelled-number : (w : ℕ) (bs : List ℕ) → w ≤ length bs → Bytes bs → spelled w (number_after 0 (take w bs)) ≡ take w bs
spelled-number zero bs h small = refl
spelled-number (suc w) bs h small =
    let n = number_after 0 (take w bs) in
    let b = get_or bs w 0 in
    let below : b < 256 = All-get_or (λ b. b < 256) bs w 0 (omega arith) small in
    let front : (256 * n + b) / 256 ≡ n = omega arith in
    let last : (256 * n + b) % 256 ≡ b = omega arith in
    ap (spelled (suc w)) (number_more w bs (omega arith))
    ∙ (λ i. spelled w (front i) ++ last i ∷ [])
    ∙ ap (λ l. l ++ b ∷ []) (spelled-number w bs (omega arith) small)
    ∙ sym (take-suc bs w 0 (omega arith))

-- some bytes stand at byte i: what is behind them, and that they lie within the list
module _ (i w : ℕ) (bs front rest : List ℕ) (size : length front ≡ w) (here : drop i bs ≡ front ++ rest) where
  pub behind : drop (i + w) bs ≡ rest
  behind = sym (drop-drop w i bs) ∙ ap (drop w) here ∙ drop_at front rest w size

  pub fits : 0 < w → i + w ≤ length bs
  fits some = omega (arith, length-drop i bs, ap length here, length-append front rest)

-- a number that stands at byte i
pub number_here : (w n i : ℕ) (bs rest : List ℕ) → n < 256 ^ w → drop i bs ≡ spelled w n ++ rest → number w i bs ≡ n
number_here w n i bs rest h here =
    ap (λ l. number_after 0 (take w l)) here
    ∙ ap (number_after 0) (take_at (spelled w n) rest w (length-spelled w n))
    ∙ number_spelled w n h

-- the bytes at byte i are those of their number
pub here_number : (w i : ℕ) (bs : List ℕ) → i + w ≤ length bs → Bytes bs → drop i bs ≡ spelled w (number w i bs) ++ drop (i + w) bs
here_number w i bs h small =
    sym (take-append-drop w (drop i bs))
    ∙ (λ k. sym (spelled-number w (drop i bs) (omega (arith, length-drop i bs)) (All-drop (λ b. b < 256) i bs small)) k ++ drop-drop w i bs k)

pub number_below : (w i : ℕ) (bs : List ℕ) → i + w ≤ length bs → Bytes bs → number w i bs < 256 ^ w
number_below w i bs h small = number_small w (drop i bs) (omega (arith, length-drop i bs)) (All-drop (λ b. b < 256) i bs small)
