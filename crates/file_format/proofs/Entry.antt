-- Reading and spelling, of one entry and of a section.
use Rattle.std.proofs.Common.{◌≡◌, ℕ, zero, suc, ◌+◌, ◌<◌, ◌≤◌, Bool, true, false, leb, List, [], ◌∷◌, ◌++◌, length, drop, Ok, Err, Result, sym, refl, ap, ◌∙◌, subst, add-zero, arith, length-append}
use Rattle.std.specs.List.{flat_map, AllByRecursion}
use Rattle.std.proofs.lemmas.List.{drop-drop, append_assoc, append-nil}
use Rattle.std.proofs.ByRecursion.{All-drop}
use Rattle.std.proofs.lemmas.Bool.{cond-true, le-leb, leb-true}
use Rattle.base.specs.Faults.{given}
use Rattle.base.specs.Numbers.{number, spelled}
use Rattle.base.proofs.Faults.{same_ok, no_ok, given-ok}
use Rattle.file_format.specs.Settings.{Fault}
use Rattle.file_format.specs.Entries.{Front, sized}
use Rattle.file_format.specs.File.{Read, after, placed, entries, count, fault}
use Rattle.file_format.proofs.Spelled.{Bytes, behind, fits, number_here, here_number, number_below, length-spelled}

-- a value of a size behind a test: the test was passed
pub sized-ok : {X : Type 0} (size : ℕ) (t : Bool) (f : ℕ) (a : Result X ℕ) (x : X × ℕ) → sized size (given t f a) ≡ Ok x → (t ≡ true) × (sized size a ≡ Ok x)
sized-ok size true f a x h = (refl, h)
sized-ok size false f a x h = absurd (no_ok f x h)

-- what goes on behind a read value: there was one
pub after-ok : {X Y : Type 0} (r : Read X) (next : X → ℕ → Result Y Fault) (y : Y) → after r next ≡ Ok y → (x : X) × (e : ℕ) × (r ≡ Ok (x, e)) × (next x e ≡ Ok y)
after-ok (Ok found) next y h = (found.0, found.1, refl, h)
after-ok (Err f) next y h = absurd (no_ok f y h)

placed-ok : {X Y : Type 0} (s k b : ℕ) (r : Front X) (next : X → ℕ → Result Y Fault) (y : Y) → placed s k b r next ≡ Ok y → (x : X) × (size : ℕ) × (r ≡ Ok (x, size)) × (next x (b + size) ≡ Ok y)
placed-ok s k b (Ok found) next y h = (found.0, found.1, refl, h)
placed-ok s k b (Err f) next y h = absurd (no_ok (fault f s k b) y h)

-- the good values at the front of some bytes are read as spelled, and what is read is the spelling of a good value
pub record Backs {X : Type 0} (read : List ℕ → Front X) (sp : X → List ℕ) (Good : X → Type 0) : Type 0 where
  pub back : (x : X) (bs rest : List ℕ) → Good x → bs ≡ sp x ++ rest → read bs ≡ Ok (x, length (sp x))
  pub forth : (x : X) (size : ℕ) (bs : List ℕ) → Bytes bs → read bs ≡ Ok (x, size) → Good x × (bs ≡ sp x ++ drop size bs)

-- the same of what is read at byte b of a file
pub record BacksAt {X : Type 0} (file : List ℕ) (b : ℕ) (r : Read X) (sp : X → List ℕ) (Good : X → Type 0) : Type 0 where
  pub back : (x : X) (rest : List ℕ) → Good x → drop b file ≡ sp x ++ rest → r ≡ Ok (x, b + length (sp x))
  pub forth : (x : X) (e : ℕ) → Bytes file → r ≡ Ok (x, e) → Good x × (drop b file ≡ sp x ++ drop e file)

module _ (file : List ℕ) (s : ℕ) where
  module _ {X : Type 0} {read : List ℕ → Front X} {sp : X → List ℕ} {Good : X → Type 0} (backs : Backs read sp Good) where
    entries_back : (xs done : List X) (b : ℕ) (rest : List ℕ) → AllByRecursion Good xs → drop b file ≡ flat_map sp xs ++ rest → entries file read s done (length xs) b ≡ Ok (done ++ xs, b + length (flat_map sp xs))
    unfolding entries
    entries_back [] done b rest good here = λ i. Ok (sym (append-nil done) i, sym (add-zero b) i)
    entries_back (x ∷ xs) done b rest good here =
        let next = flat_map sp xs ++ rest in
        let front : drop b file ≡ sp x ++ next = here ∙ append_assoc (sp x) (flat_map sp xs) rest in
        let long : b + length (sp x) + length (flat_map sp xs) ≡ b + length (sp x ++ flat_map sp xs) = omega (arith, length-append (sp x) (flat_map sp xs)) in
        ap (λ r. placed s (length done + 1) b r (λ x b. entries file read s (done ++ x ∷ []) (length xs) b)) (backs.back x (drop b file) next good.0 front)
        ∙ entries_back xs (done ++ x ∷ []) (b + length (sp x)) rest good.1 (behind b (length (sp x)) file (sp x) next refl front)
        ∙ (λ i. Ok (append_assoc done (x ∷ []) xs i, long i))

    entries_forth : (n : ℕ) (done xs : List X) (b e : ℕ) → Bytes file → entries file read s done n b ≡ Ok (xs, e) → (ys : List X) × (done ++ ys ≡ xs) × (length ys ≡ n) × AllByRecursion Good ys × (drop b file ≡ flat_map sp ys ++ drop e file)
    unfolding entries
    entries_forth zero done xs b e small h =
        let same = same_ok (done, b) (xs, e) h in
        ([], append-nil done ∙ ap (λ p. p.0) same, refl, tt, ap (λ p. drop p.1 file) same)
    entries_forth (suc n) done xs b e small h =
        let one = placed-ok s (length done + 1) b (read (drop b file)) (λ x b. entries file read s (done ++ x ∷ []) n b) (xs, e) h in
        let x = one.0 in
        let size = one.1 in
        let first = backs.forth x size (drop b file) (All-drop (λ b. b < 256) b file small) one.2 in
        let more = entries_forth n (done ++ x ∷ []) xs (b + size) e small one.3 in
        let ys = more.0 in (
          x ∷ ys,
          sym (append_assoc done (x ∷ []) ys) ∙ more.1,
          ap suc more.2,
          (first.0, more.3),
          first.1 ∙ ap (λ l. sp x ++ l) (drop-drop size b file ∙ more.4) ∙ sym (append_assoc (sp x) (flat_map sp ys) (drop e file)),
        )

    -- n entries of a section
    pub section_backs : (n b : ℕ) → BacksAt file b (entries file read s [] n b) (flat_map sp) (λ xs. (length xs ≡ n) × AllByRecursion Good xs)
    section_backs n b = record {
      back = λ xs rest good here. ap (λ n. entries file read s [] n b) (sym good.0) ∙ entries_back xs [] b rest good.1 here;
      forth = λ xs e small h.
          let found = entries_forth n [] xs b e small h in
          let same : found.0 ≡ xs = found.1 in
          ((ap length (sym same) ∙ found.2, subst (AllByRecursion Good) same found.3), found.4 ∙ ap (λ l. flat_map sp l ++ drop e file) same);
    }

  -- the count of a section
  pub count_backs : (wrong : ℕ) (ok : ℕ → Bool) (b : ℕ) → BacksAt file b (count file s wrong ok b) (spelled 1) (λ n. (n < 256) × (ok n ≡ true))
  count_backs wrong ok b = record {
    back = λ n rest good here.
        let it : number 1 b file ≡ n = number_here 1 n b file rest good.0 here in
        let long : leb (b + 1) (length file) ≡ true = le-leb (b + 1) (length file) (fits b 1 file (spelled 1 n) rest (length-spelled 1 n) here (omega arith)) in
        cond-true _ _ _ long
        ∙ cond-true _ _ _ (ap ok it ∙ good.1)
        ∙ (λ i. Ok (it i, b + sym (length-spelled 1 n) i));
    forth = λ n e small h.
        let far = given-ok (leb (b + 1) (length file)) (fault 11 s 0 b) _ (n, e) h in
        let asked = given-ok (ok (number 1 b file)) (fault wrong s 0 b) (Ok (number 1 b file, b + 1)) (n, e) far.1 in
        let same = same_ok (number 1 b file, b + 1) (n, e) asked.1 in
        let it : number 1 b file ≡ n = ap (λ p. p.0) same in
        let long : b + 1 ≤ length file = leb-true (b + 1) (length file) far.0 in (
          (omega (arith, number_below 1 b file long small), ap ok (sym it) ∙ asked.0),
          here_number 1 b file long small ∙ (λ i. spelled 1 (it i) ++ drop (same i).1 file),
        );
  }
