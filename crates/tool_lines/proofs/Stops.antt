-- How the reading of numbers, of lists and of values that may be absent stops.
use Rattle.std.proofs.Common.{◌≡◌, ℕ, suc, ◌-◌, ◌<◌, ◌≤◌, ◌^◌, List, [], ◌∷◌, ◌++◌, length, refl, sym, ◌∙◌, ap, subst, arith, append_assoc, replicate, Result, Ok, Err, Option, Some, None}
use Rattle.std.specs.Prelude.{decimal, All, map}
use Rattle.std.proofs.lemmas.List.{append-nil, map-append}
use Rattle.std.proofs.lemmas.Grind.{common_steps, flat_map-append}
use Rattle.std.proofs.lemmas.List.Elements.{All-append, All-replicate}
use Rattle.tool_lines.specs.Texts.{line_text, Reads, Stops, Between, Grammar, one_number, items_numbers, ItemsWithin, list_numbers, ListWithin, OptionWithin, option_numbers, ReadsOne}
use Rattle.tool_lines.specs.Laws.Grammars.{head-same, tail-same, zero-not-one, number-grammar, items-grammar, same-list}
use Rattle.tool_lines.specs.declared.texts.ItemError.{ItemError}
use Rattle.tool_lines.specs.Laws.Lines.{lines-more, same-line}
use Rattle.tool_lines.specs.Laws.Stops.{pair-first, pair-second, pair-reads, same-stops, same-reads}

-- no line of a number in the range
pub number-stops : (least most : ℕ) (bytes : List ℕ) → least ≤ most
    → ((n : ℕ) (rest : List ℕ) → n ≤ most → bytes ≡ decimal n ++ 10 ∷ rest → ⊥)
    → Stops (Between least most) one_number bytes bytes
number-stops least most bytes room none = record {
  read = [];
  text = refl;
  some = least;
  some_fits = (omega arith, room);
  next = least;
  missing = [];
  begins = refl;
  stuck = λ n rest h v fits x y same. none n rest (subst (λ (k : ℕ). k ≤ most) (head-same v n x y same) fits.1) h;
}

-- a line of a number below the range
pub below-stops : (least most value : ℕ) (bytes rest : List ℕ) → least ≤ most → most < 2 ^ 64 → value < least
    → bytes ≡ decimal value ++ 10 ∷ rest → Stops (Between least most) one_number bytes bytes
below-stops least most value bytes rest room small below e = record {
  read = [];
  text = refl;
  some = least;
  some_fits = (omega arith, room);
  next = least;
  missing = [];
  begins = refl;
  stuck = λ n after h v fits x y same.
      let number : v ≡ n = head-same v n x y same in
      let t = same-line n value after rest (omega (arith, number, fits)) (omega arith) (sym h ∙ e) in
      omega (arith, t.0, number, fits);
}

-- one number has no numbers before its last
pub front-none : (m n : ℕ) (front missing : List ℕ) → m ∷ [] ≡ front ++ n ∷ missing → front ≡ []
front-none m n [] missing e = refl
front-none m n (x ∷ front) missing e =
    let t : 0 ≡ length (front ++ n ∷ missing) = ap (λ (l : List ℕ). length l) (tail-same m x [] (front ++ n ∷ missing) e) in
    absurd (grind (arith, common_steps, t))

-- the items that stand after the first ones
rest-of : {A : Type 0} {within : A → Type 0} {words : A → List ℕ} → Grammar within words
    → (done a : List A) (x y : List ℕ) → All within done → All within a → length done < length a
    → items_numbers words a ++ x ≡ items_numbers words done ++ y → (b : A) × within b × (z : List ℕ) × (words b ++ z ≡ y)
rest-of g done [] x y d h room e = absurd (omega (arith, room))
rest-of {A} {within} {words} g [] (b ∷ bs) x y d h room e =
    (b, h 0 b (omega arith), items_numbers words bs ++ x, sym (append_assoc (words b) (items_numbers words bs) x) ∙ e)
rest-of {A} {within} {words} g (c ∷ cs) (b ∷ bs) x y d h room e =
    let same : words b ++ (items_numbers words bs ++ x) ≡ words c ++ (items_numbers words cs ++ y)
    = sym (append_assoc (words b) (items_numbers words bs) x) ∙ (e ∙ append_assoc (words c) (items_numbers words cs) y) in
    rest-of g cs bs x y (λ k q r. d (suc k) q (omega arith)) (λ k q r. h (suc k) q (omega arith)) (omega arith)
    (g.tells b c (items_numbers words bs ++ x) (items_numbers words cs ++ y) (h 0 b (omega arith)) (d 0 c (omega arith)) same).1

-- so many items, of which one can't be read
pub item-stops : {A : Type 0} {within : A → Type 0} {words : A → List ℕ} {mid new : List ℕ} → Grammar within words
    → (count : ℕ) (done : List A) (old : List ℕ) → All within done → length done < count
    → old ≡ line_text (items_numbers words done) ++ mid → Stops within words mid new
    → Stops (ItemsWithin count within) (items_numbers words) old new
item-stops {A} {within} {words} {mid} {new} g count done old d room text s =
    let before = items_numbers words done in
    let more = replicate (count - length done - 1) s.some in
    let all = done ++ (s.some ∷ more) in
    let len : length all ≡ count = grind (arith, common_steps) in
    let items : items_numbers words all ≡ before ++ (words s.some ++ items_numbers words more) = flat_map-append words done (s.some ∷ more) in
    record {
      read = before ++ s.read;
      text = lines-more before s.read old mid new text s.text;
      some = all;
      some_fits = (
        len,
        All-append within done (s.some ∷ more) d (All-append within (replicate 1 s.some) more
            (All-replicate within 1 s.some s.some_fits) (All-replicate within (count - length done - 1) s.some s.some_fits)),
      );
      next = s.next;
      missing = s.missing ++ items_numbers words more;
      begins = rw (items, s.begins) (simp append_assoc refl);
      stuck = λ n after e v fits x y same.
          let r = rest-of g done v x (s.read ++ n ∷ y) d fits.1 (omega (arith, fits.0, room)) (same ∙ append_assoc before s.read (n ∷ y)) in
          s.stuck n after e r.0 r.1 r.2 y r.3;
    }

-- the data of a list with one more item
pub map-pushed : {A B : Type 0} (f : A → B) (xs ys : List A) (x : A) → ys ≡ xs ++ x ∷ [] → map f ys ≡ map f xs ++ f x ∷ []
map-pushed f xs ys x e = ap (λ (l : List _). map f l) e ∙ map-append f xs (x ∷ [])

-- one more item
pub items-grow : {A : Type 0} (words : A → List ℕ) (done : List A) (b : A) (old mid new : List ℕ)
    → old ≡ line_text (items_numbers words done) ++ mid → mid ≡ line_text (words b) ++ new
    → old ≡ line_text (items_numbers words (done ++ b ∷ [])) ++ new
items-grow words done b old mid new e f =
    let same : items_numbers words (done ++ b ∷ []) ≡ items_numbers words done ++ words b
    = flat_map-append words done (b ∷ []) ∙ ap (λ (l : List ℕ). items_numbers words done ++ l) (append-nil (words b)) in
    rw same (lines-more (items_numbers words done) (words b) old mid new e f)

-- a list whose count can't be read
pub count-stops : {A : Type 0} {within : A → Type 0} {words : A → List ℕ} {old new : List ℕ} (least most : ℕ) → Grammar within words
    → Stops (Between least most) one_number old new → Stops (ListWithin least most within) (list_numbers words) old new
count-stops {A} {within} {words} least most g s =
    same-stops (same-list least most within words) (pair-first (λ n. ItemsWithin n within) (λ n _. items-grammar n g) s)

-- a list whose count was read
pub list-after-count : {V A : Type 0} (data_of : V → List A) (least most : ℕ) (within : A → Type 0) (words : A → List ℕ) (old mid new : List ℕ) (count : ℕ) (r : Result V ItemError)
    → least ≤ most → most < 2 ^ 64 → Reads (Between least most) one_number old mid count → ReadsOne data_of (ItemsWithin count within) (items_numbers words) mid new r
    → ReadsOne data_of (ListWithin least most within) (list_numbers words) old new r
unfolding same-list
list-after-count data_of least most within words old mid new count (Ok v) room few n s =
    same-reads (same-list least most within words) (pair-reads (λ n. ItemsWithin n within) n s)
list-after-count data_of least most within words old mid new count (Err e) room few n s =
    λ m. same-stops (same-list least most within words) (pair-second (λ n. ItemsWithin n within) (number-grammar least most room few) n (s m))

-- a value that may be absent, whose tag can't be read
pub tag-stops : {A : Type 0} (within : A → Type 0) (words : A → List ℕ) (old new : List ℕ)
    → Stops (Between 0 1) one_number old new → Stops (OptionWithin within) (option_numbers words) old new
tag-stops {A} within words old new s =
    let none : s.read ≡ [] = front-none s.some s.next s.read s.missing s.begins in
    record {
      read = s.read;
      text = s.text;
      some = None;
      some_fits = tt;
      next = 0;
      missing = [];
      begins = rw none refl;
      stuck = λ n rest h v fits x y same. go n rest h v x y same;
    }
  where
    go : (n : ℕ) (rest : List ℕ) → new ≡ decimal n ++ 10 ∷ rest → (v : Option A) (x y : List ℕ) → option_numbers words v ++ x ≡ s.read ++ n ∷ y → ⊥
    go n rest h None x y same = s.stuck n rest h 0 (omega arith, omega arith) x y same
    go n rest h (Some a) x y same = s.stuck n rest h 1 (omega arith, omega arith) (words a ++ x) y same

-- the tag was 1, and the value can't be read
pub value-stops : {A : Type 0} (within : A → Type 0) (words : A → List ℕ) (old mid new : List ℕ) → old ≡ line_text (1 ∷ []) ++ mid
    → Stops within words mid new → Stops (OptionWithin within) (option_numbers words) old new
value-stops {A} within words old mid new text s =
    record {
      read = 1 ∷ s.read;
      text = lines-more (1 ∷ []) s.read old mid new text s.text;
      some = Some s.some;
      some_fits = s.some_fits;
      next = s.next;
      missing = s.missing;
      begins = ap (λ (l : List ℕ). 1 ∷ l) s.begins;
      stuck = λ n after e v fits x y same. go n after e v fits x y same;
    }
  where
    go : (n : ℕ) (after : List ℕ) → new ≡ decimal n ++ 10 ∷ after → (v : Option A) → OptionWithin within v → (x y : List ℕ) → option_numbers words v ++ x ≡ (1 ∷ s.read) ++ n ∷ y → ⊥
    go n after e None fits x y same = zero-not-one x (s.read ++ n ∷ y) same
    go n after e (Some b) fits x y same = s.stuck n after e b fits x y (tail-same 1 1 (words b ++ x) (s.read ++ n ∷ y) same)

-- the tag was 1
pub one-tag : (tag : ℕ) (old mid : List ℕ) → (tag ≡ 0 → ⊥) → Reads (Between 0 1) one_number old mid tag → old ≡ line_text (1 ∷ []) ++ mid
one-tag tag old mid other r =
    let fits : tag ≤ 1 = r.fits.1 in
    let one : tag ≡ 1 = grind (arith, other, fits) in
    subst (λ (t : ℕ). old ≡ line_text (t ∷ []) ++ mid) one r.text
