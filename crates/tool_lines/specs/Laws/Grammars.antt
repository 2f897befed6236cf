-- Grammars of parts, and of what is made of parts.
use Rattle.std.specs.Prelude.{◌≡◌, ℕ, suc, ◌<◌, ◌≤◌, ◌^◌, List, [], ◌∷◌, ◌++◌, length, All, Option, None, Some, replicate, refl}
use Rattle.std.proofs.Common.{sym, ap, subst, ◌∙◌, append_assoc, arith, Fits, w32}
use Rattle.std.proofs.lemmas.Grind.{common_steps}
use Rattle.std.proofs.lemmas.List.Elements.{All-append, All-replicate}
use Rattle.p3_field.specs.declared.baby_bear.BabyBear.{BabyBear}
use Rattle.p3_field.specs.Laws.BabyBearLaws.{same_baby_bear}
use Rattle.tool_lines.specs.Texts.{Between, Small, Grammar, Unlimited, one_number, element_numbers, extension_numbers, items_numbers, ItemsWithin, list_numbers, ListWithin, option_numbers, OptionWithin}

pub head-same : (a b : ℕ) (x y : List ℕ) → a ∷ x ≡ b ∷ y → a ≡ b
head-same a b x y e = cc

pub tail-same : (a b : ℕ) (x y : List ℕ) → a ∷ x ≡ b ∷ y → x ≡ y
tail-same a b x y e = cc

pub zero-not-one : (x y : List ℕ) → 0 ∷ x ≡ 1 ∷ y → ⊥
zero-not-one x y e = cc

-- one small number
pub small-one : (n : ℕ) → n < 2 ^ 64 → Small (n ∷ [])
small-one n h = All-replicate (λ k. k < 2 ^ 64) 1 n h

-- one number of a range
pub number-grammar : (least most : ℕ) → least ≤ most → most < 2 ^ 64 → Grammar (Between least most) one_number
number-grammar least most room few = record {
  some = least;
  some_fits = (omega arith, room);
  small = λ v fits. small-one v (omega arith);
  tells = λ v w x y p q e. (head-same v w x y e, tail-same v w x y e);
}

-- a number of 32 bits
pub word-grammar : Grammar (Between 0 4294967295) one_number
word-grammar = number-grammar 0 4294967295 (omega arith) (omega arith)

-- numbers that are their own items
pub numbers-own : (xs : List ℕ) → xs ≡ items_numbers one_number xs
numbers-own [] = refl
numbers-own (x ∷ xs) = λ i. x ∷ numbers-own xs i

-- two values, one after the other: the limits of the second may depend on the first
abbrev pub PairWithin : {A B : Type 0} → (A → Type 0) → (A → B → Type 0) → A × B → Type 0
PairWithin first second p = first p.0 × second p.0 p.1

abbrev pub pair_numbers : {A B : Type 0} → (A → List ℕ) → (B → List ℕ) → A × B → List ℕ
pair_numbers first second p = first p.0 ++ second p.1

pub pair-grammar : {A B : Type 0} {first : A → Type 0} {first_words : A → List ℕ} {second_words : B → List ℕ} (second : A → B → Type 0)
    → Grammar first first_words → ((a : A) → first a → Grammar (second a) second_words)
    → Grammar (PairWithin first second) (pair_numbers first_words second_words)
pair-grammar {A} {B} {first} {first_words} {second_words} second g h = record {
  some = (g.some, (h g.some g.some_fits).some);
  some_fits = (g.some_fits, (h g.some g.some_fits).some_fits);
  small = λ v fits. All-append (λ n. n < 2 ^ 64) (first_words v.0) (second_words v.1) (g.small v.0 fits.0) ((h v.0 fits.0).small v.1 fits.1);
  tells = λ v w x y p q e.
      let one = g.tells v.0 w.0 (second_words v.1 ++ x) (second_words w.1 ++ y) p.0 q.0
      (sym (append_assoc (first_words v.0) (second_words v.1) x) ∙ (e ∙ append_assoc (first_words w.0) (second_words w.1) y)) in
      let fits : second v.0 w.1 = subst (λ (a : _). second a w.1) (sym one.0) q.1 in
      let two = (h v.0 p.0).tells v.1 w.1 x y p.1 fits one.1 in
      (ap (λ (a : _). (a, v.1)) one.0 ∙ ap (λ (b : _). (w.0, b)) two.0, two.1);
}

-- the same where the limits of the second are always the same
abbrev pub ThenWithin : {A B : Type 0} → (A → Type 0) → (B → Type 0) → A × B → Type 0
ThenWithin first second = PairWithin first (λ _. second)

pub then-grammar : {A B : Type 0} {first : A → Type 0} {first_words : A → List ℕ} {second : B → Type 0} {second_words : B → List ℕ}
    → Grammar first first_words → Grammar second second_words → Grammar (ThenWithin first second) (pair_numbers first_words second_words)
then-grammar {A} {B} {first} {first_words} {second} {second_words} g h = pair-grammar (λ _. second) g (λ _ _. h)

-- Two ways to see one value, with the same limits and the same numbers: each value on the far side is one on the near side.
pub record SameTexts {A B : Type 0} (near : A → Type 0) (near_words : A → List ℕ) (far : B → Type 0) (far_words : B → List ℕ) : Type 0 where
  pub to : A → B
  pub to_fits : (a : A) → near a → far (to a)
  pub to_numbers : (a : A) → near a → far_words (to a) ≡ near_words a
  pub whole : (b : B) → far b → (a : A) × near a × (to a ≡ b)

-- the numbers of a value on the far side are those of the value that it is on the near side
pub whole-numbers : {A B : Type 0} {near : A → Type 0} {near_words : A → List ℕ} {far : B → Type 0} {far_words : B → List ℕ}
    → (s : SameTexts near near_words far far_words) → (b : B) (fits : far b) → near_words (s.whole b fits).0 ≡ far_words b
whole-numbers {A} {B} {near} {near_words} {far} {far_words} s b fits =
    let t = s.whole b fits in sym (s.to_numbers t.0 t.1) ∙ ap (λ (c : B). far_words c) t.2

pub same-grammar : {A B : Type 0} {near : A → Type 0} {near_words : A → List ℕ} {far : B → Type 0} {far_words : B → List ℕ}
    → SameTexts near near_words far far_words → Grammar near near_words → Grammar far far_words
same-grammar {A} {B} {near} {near_words} {far} {far_words} s g = record {
  some = s.to g.some;
  some_fits = s.to_fits g.some g.some_fits;
  small = λ v fits. subst (λ (l : List ℕ). Small l) (whole-numbers s v fits) (g.small (s.whole v fits).0 (s.whole v fits).1);
  tells = λ v w x y p q e.
      let a = s.whole v p in
      let b = s.whole w q in
      let t = g.tells a.0 b.0 x y a.1 b.1
      (ap (λ (l : List ℕ). l ++ x) (whole-numbers s v p) ∙ (e ∙ ap (λ (l : List ℕ). l ++ y) (sym (whole-numbers s w q)))) in
      (sym a.2 ∙ (ap (λ (c : A). s.to c) t.0 ∙ b.2), t.1);
}

items-small : {A : Type 0} {within : A → Type 0} {words : A → List ℕ} → Grammar within words → (xs : List A) → All within xs → Small (items_numbers words xs)
items-small g [] h = λ k d q. absurd (omega (arith, q))
items-small {A} {within} {words} g (x ∷ xs) h =
    All-append (λ n. n < 2 ^ 64) (words x) (items_numbers words xs) (g.small x (h 0 x (omega arith))) (items-small g xs (λ k d q. h (suc k) d (omega arith)))

items-tell : {A : Type 0} {within : A → Type 0} {words : A → List ℕ} → Grammar within words → (v w : List A) (x y : List ℕ)
    → All within v → All within w → length v ≡ length w → items_numbers words v ++ x ≡ items_numbers words w ++ y → (v ≡ w) × (x ≡ y)
items-tell g [] [] x y p q l e = (refl, e)
items-tell g [] (b ∷ w) x y p q l e = absurd (omega arith)
items-tell g (a ∷ v) [] x y p q l e = absurd (omega arith)
items-tell {A} {within} {words} g (a ∷ v) (b ∷ w) x y p q l e =
    let first = g.tells a b (items_numbers words v ++ x) (items_numbers words w ++ y) (p 0 a (omega arith)) (q 0 b (omega arith))
    (sym (append_assoc (words a) (items_numbers words v) x) ∙ (e ∙ append_assoc (words b) (items_numbers words w) y)) in
    let rest = items-tell g v w x y (λ k d h. p (suc k) d (omega arith)) (λ k d h. q (suc k) d (omega arith)) (omega arith) first.1 in
    (ap (λ (c : _). c ∷ v) first.0 ∙ ap (λ (t : _). b ∷ t) rest.0, rest.1)

-- so many items
pub items-grammar : {A : Type 0} {within : A → Type 0} {words : A → List ℕ} (count : ℕ) → Grammar within words → Grammar (ItemsWithin count within) (items_numbers words)
items-grammar {A} {within} {words} count g = record {
  some = replicate count g.some;
  some_fits = (grind (arith, common_steps), All-replicate within count g.some g.some_fits);
  small = λ v fits. items-small g v fits.1;
  tells = λ v w x y p q e. items-tell g v w x y p.1 q.1 (p.0 ∙ sym q.0) e;
}

-- a list is seen as its count, and so many items
unfoldable pub same-list : {A : Type 0} (least most : ℕ) (within : A → Type 0) (words : A → List ℕ)
    → SameTexts (PairWithin (Between least most) (λ n. ItemsWithin n within)) (pair_numbers one_number (items_numbers words)) (ListWithin least most within) (list_numbers words)
same-list least most within words = record {
  to = λ p. p.1;
  to_fits = λ p fits. (subst (λ (n : ℕ). Between least most n) (sym fits.1.0) fits.0, fits.1.1);
  to_numbers = λ p fits. ap (λ (n : ℕ). n ∷ items_numbers words p.1) fits.1.0;
  whole = λ xs fits. ((length xs, xs), (fits.0, (refl, fits.1)), refl);
}

pub list-grammar : {A : Type 0} {within : A → Type 0} {words : A → List ℕ} (least most : ℕ) → least ≤ most → most < 2 ^ 64 → Grammar within words
    → Grammar (ListWithin least most within) (list_numbers words)
list-grammar {A} {within} {words} least most room few g =
    same-grammar (same-list least most within words) (pair-grammar (λ n. ItemsWithin n within) (number-grammar least most room few) (λ n _. items-grammar n g))

-- a list of at most so many items, where the number is one of 32 bits
pub at_most-grammar : {A : Type 0} {within : A → Type 0} {words : A → List ℕ} (most : ℕ) → Fits w32 most → Grammar within words
    → Grammar (ListWithin 0 most within) (list_numbers words)
at_most-grammar most fits g = list-grammar 0 most (omega arith) (omega (arith, fits)) g

-- a value that may be absent
pub option-grammar : {A : Type 0} {within : A → Type 0} {words : A → List ℕ} → Grammar within words → Grammar (OptionWithin within) (option_numbers words)
option-grammar {A} {within} {words} g = record { some = None; some_fits = tt; small = small; tells = tells }
  where
    small : (v : Option A) → OptionWithin within v → Small (option_numbers words v)
    small None fits = small-one 0 (omega arith)
    small (Some a) fits = All-append (λ n. n < 2 ^ 64) (1 ∷ []) (words a) (small-one 1 (omega arith)) (g.small a fits)

    tells : (v w : Option A) (x y : List ℕ) → OptionWithin within v → OptionWithin within w → option_numbers words v ++ x ≡ option_numbers words w ++ y → (v ≡ w) × (x ≡ y)
    tells None None x y p q e = (refl, tail-same 0 0 x y e)
    tells None (Some b) x y p q e = absurd (zero-not-one x (words b ++ y) e)
    tells (Some a) None x y p q e = absurd (zero-not-one y (words a ++ x) (sym e))
    tells (Some a) (Some b) x y p q e =
        let t = g.tells a b x y p q (tail-same 1 1 (words a ++ x) (words b ++ y) e) in
        (ap (λ (c : A). Some c) t.0, t.1)

-- a field element
pub element-grammar : Grammar Unlimited element_numbers
element-grammar = record {
  some = record { value = 0; in_range = omega arith };
  some_fits = tt;
  small = λ v _. small-one v.value (let h = v.in_range in omega (arith, h));
  tells = λ v w x y p q e. (same_baby_bear v w (head-same v.value w.value x y e), tail-same v.value w.value x y e);
}

-- two, three and four field elements, one after the other
abbrev pub TwoWithin : BabyBear × BabyBear → Type 0
TwoWithin = ThenWithin Unlimited Unlimited

abbrev pub two_numbers : BabyBear × BabyBear → List ℕ
two_numbers = pair_numbers element_numbers element_numbers

pub two-grammar : Grammar TwoWithin two_numbers
two-grammar = then-grammar element-grammar element-grammar

abbrev pub ThreeWithin : BabyBear × (BabyBear × BabyBear) → Type 0
ThreeWithin = ThenWithin Unlimited TwoWithin

abbrev pub three_numbers : BabyBear × (BabyBear × BabyBear) → List ℕ
three_numbers = pair_numbers element_numbers two_numbers

pub three-grammar : Grammar ThreeWithin three_numbers
three-grammar = then-grammar element-grammar two-grammar

abbrev pub FourWithin : BabyBear × (BabyBear × (BabyBear × BabyBear)) → Type 0
FourWithin = ThenWithin Unlimited ThreeWithin

abbrev pub four_numbers : BabyBear × (BabyBear × (BabyBear × BabyBear)) → List ℕ
four_numbers = pair_numbers element_numbers three_numbers

pub four-grammar : Grammar FourWithin four_numbers
four-grammar = then-grammar element-grammar three-grammar

-- an element of the extension is seen as its four coefficients
pub same-extension : SameTexts FourWithin four_numbers Unlimited extension_numbers
same-extension = record {
  to = λ p. record { c0 = p.0; c1 = p.1.0; c2 = p.1.1.0; c3 = p.1.1.1 };
  to_fits = λ p fits. tt;
  to_numbers = λ p fits. refl;
  whole = λ x fits. ((x.c0, (x.c1, (x.c2, x.c3))), (tt, (tt, (tt, tt))), refl);
}

pub extension-grammar : Grammar Unlimited extension_numbers
extension-grammar = same-grammar same-extension four-grammar
