-- The forms of elements of the extension, of values that pass a test, and of words.
use Rattle.std.specs.Prelude.{◌≡◌, ℕ, List, [], ◌∷◌, length, Option, None, Some, bytes_eq, Bool, true, false, if◌then◌else◌, refl}
use Rattle.std.proofs.Common.{sym, ap, subst, arith}
use Rattle.std.proofs.lemmas.Slice.Eq.{bytes_eq-Decides}
use Rattle.tool_lines.specs.Texts.{Unlimited, ListWithin}
use Rattle.p3_field.specs.declared.baby_bear.BabyBear.{BabyBear}
use Rattle.serde_json.specs.Data.{Data, null, boolean, number, string, array, object}
use Rattle.json_forms.specs.Trees.{list_tree, element_tree, extension_tree}
use Rattle.json_forms.specs.Readings.{extension_of, extension_reading, kept_reading, word_test, word_reading, TreeForm}
use Rattle.json_forms.specs.Laws.Forms.{and_then-inside, some-same, list-form, element-form, SameTrees, same-form}

-- an element of the extension is seen as its four coefficients
four-elements : (xs : List BabyBear) → length xs ≡ 4 → extension_tree (extension_of xs) ≡ list_tree element_tree xs
four-elements [] e = absurd (omega (arith, e))
four-elements (a ∷ []) e = absurd (omega (arith, e))
four-elements (a ∷ b ∷ []) e = absurd (omega (arith, e))
four-elements (a ∷ b ∷ c ∷ []) e = absurd (omega (arith, e))
four-elements (a ∷ b ∷ c ∷ d ∷ []) e = refl
four-elements (a ∷ b ∷ c ∷ d ∷ f ∷ xs) e = absurd (omega (arith, e))

pub same-extension : SameTrees (ListWithin 4 4 Unlimited) (list_tree element_tree) Unlimited extension_tree
same-extension = record {
  to = extension_of;
  to_fits = λ xs fits. tt;
  to_tree = λ xs fits. let low = fits.0.0 in let high = fits.0.1 in four-elements xs (omega (arith, low, high));
  whole = λ x fits. (x.c0 ∷ x.c1 ∷ x.c2 ∷ x.c3 ∷ [], ((omega arith, omega arith), λ k d h. tt), refl);
}

pub extension-form : TreeForm Unlimited extension_tree extension_reading
unfolding same-extension
extension-form = same-form same-extension (list-form 4 4 element-form)

-- values that pass a test
kept-at : {A : Type 0} (b : Bool) (x y : A) → (if b then Some x else None) ≡ Some y → (b ≡ true) × (x ≡ y)
kept-at true x y e = (refl, some-same x y e)
kept-at false x y e = absurd (cc)

pub kept-form : {A : Type 0} {within : A → Type 0} {tree : A → Data} {reading : Data → Option A} (test : A → Bool) → TreeForm within tree reading
    → TreeForm (λ x. within x × (test x ≡ true)) tree (kept_reading test reading)
kept-form {A} {within} {tree} {reading} test f = record {
  back = λ x fits. rw (f.back x fits.0, fits.1) refl;
  forth = λ d x e.
      let inner = and_then-inside (λ y. if test y then Some y else None) (reading d) x e in
      let h = kept-at (test inner.0) inner.0 x inner.2 in
      let k = f.forth d inner.0 inner.1 in
      subst (λ (y : A). (within y × (test y ≡ true)) × (tree y ≡ d)) h.1 ((k.0, h.0), k.1);
}

-- one word
abbrev pub word_tree : List ℕ → Unit {0} → Data
word_tree word u = string word

word-at : (word s : List ℕ) (b : Bool) → bytes_eq s word ≡ b → word_test b ≡ Some tt → word ≡ s
word-at word s true is e = sym ((bytes_eq-Decides s word).0 is)
word-at word s false is e = absurd (cc)

word-forth : (word : List ℕ) (d : Data) → word_reading word d ≡ Some tt → string word ≡ d
word-forth word null e = absurd (cc)
word-forth word (boolean b) e = absurd (cc)
word-forth word (number n) e = absurd (cc)
word-forth word (string s) e = ap string (word-at word s (bytes_eq s word) refl e)
word-forth word (array ds) e = absurd (cc)
word-forth word (object ms) e = absurd (cc)

pub word-form : (word : List ℕ) → TreeForm Unlimited (word_tree word) (word_reading word)
word-form word = record {
  back = λ u fits. rw ((bytes_eq-Decides word word).1 refl) refl;
  forth = λ d u e. (tt, word-forth word d e);
}
