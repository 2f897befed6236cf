-- How the reading of a part is a part of the reading of the whole.
use Rattle.std.proofs.Common.{◌≡◌, ℕ, List, ◌∷◌, ◌++◌, sym, ◌∙◌, ap, subst, append_assoc, Result, Ok, Err, Option}
use Rattle.std.specs.Prelude.{IsErrAnd, map, option_map}
use Rattle.std.proofs.lemmas.List.{map-id}
use Rattle.std.proofs.lemmas.Iterator.Adapters.{option_map_id}
use Rattle.tool_lines.specs.Texts.{line_text, Reads, Stops, Grammar, ReadsOne, ReadsKnown}
use Rattle.tool_lines.specs.Laws.Grammars.{PairWithin, ThenWithin, pair_numbers, SameTexts, whole-numbers}
use Rattle.tool_lines.specs.declared.texts.ItemError.{ItemError}
use Rattle.tool_lines.specs.declared.texts.ItemError.TheVariants.{Malformed}
use Rattle.tool_lines.specs.Laws.Lines.{lines-more}

-- an error that is handed on
pub handed-on : {A D : Type 0} (data_of : A → D) (within : D → Type 0) (words : D → List ℕ) (old new : List ℕ) (r : Result A ItemError) (e : ItemError)
    → IsErrAnd r (λ x. x ≡ e) → (e ≡ Malformed → Stops within words old new) → ReadsOne data_of within words old new r
handed-on data_of within words old new (Ok v) e h s = absurd h
handed-on data_of within words old new (Err x) e h s = λ m. s (sym h ∙ m)

-- the same of a call that takes no memory
pub known-handed-on : {A : Type 0} (within : A → Type 0) (words : A → List ℕ) (old new : List ℕ) (r : Result A ItemError) (e : ItemError)
    → IsErrAnd r (λ x. x ≡ e) → e ≡ Malformed → Stops within words old new → ReadsKnown within words old new r
known-handed-on within words old new (Ok v) e h m s = absurd h
known-handed-on within words old new (Err x) e h m s = (h ∙ m, s)

-- the first of two values can't be read
pub pair-first : {A B : Type 0} {first : A → Type 0} {first_words : A → List ℕ} {second_words : B → List ℕ} {old new : List ℕ} (second : A → B → Type 0)
    → ((a : A) → first a → Grammar (second a) second_words) → Stops first first_words old new
    → Stops (PairWithin first second) (pair_numbers first_words second_words) old new
pair-first {A} {B} {first} {first_words} {second_words} {old} {new} second h s =
    let rest = h s.some s.some_fits in
    record {
      read = s.read;
      text = s.text;
      some = (s.some, rest.some);
      some_fits = (s.some_fits, rest.some_fits);
      next = s.next;
      missing = s.missing ++ second_words rest.some;
      begins = ap (λ (l : List ℕ). l ++ second_words rest.some) s.begins ∙ append_assoc s.read (s.next ∷ s.missing) (second_words rest.some);
      stuck = λ n after e v fits x y same.
          s.stuck n after e v.0 fits.0 (second_words v.1 ++ x) y (sym (append_assoc (first_words v.0) (second_words v.1) x) ∙ same);
    }

-- the first was read, and the second can't be
pub pair-second : {A B : Type 0} {first : A → Type 0} {first_words : A → List ℕ} {second_words : B → List ℕ} {a : A} {old mid new : List ℕ} (second : A → B → Type 0)
    → Grammar first first_words → Reads first first_words old mid a → Stops (second a) second_words mid new
    → Stops (PairWithin first second) (pair_numbers first_words second_words) old new
pair-second {A} {B} {first} {first_words} {second_words} {a} {old} {mid} {new} second g r s =
    record {
      read = first_words a ++ s.read;
      text = lines-more (first_words a) s.read old mid new r.text s.text;
      some = (a, s.some);
      some_fits = (r.fits, s.some_fits);
      next = s.next;
      missing = s.missing;
      begins = ap (λ (l : List ℕ). first_words a ++ l) s.begins ∙ sym (append_assoc (first_words a) s.read (s.next ∷ s.missing));
      stuck = λ n after e v fits x y same.
          let t = g.tells v.0 a (second_words v.1 ++ x) (s.read ++ n ∷ y) fits.0 r.fits
          (sym (append_assoc (first_words v.0) (second_words v.1) x) ∙ (same ∙ append_assoc (first_words a) s.read (n ∷ y))) in
          s.stuck n after e v.1 (subst (λ (b : _). second b v.1) t.0 fits.1) x y t.1;
    }

-- both were read
pub pair-reads : {A B : Type 0} {first : A → Type 0} {first_words : A → List ℕ} {second_words : B → List ℕ} {a : A} {b : B} {old mid new : List ℕ} (second : A → B → Type 0)
    → Reads first first_words old mid a → Reads (second a) second_words mid new b
    → Reads (PairWithin first second) (pair_numbers first_words second_words) old new (a, b)
pair-reads {A} {B} {first} {first_words} {second_words} {a} {b} {old} {mid} {new} second r s =
    record { fits = (r.fits, s.fits); text = lines-more (first_words a) (second_words b) old mid new r.text s.text }

-- the same where the limits of the second are always the same
pub then-first : {A B : Type 0} {first : A → Type 0} {first_words : A → List ℕ} {second : B → Type 0} {second_words : B → List ℕ} {old new : List ℕ}
    → Grammar second second_words → Stops first first_words old new → Stops (ThenWithin first second) (pair_numbers first_words second_words) old new
then-first {A} {B} {first} {first_words} {second} g s = pair-first (λ _. second) (λ _ _. g) s

pub then-second : {A B : Type 0} {first : A → Type 0} {first_words : A → List ℕ} {second : B → Type 0} {second_words : B → List ℕ} {a : A} {old mid new : List ℕ}
    → Grammar first first_words → Reads first first_words old mid a → Stops second second_words mid new
    → Stops (ThenWithin first second) (pair_numbers first_words second_words) old new
then-second {A} {B} {first} {first_words} {second} g r s = pair-second (λ _. second) g r s

pub then-reads : {A B : Type 0} {first : A → Type 0} {first_words : A → List ℕ} {second : B → Type 0} {second_words : B → List ℕ} {a : A} {b : B} {old mid new : List ℕ}
    → Reads first first_words old mid a → Reads second second_words mid new b → Reads (ThenWithin first second) (pair_numbers first_words second_words) old new (a, b)
then-reads {A} {B} {first} {first_words} {second} r s = pair-reads (λ _. second) r s

-- the same of a value that is seen in another way
pub same-stops : {A B : Type 0} {near : A → Type 0} {near_words : A → List ℕ} {far : B → Type 0} {far_words : B → List ℕ} {old new : List ℕ}
    → SameTexts near near_words far far_words → Stops near near_words old new → Stops far far_words old new
same-stops {A} {B} {near} {near_words} {far} {far_words} {old} {new} s t = record {
  read = t.read;
  text = t.text;
  some = s.to t.some;
  some_fits = s.to_fits t.some t.some_fits;
  next = t.next;
  missing = t.missing;
  begins = s.to_numbers t.some t.some_fits ∙ t.begins;
  stuck = λ n after e v fits x y same.
      let a = s.whole v fits in t.stuck n after e a.0 a.1 x y (ap (λ (l : List ℕ). l ++ x) (whole-numbers s v fits) ∙ same);
}

pub same-reads : {A B : Type 0} {near : A → Type 0} {near_words : A → List ℕ} {far : B → Type 0} {far_words : B → List ℕ} {old new : List ℕ} {a : A}
    → (s : SameTexts near near_words far far_words) → Reads near near_words old new a → Reads far far_words old new (s.to a)
same-reads {A} {B} {near} {near_words} {far} {far_words} {old} {new} {a} s r =
    record { fits = s.to_fits a r.fits; text = r.text ∙ ap (λ (l : List ℕ). line_text l ++ new) (sym (s.to_numbers a r.fits)) }

-- values that are their own data: a list of them, and one that may be absent
pub own-items : {A : Type 0} {within : List A → Type 0} {words : List A → List ℕ} {old new : List ℕ} (xs : List A)
    → Reads within words old new (map (λ x. x) xs) → Reads within words old new xs
own-items {A} {within} {words} {old} {new} xs r = subst (λ (l : List A). Reads within words old new l) (map-id xs) r

pub own-option : {A : Type 0} {within : Option A → Type 0} {words : Option A → List ℕ} {old new : List ℕ} (o : Option A)
    → Reads within words old new (option_map (λ x. x) o) → Reads within words old new o
own-option {A} {within} {words} {old} {new} o r = subst (λ (l : Option A). Reads within words old new l) (option_map_id o) r
