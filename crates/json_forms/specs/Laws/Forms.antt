-- The forms of parts, and of what is made of parts.
use Rattle.std.specs.Prelude.{◌≡◌, ℕ, suc, ◌<◌, ◌%◌, List, [], ◌∷◌, length, All, Option, None, Some, option_map, option_and_then, nat_le, ◌&&◌, if◌then◌else◌, bytes_eq, Bool, true, false, refl}
use Rattle.std.proofs.Common.{sym, ap, ap₂, subst, ◌∙◌, arith}
use Rattle.std.proofs.lemmas.Bool.{leb-true, le-leb}
use Rattle.std.proofs.lemmas.List.Elements.{All-cons}
use Rattle.std.proofs.lemmas.Slice.Eq.{bytes_eq-Decides}
use Rattle.tool_lines.specs.Texts.{Between, Unlimited, ListWithin, OptionWithin}
use Rattle.p3_field.specs.BabyBear.{reduce}
use Rattle.p3_field.specs.Laws.BabyBearLaws.{same_baby_bear}
use Rattle.p3_field.specs.declared.baby_bear.BabyBear.{BabyBear}
use Rattle.serde_json.specs.Data.{Data, null, boolean, number, string, array, object, Num, unsigned, negative, float, Items, no_items, item, Members, no_members, member}
use Rattle.serde_json.specs.Events.{items_len}
use Rattle.serde_json.specs.Find.{as_number, as_u64, as_array, as_object}
use Rattle.json_forms.specs.Trees.{number_tree, items_tree, list_tree, option_tree, element_tree}
use Rattle.json_forms.specs.Readings.{if_between, number_reading, items_reading, list_reading, option_reading, element_reading, MembersReading, member_reading, then_reading, if_last, object_reading, TreeForm, MembersForm}

-- what an option was made of
pub and_then-inside : {A B : Type 0} (f : A → Option B) (o : Option A) (y : B) → option_and_then f o ≡ Some y → (x : A) × (o ≡ Some x) × (f x ≡ Some y)
and_then-inside f None y e = absurd (cc)
and_then-inside f (Some x) y e = (x, refl, e)

pub map-inside : {A B : Type 0} (f : A → B) (o : Option A) (y : B) → option_map f o ≡ Some y → (x : A) × (o ≡ Some x) × (f x ≡ y)
map-inside f None y e = absurd (cc)
map-inside f (Some x) y e = (x, refl, cc)

if_between-at : {A : Type 0} (a b : Bool) (o : Option A) (y : A) → (if a && b then o else None) ≡ Some y → (a ≡ true) × (b ≡ true) × (o ≡ Some y)
if_between-at true true o y e = (refl, refl, e)
if_between-at true false o y e = absurd (cc)
if_between-at false b o y e = absurd (cc)

pub if_between-inside : {A : Type 0} (least most n : ℕ) (o : Option A) (y : A) → if_between least most n o ≡ Some y → Between least most n × (o ≡ Some y)
if_between-inside least most n o y e =
    let h = if_between-at (nat_le least n) (nat_le n most) o y e in
    ((leb-true least n h.0, leb-true n most h.1), h.2)

pub if_between-within : {A : Type 0} (least most n : ℕ) (o : Option A) → Between least most n → if_between least most n o ≡ o
if_between-within least most n o fits = rw (le-leb least n fits.0, le-leb n most fits.1) refl

pub some-same : {A : Type 0} (x y : A) → Some x ≡ Some y → x ≡ y
some-same x y e = cc

-- which tree an unsigned number, an array and an object are read off
u64-at : (n : Num) (m : ℕ) → as_u64 n ≡ Some m → number (unsigned m) ≡ number n
u64-at (unsigned n) m e = ap number_tree (sym (some-same n m e))
u64-at (negative z) m e = absurd (cc)
u64-at (float x) m e = absurd (cc)

pub u64-inside : (d : Data) (m : ℕ) → option_and_then as_u64 (as_number d) ≡ Some m → number_tree m ≡ d
u64-inside null m e = absurd (cc)
u64-inside (boolean b) m e = absurd (cc)
u64-inside (number n) m e = u64-at n m e
u64-inside (string s) m e = absurd (cc)
u64-inside (array ds) m e = absurd (cc)
u64-inside (object ms) m e = absurd (cc)

pub array-inside : (d : Data) (ds : Items) → as_array d ≡ Some ds → array ds ≡ d
array-inside null ds e = absurd (cc)
array-inside (boolean b) ds e = absurd (cc)
array-inside (number n) ds e = absurd (cc)
array-inside (string s) ds e = absurd (cc)
array-inside (array es) ds e = ap array (sym (some-same es ds e))
array-inside (object ms) ds e = absurd (cc)

pub object-inside : (d : Data) (ms : Members) → as_object d ≡ Some ms → object ms ≡ d
object-inside null ms e = absurd (cc)
object-inside (boolean b) ms e = absurd (cc)
object-inside (number n) ms e = absurd (cc)
object-inside (string s) ms e = absurd (cc)
object-inside (array ds) ms e = absurd (cc)
object-inside (object ns) ms e = ap object (sym (some-same ns ms e))

-- a number of a range
pub number-form : (least most : ℕ) → TreeForm (Between least most) number_tree (number_reading least most)
number-form least most = record {
  back = λ n fits. if_between-within least most n (Some n) fits;
  forth = λ d n e.
      let inner = and_then-inside (λ m. if_between least most m (Some m)) (option_and_then as_u64 (as_number d)) n e in
      let h = if_between-inside least most inner.0 (Some inner.0) n inner.2 in
      let same : inner.0 ≡ n = some-same inner.0 n h.1 in
      (subst (λ (k : ℕ). Between least most k) same h.0, ap number_tree (sym same) ∙ u64-inside d inner.0 inner.1);
}

mod-small : (a : ℕ) → a < 2013265921 → a % 2013265921 ≡ a
mod-small a h = omega (arith, h)

-- a field element
reduced : (x : BabyBear) → reduce x.value ≡ x
reduced x = same_baby_bear (reduce x.value) x (mod-small x.value x.in_range)

pub element-form : TreeForm Unlimited element_tree element_reading
element-form = record {
  back = λ x fits. ap (option_map reduce) ((number-form 0 2013265920).back x.value (let h = x.in_range in (omega arith, omega (arith, h)))) ∙ ap Some (reduced x);
  forth = λ d x e.
      let inner = map-inside reduce (number_reading 0 2013265920 d) x e in
      let h = (number-form 0 2013265920).forth d inner.0 inner.1 in
      let below = h.0.1 in
      (tt, ap element_tree (sym inner.2) ∙ (ap number_tree (mod-small inner.0 (omega (arith, below))) ∙ h.1));
}

-- a list
pub items_len-items_tree : {A : Type 0} (tree : A → Data) (xs : List A) → items_len (items_tree tree xs) ≡ length xs
items_len-items_tree tree [] = refl
items_len-items_tree tree (x ∷ xs) = ap suc (items_len-items_tree tree xs)

pub items-back : {A : Type 0} {within : A → Type 0} {tree : A → Data} {reading : Data → Option A} → TreeForm within tree reading → (xs : List A) → All within xs
    → items_reading reading (items_tree tree xs) ≡ Some xs
items-back f [] fits = refl
items-back {A} {within} {tree} {reading} f (x ∷ xs) fits =
    rw (f.back x (fits 0 x (omega arith)), items-back f xs (λ k d q. fits (suc k) d (omega arith))) refl

none-within : {A : Type 0} (within : A → Type 0) → All within []
none-within within k d h = absurd (omega (arith, h))

pub items-forth : {A : Type 0} {within : A → Type 0} {tree : A → Data} {reading : Data → Option A} → TreeForm within tree reading → (ds : Items) (xs : List A)
    → items_reading reading ds ≡ Some xs → All within xs × (items_tree tree xs ≡ ds)
items-forth {A} {within} {tree} {reading} f no_items xs e =
    subst (λ (ys : List A). All within ys × (items_tree tree ys ≡ no_items)) (some-same [] xs e) (none-within within, refl)
items-forth {A} {within} {tree} {reading} f (item d ds) xs e =
    let first = and_then-inside (λ x. option_map (λ ys. x ∷ ys) (items_reading reading ds)) (reading d) xs e in
    let more = map-inside (λ ys. first.0 ∷ ys) (items_reading reading ds) xs first.2 in
    let one = f.forth d first.0 first.1 in
    let rest = items-forth f ds more.0 more.1 in
    subst (λ (ys : List A). All within ys × (items_tree tree ys ≡ item d ds)) more.2
    (All-cons within first.0 more.0 one.0 rest.0, ap₂ item one.1 rest.1)

pub list-form : {A : Type 0} {within : A → Type 0} {tree : A → Data} {reading : Data → Option A} (least most : ℕ) → TreeForm within tree reading
    → TreeForm (ListWithin least most within) (list_tree tree) (list_reading least most reading)
list-form {A} {within} {tree} {reading} least most f = record {
  back = λ xs fits.
      if_between-within least most (items_len (items_tree tree xs)) (items_reading reading (items_tree tree xs))
      (subst (λ (n : ℕ). Between least most n) (sym (items_len-items_tree tree xs)) fits.0)
      ∙ items-back f xs fits.1;
  forth = λ d xs e.
      let inner = and_then-inside (λ ds. if_between least most (items_len ds) (items_reading reading ds)) (as_array d) xs e in
      let h = if_between-inside least most (items_len inner.0) (items_reading reading inner.0) xs inner.2 in
      let items = items-forth f inner.0 xs h.1 in
      let count : items_len inner.0 ≡ length xs = ap items_len (sym items.1) ∙ items_len-items_tree tree xs in
      ((subst (λ (n : ℕ). Between least most n) count h.0, items.0), ap array items.1 ∙ array-inside d inner.0 inner.1);
}

-- a value that may be absent, of a form in which null is none
option-at : {A : Type 0} (reading : Data → Option A) → reading null ≡ None → (d : Data) (x : A) → reading d ≡ Some x → option_reading reading d ≡ Some (Some x)
option-at reading solid null x e = absurd (cc)
option-at reading solid (boolean b) x e = ap (option_map Some) e
option-at reading solid (number n) x e = ap (option_map Some) e
option-at reading solid (string s) x e = ap (option_map Some) e
option-at reading solid (array ds) x e = ap (option_map Some) e
option-at reading solid (object ms) x e = ap (option_map Some) e

option-present : {A : Type 0} {within : A → Type 0} {tree : A → Data} {reading : Data → Option A} → TreeForm within tree reading → (d : Data) (y : Option A)
    → option_map Some (reading d) ≡ Some y → OptionWithin within y × (option_tree tree y ≡ d)
option-present {A} {within} {tree} {reading} f d y e =
    let inner = map-inside Some (reading d) y e in
    let h = f.forth d inner.0 inner.1 in
    subst (λ (z : Option A). OptionWithin within z × (option_tree tree z ≡ d)) inner.2 h

option-forth : {A : Type 0} {within : A → Type 0} {tree : A → Data} {reading : Data → Option A} → TreeForm within tree reading → (d : Data) (y : Option A)
    → option_reading reading d ≡ Some y → OptionWithin within y × (option_tree tree y ≡ d)
option-forth {A} {within} {tree} {reading} f null y e = subst (λ (z : Option A). OptionWithin within z × (option_tree tree z ≡ null)) (some-same None y e) (tt, refl)
option-forth f (boolean b) y e = option-present f (boolean b) y e
option-forth f (number n) y e = option-present f (number n) y e
option-forth f (string s) y e = option-present f (string s) y e
option-forth f (array ds) y e = option-present f (array ds) y e
option-forth f (object ms) y e = option-present f (object ms) y e

option-back : {A : Type 0} {within : A → Type 0} {tree : A → Data} {reading : Data → Option A} → reading null ≡ None → TreeForm within tree reading → (y : Option A)
    → OptionWithin within y → option_reading reading (option_tree tree y) ≡ Some y
option-back solid f None fits = refl
option-back {A} {within} {tree} {reading} solid f (Some x) fits = option-at reading solid (tree x) x (f.back x fits)

pub option-form : {A : Type 0} {within : A → Type 0} {tree : A → Data} {reading : Data → Option A} → reading null ≡ None → TreeForm within tree reading
    → TreeForm (OptionWithin within) (option_tree tree) (option_reading reading)
option-form solid f = record { back = λ y fits. option-back solid f y fits; forth = λ d y e. option-forth f d y e }

-- a member, members, and an object
abbrev pub member_of : {A : Type 0} → List ℕ → (A → Data) → A → Members → Members
member_of key tree x ms = member key (tree x) ms

same-key : (key : List ℕ) → bytes_eq key key ≡ true
same-key key = (bytes_eq-Decides key key).1 refl

member-at : {A : Type 0} (b : Bool) (o : Option (A × Members)) (y : A × Members) → (if b then o else None) ≡ Some y → (b ≡ true) × (o ≡ Some y)
member-at true o y e = (refl, e)
member-at false o y e = absurd (cc)

member-forth : {A : Type 0} {within : A → Type 0} {tree : A → Data} {reading : Data → Option A} (key : List ℕ) → TreeForm within tree reading
    → (ms : Members) (x : A) (rest : Members) → member_reading key reading ms ≡ Some (x, rest) → within x × (member key (tree x) rest ≡ ms)
member-forth key f no_members x rest e = absurd (cc)
member-forth {A} {within} {tree} {reading} key f (member k d ms) x rest e =
    let h = member-at (bytes_eq k key) (option_map (λ y. (y, ms)) (reading d)) (x, rest) e in
    let inner = map-inside (λ y. (y, ms)) (reading d) (x, rest) h.1 in
    let here : inner.0 ≡ x = ap (λ (p : A × Members). p.0) inner.2 in
    let after : ms ≡ rest = ap (λ (p : A × Members). p.1) inner.2 in
    let one = f.forth d inner.0 inner.1 in
    let named : k ≡ key = (bytes_eq-Decides k key).0 h.0 in (
      subst (λ (y : A). within y) here one.0,
      ap (λ (s : List ℕ). member s (tree x) rest) (sym named) ∙ (ap (λ (y : A). member k (tree y) rest) (sym here) ∙ (ap (λ (t : Data). member k t rest) one.1 ∙ ap (λ (m : Members). member k d m) (sym after))),
    )

pub member-form : {A : Type 0} {within : A → Type 0} {tree : A → Data} {reading : Data → Option A} (key : List ℕ) → TreeForm within tree reading
    → MembersForm within (member_of key tree) (member_reading key reading)
member-form {A} {within} {tree} {reading} key f = record {
  back = λ x ms fits. rw (same-key key, f.back x fits) refl;
  forth = λ ms x rest e. member-forth key f ms x rest e;
}

abbrev pub BothWithin : {A B : Type 0} → (A → Type 0) → (B → Type 0) → A × B → Type 0
BothWithin first second p = first p.0 × second p.1

abbrev pub then_members : {A B : Type 0} → (A → Members → Members) → (B → Members → Members) → A × B → Members → Members
then_members first second p ms = first p.0 (second p.1 ms)

pub then-form : {A B : Type 0} {first : A → Type 0} {first_members : A → Members → Members} {first_reading : MembersReading A} {second : B → Type 0}
    {second_members : B → Members → Members} {second_reading : MembersReading B}
    → MembersForm first first_members first_reading → MembersForm second second_members second_reading
    → MembersForm (BothWithin first second) (then_members first_members second_members) (then_reading first_reading second_reading)
then-form {A} {B} {first} {first_members} {first_reading} {second} {second_members} {second_reading} f g = record {
  back = λ p ms fits. rw (f.back p.0 (second_members p.1 ms) fits.0, g.back p.1 ms fits.1) refl;
  forth = λ ms p rest e.
      let one = and_then-inside (λ a. option_map (λ q. ((a.0, q.0), q.1)) (second_reading a.1)) (first_reading ms) (p, rest) e in
      let two = map-inside (λ q. ((one.0.0, q.0), q.1)) (second_reading one.0.1) (p, rest) one.2 in
      let a : one.0.0 ≡ p.0 = ap (λ (t : (A × B) × Members). t.0.0) two.2 in
      let b : two.0.0 ≡ p.1 = ap (λ (t : (A × B) × Members). t.0.1) two.2 in
      let c : two.0.1 ≡ rest = ap (λ (t : (A × B) × Members). t.1) two.2 in
      let h = f.forth ms one.0.0 one.0.1 one.1 in
      let k = g.forth one.0.1 two.0.0 two.0.1 two.1 in (
        (subst (λ (x : A). first x) a h.0, subst (λ (y : B). second y) b k.0),
        ap (λ (x : A). first_members x (second_members p.1 rest)) (sym a)
            ∙ (ap (λ (y : B). first_members one.0.0 (second_members y rest)) (sym b)
            ∙ (ap (λ (m : Members). first_members one.0.0 (second_members two.0.0 m)) (sym c) ∙ (ap (λ (m : Members). first_members one.0.0 m) k.1 ∙ h.1))),
      );
}

last-inside : {A : Type 0} (x y : A) (ms : Members) → if_last x ms ≡ Some y → (x ≡ y) × (ms ≡ no_members)
last-inside x y no_members e = (some-same x y e, refl)
last-inside x y (member k d ms) e = absurd (cc)

abbrev pub object_tree : {A : Type 0} → (A → Members → Members) → A → Data
object_tree members x = object (members x no_members)

pub object-form : {A : Type 0} {within : A → Type 0} {members : A → Members → Members} {reading : MembersReading A} → MembersForm within members reading
    → TreeForm within (object_tree members) (object_reading reading)
object-form {A} {within} {members} {reading} f = record {
  back = λ x fits. rw (f.back x no_members fits) refl;
  forth = λ d x e.
      let whole = and_then-inside (λ p. if_last p.0 p.1) (option_and_then reading (as_object d)) x e in
      let last = last-inside whole.0.0 x whole.0.1 whole.2 in
      let seen = and_then-inside reading (as_object d) whole.0 whole.1 in
      let h = f.forth seen.0 whole.0.0 whole.0.1 seen.2 in (
        subst (λ (y : A). within y) last.0 h.0,
        ap (λ (y : A). object (members y no_members)) (sym last.0)
            ∙ (ap (λ (m : Members). object (members whole.0.0 m)) (sym last.1) ∙ (ap object h.1 ∙ object-inside d seen.0 seen.1)),
      );
}

-- Two ways to see one value, with the same limits and the same tree: each value on the far side is one on the near side.
pub record SameTrees {A B : Type 0} (near : A → Type 0) (near_tree : A → Data) (far : B → Type 0) (far_tree : B → Data) : Type 0 where
  pub to : A → B
  pub to_fits : (a : A) → near a → far (to a)
  pub to_tree : (a : A) → near a → far_tree (to a) ≡ near_tree a
  pub whole : (b : B) → far b → (a : A) × near a × (to a ≡ b)

pub same-form : {A B : Type 0} {near : A → Type 0} {near_tree : A → Data} {far : B → Type 0} {far_tree : B → Data} {reading : Data → Option A}
    → (s : SameTrees near near_tree far far_tree) → TreeForm near near_tree reading → TreeForm far far_tree (λ d. option_map s.to (reading d))
same-form {A} {B} {near} {near_tree} {far} {far_tree} {reading} s f = record {
  back = λ b fits.
      let t = s.whole b fits in
      let seen : far_tree b ≡ near_tree t.0 = ap far_tree (sym t.2) ∙ s.to_tree t.0 t.1 in
      ap (λ (d : Data). option_map s.to (reading d)) seen ∙ (ap (option_map s.to) (f.back t.0 t.1) ∙ ap Some t.2);
  forth = λ d b e.
      let inner = map-inside s.to (reading d) b e in
      let h = f.forth d inner.0 inner.1 in
      (subst (λ (c : B). far c) inner.2 (s.to_fits inner.0 h.0), ap far_tree (sym inner.2) ∙ (s.to_tree inner.0 h.0 ∙ h.1));
}

-- trees tell their values, and what is no value's tree isn't read
pub trees-tell : {A : Type 0} {within : A → Type 0} {tree : A → Data} {reading : Data → Option A} → TreeForm within tree reading → (x y : A) → within x → within y
    → tree x ≡ tree y → x ≡ y
trees-tell {A} {within} {tree} {reading} f x y p q e = some-same x y (sym (f.back x p) ∙ (ap reading e ∙ f.back y q))

pub none-read : {A : Type 0} {within : A → Type 0} {tree : A → Data} {reading : Data → Option A} → TreeForm within tree reading → (d : Data) → reading d ≡ None
    → (x : A) → within x → tree x ≡ d → ⊥
none-read {A} {within} {tree} {reading} f d e x fits same =
    let t : Some x ≡ None = sym (f.back x fits) ∙ (ap reading same ∙ e) in cc
