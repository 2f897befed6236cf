-- Which value a tree is, where it is one's.
use Rattle.std.specs.Prelude.{◌≡◌, ℕ, List, [], ◌∷◌, Bool, true, false, Option, None, Some, option_map, option_and_then, is_some, nat_le, ◌&&◌, if◌then◌else◌, bytes_eq}
use Rattle.std.specs.Prelude.{slice_index_or as get_or}
use Rattle.p3_field.specs.BabyBear.{reduce, baby_bear_ring}
use Rattle.p3_field.specs.declared.baby_bear.BabyBear.{BabyBear}
use Rattle.p3_field.specs.declared.quartic.QuarticExtension.{QuarticExtension}
use Rattle.serde_json.specs.Data.{Data, Items, no_items, item, Members, no_members, member}
use Rattle.serde_json.specs.Events.{items_len}
use Rattle.serde_json.specs.Find.{as_null, as_number, as_u64, as_str, as_array, as_object}

-- a number from `least` to `most`
abbrev pub if_between : {A : Type 0} → ℕ → ℕ → ℕ → Option A → Option A
if_between least most n found = if nat_le least n && nat_le n most then found else None

abbrev pub number_reading : ℕ → ℕ → Data → Option ℕ
number_reading least most d = option_and_then (λ n. if_between least most n (Some n)) (option_and_then as_u64 (as_number d))

-- an array of `least` to `most` items
abbrev pub items_reading : {A : Type 0} → (Data → Option A) → Items → Option (List A)
items_reading reading no_items = Some []
items_reading reading (item d ds) = option_and_then (λ x. option_map (λ xs. x ∷ xs) (items_reading reading ds)) (reading d)

abbrev pub list_reading : {A : Type 0} → ℕ → ℕ → (Data → Option A) → Data → Option (List A)
list_reading least most reading d = option_and_then (λ ds. if_between least most (items_len ds) (items_reading reading ds)) (as_array d)

-- null, or a value
abbrev pub option_reading : {A : Type 0} → (Data → Option A) → Data → Option (Option A)
option_reading reading d = if is_some (as_null d) then Some None else option_map Some (reading d)

-- a field element
abbrev pub element_reading : Data → Option BabyBear
element_reading d = option_map reduce (number_reading 0 2013265920 d)

-- an element of the extension: its four coefficients
abbrev pub extension_of : List BabyBear → QuarticExtension
extension_of xs = record {
  c0 = get_or xs 0 baby_bear_ring.zero;
  c1 = get_or xs 1 baby_bear_ring.zero;
  c2 = get_or xs 2 baby_bear_ring.zero;
  c3 = get_or xs 3 baby_bear_ring.zero;
}

abbrev pub extension_reading : Data → Option QuarticExtension
extension_reading d = option_map extension_of (list_reading 4 4 element_reading d)

-- a value that passes a test
abbrev pub kept_reading : {A : Type 0} → (A → Bool) → (Data → Option A) → Data → Option A
kept_reading test reading d = option_and_then (λ x. if test x then Some x else None) (reading d)

-- one word
abbrev pub word_test : Bool → Option (Unit {0})
word_test true = Some tt
word_test false = None

abbrev pub word_reading : List ℕ → Data → Option (Unit {0})
word_reading word d = option_and_then (λ s. word_test (bytes_eq s word)) (as_str d)

-- the members of an object, one after the other: a value, and the members after it
abbrev pub MembersReading : Type 0 → Type 0
MembersReading A = Members → Option (A × Members)

-- the member of this key
abbrev pub member_reading : {A : Type 0} → List ℕ → (Data → Option A) → MembersReading A
member_reading key reading no_members = None
member_reading key reading (member k d ms) = if bytes_eq k key then option_map (λ x. (x, ms)) (reading d) else None

-- members, and those after them
abbrev pub then_reading : {A B : Type 0} → MembersReading A → MembersReading B → MembersReading (A × B)
then_reading first second ms = option_and_then (λ p. option_map (λ q. ((p.0, q.0), q.1)) (second p.1)) (first ms)

-- the value, where no member is left
abbrev pub if_last : {A : Type 0} → A → Members → Option A
if_last x no_members = Some x
if_last x (member k d ms) = None

-- an object of these members alone
abbrev pub object_reading : {A : Type 0} → MembersReading A → Data → Option A
object_reading reading d = option_and_then (λ p. if_last p.0 p.1) (option_and_then reading (as_object d))

-- Values and their trees, and which value a tree is: each value within the limits is read off its tree, and what is read has that tree.
pub record TreeForm {A : Type 0} (within : A → Type 0) (tree : A → Data) (reading : Data → Option A) : Type 0 where
  pub back : (x : A) → within x → reading (tree x) ≡ Some x
  pub forth : (d : Data) (x : A) → reading d ≡ Some x → within x × (tree x ≡ d)

-- the same of members, where `members x ms` are those of x and then ms
pub record MembersForm {A : Type 0} (within : A → Type 0) (members : A → Members → Members) (reading : MembersReading A) : Type 0 where
  pub back : (x : A) (ms : Members) → within x → reading (members x ms) ≡ Some (x, ms)
  pub forth : (ms : Members) (x : A) (rest : Members) → reading ms ≡ Some (x, rest) → within x × (members x rest ≡ ms)
