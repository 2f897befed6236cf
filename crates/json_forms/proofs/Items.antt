-- Lists of values of JSON beside the lists that are read off them.
use Rattle.std.proofs.Common.{◌≡◌, ◌≤◌, Bool, true, false, ◌&&◌, if◌then◌else◌, nat_le, map-id, ℕ, List, [], ◌∷◌, ◌++◌, length, map, Option, None, Some, option_map, option_and_then, refl, sym, ap, ◌∙◌, subst, arith, append_assoc, append-nil}
use Rattle.std.proofs.lemmas.Bool.{leb-true}
use Rattle.p3_field.specs.declared.baby_bear.BabyBear.{BabyBear}
use Rattle.tool_lines.specs.Texts.{Between}
use Rattle.serde_json.specs.Data.{Data, item}
use Rattle.serde_json.specs.Find.{as_array}
use Rattle.serde_json.specs.Events.{items_len}
use Rattle.serde_json.proofs.Views.{items_len-items_view}
use Rattle.serde_json.specs.View.{view, items_of, items_view}
use Rattle.serde_json.specs.declared.value.Value.{Value}
use Rattle.json_forms.specs.Trees.{items_tree}
use Rattle.json_forms.specs.Readings.{if_between, items_reading, list_reading, element_reading}
use Rattle.json_forms.specs.Laws.Forms.{if_between-within, list-form, element-form}

pub items_of_mapped : {V A : Type 0} (tree : A → Data) (data_of : V → A) (xs : List V) → items_of (map (λ v. tree (data_of v)) xs) ≡ items_tree tree (map data_of xs)
items_of_mapped tree data_of [] = refl
items_of_mapped tree data_of (x ∷ xs) = ap (item (tree (data_of x))) (items_of_mapped tree data_of xs)

one-more : {V A : Type 0} (data_of : V → A) (xs : List V) (v : V) (rest : Option (List A))
    → option_map (λ ys. map data_of xs ++ ys) (option_map (λ ys. data_of v ∷ ys) rest) ≡ option_map (λ ys. map data_of (xs ++ v ∷ []) ++ ys) rest
one-more data_of xs v None = refl
one-more {V} {A} data_of xs v (Some ys) = ap Some (sym (ap (λ (zs : List A). zs ++ ys) (pushed xs) ∙ append_assoc (map data_of xs) (data_of v ∷ []) ys))
  where
    pushed : (us : List V) → map data_of (us ++ v ∷ []) ≡ map data_of us ++ data_of v ∷ []
    pushed [] = refl
    pushed (u ∷ us) = ap (λ (zs : List A). data_of u ∷ zs) (pushed us)

-- the list so far, one value more
pub reading_grows : {V A : Type 0} (reading : Data → Option A) (data_of : V → A) (whole : Option (List A)) (xs : List V) (left more : List Value) (x : Value) (v : V)
    → whole ≡ option_map (λ ys. map data_of xs ++ ys) (items_reading reading (items_view left)) → left ≡ x ∷ more → reading (view x) ≡ Some (data_of v)
    → whole ≡ option_map (λ ys. map data_of (xs ++ v ∷ []) ++ ys) (items_reading reading (items_view more))
reading_grows {V} {A} reading data_of whole xs left more x v so_far front one =
    so_far
    ∙ (ap (λ (l : List Value). option_map (λ ys. map data_of xs ++ ys) (items_reading reading (items_view l))) front
    ∙ (ap (λ (o : Option A). option_map (λ ys. map data_of xs ++ ys) (option_and_then (λ a. option_map (λ more_read. a ∷ more_read) (items_reading reading (items_view more))) o)) one
    ∙ one-more data_of xs v (items_reading reading (items_view more))))

-- what can't be read
pub reading_stops : {V A : Type 0} (reading : Data → Option A) (data_of : V → A) (whole : Option (List A)) (xs : List V) (left more : List Value) (x : Value)
    → whole ≡ option_map (λ ys. map data_of xs ++ ys) (items_reading reading (items_view left)) → left ≡ x ∷ more → reading (view x) ≡ None → whole ≡ None
reading_stops {V} {A} reading data_of whole xs left more x so_far front none =
    so_far
    ∙ (ap (λ (l : List Value). option_map (λ ys. map data_of xs ++ ys) (items_reading reading (items_view l))) front
    ∙ ap (λ (o : Option A). option_map (λ ys. map data_of xs ++ ys) (option_and_then (λ a. option_map (λ more_read. a ∷ more_read) (items_reading reading (items_view more))) o)) none)

-- the end
pub reading_ends : {V A : Type 0} (reading : Data → Option A) (data_of : V → A) (whole : Option (List A)) (xs : List V) (left : List Value)
    → whole ≡ option_map (λ ys. map data_of xs ++ ys) (items_reading reading (items_view left)) → left ≡ [] → whole ≡ Some (map data_of xs)
reading_ends {V} {A} reading data_of whole xs left so_far none =
    so_far ∙ (ap (λ (l : List Value). option_map (λ ys. map data_of xs ++ ys) (items_reading reading (items_view l))) none ∙ ap Some (append-nil (map data_of xs)))

-- the beginning
pub reading_begins : {V A : Type 0} (data_of : V → A) (whole : Option (List A)) → whole ≡ option_map (λ ys. map data_of [] ++ ys) whole
reading_begins data_of None = refl
reading_begins data_of (Some ys) = refl

-- a list of a length within the bounds, and of one that isn't
pub list_read : {A : Type 0} (reading : Data → Option A) (least most : ℕ) (d : Data) (vs : List Value) (o : Option (List A)) → as_array d ≡ Some (items_view vs) → least ≤ length vs → length vs ≤ most
    → items_reading reading (items_view vs) ≡ o → list_reading least most reading d ≡ o
list_read {A} reading least most d vs o e low high is =
    ap (option_and_then (λ ds. if_between least most (items_len ds) (items_reading reading ds))) e
    ∙ (if_between-within least most (items_len (items_view vs)) (items_reading reading (items_view vs)) (subst (λ (n : ℕ). Between least most n) (sym (items_len-items_view vs)) (low, high)) ∙ is)

not-between-at : {A : Type 0} (least most n : ℕ) (o : Option A) (a b : Bool) → nat_le least n ≡ a → nat_le n most ≡ b → (Between least most n → ⊥) → (if a && b then o else None) ≡ None
not-between-at least most n o true true p q apart = absurd (apart (leb-true least n p, leb-true n most q))
not-between-at least most n o true false p q apart = refl
not-between-at least most n o false b p q apart = refl

pub list_not_read : {A : Type 0} (reading : Data → Option A) (least most : ℕ) (d : Data) (vs : List Value) → as_array d ≡ Some (items_view vs) → (Between least most (length vs) → ⊥)
    → list_reading least most reading d ≡ None
list_not_read {A} reading least most d vs e apart =
    let n = items_len (items_view vs) in
    ap (option_and_then (λ ds. if_between least most (items_len ds) (items_reading reading ds))) e
    ∙ not-between-at least most n (items_reading reading (items_view vs)) (nat_le least n) (nat_le n most) refl refl (λ h. apart (subst (λ (k : ℕ). Between least most k) (items_len-items_view vs) h))

-- four elements that were read
pub four_long : (xs : List BabyBear) (d : Data) → list_reading 4 4 element_reading d ≡ Some (map (λ x. x) xs) → length xs ≡ 4
four_long xs d e =
    let fits = ((list-form 4 4 element-form).forth d (map (λ x. x) xs) e).0.0 in
    let same : length (map (λ x. x) xs) ≡ length xs = ap length (map-id xs) in
    omega (arith, fits.0, fits.1, same)
