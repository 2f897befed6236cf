-- The tests of widths tell whether all tuples on one bus have one width.
use Rattle.std.proofs.Common.{◌≡◌, ◌≢◌, ℕ, ◌<◌, Bool, true, not, ◌&&◌, List, [], ◌∷◌, ◌++◌, length, get_or, map, inl, inr, refl, sym, ◌∙◌, ap, subst, arith}
use Rattle.std.specs.Prelude.{◌==◌, ◌↔◌, All, IsTrue, flat_map}
use Rattle.std.specs.List.{list_all}
use Rattle.std.specs.Cmp.Lexicographic.{bytes_decides}
use Rattle.std.proofs.lemmas.Bool.{and_parts, and_from, or_cases, or_left, or_right, not-true, not_from_false, eqb-true, eq-eqb, cases_Bool, cases_eq}
use Rattle.std.proofs.lemmas.List.{length-map, map-append, get_or-map}
use Rattle.std.proofs.lemmas.List.Folds.{list_all-append, list_all-map}
use Rattle.std.proofs.lemmas.List.Sums.{AllPass-from_list_all, list_all-from_AllPass}
use Rattle.std.proofs.lemmas.List.Elements.{All-from_get_or}
use Rattle.air_core.specs.declared.node.Node.{Node}
use Rattle.air_core.specs.Symbolic.{tree_of}
use Rattle.air_core.specs.Tree.{Tree, Bus, local, global}
use Rattle.p3_lookup.specs.Lookup.{LookupData}
use Rattle.p3_lookup.specs.Bus.{HaveOneWidth, bus_number}
use Rattle.p3_lookup.specs.Packing.{same_name}
use Rattle.p3_lookup.specs.Written.{Written, read, read_all}
use Rattle.p3_lookup.specs.Laws.Buses.{shares_by_name}
use Rattle.batch_statement.specs.Fitting.{tuples_agree, widths_agree, agree, agrees_with, fits_among, have_one_width}

-- each tuple of the second lookup has the width of each of the first
abbrev Agree : {F : Type 0} → LookupData F → LookupData F → Type 0
Agree a b = All (λ s. All (λ t. length t ≡ length s) b.tuples) a.tuples

-- a lookup that stands past the end of a list and is never read
abbrev none : {F : Type 0} → Written F
none = record { bus = local; elements = []; multiplicities = [] }

trees_long : {F : Type 0} (ts : List (List (List (Node F)))) (i : ℕ) (d : List (Tree F)) → i < length ts
    → length (get_or (map (map tree_of) ts) i d) ≡ length (get_or ts i [])
trees_long {F = F} ts i d h = ap length (get_or-map (map (tree_of {F = F})) ts i [] d h) ∙ length-map (get_or ts i []) (tree_of {F = F})

widths_told : {F : Type 0} (a b : Written F) → widths_agree a b ≡ true → Agree (read a) (read b)
widths_told {F = F} a b h i s lt j t lt-2 =
    let in-a : i < length a.elements = omega (arith, lt, length-map a.elements (map (tree_of {F = F}))) in
    let in-b : j < length b.elements = omega (arith, lt-2, length-map b.elements (map (tree_of {F = F}))) in
    let each = AllPass-from_list_all (λ x. list_all (λ y. length y == length x) b.elements) a.elements h i [] in-a in
    let one = AllPass-from_list_all (λ y. length y == length (get_or a.elements i [])) b.elements each j [] in-b in
    trees_long b.elements j t in-b ∙ eqb-true (length (get_or b.elements j [])) (length (get_or a.elements i [])) one ∙ sym (trees_long a.elements i s in-a)

widths_tested : {F : Type 0} (a b : Written F) → Agree (read a) (read b) → widths_agree a b ≡ true
widths_tested {F = F} a b h =
    list_all-from_AllPass (λ x. list_all (λ y. length y == length x) b.elements) a.elements
    (All-from_get_or (λ x. list_all (λ y. length y == length x) b.elements ≡ true) a.elements [] (λ i in-a.
    list_all-from_AllPass (λ y. length y == length (get_or a.elements i [])) b.elements
    (All-from_get_or (λ y. (length y == length (get_or a.elements i [])) ≡ true) b.elements [] (λ j in-b.
    let lt : i < length (map (map (tree_of {F = F})) a.elements) = omega (arith, in-a, length-map a.elements (map (tree_of {F = F}))) in
    let lt-2 : j < length (map (map (tree_of {F = F})) b.elements) = omega (arith, in-b, length-map b.elements (map (tree_of {F = F}))) in
    eq-eqb (length (get_or b.elements j [])) (length (get_or a.elements i []))
    (sym (trees_long b.elements j [] in-b) ∙ h i [] lt j [] lt-2 ∙ trees_long a.elements i [] in-a)))))

-- the same of lists that are given along a map
pub tuples_mapped : {X A : Type 0} (f : X → List A) (xs ys : List X) → tuples_agree (map f xs) (map f ys) ≡ list_all (λ x. list_all (λ y. length (f y) == length (f x)) ys) xs
tuples_mapped f [] ys = refl
tuples_mapped {X = X} {A = A} f (x ∷ xs) ys =
    ap (λ b. b && tuples_agree (map f xs) (map f ys)) (list_all-map (λ (y : List A). length y == length (f x)) f ys)
    ∙ ap (λ b. list_all (λ (y : X). length (f y) == length (f x)) ys && b) (tuples_mapped f xs ys)

-- both buses have one name
record AreNamed (a b : Bus) : Type 0 where
  name : List ℕ
  first : a ≡ global name
  second : b ≡ global name

named_from : (a b : Bus) → same_name a b ≡ true → AreNamed a b
named_from local b h = absurd (cc h)
named_from (global name) local h = absurd (cc h)
named_from (global name) (global other) h = record { name = name; first = refl; second = ap global (sym ((bytes_decides name other).0 h)) }

named_same : (a b : Bus) (name : List ℕ) → a ≡ global name → b ≡ global name → same_name a b ≡ true
named_same a b name e f = ap (λ x. same_name x b) e ∙ ap (same_name (global name)) f ∙ (bytes_decides name name).1 refl

-- a test of each item of each list is one of each item of all
all_joined : {X : Type 0} (p : X → Bool) (xss : List (List X)) → list_all (λ xs. list_all p xs) xss ≡ list_all p (flat_map (λ xs. xs) xss)
all_joined p [] = refl
all_joined p (xs ∷ xss) = ap (λ b. list_all p xs && b) (all_joined p xss) ∙ sym (list_all-append p xs (flat_map (λ ys. ys) xss))

read_joined : {F : Type 0} (wss : List (List (Written F))) → flat_map (λ ls. ls) (map read_all wss) ≡ read_all (flat_map (λ ws. ws) wss)
read_joined [] = refl
read_joined {F = F} (ws ∷ wss) = ap (λ ls. read_all ws ++ ls) (read_joined wss) ∙ sym (map-append (read {F = F}) ws (flat_map (λ vs. vs) wss))

abbrev buses : {F : Type 0} → List (Written F) → List Bus
buses ws = map (λ l. l.bus) (read_all ws)

buses_long : {F : Type 0} (ws : List (Written F)) → length (buses ws) ≡ length ws
buses_long {F = F} ws = length-map (read_all ws) (λ l. l.bus) ∙ length-map ws (read {F = F})

bus_at : {F : Type 0} (ws : List (Written F)) (i : ℕ) → i < length ws → get_or (buses ws) i local ≡ (get_or ws i none).bus
bus_at {F = F} ws i h =
    let lt : i < length (read_all ws) = omega (arith, h, length-map ws (read {F = F})) in
    get_or-map (λ l. l.bus) (read_all ws) i (read none) local lt ∙ ap (λ l. l.bus) (get_or-map (read {F = F}) ws i none (read none) h)

-- two different lookups with one bus have one name
one_name : {F : Type 0} (ws : List (Written F)) (i j : ℕ) → i < length ws → j < length ws → i ≢ j → bus_number (buses ws) i ≡ bus_number (buses ws) j
    → same_name (get_or ws i none).bus (get_or ws j none).bus ≡ true
one_name ws i j h k ne e =
    let in-i : i < length (buses ws) = omega (arith, h, buses_long ws) in
    let in-j : j < length (buses ws) = omega (arith, k, buses_long ws) in
    let named = (shares_by_name (buses ws) i j in-i in-j ne).0 e in
    named_same (get_or ws i none).bus (get_or ws j none).bus named.name (sym (bus_at ws i h) ∙ named.first) (sym (bus_at ws j k) ∙ named.second)

-- and lookups of one name have one bus
one_bus : {F : Type 0} (ws : List (Written F)) (i j : ℕ) → i < length ws → j < length ws → same_name (get_or ws i none).bus (get_or ws j none).bus ≡ true
    → bus_number (buses ws) i ≡ bus_number (buses ws) j
one_bus ws i j h k e =
    let in-i : i < length (buses ws) = omega (arith, h, buses_long ws) in
    let in-j : j < length (buses ws) = omega (arith, k, buses_long ws) in
    let named = named_from (get_or ws i none).bus (get_or ws j none).bus e in
    elim (cases_eq i j) [
      | inl same ↦ ap (bus_number (buses ws)) same
      | inr ne ↦ (shares_by_name (buses ws) i j in-i in-j ne).1 (record { name = named.name; first = bus_at ws i h ∙ named.first; second = bus_at ws j k ∙ named.second })
    ]

-- the tests pass exactly where all tuples on one bus have one width
told : {F : Type 0} (tables : List (List (Written F))) (ws : List (Written F)) → ws ≡ flat_map (λ vs. vs) tables → list_all (fits_among tables) ws ≡ true → HaveOneWidth (read_all ws)
told {F = F} tables ws joined h i j d lt lt-2 same =
    let in-i : i < length ws = omega (arith, lt, length-map ws (read {F = F})) in
    let in-j : j < length ws = omega (arith, lt-2, length-map ws (read {F = F})) in
    subst (λ x. Agree x (get_or (read_all ws) j d)) (sym (get_or-map (read {F = F}) ws i none d in-i))
    (subst (Agree (read (get_or ws i none))) (sym (get_or-map (read {F = F}) ws j none d in-j)) (here in-i in-j))
  where
    a : Written F
    a = get_or ws i none

    b : Written F
    b = get_or ws j none

    here : i < length ws → j < length ws → Agree (read a) (read b)
    here in-i in-j =
        let parts = and_parts (widths_agree a a) (agrees_with a tables) (AllPass-from_list_all (fits_among tables) ws h i none in-i) in
        let all : list_all (agree a) ws ≡ true = ap (list_all (agree a)) joined ∙ sym (all_joined (agree a) tables) ∙ parts.1 in
        let one = AllPass-from_list_all (agree a) ws all j none in-j in
        elim (cases_eq i j) [
          | inl e ↦ subst (λ k. Agree (read a) (read (get_or ws k none))) e (widths_told a a parts.0)
          | inr ne ↦ elim (or_cases (not (same_name a.bus b.bus)) (widths_agree a b) one) [
            | inl other ↦ absurd (cc (not-true (same_name a.bus b.bus) other, one_name ws i j in-i in-j ne same))
            | inr agreed ↦ widths_told a b agreed
          ]
        ]

tested : {F : Type 0} (tables : List (List (Written F))) (ws : List (Written F)) → ws ≡ flat_map (λ vs. vs) tables → HaveOneWidth (read_all ws) → list_all (fits_among tables) ws ≡ true
tested {F = F} tables ws joined h =
    list_all-from_AllPass (fits_among tables) ws (All-from_get_or (λ a. fits_among tables a ≡ true) ws none (λ i in-i.
    and_from (widths_agree (get_or ws i none) (get_or ws i none)) (agrees_with (get_or ws i none) tables)
    (widths_tested (get_or ws i none) (get_or ws i none) (at i i in-i in-i refl))
    (all_joined (agree (get_or ws i none)) tables ∙ ap (list_all (agree (get_or ws i none))) (sym joined) ∙ each i in-i)))
  where
    at : (i j : ℕ) → i < length ws → j < length ws → bus_number (buses ws) i ≡ bus_number (buses ws) j → Agree (read (get_or ws i none)) (read (get_or ws j none))
    at i j in-i in-j same =
        let lt : i < length (read_all ws) = omega (arith, in-i, length-map ws (read {F = F})) in
        let lt-2 : j < length (read_all ws) = omega (arith, in-j, length-map ws (read {F = F})) in
        subst (λ x. Agree x (read (get_or ws j none))) (get_or-map (read {F = F}) ws i none (read none) in-i)
        (subst (Agree (get_or (read_all ws) i (read none))) (get_or-map (read {F = F}) ws j none (read none) in-j) (h i j (read none) lt lt-2 same))

    one : (i j : ℕ) → i < length ws → j < length ws → agree (get_or ws i none) (get_or ws j none) ≡ true
    one i j in-i in-j =
        let a = get_or ws i none in
        let b = get_or ws j none in
        elim (cases_Bool (same_name a.bus b.bus)) [
          | inl named ↦ or_right (not (same_name a.bus b.bus)) (widths_agree a b) (widths_tested a b (at i j in-i in-j (one_bus ws i j in-i in-j named)))
          | inr other ↦ or_left (not (same_name a.bus b.bus)) (widths_agree a b) (not_from_false (same_name a.bus b.bus) other)
        ]

    each : (i : ℕ) → i < length ws → list_all (agree (get_or ws i none)) ws ≡ true
    each i in-i = list_all-from_AllPass (agree (get_or ws i none)) ws (All-from_get_or (λ b. agree (get_or ws i none) b ≡ true) ws none (λ j in-j. one i j in-i in-j))

pub have_one_width-means : {F : Type 0} (tables : List (List (Written F))) → IsTrue (have_one_width tables) ↔ HaveOneWidth (flat_map (λ ls. ls) (map read_all tables))
have_one_width-means {F = F} tables =
    let ws = flat_map (λ vs. vs) tables in
    let P : List (LookupData F) → Type 0 = λ ls. HaveOneWidth ls in (
      (λ h. subst P (sym (read_joined tables)) (told tables ws refl (sym (all_joined (fits_among tables) tables) ∙ h))),
      λ h. all_joined (fits_among tables) tables ∙ tested tables ws refl (subst P (read_joined tables) h),
    )
