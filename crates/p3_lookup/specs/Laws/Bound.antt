-- The loads of buses, lookup by lookup as the bound on multiplicities is checked.
use Rattle.std.proofs.Common.{◌≡◌, ℕ, zero, suc, ◌+◌, ◌-◌, ◌*◌, ◌^◌, ◌<◌, ◌≤◌, min, inl, inr, Bool, true, false, cond, not, ◌||◌, List, [], ◌∷◌, ◌++◌, length, get_or, map, take, drop, refl, sym, ◌∙◌, ap, subst, arith}
use Rattle.std.specs.Prelude.{◌==◌}
use Rattle.std.specs.Bool.{Decides}
use Rattle.std.specs.List.{list_any, position_or_len}
use Rattle.std.specs.Cmp.Lexicographic.{bytes_decides}
use Rattle.std.proofs.lemmas.Bool.{cases_lt, cases_eq, or_parts, false_from_ne_true}
use Rattle.std.proofs.lemmas.Bool.Decides.{same_from_decides, Decides-eqb, Decides-like}
use Rattle.std.proofs.lemmas.List.{length-append, length-map, get_or_append_left, get_or-append-add, get_or-map, take-append-le, take-map, drop_more}
use Rattle.std.proofs.lemmas.List.Folds.{list_any-append}
use Rattle.air_core.specs.Tree.{Bus, local, global}
use Rattle.p3_lookup.specs.Lookup.{LookupData}
use Rattle.p3_lookup.specs.Bus.{is_named, opener_of, opener, opened_below, bus_number, batch_buses, lookups_before, sum_of_bounds}
use Rattle.p3_lookup.specs.Packing.{same_name}
use Rattle.p3_lookup.specs.Bound.{batch_loads, load_where, bus_load, HaveLoadsBelow, capped, IsFirstOverload}
use Rattle.p3_lookup.specs.Loads.{is_named_among, named_load, named_loads, AreBoundedBelow}
use Rattle.p3_lookup.specs.Laws.Places.{place_after, bus_at, place_within}
use Rattle.p3_lookup.specs.Laws.Buses.{same_opens, opens_one, opens_none, opened_later, shares_by_name}

-- Lists one after another

any_map : {X Y : Type 0} (p : Y → Bool) (f : X → Y) (xs : List X) → list_any p (map f xs) ≡ list_any (λ x. p (f x)) xs
any_map p f [] = refl
any_map p f (x ∷ xs) = ap (λ b. p (f x) || b) (any_map p f xs)

any_same : {X : Type 0} (p q : X → Bool) → ((x : X) → p x ≡ q x) → (xs : List X) → list_any p xs ≡ list_any q xs
any_same p q h [] = refl
any_same p q h (x ∷ xs) = ap (λ b. b || list_any p xs) (h x) ∙ ap (λ b. q x || b) (any_same p q h xs)

take_past : {X : Type 0} (xs ys : List X) (n : ℕ) → take (length xs + n) (xs ++ ys) ≡ xs ++ take n ys
take_past [] ys n = let e : 0 + n ≡ n = omega arith in ap (λ k. take k ys) e
take_past (x ∷ xs) ys n =
    let e : suc (length xs) + n ≡ suc (length xs + n) = omega arith in
    ap (λ k. take k (x ∷ xs ++ ys)) e ∙ ap (λ l. x ∷ l) (take_past xs ys n)

or_assoc : (a b c : Bool) → (a || (b || c)) ≡ ((a || b) || c)
or_assoc true b c = refl
or_assoc false b c = refl

-- The loads of the lookups of a batch

pub length_loads : {F : Type 0} (tables : List (List (LookupData F))) (hs : List ℕ) → length hs ≡ length tables → length (batch_loads tables hs) ≡ length (batch_buses tables)
length_loads [] hs e = refl
length_loads (ls ∷ tables) [] e = absurd (omega (arith, e))
length_loads (ls ∷ tables) (h ∷ hs) e =
    omega (
      arith,
      length-append (map (λ l. sum_of_bounds l.counts * h) ls) (batch_loads tables hs),
      length-map ls (λ l. sum_of_bounds l.counts * h),
      length-append (map (λ l. l.bus) ls) (batch_buses tables),
      length-map ls (λ l. l.bus),
      length_loads tables hs (omega (arith, e)),
    )

pub load_at_place : {F : Type 0} (tables : List (List (LookupData F))) (hs : List ℕ) (t k : ℕ) (d : LookupData F) → t < length tables → length hs ≡ length tables → k < length (get_or tables t [])
    → get_or (batch_loads tables hs) (lookups_before tables t + k) 0 ≡ sum_of_bounds (get_or (get_or tables t []) k d).counts * get_or hs t 0
load_at_place [] hs t k d h e lt = absurd (omega (arith, h))
load_at_place (ls ∷ tables) [] t k d h e lt = absurd (omega (arith, e))
load_at_place (ls ∷ tables) (x ∷ hs) zero k d h e lt =
    let xs = map (λ l. sum_of_bounds l.counts * x) ls in
    let z : 0 + k ≡ k = omega arith in
    ap (λ j. get_or (xs ++ batch_loads tables hs) j 0) z
    ∙ get_or_append_left xs (batch_loads tables hs) 0 k (omega (arith, lt, length-map ls (λ l. sum_of_bounds l.counts * x)))
    ∙ get_or-map (λ l. sum_of_bounds l.counts * x) ls k d 0 lt
load_at_place (ls ∷ tables) (x ∷ hs) (suc t) k d h e lt =
    let xs = map (λ l. sum_of_bounds l.counts * x) ls in
    ap (λ j. get_or (xs ++ batch_loads tables hs) j 0) (place_after (length ls) (lookups_before tables t) k (length xs) (length-map ls (λ l. sum_of_bounds l.counts * x)))
    ∙ get_or-append-add xs (batch_loads tables hs) (lookups_before tables t + k) 0
    ∙ load_at_place tables hs t k d (omega (arith, h)) (omega (arith, e)) lt

-- Which lookup is the first on its bus

-- the name of a bus, among the lookups before a place
pub named_before : {F : Type 0} (b : Bus) (tables : List (List (LookupData F))) (t k : ℕ) → t < length tables → k ≤ length (get_or tables t [])
    → list_any (same_name b) (take (lookups_before tables t + k) (batch_buses tables)) ≡ (list_any (is_named_among b) (take t tables) || is_named_among b (take k (get_or tables t [])))
named_before b [] t k h le = absurd (omega (arith, h))
named_before b (ls ∷ tables) zero k h le =
    let bs = map (λ l. l.bus) ls in
    let e : 0 + k ≡ k = omega arith in
    ap (λ j. list_any (same_name b) (take j (bs ++ batch_buses tables))) e
    ∙ ap (list_any (same_name b)) (take-append-le k bs (batch_buses tables) (omega (arith, le, length-map ls (λ l. l.bus))) ∙ take-map (λ l. l.bus) k ls)
    ∙ any_map (same_name b) (λ l. l.bus) (take k ls)
named_before b (ls ∷ tables) (suc t) k h le =
    let bs = map (λ l. l.bus) ls in
    let m = lookups_before tables t in
    ap (λ j. list_any (same_name b) (take j (bs ++ batch_buses tables))) (place_after (length ls) m k (length bs) (length-map ls (λ l. l.bus)))
    ∙ ap (list_any (same_name b)) (take_past bs (batch_buses tables) (m + k))
    ∙ list_any-append (same_name b) bs (take (m + k) (batch_buses tables))
    ∙ ap (λ x. x || list_any (same_name b) (take (m + k) (batch_buses tables))) (any_map (same_name b) (λ l. l.bus) ls)
    ∙ ap (λ x. is_named_among b ls || x) (named_before b tables t k (omega (arith, h)) le)
    ∙ or_assoc (is_named_among b ls) (list_any (is_named_among b) (take t tables)) (is_named_among b (take k (get_or tables t [])))

-- the first that passes stands among those of which one passes
first_among : {X : Type 0} (p : X → Bool) (xs : List X) (n : ℕ) → list_any p (take n xs) ≡ true → position_or_len p xs < n
first_among p xs zero h = absurd (cc h)
first_among p [] (suc n) h = absurd (cc h)
first_among p (x ∷ xs) (suc n) h = by_test (p x) refl (first_among p xs n)
  where
    by_test : (b : Bool) → p x ≡ b → (list_any p (take n xs) ≡ true → position_or_len p xs < n) → position_or_len p (x ∷ xs) < suc n
    by_test true e rest = let at : position_or_len p (x ∷ xs) ≡ 0 = ap (λ b. cond (not b) (1 + position_or_len p xs) 0) e in omega (arith, at)
    by_test false e rest =
        let at : position_or_len p (x ∷ xs) ≡ 1 + position_or_len p xs = ap (λ b. cond (not b) (1 + position_or_len p xs) 0) e in
        let after-it : list_any p (take n xs) ≡ true = sym (ap (λ b. b || list_any p (take n xs)) e) ∙ h in
        omega (arith, at, rest after-it)

-- and else at its own place
first_here : {X : Type 0} (p : X → Bool) (xs : List X) (n : ℕ) (d : X) → n < length xs → list_any p (take n xs) ≡ false → p (get_or xs n d) ≡ true → position_or_len p xs ≡ n
first_here p [] n d h none here = absurd (omega (arith, h))
first_here p (x ∷ xs) zero d h none here = ap (λ b. cond (not b) (1 + position_or_len p xs) 0) here
first_here p (x ∷ xs) (suc n) d h none here =
    let parts = or_parts (p x) (list_any p (take n xs)) none in
    let one : 1 + n ≡ suc n = omega arith in
    ap (λ b. cond (not b) (1 + position_or_len p xs) 0) parts.0 ∙ ap (λ k. 1 + k) (first_here p xs n d (omega (arith, h)) parts.1 here) ∙ one

not_equal : (m n : ℕ) → m < n → (m == n) ≡ false
not_equal m n h = false_from_ne_true (m == n) (λ e. let s : m ≡ n = (Decides-eqb m n).0 e in omega (arith, h, s))

named_like : (name : List ℕ) (b : Bus) → same_name (global name) b ≡ is_named name b
named_like name local = refl
named_like name (global other) = refl

none_local : (bs : List Bus) → list_any (same_name local) bs ≡ false
none_local [] = refl
none_local (b ∷ bs) = none_local bs

opens_as : (bs : List Bus) (n : ℕ) (b : Bus) → n < length bs → get_or bs n local ≡ b → (opener_of bs n b == n) ≡ not (list_any (same_name b) (take n bs))
opens_as bs n local h e = same_opens n ∙ sym (ap not (none_local (take n bs)))
opens_as bs n (global name) h e =
    by_test (list_any (is_named name) (take n bs)) refl ∙ ap not (sym (any_same (same_name (global name)) (is_named name) (named_like name) (take n bs)))
  where
    by_test : (c : Bool) → list_any (is_named name) (take n bs) ≡ c → (position_or_len (is_named name) bs == n) ≡ not (list_any (is_named name) (take n bs))
    by_test true s = not_equal (position_or_len (is_named name) bs) n (first_among (is_named name) bs n s) ∙ sym (ap not s)
    by_test false s =
        let here : is_named name (get_or bs n local) ≡ true = ap (is_named name) e ∙ (bytes_decides name name).1 refl in
        ap (λ k. k == n) (first_here (is_named name) bs n local h s here) ∙ same_opens n ∙ sym (ap not s)

-- whether the lookup at a place of a table opens its bus
pub opens_at : {F : Type 0} (tables : List (List (LookupData F))) (t k : ℕ) (b : Bus) (d : LookupData F) → t < length tables → k < length (get_or tables t []) → (get_or (get_or tables t []) k d).bus ≡ b
    → (opener (batch_buses tables) (lookups_before tables t + k) == lookups_before tables t + k)
    ≡ not (list_any (is_named_among b) (take t tables) || is_named_among b (take k (get_or tables t [])))
opens_at tables t k b d h lt e =
    let n = lookups_before tables t + k in
    let bs = batch_buses tables in
    let at : get_or bs n local ≡ b = bus_at tables t k d h lt ∙ e in
    ap (λ x. opener_of bs n x == n) at
    ∙ opens_as bs n b (place_within tables t k h lt) at
    ∙ ap not (named_before b tables t k h (omega (arith, lt)))

-- The load of a bus, from the loads of lookups

load_agree : (p q : ℕ → Bool) (n : ℕ) (xs : List ℕ) → ((m : ℕ) → n ≤ m → m < n + length xs → p m ≡ q m) → load_where p n xs ≡ load_where q n xs
load_agree p q n [] h = refl
load_agree p q n (x ∷ xs) h =
    ap (λ b. cond b x 0 + load_where p (suc n) xs) (h n (omega arith) (omega arith))
    ∙ ap (λ k. cond (q n) x 0 + k) (load_agree p q (suc n) xs (λ m le lt. h m (omega (arith, le)) (omega (arith, lt))))

load_none : (p : ℕ → Bool) (n : ℕ) (xs : List ℕ) → ((m : ℕ) → n ≤ m → p m ≡ false) → load_where p n xs ≡ 0
load_none p n [] h = refl
load_none p n (x ∷ xs) h =
    ap (λ b. cond b x 0 + load_where p (suc n) xs) (h n (omega arith)) ∙ ap (λ k. 0 + k) (load_none p (suc n) xs (λ m le. h m (omega (arith, le))))

-- the load of one lookup
load_one : (k n j : ℕ) (xs : List ℕ) → k ≡ n + j → load_where (λ m. m == k) n xs ≡ get_or xs j 0
load_one k n j [] e = refl
load_one k n zero (x ∷ xs) e =
    let here : (n == k) ≡ true = (Decides-eqb n k).1 (omega (arith, e)) in
    ap (λ b. cond b x 0 + load_where (λ m. m == k) (suc n) xs) here
    ∙ ap (λ s. x + s) (load_none (λ m. m == k) (suc n) xs (λ m le. false_from_ne_true (m == k) (λ s. let q : m ≡ k = (Decides-eqb m k).0 s in omega (arith, le, q, e))))
    ∙ nothing x
  where
    nothing : (y : ℕ) → y + 0 ≡ y
    nothing y = omega arith
load_one k n (suc j) (x ∷ xs) e =
    let other : (n == k) ≡ false = not_equal n k (omega (arith, e)) in
    ap (λ b. cond b x 0 + load_where (λ m. m == k) (suc n) xs) other
    ∙ nothing (load_where (λ m. m == k) (suc n) xs)
    ∙ load_one k (suc n) j xs (omega (arith, e))
  where
    nothing : (y : ℕ) → 0 + y ≡ y
    nothing y = omega arith

-- loads by the buses beside them
load_by : (Bus → Bool) → List Bus → List ℕ → ℕ
load_by t bs [] = 0
load_by t [] (x ∷ xs) = 0
load_by t (b ∷ bs) (x ∷ xs) = cond (t b) x 0 + load_by t bs xs

load_along : (t : Bus → Bool) (all : List Bus) (n : ℕ) (xs : List ℕ) → n + length xs ≤ length all → load_where (λ m. t (get_or all m local)) n xs ≡ load_by t (drop n all) xs
unfolding load_by
load_along t all n [] h = refl
load_along t all n (x ∷ xs) h =
    let b = get_or all n local in
    let one : n + 1 ≡ suc n = omega arith in
    let d : drop n all ≡ b ∷ drop (suc n) all = drop_more all n local (omega (arith, h)) ∙ ap (λ k. b ∷ drop k all) one in
    ap (λ s. cond (t b) x 0 + s) (load_along t all (suc n) xs (omega (arith, h))) ∙ ap (λ l. load_by t l (x ∷ xs)) (sym d)

load_both : {F : Type 0} (t : Bus → Bool) (h : ℕ) (ls : List (LookupData F)) (bs : List Bus) (xs : List ℕ)
    → load_by t (map (λ l. l.bus) ls ++ bs) (map (λ l. sum_of_bounds l.counts * h) ls ++ xs) ≡ load_by t (map (λ l. l.bus) ls) (map (λ l. sum_of_bounds l.counts * h) ls) + load_by t bs xs
unfolding load_by
load_both t h [] bs xs = nothing (load_by t bs xs)
  where
    nothing : (y : ℕ) → y ≡ 0 + y
    nothing y = omega arith
load_both t h (l ∷ ls) bs xs =
    let x = sum_of_bounds l.counts * h in
    let first = cond (t l.bus) x 0 in
    ap (λ s. first + s) (load_both t h ls bs xs)
    ∙ regroup first (load_by t (map (λ k. k.bus) ls) (map (λ k. sum_of_bounds k.counts * h) ls)) (load_by t bs xs)
  where
    regroup : (a b c : ℕ) → a + (b + c) ≡ (a + b) + c
    regroup a b c = omega arith

load_table : {F : Type 0} (b : Bus) (h : ℕ) (ls : List (LookupData F)) → load_by (same_name b) (map (λ l. l.bus) ls) (map (λ l. sum_of_bounds l.counts * h) ls) ≡ named_load b h ls
unfolding load_by
load_table b h [] = refl
load_table b h (l ∷ ls) = ap (λ s. cond (same_name b l.bus) (sum_of_bounds l.counts * h) 0 + s) (load_table b h ls)

load_tables : {F : Type 0} (b : Bus) (tables : List (List (LookupData F))) (hs : List ℕ) → load_by (same_name b) (batch_buses tables) (batch_loads tables hs) ≡ named_loads b tables hs
unfolding load_by
load_tables b [] hs = refl
load_tables b (ls ∷ tables) [] = refl
load_tables b (ls ∷ tables) (h ∷ hs) =
    load_both (same_name b) h ls (batch_buses tables) (batch_loads tables hs)
    ∙ ap (λ s. s + load_by (same_name b) (batch_buses tables) (batch_loads tables hs)) (load_table b h ls)
    ∙ ap (λ s. named_load b h ls + s) (load_tables b tables hs)

-- the buses of two lookups are one where both have this name
has_name : (name : List ℕ) (b : Bus) → Decides (same_name (global name) b) (b ≡ global name)
has_name name local = (λ e. absurd (cc e), λ e. absurd (cc e))
has_name name (global other) = (
  λ e. ap global (sym ((bytes_decides name other).0 e)),
  λ e. let same : name ≡ other = cc e in (bytes_decides name other).1 same,
)

one_bus : (bs : List Bus) (m n : ℕ) (name : List ℕ) → m < length bs → n < length bs → get_or bs n local ≡ global name → (bus_number bs m == bus_number bs n) ≡ same_name (global name) (get_or bs m local)
one_bus bs m n name h k e =
    same_from_decides (bus_number bs m == bus_number bs n) (same_name (global name) (get_or bs m local))
    (Decides-eqb (bus_number bs m) (bus_number bs n))
    (Decides-like (same_name (global name) (get_or bs m local)) to from (has_name name (get_or bs m local)))
  where
    to : get_or bs m local ≡ global name → bus_number bs m ≡ bus_number bs n
    to s = elim (cases_eq m n) [
      | inl same ↦ ap (bus_number bs) same
      | inr other ↦ (shares_by_name bs m n h k other).1 (record { name = name; first = s; second = e })
    ]

    from : bus_number bs m ≡ bus_number bs n → get_or bs m local ≡ global name
    from s = elim (cases_eq m n) [
      | inl same ↦ ap (λ j. get_or bs j local) same ∙ e
      | inr other ↦
          let q = (shares_by_name bs m n h k other).0 s in
          q.first ∙ sym q.second ∙ e
    ]

own_bus : (bs : List Bus) (m n : ℕ) → m < length bs → n < length bs → get_or bs n local ≡ local → (bus_number bs m == bus_number bs n) ≡ (m == n)
own_bus bs m n h k e =
    same_from_decides (bus_number bs m == bus_number bs n) (m == n)
    (Decides-eqb (bus_number bs m) (bus_number bs n))
    (Decides-like (m == n) (λ s. ap (bus_number bs) s) from (Decides-eqb m n))
  where
    from : bus_number bs m ≡ bus_number bs n → m ≡ n
    from s = elim (cases_eq m n) [
      | inl same ↦ same
      | inr other ↦
          let q = (shares_by_name bs m n h k other).0 s in
          let differ : local ≡ global q.name = sym e ∙ q.second in
          absurd (cc differ)
    ]

module _ {F : Type 0} (tables : List (List (LookupData F))) (hs : List ℕ) (e : length hs ≡ length tables) (n : ℕ) (h : n < length (batch_buses tables)) where
  pub load_of_named : (name : List ℕ) → get_or (batch_buses tables) n local ≡ global name
      → bus_load tables hs (bus_number (batch_buses tables) n) ≡ named_loads (global name) tables hs
  load_of_named name s =
      let bs = batch_buses tables in
      let xs = batch_loads tables hs in
      load_agree (λ m. bus_number bs m == bus_number bs n) (λ m. same_name (global name) (get_or bs m local)) 0 xs
      (λ m le lt. one_bus bs m n name (omega (arith, lt, length_loads tables hs e)) h s)
      ∙ load_along (same_name (global name)) bs 0 xs (omega (arith, length_loads tables hs e))
      ∙ load_tables (global name) tables hs

  pub load_of_local : get_or (batch_buses tables) n local ≡ local → bus_load tables hs (bus_number (batch_buses tables) n) ≡ get_or (batch_loads tables hs) n 0
  load_of_local s =
      let bs = batch_buses tables in
      let xs = batch_loads tables hs in
      load_agree (λ m. bus_number bs m == bus_number bs n) (λ m. m == n) 0 xs
      (λ m le lt. own_bus bs m n (omega (arith, lt, length_loads tables hs e)) h s)
      ∙ load_one n 0 n xs (omega arith)

-- Buses counted one after another

module _ {F : Type 0} (order : ℕ) (tables : List (List (LookupData F))) (hs : List ℕ) where
  pub bounded_start : AreBoundedBelow order tables hs 0 0
  unfolding opened_below
  bounded_start = record { counted = omega arith; below = λ b lt. absurd (omega (arith, lt)) }

  module _ (n opened : ℕ) (s : AreBoundedBelow order tables hs n opened) where
    -- a lookup that opens no bus
    pub bounded_same : (opener (batch_buses tables) n == n) ≡ false → AreBoundedBelow order tables hs (n + 1) opened
    bounded_same e =
        let same : opened_below (batch_buses tables) (n + 1) ≡ opened_below (batch_buses tables) n = opens_none (batch_buses tables) n e in
        record {
          counted = s.counted ∙ ap capped (sym same);
          below = λ b lt. s.below b (omega (arith, lt, same));
        }

    -- a lookup that opens one whose load is below the order
    pub bounded_more : (more : ℕ) → (opener (batch_buses tables) n == n) ≡ true → bus_load tables hs (bus_number (batch_buses tables) n) < order → more ≡ min (opened + 1) (2 ^ 64 - 1)
        → AreBoundedBelow order tables hs (n + 1) more
    bounded_more more e load m =
        let bs = batch_buses tables in
        let itself : opener bs n ≡ n = (Decides-eqb (opener bs n) n).0 e in
        let one : opened_below bs (n + 1) ≡ opened_below bs n + 1 = opens_one bs n itself in
        let number : bus_number bs n ≡ opened_below bs n = ap (opened_below bs) itself in
        record {
          counted = m ∙ omega (arith, s.counted, one);
          below = λ b lt. elim (cases_lt b (opened_below bs n)) [
            | inl less ↦ s.below b less
            | inr ge ↦
                let same : bus_number bs n ≡ b = omega (arith, ge, lt, one, number) in
                subst (λ (k : ℕ). bus_load tables hs k < order) same load
          ];
        }

    -- or reaches it
    pub bounded_ends : n < length (batch_buses tables) → (opener (batch_buses tables) n == n) ≡ true → order ≤ bus_load tables hs (bus_number (batch_buses tables) n) → IsFirstOverload order tables hs opened
    bounded_ends h e load =
        let bs = batch_buses tables in
        let itself : opener bs n ≡ n = (Decides-eqb (opener bs n) n).0 e in
        let one : opened_below bs (n + 1) ≡ opened_below bs n + 1 = opens_one bs n itself in
        let number : bus_number bs n ≡ opened_below bs n = ap (opened_below bs) itself in
        record {
          number = opened_below bs n;
          named = s.counted;
          within = omega (arith, one, opened_later bs (n + 1) (length bs) (omega (arith, h)));
          reaches = subst (λ (k : ℕ). order ≤ bus_load tables hs k) number load;
          before = s.below;
        }

  pub bounded_end : (n opened : ℕ) → n ≡ length (batch_buses tables) → AreBoundedBelow order tables hs n opened → HaveLoadsBelow order tables hs
  bounded_end n opened e s = λ b lt. s.below b (subst (λ (k : ℕ). b < opened_below (batch_buses tables) k) (sym e) lt)
