-- Packing keeps that all tuples on one bus have one width.
use Rattle.std.proofs.Common.{◌≡◌, ◌≢◌, ℕ, zero, suc, ◌<◌, Bool, true, false, ◌&&◌, cond, List, [], ◌∷◌, ◌++◌, length, get_or, map, inl, inr, refl, sym, ◌∙◌, ap, subst, arith}
use Rattle.std.specs.Prelude.{All, flat_map, nat_le}
use Rattle.std.specs.Cmp.Lexicographic.{bytes_decides}
use Rattle.std.proofs.lemmas.Bool.{cases_eq}
use Rattle.std.proofs.lemmas.List.{length-map, get_or-map, get_or_default}
use Rattle.std.proofs.lemmas.List.Elements.{All-nil, All-head, All-tail, All-cons, All-append, All-weaker}
use Rattle.p3_field.specs.Poly.{tabulate}
use Rattle.p3_field.specs.Ring.{Ring}
use Rattle.air_core.specs.Tree.{Bus, local, global}
use Rattle.p3_lookup.specs.Bus.{HaveOneWidth, NameOneBus, bus_number}
use Rattle.p3_lookup.specs.Laws.Buses.{shares_by_name}
use Rattle.p3_lookup.specs.Lookup.{LookupData}
use Rattle.p3_lookup.specs.Packing.{lookup_degree, merged, packed, packed_onto, same_name, takes_in, with_lookup}

-- each tuple of the second lookup has the width of each of the first
abbrev Agree : {F : Type 0} → LookupData F → LookupData F → Type 0
Agree a b = All (λ s. All (λ t. length t ≡ length s) b.tuples) a.tuples

-- the tuples of each lookup have one width, and so have those of two of one name
record AreUniform {F : Type 0} (ls : List (LookupData F)) : Type 0 where
  alone : All (λ k. Agree k k) ls
  shared : All (λ k. All (λ l. same_name k.bus l.bus ≡ true → Agree k l) ls) ls

-- names
itself : (n : List ℕ) → same_name (global n) (global n) ≡ true
itself n = (bytes_decides n n).1 refl

-- the second bus is the first, where both have one name
other : (a b : Bus) → same_name a b ≡ true → b ≡ a
other local b e = absurd cc
other (global n) local e = absurd cc
other (global n) (global m) e = ap global (sym ((bytes_decides n m).0 e))

named : (bs : List Bus) (i j : ℕ) (a b : Bus) → get_or bs i local ≡ a → get_or bs j local ≡ b → same_name a b ≡ true → NameOneBus bs i j
named bs i j local b p q e = absurd cc
named bs i j (global n) b p q e = record { name = n; first = p; second = q ∙ other (global n) b e }

one_bus : (bs : List Bus) (i j : ℕ) → i < length bs → j < length bs → same_name (get_or bs i local) (get_or bs j local) ≡ true → bus_number bs i ≡ bus_number bs j
one_bus bs i j h k e = elim (cases_eq i j) [
  | inl s ↦ ap (bus_number bs) s
  | inr ne ↦ (shares_by_name bs i j h k ne).1 (named bs i j (get_or bs i local) (get_or bs j local) refl refl e)
]

one_name : (bs : List Bus) (i j : ℕ) → i < length bs → j < length bs → i ≢ j → bus_number bs i ≡ bus_number bs j → same_name (get_or bs i local) (get_or bs j local) ≡ true
one_name bs i j h k ne e =
    let n = (shares_by_name bs i j h k ne).0 e in
    ap (λ a. same_name a (get_or bs j local)) n.first ∙ ap (same_name (global n.name)) n.second ∙ itself n.name

module _ {F : Type 0} (ls : List (LookupData F)) where
  bus_at : (i : ℕ) (d : LookupData F) → i < length ls → get_or (map (λ l. l.bus) ls) i local ≡ (get_or ls i d).bus
  bus_at i d h = get_or-map (λ (l : LookupData F). l.bus) ls i d local h

  buses_long : length (map (λ l. l.bus) ls) ≡ length ls
  buses_long = length-map ls (λ (l : LookupData F). l.bus)

  uniform : HaveOneWidth ls → AreUniform ls
  uniform h = record {
    alone = λ i d lt. h i i d lt lt refl;
    shared = λ i d lt j f in-j e.
        let same : get_or ls j f ≡ get_or ls j d = get_or_default ls j f d in-j in
        let b : same_name (get_or (map (λ l. l.bus) ls) i local) (get_or (map (λ l. l.bus) ls) j local) ≡ true =
        ap (λ a. same_name a (get_or (map (λ l. l.bus) ls) j local)) (bus_at i d lt) ∙ ap (same_name (get_or ls i d).bus) (bus_at j f in-j) ∙ e in
        subst (Agree (get_or ls i d)) (sym same)
        (h i j d lt in-j (one_bus (map (λ l. l.bus) ls) i j (omega (arith, lt, buses_long)) (omega (arith, in-j, buses_long)) b));
  }

  one_width : AreUniform ls → HaveOneWidth ls
  one_width u i j d lt in-j e = elim (cases_eq i j) [
    | inl s ↦ subst (λ n. Agree (get_or ls i d) (get_or ls n d)) s (u.alone i d lt)
    | inr ne ↦ u.shared i d lt j d in-j
        (sym (ap (λ a. same_name a (get_or (map (λ l. l.bus) ls) j local)) (bus_at i d lt) ∙ ap (same_name (get_or ls i d).bus) (bus_at j d in-j))
        ∙ one_name (map (λ l. l.bus) ls) i j (omega (arith, lt, buses_long)) (omega (arith, in-j, buses_long)) ne e)
  ]

-- what merging keeps holds of the packed lookups
left : (a b : Bool) → (a && b) ≡ true → a ≡ true
left true b h = refl
left false b h = h

module _ {F : Type 0} (Q : LookupData F → Type 0) (merges : (k l : LookupData F) → same_name k.bus l.bus ≡ true → Q k → Q l → Q (merged k l)) where
  with_kept : (r : Ring F) (t budget : ℕ) (ks : List (LookupData F)) (l : LookupData F) → All Q ks → Q l → All Q (with_lookup r t budget ks l)
  with_kept r t budget [] l h q = All-cons Q l [] q h
  with_kept r t budget (k ∷ ks) l h q = by (takes_in r t budget k l) refl (with_kept r t budget ks l (All-tail Q k ks h) q)
    where
      by : (c : Bool) → takes_in r t budget k l ≡ c → All Q (with_lookup r t budget ks l) → All Q (cond c (merged k l ∷ ks) (k ∷ with_lookup r t budget ks l))
      by true e rest =
          All-cons Q (merged k l) ks (merges k l (left (same_name k.bus l.bus) (nat_le (lookup_degree r t (merged k l)) budget) e) (All-head Q k ks h) q) (All-tail Q k ks h)
      by false e rest = All-cons Q k (with_lookup r t budget ks l) (All-head Q k ks h) rest

  onto_kept : (r : Ring F) (t budget : ℕ) (ks ls : List (LookupData F)) → All Q ks → All Q ls → All Q (packed_onto r t budget ks ls)
  onto_kept r t budget ks [] h own = h
  onto_kept r t budget ks (l ∷ ls) h own =
      onto_kept r t budget (with_lookup r t budget ks l) ls (with_kept r t budget ks l h (All-head Q l ls own)) (All-tail Q l ls own)

  first_part : (xs ys : List (LookupData F)) → All Q (xs ++ ys) → All Q xs
  first_part [] ys h = All-nil Q
  first_part (x ∷ xs) ys h = All-cons Q x xs (All-head Q x (xs ++ ys) h) (first_part xs ys (All-tail Q x (xs ++ ys) h))

  last_part : (xs ys : List (LookupData F)) → All Q (xs ++ ys) → All Q ys
  last_part [] ys h = h
  last_part (x ∷ xs) ys h = last_part xs ys (All-tail Q x (xs ++ ys) h)

  -- of the lookups of n tables
  tables_kept : (r : Ring F) (t : ℕ) (budget : ℕ → ℕ) (own : ℕ → List (LookupData F)) (n : ℕ) → All Q (flat_map (λ ls. ls) (tabulate n own))
      → All Q (flat_map (λ ls. ls) (tabulate n (λ i. packed r t (budget i) (own i))))
  tables_kept r t budget own zero h = All-nil Q
  tables_kept r t budget own (suc n) h =
      let rest = flat_map (λ ls. ls) (tabulate n (λ i. own (suc i))) in
      All-append Q (packed r t (budget zero) (own zero)) (flat_map (λ ls. ls) (tabulate n (λ i. packed r t (budget (suc i)) (own (suc i)))))
      (onto_kept r t (budget zero) [] (own zero) (All-nil Q) (first_part (own zero) rest h))
      (tables_kept r t (λ i. budget (suc i)) (λ i. own (suc i)) n (last_part (own zero) rest h))

-- Where what merging keeps carries over from lookups to others, so does that they are uniform.
module _ {F : Type 0} (own new : List (LookupData F))
    (keeps : (Q : LookupData F → Type 0) → ((k l : LookupData F) → same_name k.bus l.bus ≡ true → Q k → Q l → Q (merged k l)) → All Q own → All Q new) (u : AreUniform own) where
  -- each of the others agrees with the first ones
  abbrev Suits : LookupData F → Type 0
  Suits k = All (λ l. same_name k.bus l.bus ≡ true → Agree k l) own

  suits : All Suits new
  suits = keeps Suits
      (λ k l e p q i d lt f. All-append (λ s. All (λ t. length t ≡ length s) (get_or own i d).tuples) k.tuples l.tuples (p i d lt f)
      (q i d lt (ap (λ b. same_name b (get_or own i d).bus) (other k.bus l.bus e) ∙ f))) u.shared

  -- and so with each other
  abbrev Fits : LookupData F → LookupData F → Type 0
  Fits k l = same_name k.bus l.bus ≡ true → Agree k l

  fits : (k : LookupData F) → Suits k → All (Fits k) new
  fits k p = keeps (Fits k)
      (λ l m e x y f. λ i d lt. All-append (λ t. length t ≡ length (get_or k.tuples i d)) l.tuples m.tuples (x f i d lt)
      (y (ap (same_name k.bus) (other l.bus m.bus e) ∙ f) i d lt)) p

  abbrev IsAlone : LookupData F → Type 0
  IsAlone k = k.bus ≡ local → Agree k k

  alone : All IsAlone new
  alone = keeps IsAlone (λ k l e p q b. absurd (none k.bus l.bus b e)) (All-weaker (λ k. Agree k k) IsAlone (λ k p b. p) own u.alone)
    where
      none : (a b : Bus) → a ≡ local → same_name a b ≡ true → ⊥
      none local b p e = cc
      none (global n) b p e = cc

  kept : AreUniform new
  kept = record {
    alone = λ i d lt. by (get_or new i d) (get_or new i d).bus refl (alone i d lt) (fits (get_or new i d) (suits i d lt) i d lt);
    shared = All-weaker Suits (λ k. All (Fits k) new) fits new suits;
  }
    where
      by : (k : LookupData F) (b : Bus) → k.bus ≡ b → IsAlone k → Fits k k → Agree k k
      by k local e p q = p e
      by k (global n) e p q = q (ap (λ b. same_name b k.bus) e ∙ ap (same_name (global n)) e ∙ itself n)

-- The lookups of n tables, packed within some budgets.
pub packed_one_width : {F : Type 0} (r : Ring F) (t : ℕ) (budget : ℕ → ℕ) (own : ℕ → List (LookupData F)) (n : ℕ) → HaveOneWidth (flat_map (λ ls. ls) (tabulate n own))
    → HaveOneWidth (flat_map (λ ls. ls) (tabulate n (λ i. packed r t (budget i) (own i))))
packed_one_width r t budget own n h =
    let before = flat_map (λ ls. ls) (tabulate n own) in
    let after = flat_map (λ ls. ls) (tabulate n (λ i. packed r t (budget i) (own i))) in
    one_width after (kept before after (λ Q m. tables_kept Q m r t budget own n) (uniform before h))
