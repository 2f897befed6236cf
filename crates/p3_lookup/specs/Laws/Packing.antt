-- Packed lookups send what the lookups sent.
use Rattle.std.proofs.Common.{◌≡◌, ℕ, ◌+◌, Bool, true, false, ◌&&◌, cond, List, [], ◌∷◌, ◌++◌, length, refl, sym, ◌∙◌, ap, arith}
use Rattle.std.specs.Prelude.{All, flat_map, zip, count_by, nat_le}
use Rattle.std.specs.Cmp.Lexicographic.{bytes_decides}
use Rattle.std.proofs.lemmas.List.{length-append}
use Rattle.std.proofs.lemmas.List.Elements.{All-head, All-tail, All-cons}
use Rattle.std.proofs.lemmas.List.Sums.{sum_by-append}
use Rattle.p3_field.specs.Ring.{Ring}
use Rattle.air_core.specs.declared.cells.Count.{Count}
use Rattle.air_core.specs.Tree.{Tree, Bus, local, global}
use Rattle.p3_lookup.specs.Lookup.{LookupData, HasCountForEach}
use Rattle.p3_lookup.specs.Packing.{lookup_degree, merged, same_name, takes_in, with_lookup, packed_onto, packed, same_bus, sent_on, times_sent, SendTheSame}

count_by-append : {X : Type 0} (p : X → Bool) (xs ys : List X) → count_by p (xs ++ ys) ≡ count_by p xs + count_by p ys
count_by-append p xs ys = sum_by-append (λ x. cond (p x) 1 0) xs ys

both : (a b : Bool) → (a && b) ≡ true → (a ≡ true) × (b ≡ true)
both true b h = (refl, h)
both false b h = (h, cc)

one_name : (a b : Bus) → same_name a b ≡ true → a ≡ b
one_name local b h = absurd (cc h)
one_name (global name) local h = absurd (cc h)
one_name (global name) (global other) h = ap global ((bytes_decides name other).0 h)

zip-append : {A B : Type 0} (xs us : List A) (ys vs : List B) → length ys ≡ length xs → zip (xs ++ us) (ys ++ vs) ≡ zip xs ys ++ zip us vs
zip-append [] us [] vs h = refl
zip-append [] us (y ∷ ys) vs h = absurd (omega (arith, h))
zip-append (x ∷ xs) us [] vs h = absurd (omega (arith, h))
zip-append (x ∷ xs) us (y ∷ ys) vs h = ap (λ l. (x, y) ∷ l) (zip-append xs us ys vs (omega (arith, h)))

module _ {F : Type 0} (test : List (Tree F) × Count (Tree F) → Bool) (b : Bus) where
  own_times : LookupData F → ℕ
  own_times l = count_by test (sent_on b l)

  times_more : (l : LookupData F) (ls : List (LookupData F)) → times_sent test b (l ∷ ls) ≡ own_times l + times_sent test b ls
  unfolding own_times
  times_more l ls = count_by-append test (sent_on b l) (flat_map (sent_on b) ls)

  merged_times : (k l : LookupData F) → HasCountForEach k → k.bus ≡ l.bus → own_times (merged k l) ≡ own_times k + own_times l
  unfolding own_times
  merged_times k l h e = by_test (same_bus b k.bus) refl
    where
      by_test : (t : Bool) → same_bus b k.bus ≡ t → count_by test (cond (same_bus b k.bus) (zip (k.tuples ++ l.tuples) (k.counts ++ l.counts)) []) ≡ count_by test (cond (same_bus b k.bus) (zip k.tuples k.counts) []) + count_by test (cond (same_bus b l.bus) (zip l.tuples l.counts) [])
      by_test true s =
          let t : same_bus b l.bus ≡ true = ap (same_bus b) (sym e) ∙ s in
          ap (λ c. count_by test (cond c (zip (k.tuples ++ l.tuples) (k.counts ++ l.counts)) [])) s
          ∙ ap (count_by test) (zip-append k.tuples l.tuples k.counts l.counts h)
          ∙ count_by-append test (zip k.tuples k.counts) (zip l.tuples l.counts)
          ∙ ap (λ c. count_by test (cond c (zip k.tuples k.counts) []) + count_by test (zip l.tuples l.counts)) (sym s)
          ∙ ap (λ c. count_by test (cond (same_bus b k.bus) (zip k.tuples k.counts) []) + count_by test (cond c (zip l.tuples l.counts) [])) (sym t)
      by_test false s =
          let t : same_bus b l.bus ≡ false = ap (same_bus b) (sym e) ∙ s in
          ap (λ c. count_by test (cond c (zip (k.tuples ++ l.tuples) (k.counts ++ l.counts)) [])) s
          ∙ ap (λ c. count_by test (cond c (zip k.tuples k.counts) []) + 0) (sym s)
          ∙ ap (λ c. count_by test (cond (same_bus b k.bus) (zip k.tuples k.counts) []) + count_by test (cond c (zip l.tuples l.counts) [])) (sym t)

  module _ (f : Ring F) (t budget : ℕ) where
    with_one : (k : LookupData F) (ks : List (LookupData F)) (l : LookupData F) (c : Bool) → takes_in f t budget k l ≡ c → HasCountForEach k
        → times_sent test b (with_lookup f t budget ks l) ≡ times_sent test b ks + own_times l
        → times_sent test b (cond c (merged k l ∷ ks) (k ∷ with_lookup f t budget ks l)) ≡ times_sent test b (k ∷ ks) + own_times l
    with_one k ks l true e h rest =
        let same : k.bus ≡ l.bus = one_name k.bus l.bus (both (same_name k.bus l.bus) (nat_le (lookup_degree f t (merged k l)) budget) e).0 in
        omega (arith, times_more (merged k l) ks, times_more k ks, merged_times k l h same)
    with_one k ks l false e h rest = omega (arith, times_more k (with_lookup f t budget ks l), times_more k ks, rest)

    with_times : (ks : List (LookupData F)) (l : LookupData F) → All HasCountForEach ks → times_sent test b (with_lookup f t budget ks l) ≡ times_sent test b ks + own_times l
    with_times [] l h = omega (arith, times_more l [])
    with_times (k ∷ ks) l h = with_one k ks l (takes_in f t budget k l) refl (All-head HasCountForEach k ks h) (with_times ks l (All-tail HasCountForEach k ks h))

    -- and the kept lookups stay well-formed
    with_one_counted : (k : LookupData F) (ks : List (LookupData F)) (l : LookupData F) (c : Bool) → HasCountForEach k → HasCountForEach l → All HasCountForEach ks → All HasCountForEach (with_lookup f t budget ks l)
        → All HasCountForEach (cond c (merged k l ∷ ks) (k ∷ with_lookup f t budget ks l))
    with_one_counted k ks l true h g hs rest =
        All-cons HasCountForEach (merged k l) ks (omega (arith, h, g, length-append k.counts l.counts, length-append k.tuples l.tuples)) hs
    with_one_counted k ks l false h g hs rest = All-cons HasCountForEach k (with_lookup f t budget ks l) h rest

    pub with_counted : (ks : List (LookupData F)) (l : LookupData F) → HasCountForEach l → All HasCountForEach ks → All HasCountForEach (with_lookup f t budget ks l)
    with_counted [] l g h = All-cons HasCountForEach l [] g h
    with_counted (k ∷ ks) l g h =
        with_one_counted k ks l (takes_in f t budget k l) (All-head HasCountForEach k ks h) g (All-tail HasCountForEach k ks h) (with_counted ks l g (All-tail HasCountForEach k ks h))

    onto_times : (ks ls : List (LookupData F)) → All HasCountForEach ks → All HasCountForEach ls → times_sent test b (packed_onto f t budget ks ls) ≡ times_sent test b ks + times_sent test b ls
    onto_times ks [] h g = omega arith
    onto_times ks (l ∷ ls) h g =
        let own = All-head HasCountForEach l ls g in
        omega (arith, onto_times (with_lookup f t budget ks l) ls (with_counted ks l own h) (All-tail HasCountForEach l ls g), with_times ks l h, times_more l ls)

pub packed_same : {F : Type 0} (f : Ring F) (t budget : ℕ) (ls : List (LookupData F)) → All HasCountForEach ls → SendTheSame ls (packed f t budget ls)
packed_same f t budget ls h test b = omega (arith, onto_times test b f t budget [] ls (λ k d lt. absurd (omega (arith, lt))) h)
