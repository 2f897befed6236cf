-- Turns of the loops that pack lookups.
use Rattle.std.proofs.Common.{◌≡◌, ℕ, suc, ◌+◌, ◌<◌, ◌≤◌, true, false, cond, List, [], ◌∷◌, ◌++◌, length, get_or, map, take, drop, sym, ◌∙◌, ap, arith, append_assoc}
use Rattle.std.proofs.lemmas.List.{map-append, length-append, take_more, take_all, drop_all, drop_more, set_split}
use Rattle.std.proofs.Math.ListN.{set}
use Rattle.p3_field.specs.Ring.{Ring}
use Rattle.air_core.specs.Symbolic.{tree_of}
use Rattle.p3_lookup.specs.Lookup.{LookupData, HasCountForEach}
use Rattle.p3_lookup.specs.Written.{Written, read, tree_count, merged_written}
use Rattle.p3_lookup.specs.Packing.{merged, takes_in, with_lookup}

pub read_merged : {F : Type 0} (k l : Written F) → read (merged_written k l) ≡ merged (read k) (read l)
read_merged k l = cc (map-append (map tree_of) k.elements l.elements, map-append tree_count k.multiplicities l.multiplicities)

pub merged_counted : {F : Type 0} (k l : LookupData F) → HasCountForEach k → HasCountForEach l → HasCountForEach (merged k l)
merged_counted k l h g = omega (arith, h, g, length-append k.counts l.counts, length-append k.tuples l.tuples)

-- where the loop has come to: no lookup before place i takes the new one in
abbrev pub Passed : {F : Type 0} → Ring F → ℕ → ℕ → List (LookupData F) → LookupData F → ℕ → Type 0
Passed f t budget ks l i = with_lookup f t budget ks l ≡ take i ks ++ with_lookup f t budget (drop i ks) l

module _ {F : Type 0} (f : Ring F) (t budget : ℕ) (ks : List (LookupData F)) (l : LookupData F) where
  pub pass_next : (i : ℕ) (k : LookupData F) → i < length ks → get_or ks i k ≡ k → takes_in f t budget k l ≡ false → Passed f t budget ks l i → Passed f t budget ks l (i + 1)
  pass_next i k h e refuses p =
      let d : drop i ks ≡ k ∷ drop (i + 1) ks = drop_more ks i k h ∙ ap (λ x. x ∷ drop (i + 1) ks) e in
      let here : with_lookup f t budget (drop i ks) l ≡ k ∷ with_lookup f t budget (drop (i + 1) ks) l =
      ap (λ xs. with_lookup f t budget xs l) d ∙ ap (λ c. cond c (merged k l ∷ drop (i + 1) ks) (k ∷ with_lookup f t budget (drop (i + 1) ks) l)) refuses in
      let front : take (i + 1) ks ≡ take i ks ++ k ∷ [] = take_more ks i k h ∙ ap (λ x. take i ks ++ x ∷ []) e in
      p ∙ ap (λ xs. take i ks ++ xs) here
      ∙ sym (append_assoc (take i ks) (k ∷ []) (with_lookup f t budget (drop (i + 1) ks) l))
      ∙ ap (λ xs. xs ++ with_lookup f t budget (drop (i + 1) ks) l) (sym front)

  pub pass_taken : (i : ℕ) (k : LookupData F) → i < length ks → get_or ks i k ≡ k → takes_in f t budget k l ≡ true → Passed f t budget ks l i → set ks i (merged k l) ≡ with_lookup f t budget ks l
  pass_taken i k h e takes p =
      let one : suc i ≡ i + 1 = omega arith in
      let d : drop i ks ≡ k ∷ drop (i + 1) ks = drop_more ks i k h ∙ ap (λ x. x ∷ drop (i + 1) ks) e in
      let here : with_lookup f t budget (drop i ks) l ≡ merged k l ∷ drop (i + 1) ks =
      ap (λ xs. with_lookup f t budget xs l) d ∙ ap (λ c. cond c (merged k l ∷ drop (i + 1) ks) (k ∷ with_lookup f t budget (drop (i + 1) ks) l)) takes in
      set_split ks i (merged k l) h ∙ ap (λ n. take i ks ++ merged k l ∷ drop n ks) one ∙ ap (λ xs. take i ks ++ xs) (sym here) ∙ sym p

  pub pass_end : (i : ℕ) → length ks ≤ i → Passed f t budget ks l i → ks ++ l ∷ [] ≡ with_lookup f t budget ks l
  pass_end i h p = sym (p ∙ ap (λ xs. xs ++ with_lookup f t budget (drop i ks) l) (take_all i ks h) ∙ ap (λ xs. ks ++ with_lookup f t budget xs l) (drop_all i ks h))
