-- An ordered map with one more message.
use Rattle.std.proofs.Common.{◌≡◌, ℕ, List, [], ◌∷◌, map, Option, Some, None, cond, refl, sym, ◌∙◌, ap, subst}
use Rattle.std.specs.BTreeMap.{insert_entry, is_at}
use Rattle.std.specs.Cmp.{IsTotalOrder, on_total}
use Rattle.std.specs.Cmp.Lexicographic.{slice_cmp, nat_list_cmp_total}
use Rattle.std.specs.FinMap.{nat_cmp-IsAntisymmetric, slice_cmp-IsAntisymmetric}
use Rattle.std.specs.List.{AllByRecursion}
use Rattle.std.specs.List.Sorted.{IsStrictlySortedBy}
use Rattle.std.specs.Map.{keys_of, lookup, values_of}
use Rattle.std.specs.Ordering.{is_eq, match_ordering, nat_cmp}
use Rattle.std.specs.declared.cmp.Ordering.{Ordering}
use Rattle.std.specs.declared.cmp.Ordering.TheVariants.{Less, Equal, Greater}
use Rattle.std.proofs.lemmas.List.Elements.{All-nil, All-cons, All-head, All-tail}
use Rattle.p3_field.specs.Ring.{Ring, of_nat}
use Rattle.p3_lookup.specs.Messages.{Message}
use Rattle.stark_balance.specs.Entries.{AreKeyed, count_with}
use Rattle.stark_balance.specs.Nets.{by_key, key, placed, with_message}
use Rattle.stark_balance.specs.Laws.NetCounts.{alike}

-- a message by its parts
pub same_message : {F : Type 0} (m n : Message F) → m.bus ≡ n.bus → m.tuple ≡ n.tuple → m.count ≡ n.count → m ≡ n
same_message m n b t c = λ i. record { bus = b i; tuple = t i; count = c i }

module _ {K F : Type 0} (f : Ring F) (canonical : F → ℕ) (back : (x : F) → of_nat f (canonical x) ≡ x) (numbers : K → List ℕ) where
  abbrev cmp : K → K → Ordering
  cmp x y = slice_cmp nat_cmp (numbers x) (numbers y)

  ordered : IsTotalOrder cmp
  ordered = on_total numbers nat_list_cmp_total

  abbrev IsKeyed : K × Message F → Type 0
  IsKeyed e = numbers e.0 ≡ key canonical e.1

  -- below the first key no key is equal
  none_below : (k first : K) (es : List (K × Message F)) → cmp k first ≡ Less → AllByRecursion (λ y. cmp first y ≡ Less) (keys_of es) → lookup (is_at (cmp k)) es ≡ None
  none_below k first [] h a = refl
  none_below k first (e ∷ es) h a =
      ap (λ o. cond (is_eq o) (Some e.1) (lookup (is_at (cmp k)) es)) (ordered.trans k first e.0 h a.0) ∙ none_below k first es h a.1

  module _ (k : K) (m : Message F) (own : numbers k ≡ key canonical m) (v : Message F) (bus : v.bus ≡ m.bus) (tuple : v.tuple ≡ m.tuple) where
    compared : (e : K × Message F) → IsKeyed e → cmp k e.0 ≡ by_key canonical m e.1
    compared e h = ap (λ a. slice_cmp nat_cmp a (numbers e.0)) own ∙ ap (slice_cmp nat_cmp (key canonical m)) h

    own_key : numbers k ≡ key canonical v
    own_key = own ∙ ap (λ b. b ∷ map canonical m.tuple) (sym bus) ∙ ap (λ t. v.bus ∷ map canonical t) (sym tuple)

    -- each entry still stands under its numbers
    pub keyed_with : (es : List (K × Message F)) → AreKeyed numbers canonical es → AreKeyed numbers canonical (insert_entry cmp es k v)
    keyed_with [] h = All-cons IsKeyed (k, v) [] own_key (All-nil IsKeyed)
    keyed_with (e ∷ es) h = by (keyed_with es (All-tail IsKeyed e es h)) (cmp k e.0) refl
      where
        after : Ordering → List (K × Message F)
        after o = match_ordering o ((k, v) ∷ e ∷ es) ((e.0, v) ∷ es) (e ∷ insert_entry cmp es k v)

        by : AreKeyed numbers canonical (insert_entry cmp es k v) → (o : Ordering) → cmp k e.0 ≡ o → AreKeyed numbers canonical (insert_entry cmp (e ∷ es) k v)
        by rest Less w = subst (λ o. AreKeyed numbers canonical (after o)) (sym w) (All-cons IsKeyed (k, v) (e ∷ es) own_key h)
        by rest Equal w =
            let same : numbers k ≡ numbers e.0 = slice_cmp-IsAntisymmetric nat_cmp-IsAntisymmetric (numbers k) (numbers e.0) w in
            subst (λ o. AreKeyed numbers canonical (after o)) (sym w) (All-cons IsKeyed (e.0, v) es (sym same ∙ own_key) (All-tail IsKeyed e es h))
        by rest Greater w = subst (λ o. AreKeyed numbers canonical (after o)) (sym w) (All-cons IsKeyed e (insert_entry cmp es k v) (All-head IsKeyed e es h) rest)

    -- and the entries are those with the message
    pub values_with : (es : List (K × Message F)) → AreKeyed numbers canonical es → IsStrictlySortedBy cmp (keys_of es) → v.count ≡ count_with f (lookup (is_at (cmp k)) es) m.count
        → values_of (insert_entry cmp es k v) ≡ with_message f (by_key canonical) (values_of es) m
    unfolding IsStrictlySortedBy
    values_with [] h a c = ap (λ x. x ∷ []) (same_message v m bus tuple c)
    values_with (e ∷ es) h a c = by (values_with es (All-tail IsKeyed e es h) a.1) (cmp k e.0) refl
      where
        here : cmp k e.0 ≡ by_key canonical m e.1
        here = compared e (All-head IsKeyed e es h)

        values : Ordering → List (Message F)
        values o = values_of (match_ordering o ((k, v) ∷ e ∷ es) ((e.0, v) ∷ es) (e ∷ insert_entry cmp es k v))

        found : Ordering → Option (Message F)
        found o = cond (is_eq o) (Some e.1) (lookup (is_at (cmp k)) es)

        placed_by : Ordering → List (Message F)
        placed_by o = placed f o e.1 (values_of es) m (with_message f (by_key canonical) (values_of es) m)

        by : (v.count ≡ count_with f (lookup (is_at (cmp k)) es) m.count → values_of (insert_entry cmp es k v) ≡ with_message f (by_key canonical) (values_of es) m)
            → (o : Ordering) → cmp k e.0 ≡ o → values_of (insert_entry cmp (e ∷ es) k v) ≡ with_message f (by_key canonical) (values_of (e ∷ es)) m
        by rest Less w =
            let count : v.count ≡ m.count = c ∙ ap (λ o. count_with f (found o) m.count) w ∙ ap (λ l. count_with f l m.count) (none_below k e.0 es w a.0) in
            ap values w ∙ ap (λ x. x ∷ e.1 ∷ values_of es) (same_message v m bus tuple count) ∙ sym (ap placed_by (sym here ∙ w))
        by rest Equal w =
            let count : v.count ≡ f.add e.1.count m.count = c ∙ ap (λ o. count_with f (found o) m.count) w in
            let p = alike f canonical back m e.1 (sym here ∙ w) in
            ap values w ∙ ap (λ x. x ∷ values_of es) (same_message v (record e.1 { count = f.add e.1.count m.count }) (bus ∙ p.0) (tuple ∙ p.1) count) ∙ sym (ap placed_by (sym here ∙ w))
        by rest Greater w =
            let count : v.count ≡ count_with f (lookup (is_at (cmp k)) es) m.count = c ∙ ap (λ o. count_with f (found o) m.count) w in
            ap values w ∙ ap (λ xs. e.1 ∷ xs) (rest count) ∙ sym (ap placed_by (sym here ∙ w))
