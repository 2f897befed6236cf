-- Nets in the order of their buses and tuples.
use Rattle.std.proofs.Common.{◌≡◌, ℕ, zero, suc, Bool, true, List, [], ◌∷◌, get_or, map, drop, refl, sym, ◌∙◌, ap, subst, arith}
use Rattle.std.specs.Prelude.{All}
use Rattle.std.specs.Cmp.{IsTotalOrder, on_total, tied_itself}
use Rattle.std.specs.Cmp.Lexicographic.{slice_cmp, nat_list_cmp_total}
use Rattle.std.specs.FinMap.{nat_cmp-IsAntisymmetric, slice_cmp-IsAntisymmetric}
use Rattle.std.specs.declared.cmp.Ordering.{Ordering}
use Rattle.std.specs.declared.cmp.Ordering.TheVariants.{Less, Equal, Greater}
use Rattle.std.specs.Ordering.{nat_cmp, ordering_reverse}
use Rattle.std.proofs.lemmas.List.Elements.{All-nil, All-cons}
use Rattle.p3_field.specs.Ring.{Ring, RingLaws, of_nat}
use Rattle.p3_lookup.specs.Messages.{Message}
use Rattle.stark_balance.specs.Nets.{ArePaired, with_message, nets_onto, nets_by, key, by_key, net_counts, AreAscending, AreNets}
use Rattle.stark_balance.specs.Laws.Nets.{AllApart, with_at, with_pairs, nets_are_by}

module _ {F : Type 0} (f : Ring F) (canonical : F → ℕ) (back : (x : F) → of_nat f (canonical x) ≡ x) where
  abbrev compare : Message F → Message F → Ordering
  compare = by_key canonical

  ordered : IsTotalOrder compare
  ordered = on_total (key canonical) nat_list_cmp_total

  values_back : (xs : List F) → map (of_nat f) (map canonical xs) ≡ xs
  values_back [] = refl
  values_back (x ∷ xs) = cc (back x, values_back xs)

  pub alike : (m n : Message F) → compare m n ≡ Equal → ArePaired m n
  alike m n h =
      let k : key canonical m ≡ key canonical n = slice_cmp-IsAntisymmetric nat_cmp-IsAntisymmetric (key canonical m) (key canonical n) h in
      let rest : map canonical m.tuple ≡ map canonical n.tuple = ap (drop 1) k in
      (ap (λ (l : List ℕ). get_or l 0 0) k, sym (values_back m.tuple) ∙ ap (map (of_nat f)) rest ∙ values_back n.tuple)

  own : (m n : Message F) → ArePaired m n → compare m n ≡ Equal
  own m n p =
      ap (λ b. slice_cmp nat_cmp (key canonical m) (b ∷ map canonical n.tuple)) (sym p.0)
      ∙ ap (λ t. slice_cmp nat_cmp (key canonical m) (m.bus ∷ map canonical t)) (sym p.1)
      ∙ tied_itself nat_list_cmp_total (key canonical m)

  abbrev AllAscending : List (Message F) → Type 0
  AllAscending [] = Unit {0}
  AllAscending (n ∷ ns) = All (λ x. compare n x ≡ Less) ns × AllAscending ns

  with_ascending : (ns : List (Message F)) (m : Message F) → AllAscending ns → AllAscending (with_message f compare ns m)
  with_ascending [] m a = (All-nil (λ x. compare m x ≡ Less), tt)
  with_ascending (n ∷ ns) m a = by (with_ascending ns m a.1) (compare m n) refl
    where
      by : AllAscending (with_message f compare ns m) → (o : Ordering) → compare m n ≡ o → AllAscending (with_message f compare (n ∷ ns) m)
      by rest Less h =
          subst AllAscending (sym (with_at f compare alike Less n m ns h))
          (All-cons (λ x. compare m x ≡ Less) n ns h (λ k d lt. ordered.trans m n (get_or ns k d) h (a.0 k d lt)), a)
      by rest Equal h = subst AllAscending (sym (with_at f compare alike Equal n m ns h)) a
      by rest Greater h =
          subst AllAscending (sym (with_at f compare alike Greater n m ns h))
          (with_pairs f compare alike (λ b t. slice_cmp nat_cmp (key canonical n) (b ∷ map canonical t) ≡ Less) ns m a.0 (ordered.antisymm n m ∙ ap ordering_reverse h), rest)

  onto_ascending : (ns ms : List (Message F)) → AllAscending ns → AllAscending (nets_onto f compare ns ms)
  onto_ascending ns [] a = a
  onto_ascending ns (m ∷ ms) a = onto_ascending (with_message f compare ns m) ms (with_ascending ns m a)

  ascending_apart : (ns : List (Message F)) → AllAscending ns → AllApart ns
  ascending_apart [] a = tt
  ascending_apart (n ∷ ns) a = (
    λ k d lt p. let q : Less ≡ Equal = sym (a.0 k d lt) ∙ own n (get_or ns k d) p in absurd (cc q),
    ascending_apart ns a.1,
  )

  ascending_at : (ns : List (Message F)) → AllAscending ns → AreAscending compare ns
  ascending_at [] a i j d h lt = absurd (omega (arith, lt))
  ascending_at (n ∷ ns) a i zero d h lt = absurd (omega (arith, h))
  ascending_at (n ∷ ns) a zero (suc j) d h lt = a.0 j d (omega (arith, lt))
  ascending_at (n ∷ ns) a (suc i) (suc j) d h lt = ascending_at ns a.1 i j d (omega (arith, h)) (omega (arith, lt))

  pub counts_ascend : (ms : List (Message F)) → AreAscending compare (net_counts f canonical ms)
  counts_ascend ms = ascending_at (nets_by f compare ms) (onto_ascending [] ms tt)

  pub counts_are_nets : (eq : F → F → Bool) (eq_same : (x y : F) → eq x y ≡ true → x ≡ y) (same_eq : (x : F) → eq x x ≡ true) (fL : RingLaws f) (ms : List (Message F)) → AreNets f eq ms (net_counts f canonical ms)
  counts_are_nets eq eq_same same_eq fL ms = nets_are_by f eq eq_same same_eq fL compare alike ms (ascending_apart (nets_by f compare ms) (onto_ascending [] ms tt))
