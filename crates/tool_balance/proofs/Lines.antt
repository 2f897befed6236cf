-- The line of nets, piece by piece.
use Rattle.std.proofs.Common.{◌≡◌, ℕ, ◌+◌, ◌<◌, ◌≤◌, Bool, true, false, List, [], ◌∷◌, ◌++◌, length, get_or, map, drop, take, Some, None, refl, sym, ◌∙◌, ap, append_assoc}
use Rattle.std.specs.Prelude.{codes, decimal, nat_eq, if◌then◌else◌}
use Rattle.std.proofs.lemmas.List.{at_drop_all, at_drop_more, take_all}
use Rattle.p3_field.specs.BabyBear.{baby_bear_ring}
use Rattle.p3_field.specs.Laws.BabyBearField.{baby_bear_same_eq}
use Rattle.p3_field.specs.declared.baby_bear.BabyBear.{BabyBear}
use Rattle.p3_lookup.specs.Messages.{Message}
use Rattle.tool_verifier.specs.Refusals.{spaced}
use Rattle.tool_balance.specs.Nets.{first_left, unbalanced_line}

-- a net that is zero is passed
pub passed : (m : Message BabyBear) (ms : List (Message BabyBear)) → m.count ≡ baby_bear_ring.zero → first_left (m ∷ ms) ≡ first_left ms
unfolding baby_bear_ring
passed m ms e = ap (λ (x : BabyBear). if nat_eq x.value 0 then first_left ms else Some m) e

-- and the first other one is found
stands : (m : Message BabyBear) (ms : List (Message BabyBear)) → (m.count ≡ baby_bear_ring.zero → ⊥) → first_left (m ∷ ms) ≡ Some m
unfolding baby_bear_ring
stands m ms n = by (nat_eq m.count.value 0) refl
  where
    by : (b : Bool) → nat_eq m.count.value 0 ≡ b → first_left (m ∷ ms) ≡ Some m
    by true h = absurd (n (baby_bear_same_eq m.count baby_bear_ring.zero h))
    by false h = ap (λ b. if b then first_left ms else Some m) h

module _ (ns : List (Message BabyBear)) (i : ℕ) (before : first_left (drop i ns) ≡ first_left ns) where
  pub left_here : (m : Message BabyBear) → i < length ns → m ≡ get_or ns i m → (m.count ≡ baby_bear_ring.zero → ⊥) → first_left ns ≡ Some m
  left_here m l e n = sym before ∙ (at_drop_more first_left ns i m l ∙ (ap (λ x. first_left (x ∷ drop (i + 1) ns)) (sym e) ∙ stands m (drop (i + 1) ns) n))

  pub left_later : (m : Message BabyBear) → i < length ns → m ≡ get_or ns i m → m.count ≡ baby_bear_ring.zero → first_left (drop (i + 1) ns) ≡ first_left ns
  left_later m l e z = sym (passed m (drop (i + 1) ns) z) ∙ (ap (λ x. first_left (x ∷ drop (i + 1) ns)) e ∙ (sym (at_drop_more first_left ns i m l) ∙ before))

  pub none_is_left : length ns ≤ i → first_left ns ≡ None
  none_is_left le = sym before ∙ at_drop_all first_left ns i le

-- the line of a net
pub line_made : (m : Message BabyBear) (old a b e new : List ℕ) (i : ℕ) → a ≡ old ++ codes "unbalanced " → b ≡ a ++ decimal m.bus → e ≡ b ++ spaced (map (λ x. x.value) (take i m.tuple)) → length m.tuple ≤ i
    → new ≡ e ++ 10 ∷ [] → new ≡ old ++ unbalanced_line m
line_made m old a b e new i first second third le last =
    let c = codes "unbalanced " in
    let d = decimal m.bus in
    let s = spaced (map (λ (x : BabyBear). x.value) m.tuple) in
    let end : List ℕ = 10 ∷ [] in
    let whole : e ≡ b ++ s = third ∙ ap (λ (xs : List BabyBear). b ++ spaced (map (λ x. x.value) xs)) (take_all i m.tuple le) in
    let second_2 : b ≡ old ++ (c ++ d) = second ∙ (ap (λ t. t ++ d) first ∙ append_assoc old c d) in
    let third_2 : e ≡ old ++ (c ++ d ++ s) = whole ∙ (ap (λ t. t ++ s) second_2 ∙ append_assoc old (c ++ d) s) in
    last ∙ (ap (λ t. t ++ end) third_2 ∙ append_assoc old (c ++ d ++ s) end)
