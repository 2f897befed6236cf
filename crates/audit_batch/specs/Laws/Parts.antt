-- Each check that is asked is asked where none before it fails, so that what is named first is what a verifier answers.
use Rattle.std.proofs.Common.{◌≡◌, ℕ, List, [], ◌∷◌, ◌++◌, append_assoc, refl, sym, ◌∙◌, ap, subst}
use Rattle.p3_field.specs.Checks.{NoneFails, FirstFails, in_turn}
use Rattle.p3_field.specs.Laws.Checks.{none_before, none_after}
use Rattle.audit_batch.specs.Asked.{Asked, always, only, in_order, of_each, checks_in, AreNamed, AreAskedInTurn}
use Rattle.audit_batch.specs.Laws.Asked.{none_if_unnamed, unnamed_if_none, first_is_named, turn_weaken, turn_append, turn_always, turn_only, turn_in_order, turn_of_each, in_append, in_always, in_only, in_in_order, in_of_each}
use Rattle.audit_batch.specs.Named.{AreNamedAfter}
use Rattle.audit_batch.specs.Laws.Naming.{after_append, after_unasked, after_where, only_append}
use Rattle.audit_batch.specs.Parts.{Parts, ShapeParts, shape_list, draws_list, claims_list, all_list, IsSized, IsPlayed, shape_asked, draws_asked, claims_asked, all_asked}

module _ {R : Type 0} (p : ShapeParts R) where
  -- the parts of a list that are asked only where something holds
  in_sizes : checks_in (only p.counts.holds (of_each p.tables (λ i. in_order (p.size i)))) ≡ in_turn p.tables p.size
  in_sizes = in_only p.counts.holds (of_each p.tables (λ i. in_order (p.size i))) ∙ in_of_each p.tables (λ i. in_order (p.size i)) p.size (λ i. in_in_order (p.size i))

  in_bounds : checks_in (only (IsSized p) (in_order (in_turn p.buses p.bound))) ≡ in_turn p.buses p.bound
  in_bounds = in_only (IsSized p) (in_order (in_turn p.buses p.bound)) ∙ in_in_order (in_turn p.buses p.bound)

  in_opened : checks_in (only (IsSized p) (of_each p.tables p.opened)) ≡ in_turn p.tables (λ i. checks_in (p.opened i))
  in_opened = in_only (IsSized p) (of_each p.tables p.opened) ∙ in_of_each p.tables p.opened (λ i. checks_in (p.opened i)) (λ i. refl)

  in_permutation : checks_in (only (IsSized p) (always p.permutation)) ≡ p.permutation
  in_permutation = in_only (IsSized p) (always p.permutation) ∙ in_always p.permutation

  pub in_shape : checks_in (shape_asked p) ≡ shape_list p
  unfolding shape_asked shape_list
  in_shape =
      let a = always (p.counts ∷ p.randomized ∷ []) in
      let b = only p.counts.holds (of_each p.tables (λ i. in_order (p.size i))) in
      let c = only (IsSized p) (in_order (in_turn p.buses p.bound)) in
      let d = only (IsSized p) (of_each p.tables p.opened) in
      let e = only (IsSized p) (always p.permutation) in
      let ea = in_always (p.counts ∷ p.randomized ∷ []) in
      let whole : checks_in (a ++ b ++ c ++ d ++ e) ≡ checks_in a ++ checks_in b ++ checks_in c ++ checks_in d ++ checks_in e =
      in_append (a ++ b ++ c ++ d) e
      ∙ ap (λ l. l ++ checks_in e) (in_append (a ++ b ++ c) d ∙ ap (λ l. l ++ checks_in d) (in_append (a ++ b) c ∙ ap (λ l. l ++ checks_in c) (in_append a b))) in
      whole ∙ (λ i. ea i ++ in_sizes i ++ in_bounds i ++ in_opened i ++ in_permutation i)

  -- each is asked where none before it fails
  pub shape_in_turn : ((i : ℕ) → AreAskedInTurn (Unit {0}) (p.opened i)) → AreAskedInTurn (Unit {0}) (shape_asked p)
  unfolding shape_asked NoneFails
  shape_in_turn opened_in_turn =
      let a = always (p.counts ∷ p.randomized ∷ []) in
      let b = only p.counts.holds (of_each p.tables (λ i. in_order (p.size i))) in
      let c = only (IsSized p) (in_order (in_turn p.buses p.bound)) in
      let d = only (IsSized p) (of_each p.tables p.opened) in
      let e = only (IsSized p) (always p.permutation) in
      let two : NoneFails (checks_in a) → p.counts.holds = λ h. (subst NoneFails (in_always (p.counts ∷ p.randomized ∷ [])) h).0 in
      let sized : NoneFails (checks_in (a ++ b)) → IsSized p = λ h.
      let g = subst NoneFails (in_append a b) h in
      (two (none_before (checks_in a) (checks_in b) g), subst NoneFails in_sizes (none_after (checks_in a) (checks_in b) g)) in
      let Hb = Unit {0} × NoneFails (checks_in a) in
      let Hc = Unit {0} × NoneFails (checks_in (a ++ b)) in
      let Hd = Unit {0} × NoneFails (checks_in (a ++ b ++ c)) in
      let He = Unit {0} × NoneFails (checks_in (a ++ b ++ c ++ d)) in
      let to_two : (x y : List (Asked R)) → NoneFails (checks_in (x ++ y)) → NoneFails (checks_in x) = λ x y h. none_before (checks_in x) (checks_in y) (subst NoneFails (in_append x y) h) in
      turn_append (Unit {0}) (a ++ b ++ c ++ d) e
      (turn_append (Unit {0}) (a ++ b ++ c) d
      (turn_append (Unit {0}) (a ++ b) c
      (turn_append (Unit {0}) a b (turn_always (Unit {0}) (p.counts ∷ p.randomized ∷ []))
      (turn_only Hb p.counts.holds (of_each p.tables (λ i. in_order (p.size i))) (λ h. two h.1) (turn_of_each Hb p.tables (λ i. in_order (p.size i)) (λ i. turn_in_order Hb (p.size i)))))
      (turn_only Hc (IsSized p) (in_order (in_turn p.buses p.bound)) (λ h. sized h.1) (turn_in_order Hc (in_turn p.buses p.bound))))
      (turn_only Hd (IsSized p) (of_each p.tables p.opened) (λ h. sized (to_two (a ++ b) c h.1))
      (turn_of_each Hd p.tables p.opened (λ i. turn_weaken (Unit {0}) Hd (p.opened i) (λ h. tt) (opened_in_turn i)))))
      (turn_only He (IsSized p) (always p.permutation) (λ h. sized (to_two (a ++ b) c (to_two (a ++ b ++ c) d h.1))) (turn_always He p.permutation))

  -- nothing of the shape is named exactly where the shape is right
  pub shape_if_unnamed : ((i : ℕ) → AreAskedInTurn (Unit {0}) (p.opened i)) → AreNamed (shape_asked p) [] → NoneFails (shape_list p)
  shape_if_unnamed opened_in_turn n = subst NoneFails in_shape (none_if_unnamed (Unit {0}) (shape_asked p) (shape_in_turn opened_in_turn) tt n)

  pub unnamed_if_shape : (es : List R) → NoneFails (shape_list p) → AreNamed (shape_asked p) es → es ≡ []
  unnamed_if_shape es h n = unnamed_if_none (shape_asked p) es (subst NoneFails (sym in_shape) h) n

-- what is named of the shape, part by part
module _ {R : Type 0} (p : ShapeParts R) where
  abbrev first_part : List (Asked R)
  first_part = always (p.counts ∷ p.randomized ∷ [])

  abbrev size_part : List (Asked R)
  size_part = of_each p.tables (λ i. in_order (p.size i))

  abbrev last_part : List (Asked R)
  last_part = in_order (in_turn p.buses p.bound) ++ of_each p.tables p.opened ++ always p.permutation

  -- the rest, asked or not, after counts and sizes
  rest_after : (a b c d : List R) → AreNamedAfter a first_part b → AreNamedAfter b (only p.counts.holds size_part) c → AreNamedAfter c (only (IsSized p) last_part) d
      → AreNamedAfter a (shape_asked p) d
  unfolding shape_asked
  rest_after a b c d m n r =
      let P = IsSized p in
      let x = in_order (in_turn p.buses p.bound) in
      let y = of_each p.tables p.opened in
      let z = always p.permutation in
      let front = first_part ++ only p.counts.holds size_part in
      let parted : only P last_part ≡ only P x ++ only P y ++ only P z = only_append P (x ++ y) z ∙ ap (λ l. l ++ only P z) (only_append P x y) in
      let same : front ++ only P last_part ≡ front ++ only P x ++ only P y ++ only P z =
      ap (λ l. front ++ l) parted ∙ sym (append_assoc front (only P x ++ only P y) (only P z)) ∙ ap (λ l. l ++ only P z) (sym (append_assoc front (only P x) (only P y))) in
      subst (λ qs. AreNamedAfter a qs d) same
      (after_append front (only P last_part) a c d (after_append first_part (only p.counts.holds size_part) a b c m n) r)

  -- where the counts aren't right
  pub uncounted_after : (a b : List R) → (p.counts.holds → ⊥) → AreNamedAfter a first_part b → AreNamedAfter a (shape_asked p) b
  uncounted_after a b h m = rest_after a b b b m (after_unasked p.counts.holds size_part b h) (after_unasked (IsSized p) last_part b (λ s. h s.0))

  -- where the sizes aren't
  pub unsized_after : (a b c : List R) → p.counts.holds → (NoneFails (in_turn p.tables p.size) → ⊥) → AreNamedAfter a first_part b → AreNamedAfter b size_part c
      → AreNamedAfter a (shape_asked p) c
  unsized_after a b c k h m n = rest_after a b c c m (after_where p.counts.holds size_part b c k n) (after_unasked (IsSized p) last_part c (λ s. h s.1))

  -- where both are
  pub sized_after : (a b c d : List R) → p.counts.holds → NoneFails (in_turn p.tables p.size) → AreNamedAfter a first_part b → AreNamedAfter b size_part c
      → AreNamedAfter c last_part d → AreNamedAfter a (shape_asked p) d
  sized_after a b c d k h m n r = rest_after a b c d m (after_where p.counts.holds size_part b c k n) (after_where (IsSized p) last_part c d (k, h) r)

module _ {R : Type 0} (p : Parts R) where
  pub in_draws : checks_in (draws_asked p) ≡ draws_list p
  unfolding draws_asked draws_list
  in_draws =
      let l = only (NoneFails (shape_list p.shape)) p.lookup_grinding in
      let el = in_only (NoneFails (shape_list p.shape)) p.lookup_grinding in
      let o = only (IsPlayed p) (always p.ood_grinding) in
      let eo = in_only (IsPlayed p) (always p.ood_grinding) ∙ in_always p.ood_grinding in
      in_append l o ∙ (λ i. el i ++ eo i)

  pub in_claims : checks_in (claims_asked p) ≡ claims_list p
  unfolding claims_asked claims_list
  in_claims =
      let d = of_each p.shape.tables (λ i. in_order (p.domain i)) in
      let ed = in_only (NoneFails (shape_list p.shape)) d ∙ in_of_each p.shape.tables (λ i. in_order (p.domain i)) p.domain (λ i. in_in_order (p.domain i)) in
      let m = of_each p.matrices (λ k. always (p.metadata k)) in
      let em = in_only (NoneFails (shape_list p.shape)) m ∙ in_of_each p.matrices (λ k. always (p.metadata k)) p.metadata (λ k. in_always (p.metadata k)) in
      in_append (only (NoneFails (shape_list p.shape)) d) (only (NoneFails (shape_list p.shape)) m) ∙ (λ i. ed i ++ em i)

  -- the checks that are asked are the verifier's, in its order
  pub in_all : checks_in (all_asked p) ≡ all_list p
  unfolding all_asked all_list
  in_all =
      let Played = IsPlayed p × NoneFails (claims_list p) in
      let s = shape_asked p.shape in
      let d = draws_asked p in
      let c = claims_asked p in
      let o = only Played (always p.opens) in
      let eo = in_only Played (always p.opens) ∙ in_always p.opens in
      let t = of_each p.shape.tables (λ i. in_order (p.identity i)) in
      let et = in_only Played t ∙ in_of_each p.shape.tables (λ i. in_order (p.identity i)) p.identity (λ i. in_in_order (p.identity i)) in
      let ee = in_always p.terminals in
      let whole : checks_in (s ++ d ++ (c ++ o) ++ only Played t ++ always p.terminals)
      ≡ checks_in s ++ checks_in d ++ (checks_in c ++ checks_in o) ++ checks_in (only Played t) ++ checks_in (always p.terminals) =
      in_append (s ++ d ++ (c ++ o) ++ only Played t) (always p.terminals)
      ∙ ap (λ l. l ++ checks_in (always p.terminals))
      (in_append (s ++ d ++ (c ++ o)) (only Played t)
      ∙ ap (λ l. l ++ checks_in (only Played t)) (in_append (s ++ d) (c ++ o) ∙ (λ i. in_append s d i ++ in_append c o i))) in
      whole ∙ (λ i. in_shape p.shape i ++ in_draws i ++ (in_claims i ++ eo i) ++ et i ++ ee i)

  -- each is asked where none before it fails
  module _ (opened_in_turn : (i : ℕ) → AreAskedInTurn (Unit {0}) (p.shape.opened i)) (grinding_in_turn : AreAskedInTurn (Unit {0}) p.lookup_grinding)
      (witness_there : NoneFails (checks_in p.lookup_grinding) → p.has_witness) where
    -- where the shape was found right
    pub draws_in_turn : (H : Type 0) → (H → NoneFails (shape_list p.shape)) → AreAskedInTurn H (draws_asked p)
    unfolding draws_asked
    draws_in_turn H shape =
        let l = only (NoneFails (shape_list p.shape)) p.lookup_grinding in
        let G = H × NoneFails (checks_in l) in
        turn_append H l (only (IsPlayed p) (always p.ood_grinding))
        (turn_only H (NoneFails (shape_list p.shape)) p.lookup_grinding shape (turn_weaken (Unit {0}) H p.lookup_grinding (λ h. tt) grinding_in_turn))
        (turn_only G (IsPlayed p) (always p.ood_grinding)
        (λ h. (shape h.0, witness_there (subst NoneFails (in_only (NoneFails (shape_list p.shape)) p.lookup_grinding) h.1))) (turn_always G p.ood_grinding))

    pub claims_in_turn : (H : Type 0) → (H → NoneFails (shape_list p.shape)) → AreAskedInTurn H (claims_asked p)
    unfolding claims_asked
    claims_in_turn H shape =
        let d = of_each p.shape.tables (λ i. in_order (p.domain i)) in
        let m = of_each p.matrices (λ k. always (p.metadata k)) in
        let Shape = NoneFails (shape_list p.shape) in
        let G = H × NoneFails (checks_in (only Shape d)) in
        turn_append H (only Shape d) (only Shape m)
        (turn_only H Shape d shape (turn_of_each H p.shape.tables (λ i. in_order (p.domain i)) (λ i. turn_in_order H (p.domain i))))
        (turn_only G Shape m (λ h. shape h.0) (turn_of_each G p.matrices (λ k. always (p.metadata k)) (λ k. turn_always G (p.metadata k))))

    pub all_in_turn : AreAskedInTurn (Unit {0}) (all_asked p)
    unfolding all_asked draws_list
    all_in_turn =
        let s = shape_asked p.shape in
        let d = draws_asked p in
        let c = claims_asked p in
        let Played = IsPlayed p × NoneFails (claims_list p) in
        let o = only Played (always p.opens) in
        let t = of_each p.shape.tables (λ i. in_order (p.identity i)) in
        let fronts : (x y : List (Asked R)) → NoneFails (checks_in (x ++ y)) → NoneFails (checks_in x) = λ x y h. none_before (checks_in x) (checks_in y) (subst NoneFails (in_append x y) h) in
        let backs : (x y : List (Asked R)) → NoneFails (checks_in (x ++ y)) → NoneFails (checks_in y) = λ x y h. none_after (checks_in x) (checks_in y) (subst NoneFails (in_append x y) h) in
        let shape : NoneFails (checks_in s) → NoneFails (shape_list p.shape) = λ h. subst NoneFails (in_shape p.shape) h in
        let witness : NoneFails (checks_in d) → p.has_witness = λ h. witness_there (none_before (checks_in p.lookup_grinding) p.ood_grinding (subst NoneFails in_draws h)) in
        let claims : NoneFails (checks_in c) → NoneFails (claims_list p) = λ h. subst NoneFails in_claims h in
        let ready : NoneFails (checks_in (s ++ d)) → IsPlayed p = λ h. (shape (fronts s d h), witness (backs s d h)) in
        let Hd = Unit {0} × NoneFails (checks_in s) in
        let Hc = Unit {0} × NoneFails (checks_in (s ++ d)) in
        let Ho = Hc × NoneFails (checks_in c) in
        let Ht = Unit {0} × NoneFails (checks_in (s ++ d ++ (c ++ o))) in
        let He = Unit {0} × NoneFails (checks_in (s ++ d ++ (c ++ o) ++ only Played t)) in
        turn_append (Unit {0}) (s ++ d ++ (c ++ o) ++ only Played t) (always p.terminals)
        (turn_append (Unit {0}) (s ++ d ++ (c ++ o)) (only Played t)
        (turn_append (Unit {0}) (s ++ d) (c ++ o)
        (turn_append (Unit {0}) s d (shape_in_turn p.shape opened_in_turn) (draws_in_turn Hd (λ h. shape h.1)))
        (turn_append Hc c o (claims_in_turn Hc (λ h. shape (fronts s d h.1))) (turn_only Ho Played (always p.opens) (λ h. (ready h.0.1, claims h.1)) (turn_always Ho p.opens))))
        (turn_only Ht Played t (λ h. (ready (fronts (s ++ d) (c ++ o) h.1), claims (fronts c o (backs (s ++ d) (c ++ o) h.1))))
        (turn_of_each Ht p.shape.tables (λ i. in_order (p.identity i)) (λ i. turn_in_order Ht (p.identity i)))))
        (turn_always He p.terminals)

    -- nothing is named exactly where no check fails; and the first that is named is the refusal of the first check that fails
    pub accepted_if_unnamed : AreNamed (all_asked p) [] → NoneFails (all_list p)
    accepted_if_unnamed n = subst NoneFails in_all (none_if_unnamed (Unit {0}) (all_asked p) all_in_turn tt n)

    pub unnamed_if_accepted : (es : List R) → NoneFails (all_list p) → AreNamed (all_asked p) es → es ≡ []
    unnamed_if_accepted es h n = unnamed_if_none (all_asked p) es (subst NoneFails (sym in_all) h) n

    pub first_fault_named : (e : R) (es : List R) → AreNamed (all_asked p) (e ∷ es) → FirstFails (all_list p) e
    first_fault_named e es n = subst (λ cs. FirstFails cs e) in_all (first_is_named (Unit {0}) (all_asked p) e es all_in_turn tt n)
