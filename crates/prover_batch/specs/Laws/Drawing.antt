-- What is drawn along a prover's transcript is what the honest proof is made of.
use Rattle.std.proofs.Common.{◌≡◌, ℕ, List, [], ◌∷◌, length, get_or, Option, None, ◌∙◌, ap}
use Rattle.std.specs.List.{filter_map}
use Rattle.std.proofs.lemmas.List.{length-map}
use Rattle.p3_field.specs.Laws.Tabulate.{length-tabulate, tabulate_items}
use Rattle.p3_field.specs.Poly.{tabulate}
use Rattle.p3_field.specs.Ring.{Ring}
use Rattle.p3_matrix.specs.Matrix.{Rows}
use Rattle.p3_challenger.specs.Script.{Played}
use Rattle.p3_lookup.specs.Lookup.{LookupData}
use Rattle.batch_config.specs.Setting.{Setting}
use Rattle.batch_statement.specs.Statement.{Statement}
use Rattle.batch_transcript.specs.BatchScript.{ood_script, pair_script, permutation_script, quotient_script}
use Rattle.batch_transcript.specs.Buses.{batch_layout}
use Rattle.batch_transcript.specs.Running.{Plays, Running, drawn_along}
use Rattle.law_valid.specs.Valid.{IsTracedBatch}
use Rattle.law_honest.specs.HonestProof.{Prover, alpha, state_after_script, challenges_at, first_drawn, opening_state, pair, honest_permutation_commitment, honest_quotient_commitment, shape, state_at_ood, state_at_pair, state_at_permutation, state_at_quotient, terminals, zeta}

-- the layout has a list for each table
layout_long : {F E : Type 0} (e : Ring E) (drawn : List E) (tables : List (List (LookupData F))) → length (batch_layout e drawn tables) ≡ length tables
layout_long e [] tables = length-map tables (λ _. [])
layout_long e (a ∷ []) tables = length-map tables (λ _. [])
layout_long e (a ∷ b ∷ rest) tables = length-tabulate (length tables) _

module _ {S F E C : Type 0} (c : Setting S F E C) (p : Prover F E C) (s : Statement F C) (traces : List (Rows F)) (degree_bits : List ℕ) where
  abbrev pairs : Option F → List (Played F E C)
  pairs w = pair_script c.extension.dimension (shape c p s traces degree_bits).num_lookup_instances c.lookup_bits w

  abbrev pairs_at : Running S → Option F → List (Played F E C)
  pairs_at x w = pair_script c.extension.dimension x.shape.num_lookup_instances x.shape.lookup_pow_bits w

  same_pairs : (x : Running S) (w : Option F) → x.shape ≡ shape c p s traces degree_bits → pairs_at x w ≡ pairs w
  same_pairs x w same = ap (λ z. pair_script c.extension.dimension z.num_lookup_instances z.lookup_pow_bits w) same

  -- the challenges of each table's lookups
  pub challenges_are : IsTracedBatch c p.commitment_of s traces degree_bits → (w : Option F) (x : Running S) (lookups : List (List (LookupData F))) (laid : List (List E)) → lookups ≡ s.common.lookups → x.state ≡ state_at_pair c p s traces degree_bits → x.shape ≡ shape c p s traces degree_bits
      → laid ≡ batch_layout c.extension.ring (drawn_along c.challenger x.state (pairs_at x w)) lookups → laid ≡ tabulate (length s.tables) (challenges_at c p s traces degree_bits w)
  unfolding pair
  challenges_are B w x lookups laid written here same e =
      let at : laid ≡ batch_layout c.extension.ring (pair c p s traces degree_bits w) s.common.lookups =
      e ∙ (λ i. batch_layout c.extension.ring (drawn_along c.challenger (here i) (same_pairs x w same i)) (written i)) in
      at ∙ tabulate_items [] (batch_layout c.extension.ring (pair c p s traces degree_bits w) s.common.lookups) (length s.tables) (layout_long c.extension.ring (pair c p s traces degree_bits w) s.common.lookups ∙ B.lists.lookups_long)

  -- the states, one after the other, and what is drawn between them
  pub after_pair : (w : Option F) (x y : Running S) (drawn : List E) → Plays c.challenger (pairs_at x w) x y drawn → x.state ≡ state_at_pair c p s traces degree_bits → x.shape ≡ shape c p s traces degree_bits
      → y.state ≡ state_at_permutation c p s traces degree_bits w
  unfolding state_at_permutation
  after_pair w x y drawn P here same = P.state ∙ (λ i. state_after_script c.challenger (here i) (same_pairs x w same i))

  module _ (w : Option F) (columns : Option C) (ends : List E) (are : columns ≡ honest_permutation_commitment c p s traces degree_bits w) (end : ends ≡ filter_map (λ t. t) (terminals c p s traces degree_bits w))
      (x y : Running S) (a : E) (P : Plays c.challenger (permutation_script c.extension.dimension columns ends) x y (a ∷ [])) (here : x.state ≡ state_at_permutation c p s traces degree_bits w) where
    abbrev folds : List (Played F E C)
    folds = permutation_script c.extension.dimension (honest_permutation_commitment c p s traces degree_bits w) (filter_map (λ t. t) (terminals c p s traces degree_bits w))

    same_folds : permutation_script c.extension.dimension columns ends ≡ folds
    same_folds = λ i. permutation_script c.extension.dimension (are i) (end i)

    pub alpha_is : a ≡ alpha c p s traces degree_bits w
    unfolding alpha
    alpha_is = ap (λ l. get_or l 0 c.extension.ring.zero) P.challenges ∙ (λ i. first_drawn c.challenger c.extension.ring.zero (here i) (same_folds i))

    pub after_alpha : y.state ≡ state_at_quotient c p s traces degree_bits w
    unfolding state_at_quotient
    after_alpha = P.state ∙ (λ i. state_after_script c.challenger (here i) (same_folds i))

  pub after_quotient : (w : Option F) (q : C) (x y : Running S) → q ≡ honest_quotient_commitment c p s traces degree_bits w → Plays c.challenger (quotient_script q None) x y []
      → x.state ≡ state_at_quotient c p s traces degree_bits w → y.state ≡ state_at_ood c p s traces degree_bits w
  unfolding state_at_ood
  after_quotient w q x y is P here = P.state ∙ (λ i. state_after_script c.challenger (here i) (quotient_script (is i) None))

  module _ (w : Option F) (z : F) (x y : Running S) (point : E) (P : Plays c.challenger (ood_script c.extension.dimension x.shape.ood_pow_bits z) x y (point ∷ [])) (here : x.state ≡ state_at_ood c p s traces degree_bits w)
      (same : x.shape ≡ shape c p s traces degree_bits) where
    abbrev points_at : ℕ → List (Played F E C)
    points_at bits = ood_script c.extension.dimension bits z

    same_steps : points_at x.shape.ood_pow_bits ≡ points_at c.ood_bits
    same_steps = λ i. points_at (same i).ood_pow_bits

    pub zeta_is : point ≡ zeta c p s traces degree_bits w z
    unfolding zeta
    zeta_is = ap (λ l. get_or l 0 c.extension.ring.zero) P.challenges ∙ (λ i. first_drawn c.challenger c.extension.ring.zero (here i) (same_steps i))

    pub after_zeta : y.state ≡ opening_state c p s traces degree_bits w z
    unfolding opening_state
    after_zeta = P.state ∙ (λ i. state_after_script c.challenger (here i) (same_steps i))
