-- The checks of a batch proof, part by part.
use Rattle.std.proofs.Common.{◌≡◌, ℕ, List, length, Result, ◌∙◌, ap, subst}
use Rattle.p3_field.specs.Checks.{Check, NoneFails, in_turn}
use Rattle.p3_field.specs.Domain.{CosetData}
use Rattle.p3_field.specs.Poly.{tabulate}
use Rattle.batch_statement.specs.Words.{bits_at}
use Rattle.batch_config.specs.Domains.{chunk_domains}
use Rattle.batch_config.specs.Setting.{Setting, Backend}
use Rattle.batch_statement.specs.Proof.{ProofData}
use Rattle.batch_statement.specs.Statement.{Statement}
use Rattle.batch_statement.specs.declared.error.BatchVerificationError.{BatchVerificationError}
use Rattle.verifier_shape.specs.ShapeChecks.{shape_checks}
use Rattle.batch_statement.specs.Verdict.{IsDecided, IsVerdict, IsRefusal}
use Rattle.verifier_shape.specs.Laws.Verdicts.{first_of_five, second_of_five, third_of_five, fourth_of_five, last_of_five, verdict}
use Rattle.verifier_batch.specs.OpeningChecks.{shape_bounds_of, log_chunks_of_table, opening_checks}
use Rattle.verifier_identity.specs.TableIdentity.{terminal_check}
use Rattle.verifier_batch.specs.BatchChecks.{checks, draw_part, drawn_of, identities_at, identity_part, table_challenges_of}

module _ {S F E C P R : Type 0} (c : Setting S F E C) (b : Backend S F E C P R) (s : Statement F C) (p : ProofData F E C P) where
  abbrev pub opening_part : List (Check (BatchVerificationError R))
  opening_part = opening_checks c b s p (drawn_of c s p).zeta (drawn_of c s p).opening

  abbrev pub terminal_part : List (Check (BatchVerificationError R))
  terminal_part = terminal_check c.extension.ring p.lookup_terminals

  abbrev pub shape_part : List (Check (BatchVerificationError R))
  shape_part = shape_checks c.field.ring (shape_bounds_of c) s p

  pub refused_by_shape : (e : BatchVerificationError R) → IsRefusal shape_part e → IsRefusal (checks c b s p) e
  unfolding checks
  refused_by_shape e v = first_of_five shape_part (draw_part c s p) opening_part (identity_part c s p) terminal_part e v

  pub refused_by_draws : (e : BatchVerificationError R) → NoneFails shape_part → IsRefusal (draw_part c s p) e → IsRefusal (checks c b s p) e
  unfolding checks
  refused_by_draws e x v = second_of_five shape_part (draw_part c s p) opening_part (identity_part c s p) terminal_part e x v

  pub refused_by_openings : (e : BatchVerificationError R) → NoneFails shape_part → NoneFails (draw_part c s p {R = R}) → IsRefusal opening_part e → IsRefusal (checks c b s p) e
  unfolding checks
  refused_by_openings e x y v = third_of_five shape_part (draw_part c s p) opening_part (identity_part c s p) terminal_part e x y v

  pub refused_by_identities : (e : BatchVerificationError R) → NoneFails shape_part → NoneFails (draw_part c s p {R = R}) → NoneFails opening_part → IsRefusal (identity_part c s p) e
      → IsRefusal (checks c b s p) e
  unfolding checks
  refused_by_identities e x y z v = fourth_of_five shape_part (draw_part c s p) opening_part (identity_part c s p) terminal_part e x y z v

  pub decided_by_terminals : {T : Type 0} (r : Result T (BatchVerificationError R)) → NoneFails shape_part → NoneFails (draw_part c s p {R = R}) → NoneFails opening_part
      → NoneFails (identity_part c s p {R = R}) → IsVerdict terminal_part r → IsVerdict (checks c b s p) r
  unfolding checks
  decided_by_terminals r x y z w v = last_of_five shape_part (draw_part c s p) opening_part (identity_part c s p) terminal_part r x y z w v

  -- the same of what is opened at what was drawn, and of the tables' identities with the challenges and domains that belong to them
  pub opening_same : (zeta : E) (state : S) → zeta ≡ (drawn_of c s p).zeta → state ≡ (drawn_of c s p).opening → opening_checks c b s p zeta state ≡ opening_part
  opening_same zeta state ez es = λ j. opening_checks c b s p (ez j) (es j)

  abbrev pub own_domains : ℕ → List (CosetData F)
  own_domains i = chunk_domains c (bits_at p.degree_bits i) (log_chunks_of_table c s p i)

  pub identity_same : (n : ℕ) (cs : List (List E)) (ds : List (List (CosetData F))) (alpha zeta : E) → n ≡ length s.tables → cs ≡ tabulate n (table_challenges_of c s p) → ds ≡ tabulate n own_domains
      → alpha ≡ (drawn_of c s p).alpha → zeta ≡ (drawn_of c s p).zeta → in_turn n (identities_at c s p {R = R} cs ds alpha zeta) ≡ identity_part c s p
  identity_same n cs ds alpha zeta en ec ed ea ez =
      let challenges = ec ∙ ap (λ k. tabulate k (table_challenges_of c s p)) en in
      let domains = ed ∙ ap (λ k. tabulate k own_domains) en in
      λ j. in_turn (en j) (identities_at c s p {R = R} (challenges j) (domains j) (ea j) (ez j))

  pub refused_at_openings : (zeta : E) (state : S) (e : BatchVerificationError R) → zeta ≡ (drawn_of c s p).zeta → state ≡ (drawn_of c s p).opening → NoneFails shape_part
      → NoneFails (draw_part c s p {R = R}) → IsRefusal (opening_checks c b s p zeta state) e → IsRefusal (checks c b s p) e
  refused_at_openings zeta state e ez es x y v = refused_by_openings e x y (subst (λ cs. IsRefusal cs e) (opening_same zeta state ez es) v)

  pub none_at_openings : (zeta : E) (state : S) → zeta ≡ (drawn_of c s p).zeta → state ≡ (drawn_of c s p).opening → NoneFails (opening_checks c b s p zeta state) → NoneFails opening_part
  none_at_openings zeta state ez es v = subst NoneFails (opening_same zeta state ez es) v

  -- where the tables' identities are refused, and where the terminals decide
  module _ (n : ℕ) (cs : List (List E)) (ds : List (List (CosetData F))) (alpha zeta : E) (state : S) where
    pub refused_at_identities : (e : BatchVerificationError R) → n ≡ length s.tables → cs ≡ tabulate n (table_challenges_of c s p) → ds ≡ tabulate n own_domains → alpha ≡ (drawn_of c s p).alpha
        → zeta ≡ (drawn_of c s p).zeta → state ≡ (drawn_of c s p).opening → NoneFails shape_part → NoneFails (draw_part c s p {R = R}) → NoneFails (opening_checks c b s p zeta state)
        → IsRefusal (in_turn n (identities_at c s p {R = R} cs ds alpha zeta)) e → IsRefusal (checks c b s p) e
    refused_at_identities e en ec ed ea ez es x y z v =
        refused_by_identities e x y (none_at_openings zeta state ez es z) (subst (λ ks. IsRefusal ks e) (identity_same n cs ds alpha zeta en ec ed ea ez) v)

    pub decided_at_terminals : {T : Type 0} (r : Result T (BatchVerificationError R)) → n ≡ length s.tables → cs ≡ tabulate n (table_challenges_of c s p) → ds ≡ tabulate n own_domains → alpha ≡ (drawn_of c s p).alpha
        → zeta ≡ (drawn_of c s p).zeta → state ≡ (drawn_of c s p).opening → NoneFails shape_part → NoneFails (draw_part c s p {R = R}) → NoneFails (opening_checks c b s p zeta state)
        → NoneFails (in_turn n (identities_at c s p {R = R} cs ds alpha zeta)) → IsDecided terminal_part r → IsVerdict (checks c b s p) r
    decided_at_terminals r en ec ed ea ez es x y z w v =
        decided_by_terminals r x y (none_at_openings zeta state ez es z) (subst NoneFails (identity_same n cs ds alpha zeta en ec ed ea ez) w) (verdict terminal_part r v)
