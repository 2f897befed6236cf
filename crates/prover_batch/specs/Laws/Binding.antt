-- What is bound of a batch before the pair of its lookups is drawn.
use Rattle.std.proofs.Common.{◌≡◌, ℕ, ◌<◌, List, [], ◌++◌, length, map, sym, ◌∙◌, ap, arith}
use Rattle.std.specs.Prelude.{option_map}
use Rattle.std.proofs.lemmas.List.{ext_get_or, get_or-map, length-map}
use Rattle.p3_field.specs.Domain.{CosetData}
use Rattle.p3_matrix.specs.Matrix.{Rows}
use Rattle.p3_challenger.specs.Script.{Played}
use Rattle.batch_config.specs.Setting.{Setting}
use Rattle.batch_statement.specs.Words.{no_table}
use Rattle.batch_statement.specs.Statement.{Statement, AirTable}
use Rattle.batch_transcript.specs.BatchScript.{bindings_script, main_script, preprocessed_script, seeded}
use Rattle.batch_transcript.specs.Running.{Plays, Running}
use Rattle.law_valid.specs.Valid.{IsTracedBatch}
use Rattle.law_honest.specs.HonestProof.{Prover, state_after_script, honest_main_commitment, shape, state_at_pair}
use Rattle.law_honest.specs.Laws.Staged.{state_after_append}

-- there are as many public values of each table as it declares
pub publics_counted : {S F E C : Type 0} (c : Setting S F E C) (commitment_of : List (CosetData F × Rows F) → C) (s : Statement F C) (traces : List (Rows F)) (degree_bits : List ℕ)
    → IsTracedBatch c commitment_of s traces degree_bits → map length s.publics ≡ map (λ t. t.declaration.public_values) s.tables
publics_counted {F = F} c commitment_of s traces degree_bits B =
    let long : length (map (length {A = F}) s.publics) ≡ length s.tables = length-map s.publics (length {A = F}) ∙ B.lists.publics_long in
    ext_get_or 0 (map length s.publics) (map (λ (t : AirTable F). t.declaration.public_values) s.tables)
    (long ∙ sym (length-map s.tables (λ (t : AirTable F). t.declaration.public_values)))
    (λ i b.
    let inside : i < length s.tables = omega (arith, b, long) in
    let here : i < length s.publics = let q = B.lists.publics_long in omega (arith, inside, q) in
    get_or-map length s.publics i [] 0 here
    ∙ (B.traced i inside).publics
    ∙ sym (get_or-map (λ (t : AirTable F). t.declaration.public_values) s.tables i no_table 0 inside))

module _ {S F E C : Type 0} (c : Setting S F E C) (p : Prover F E C) (s : Statement F C) (traces : List (Rows F)) (degree_bits : List ℕ) where
  -- the state after what is bound is that of the honest proof
  pub bound_state : (x0 x1 x2 x3 : Running S) → x0.state ≡ seeded c.challenger c.field.ring c.extension.dimension (shape c p s traces degree_bits) c.initial
      → Plays c.challenger (bindings_script c.extension.ring c.extension.dimension degree_bits) x0 x1 []
      → Plays c.challenger (main_script (honest_main_commitment c p s traces degree_bits) s.publics) x1 x2 []
      → Plays c.challenger (preprocessed_script (option_map (λ g. g.commitment) s.common.preprocessed)) x2 x3 []
      → x3.state ≡ state_at_pair c p s traces degree_bits
  unfolding state_at_pair
  bound_state x0 x1 x2 x3 seed p1 p2 p3 =
      let k = c.challenger in
      let s1 : List (Played F E C) = bindings_script c.extension.ring c.extension.dimension degree_bits in
      let s2 : List (Played F E C) = main_script (honest_main_commitment c p s traces degree_bits) s.publics in
      let s3 : List (Played F E C) = preprocessed_script (option_map (λ g. g.commitment) s.common.preprocessed) in
      let start = seeded k c.field.ring c.extension.dimension (shape c p s traces degree_bits) c.initial in
      let first : x1.state ≡ state_after_script k start s1 = p1.state ∙ ap (λ t. state_after_script k t s1) seed in
      let second : x2.state ≡ state_after_script k start (s1 ++ s2) = p2.state ∙ (ap (λ t. state_after_script k t s2) first ∙ sym (state_after_append k start s1 s2)) in
      p3.state ∙ (ap (λ t. state_after_script k t s3) second ∙ sym (state_after_append k start (s1 ++ s2) s3))
