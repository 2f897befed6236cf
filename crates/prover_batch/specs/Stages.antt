-- The stages of a batch's honest proof, each named of the batch.
use Rattle.std.specs.Prelude.{List, Option}
use Rattle.p3_field.specs.Poly.{tabulate}
use Rattle.batch_statement.specs.Proof.{OpenedWithLookups}
use Rattle.batch_transcript.specs.BatchScript.{BatchShapeData}
use Rattle.law_honest.specs.HonestProof.{alpha, challenges_at, honest_main_commitment, opened_of, opening_state, honest_permutation_commitment, honest_quotient_commitment, shape, state_at_ood, state_at_pair, state_at_quotient, terminals, zeta}
use Rattle.prover_answer.specs.Batch.{Batch, table_at, table_count}

module _ {S F E C : Type 0} (b : Batch S F E C) where
  -- the shape of its script, the commitment to its traces, and the challenger's state after what is bound before the lookups' pair is drawn
  abbrev pub shape_of : BatchShapeData
  shape_of = shape b.setting b.prover b.statement b.traces b.degree_bits

  abbrev pub main_of : C
  main_of = honest_main_commitment b.setting b.prover b.statement b.traces b.degree_bits

  abbrev pub pair_state : S
  pair_state = state_at_pair b.setting b.prover b.statement b.traces b.degree_bits

  module _ (w : Option F) where
    -- after the challenge that folds the constraints, and after the commitment to the quotients
    abbrev pub quotient_state : S
    quotient_state = state_at_quotient b.setting b.prover b.statement b.traces b.degree_bits w

    abbrev pub ood_state : S
    ood_state = state_at_ood b.setting b.prover b.statement b.traces b.degree_bits w

    -- the terminals, and the commitments to the permutation columns and to the quotients' chunks
    abbrev pub terminals_of : List (Option E)
    terminals_of = terminals b.setting b.prover b.statement b.traces b.degree_bits w

    abbrev pub permutation_commitment : Option C
    permutation_commitment = honest_permutation_commitment b.setting b.prover b.statement b.traces b.degree_bits w

    abbrev pub quotient_of : C
    quotient_of = honest_quotient_commitment b.setting b.prover b.statement b.traces b.degree_bits w

    -- the point of the openings, and the state in which they are proved
    abbrev pub point_of : F → E
    point_of z = zeta b.setting b.prover b.statement b.traces b.degree_bits w z

    abbrev pub state_of_opening : F → S
    state_of_opening z = opening_state b.setting b.prover b.statement b.traces b.degree_bits w z

    -- what is opened of each table there
    abbrev pub opened_tables : F → List (OpenedWithLookups E)
    opened_tables z =
        tabulate (table_count b)
        (λ i. opened_of b.setting b.prover (table_at b i) (challenges_at b.setting b.prover b.statement b.traces b.degree_bits w i) (alpha b.setting b.prover b.statement b.traces b.degree_bits w) (point_of z))
