use Rattle.std.proofs.Common.{◌≡◌, ◌*◌, List, Result, Ok, Err, IfOk, length, sym, ◌∙◌, ap, subst}
use Rattle.std.specs.List.{flat_map}
use Rattle.std.specs.Prelude.{zip}
use Rattle.p3_field.specs.Field.{TwoAdic, Extension}
use Rattle.p3_field.specs.Domain.{CosetData}
use Rattle.p3_field.specs.Laws.TwoAdic.{decide_by}
use Rattle.p3_matrix.specs.Matrix.{Rows, height}
use Rattle.p3_matrix.specs.Laws.Flattened.{length-pieces}
use Rattle.p3_matrix.specs.Laws.Grids.{product_fills}
use Rattle.commit_core.specs.Commitments.{AreParts}
use Rattle.commit_core.specs.Laws.Pairs.{EachOf-zip}
use Rattle.commit_core.specs.Space.{IsPart}
use Rattle.law_committed.specs.Fields.{FieldsLaws}
use Rattle.prover_values.specs.Laws.Chunks.{parts_are_chunks, height_of_pieces}
use Rattle.prover_values.proofs.chunks.quotient_chunks.Goals as goal

-- of an Ok answer, what follows from what holds of it
follows : {X Y : Type 0} (r : Result X Y) (P Q : X → Type 0) → IfOk r P → ((x : X) → P x → Q x) → IfOk r Q
follows (Ok x) P Q h k = k x h
follows (Err e) P Q h k = h

pub new-matrix-requires : goal.new-matrix-requires
new-matrix-requires g c =
    let parts = g.E.BasedVectorSpace.coefficients in
    let d = g.E.BasedVectorSpace.DIMENSION in
    let V = g.met.E.BasedVectorSpace.vector_laws in
    let xs = c.args.values.now in
    let count : length c.in_ok-flat.flat.items ≡ length xs * d = ap length c.in_ok-flat.ensures ∙ length-pieces parts d V.coefficients_length xs in
    product_fills c.in_ok-flat.flat.items (length xs) c.DIMENSION.result (count ∙ ap (λ k. length xs * k) (sym c.DIMENSION.ensures))

pub split_evals-requires-clause-height : goal.split_evals-requires-clause-height
split_evals-requires-clause-height g c =
    let V = g.met.E.BasedVectorSpace.vector_laws in
    ap height c.new-matrix.ensures
    ∙ ((λ j. height (record { values = c.in_ok-flat.ensures j; width = c.DIMENSION.ensures j }))
    ∙ (height_of_pieces g.E.BasedVectorSpace.coefficients g.E.BasedVectorSpace.DIMENSION V.coefficients_length V.positive c.args.values.now ∙ c.requires.count))

pub paired-requires : goal.paired-requires
paired-requires g c = ap length c.deref.ensures.value ∙ (c.in_ok-domains.ensures.count ∙ sym c.in_ok-rows.ensures.count)

pub returns : goal.returns
returns g c =
    let f : TwoAdic g.row.F.Denot = record { ring = g.F.RingCore.ring; inv = g.F.FieldCore.inv; root = g.F.TwoAdicCore.root; generator = g.F.FieldCore.GENERATOR } in
    let e : Extension g.row.F.Denot g.row.E.Denot = record { ring = g.E.RingCore.ring; embed = g.E.ExtensionField.embed; dimension = g.E.BasedVectorSpace.DIMENSION; basis = g.E.ExtensionField.basis; coefficients = g.E.BasedVectorSpace.coefficients; from_coefficients = g.E.BasedVectorSpace.from_coefficients } in
    let L : FieldsLaws f e g.F.TwoAdicCore.TWO_ADICITY g.E.FieldCore.inv = record {
      below = g.met.F.RingCore.ring_laws;
      below_field = g.met.F.FieldCore.field_laws;
      below_decided = decide_by _ g.met.F.FieldCore.eq_same g.met.F.FieldCore.same_eq;
      roots = g.met.F.TwoAdicCore.root_laws;
      above = g.met.E.RingCore.ring_laws;
      above_field = g.met.E.FieldCore.field_laws;
      above_decided = decide_by _ g.met.E.FieldCore.eq_same g.met.E.FieldCore.same_eq;
      embeds = g.met.E.ExtensionField.embed_laws;
      vector = g.met.E.BasedVectorSpace.vector_laws;
      spans = g.met.E.ExtensionField.basis_laws;
    } in
    let D = c.args.quotient_domain in
    let n = c.args.num_chunks in
    let m = c.new-matrix.result in
    let whole : m ≡ record { values = flat_map e.coefficients c.args.values.now; width = e.dimension } =
    c.new-matrix.ensures ∙ (λ j. record { values = c.in_ok-flat.ensures j; width = c.DIMENSION.ensures j }) in
    let parts : AreParts (IsPart f.ring f.root D n) m n (zip c.deref.result.now c.in_ok-rows.rows.items) =
    subst (λ (ds : List (CosetData g.row.F.Denot)). AreParts (IsPart f.ring f.root D n) m n (zip ds c.in_ok-rows.rows.items)) (sym c.deref.ensures.value)
    (EachOf-zip n c.in_ok-domains.domains.items c.in_ok-rows.rows.items _ _ c.in_ok-domains.ensures c.in_ok-rows.ensures) in
    follows c.paired.result _ _ c.paired.ensures (λ v is t trees alpha log_chunks count size are.
    parts_are_chunks f e g.F.TwoAdicCore.TWO_ADICITY g.E.FieldCore.inv L t trees alpha log_chunks D size c.args.values.now are n m count whole v.items
    (subst (λ (ps : List (CosetData g.row.F.Denot × Rows g.row.F.Denot)). AreParts (IsPart f.ring f.root D n) m n ps) (sym is) parts))
