use Rattle.std.proofs.Common.{◌≡◌, List, [], ◌∷◌, map, ◌∙◌, ap, subst, Vec, Global}
use Rattle.std.specs.Prelude.{option_map}
use Rattle.p3_field.specs.Checks.{Check}
use Rattle.p3_uni_stark.specs.Opened.{OpenedData}
use Rattle.batch_statement.specs.Proof.{OpenedWithLookups}
use Rattle.batch_statement.specs.declared.error.BatchVerificationError.{BatchVerificationError}
use Rattle.verifier_shape.specs.ShapeChecks.{chunk_checks, chunk_count_check, chunk_length_check, random_check}
use Rattle.audit_batch.specs.Asked.{always}
use Rattle.audit_batch.specs.Named.{AreNamedAfter}
use Rattle.audit_batch.specs.Laws.Naming.{after_one, after_then}
use Rattle.audit_batch.proofs.opened.name_chunks.Goals as goal

pub returns : goal.returns
returns g c =
    let a = c.args in
    let items : Vec g.row.E.Denot Global → List g.row.E.Denot = λ v. v.items in
    let seen = ap (λ (o : OpenedData g.row.E.Denot). o.quotient_chunks) c.base.view_is ∙ ap (λ (o : OpenedWithLookups g.row.E.Denot). o.base.quotient_chunks) c.opened.view_is in
    let one : map items c.deref.result.now ≡ a.opened.now.base.quotient_chunks = ap (map items) c.deref.ensures.value ∙ seen in
    let two : map items c.deref-2.result.now ≡ a.opened.now.base.quotient_chunks = ap (map items) c.deref-2.ensures.value ∙ seen in
    let masked : option_map items c.base.inside.random ≡ a.opened.now.base.random =
    ap (λ (o : OpenedData g.row.E.Denot). o.random) c.base.view_is ∙ ap (λ (o : OpenedWithLookups g.row.E.Denot). o.base.random) c.opened.view_is in
    let first : Check (BatchVerificationError g.row.R.Denot) = chunk_count_check a.index a.chunks (map items c.deref.result.now) in
    let second : Check (BatchVerificationError g.row.R.Denot) = chunk_length_check a.index a.dimension (map items c.deref-2.result.now) in
    let last : Check (BatchVerificationError g.row.R.Denot) = random_check a.dimension (option_map items c.base.inside.random) in
    let same : first ∷ second ∷ last ∷ [] ≡ chunk_checks a.index a.chunks a.dimension a.opened.now.base =
    λ j. chunk_count_check a.index a.chunks (one j) ∷ chunk_length_check a.index a.dimension (two j) ∷ random_check a.dimension (masked j) ∷ [] in
    subst (λ cs. AreNamedAfter a.faults.now.items (always cs) c.name_answer-3.new.faults.items) same
    (after_then first (second ∷ last ∷ []) _ _ _ (after_one first _ _ _ c.check_chunk_count.ensures c.in_ok-name_answer.ensures.named)
    (after_then second (last ∷ []) _ _ _ (after_one second _ _ _ c.check_chunk_lengths.ensures c.in_ok-name_answer-2.ensures.named)
    (after_one last _ _ _ c.check_random.ensures c.in_ok-name_answer-3.ensures.named)))
