use Rattle.std.proofs.Common.{◌≡◌, List, [], ◌∷◌, map, ◌∙◌, ap, subst, Vec, Global}
use Rattle.std.specs.Prelude.{option_map}
use Rattle.p3_field.specs.Checks.{Check}
use Rattle.p3_field.specs.Laws.Checks.{first_after, first_stops}
use Rattle.p3_uni_stark.specs.Opened.{OpenedData}
use Rattle.batch_statement.specs.Proof.{OpenedWithLookups}
use Rattle.batch_statement.specs.Verdict.{IsDecided}
use Rattle.batch_statement.specs.declared.error.BatchVerificationError.{BatchVerificationError}
use Rattle.verifier_shape.specs.ShapeChecks.{chunk_checks, chunk_count_check, chunk_length_check, random_check}
use Rattle.verifier_shape.specs.Laws.Verdicts.{decided_after, exits_decided}
use Rattle.verifier_shape.proofs.opened.check_chunks.Goals as goal

pub returns-in_err-check_chunk_count : goal.returns-in_err-check_chunk_count
returns-in_err-check_chunk_count g c =
    let a = c.args in
    let items : Vec g.row.E.Denot Global → List g.row.E.Denot = λ v. v.items in
    let seen = ap (λ (o : OpenedData g.row.E.Denot). o.quotient_chunks) c.opened-2.view_is ∙ ap (λ (o : OpenedWithLookups g.row.E.Denot). o.base.quotient_chunks) c.opened.view_is in
    let one : map items c.deref.result.now ≡ a.opened.now.base.quotient_chunks = ap (map items) c.deref.ensures.value ∙ seen in
    let first : Check (BatchVerificationError g.row.R.Denot) = chunk_count_check a.index a.chunks (map items c.deref.result.now) in
    let rest : List (Check (BatchVerificationError g.row.R.Denot)) = chunk_length_check a.index a.dimension a.opened.now.base.quotient_chunks ∷ random_check a.dimension a.opened.now.base.random ∷ [] in
    let same : first ∷ rest ≡ chunk_checks a.index a.chunks a.dimension a.opened.now.base = λ j. chunk_count_check a.index a.chunks (one j) ∷ rest in
    subst (λ cs. IsDecided cs c.from_residual.result) same (exits_decided _ _ _ c.from_residual.ensures.1 (first_stops (first ∷ []) rest _ c.in_err-check_chunk_count.ensures))

pub returns-in_err-check_chunk_lengths : goal.returns-in_err-check_chunk_lengths
returns-in_err-check_chunk_lengths g c =
    let a = c.args in
    let items : Vec g.row.E.Denot Global → List g.row.E.Denot = λ v. v.items in
    let seen = ap (λ (o : OpenedData g.row.E.Denot). o.quotient_chunks) c.opened-2.view_is ∙ ap (λ (o : OpenedWithLookups g.row.E.Denot). o.base.quotient_chunks) c.opened.view_is in
    let one : map items c.deref.result.now ≡ a.opened.now.base.quotient_chunks = ap (map items) c.deref.ensures.value ∙ seen in
    let two : map items c.deref-2.result.now ≡ a.opened.now.base.quotient_chunks = ap (map items) c.deref-2.ensures.value ∙ seen in
    let first : Check (BatchVerificationError g.row.R.Denot) = chunk_count_check a.index a.chunks (map items c.deref.result.now) in
    let second : Check (BatchVerificationError g.row.R.Denot) = chunk_length_check a.index a.dimension (map items c.deref-2.result.now) in
    let last : Check (BatchVerificationError g.row.R.Denot) = random_check a.dimension a.opened.now.base.random in
    let same : first ∷ second ∷ last ∷ [] ≡ chunk_checks a.index a.chunks a.dimension a.opened.now.base = λ j. chunk_count_check a.index a.chunks (one j) ∷ chunk_length_check a.index a.dimension (two j) ∷ last ∷ [] in
    subst (λ cs. IsDecided cs c.from_residual-in_err-check_chunk_lengths.result) same
    (exits_decided _ _ _ c.from_residual-in_err-check_chunk_lengths.ensures.1
    (first_after (first ∷ []) (second ∷ last ∷ []) _ c.in_ok-check_chunk_count.ensures (first_stops (second ∷ []) (last ∷ []) _ c.in_err-check_chunk_lengths.ensures)))

pub returns : goal.returns
returns g c =
    let a = c.args in
    let items : Vec g.row.E.Denot Global → List g.row.E.Denot = λ v. v.items in
    let seen = ap (λ (o : OpenedData g.row.E.Denot). o.quotient_chunks) c.opened-2.view_is ∙ ap (λ (o : OpenedWithLookups g.row.E.Denot). o.base.quotient_chunks) c.opened.view_is in
    let one : map items c.deref.result.now ≡ a.opened.now.base.quotient_chunks = ap (map items) c.deref.ensures.value ∙ seen in
    let two : map items c.deref-2.result.now ≡ a.opened.now.base.quotient_chunks = ap (map items) c.deref-2.ensures.value ∙ seen in
    let masked : option_map items c.opened-2.inside.random ≡ a.opened.now.base.random =
    ap (λ (o : OpenedData g.row.E.Denot). o.random) c.opened-2.view_is ∙ ap (λ (o : OpenedWithLookups g.row.E.Denot). o.base.random) c.opened.view_is in
    let first : Check (BatchVerificationError g.row.R.Denot) = chunk_count_check a.index a.chunks (map items c.deref.result.now) in
    let second : Check (BatchVerificationError g.row.R.Denot) = chunk_length_check a.index a.dimension (map items c.deref-2.result.now) in
    let last : Check (BatchVerificationError g.row.R.Denot) = random_check a.dimension (option_map items c.opened-2.inside.random) in
    let same : first ∷ second ∷ last ∷ [] ≡ chunk_checks a.index a.chunks a.dimension a.opened.now.base =
    λ j. chunk_count_check a.index a.chunks (one j) ∷ chunk_length_check a.index a.dimension (two j) ∷ random_check a.dimension (masked j) ∷ [] in
    subst (λ cs. IsDecided cs c.check_random.result) same
    (decided_after (first ∷ []) (second ∷ last ∷ []) _ c.in_ok-check_chunk_count.ensures (decided_after (second ∷ []) (last ∷ []) _ c.in_ok-check_chunk_lengths.ensures c.check_random.ensures))
