use Rattle.std.proofs.Common.{inl, inr, Vec, Global}
use Rattle.p3_matrix.specs.Matrix.{Rows}
use Rattle.example_commit.proofs.Refusals.{handed_on, refused_as, leads_to}
use Rattle.example_commit.proofs.quotients.committed_by_parts.Goals as goal

pub returns-clause-refusal : goal.returns-clause-refusal
returns-clause-refusal g c =
    refused_as (g.P.UnivariateStarkPcs.ldes_fault c.args.pcs.now c.in_ok-ldes.ldes.items) _
    (λ e h. g.met.P.UnivariateStarkPcs.quotient_refused c.args.pcs.now c.args.domain.now c.args.evaluations c.args.num_chunks c.in_ok-parts.parts.items e c.requires.power c.requires.fits c.requires.height c.in_ok-parts.ensures
    (inr (c.in_ok-ldes.ensures.refusal, (c.in_ok-ldes.ldes.items, c.in_ok-ldes.ensures.extensions, h))))
    (λ none. g.met.P.UnivariateStarkPcs.quotient_granted c.args.pcs.now c.args.domain.now c.args.evaluations c.args.num_chunks c.in_ok-parts.parts.items c.requires.power c.requires.fits c.requires.height c.in_ok-parts.ensures
    (c.in_ok-ldes.ensures.refusal, (c.in_ok-ldes.ldes.items, c.in_ok-ldes.ensures.extensions, none)))
    c.commit_ldes.result c.commit_ldes.ensures.refusal

pub returns-clause-committed : goal.returns-clause-committed
returns-clause-committed g c = leads_to _ _ (λ w h. (c.in_ok-parts.parts.items, c.in_ok-parts.ensures, h c.in_ok-parts.parts.items c.in_ok-ldes.ensures.extensions)) c.commit_ldes.result c.commit_ldes.ensures.committed

pub returns-in_err-ldes-clause-refusal : goal.returns-in_err-ldes-clause-refusal
returns-in_err-ldes-clause-refusal g c =
    handed_on (Vec (Rows g.row.P-Val.Denot) Global) (g.P.UnivariateStarkPcs.extension_fault c.args.pcs.now c.in_ok-parts.parts.items c.args.num_chunks) _
    (λ e h. g.met.P.UnivariateStarkPcs.quotient_refused c.args.pcs.now c.args.domain.now c.args.evaluations c.args.num_chunks c.in_ok-parts.parts.items e c.requires.power c.requires.fits c.requires.height c.in_ok-parts.ensures (inl h))
    c.from_residual-in_err-ldes.result c.in_err-ldes.field-0.0 c.from_residual-in_err-ldes.ensures.1 c.in_err-ldes.ensures.refusal
