use Rattle.std.proofs.Common.{◌≡◌, length, ap, ◌∙◌}
use Rattle.std.specs.Prelude.{max}
use Rattle.std.specs.List.{fold}
use Rattle.air_core.specs.Symbolic.{tree_of}
use Rattle.p3_lookup.specs.Bus.{widest_of}
use Rattle.p3_lookup.specs.Written.{Written, read}
use Rattle.batch_transcript.proofs.Widest.{widest-folds}
use Rattle.batch_transcript.proofs.buses.with_lookup.Goals as goal

pub returns : goal.returns
returns g c =
    let at : c.deref.result.now ≡ c.lookup.inside.elements.items = cc (c.deref.ensures.value) in
    c.wider.ensures ∙ ap (λ l. fold (λ w t. max w (length t.items)) c.args.width l) at
    ∙ widest-folds tree_of c.args.width c.lookup.inside.elements.items
    ∙ ap (λ (w : Written g.row.F.Denot). widest_of c.args.width (read w).tuples) c.lookup.view_is
