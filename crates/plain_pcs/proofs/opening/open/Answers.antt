use Rattle.std.proofs.Common.{◌≡◌, length}
use Rattle.std.specs.Prelude.{All}
use Rattle.plain_pcs.specs.Scheme.{scheme}
use Rattle.plain_pcs.specs.Laws.OpenedCommitments.{held_lists, held_values}
use Rattle.plain_pcs.specs.Laws.Honest.{honest_opens}
use Rattle.plain_pcs.proofs.opening.open.Goals as goal

pub returns-clause-opening : goal.returns-clause-opening
returns-clause-opening g c = λ held A.
    let s = scheme g.F.RingCore.ring g.F.FieldCore.inv g.F.TwoAdicCore.root g.F.FieldCore.GENERATOR g.F.TwoAdicCore.TWO_ADICITY (record { log_blowup = c.args.log_blowup }) in
    let lists : All (λ r. length r.points ≡ length r.prover_data) c.args.requests.now = c.in_default.ensures in
    record {
      lists_are = held_lists s c.args.requests.now held A lists;
      values_are = c.in_ok-values.ensures held (held_values s c.args.requests.now held A);
      accepted = λ claims C _.
          honest_opens s g.E.RingCore.ring g.E.ExtensionField.embed g.met.F.RingCore.ring_laws g.met.E.RingCore.ring_laws g.met.E.ExtensionField.embed_laws
          c.args.requests.now held claims c.requires.made lists A C;
    }
