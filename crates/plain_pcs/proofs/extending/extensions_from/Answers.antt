use Rattle.std.proofs.Common.{◌∙◌, length}
use Rattle.std.proofs.lemmas.Iterator.Adapters.{YieldsList-from_vec}
use Rattle.std.proofs.lemmas.Iterator.Consumers.{YieldsList-turn, YieldsList-end}
use Rattle.plain_pcs.specs.Scheme.{scheme}
use Rattle.plain_pcs.specs.Extension.{IsCommittable, Extends}
use Rattle.commit_core.specs.Laws.Each.{none_yet}
use Rattle.plain_pcs.proofs.Lists.{each_yielded, each_done}
use Rattle.plain_pcs.proofs.Places.{read_all}
use Rattle.plain_pcs.proofs.extending.extensions_from.Goals as goal

pub extension-requires : goal.extension-requires
extension-requires g c =
    let s = scheme g.F.RingCore.ring g.F.FieldCore.inv g.F.TwoAdicCore.root g.F.FieldCore.GENERATOR g.F.TwoAdicCore.TWO_ADICITY (record { log_blowup = c.args.log_blowup }) in
    let gives = c.into_iter-evaluated-iterator.ensures.into_iter_gives in
    let road = YieldsList-from_vec {s = c.into_iter-evaluated-iterator.result} c.args.evaluations.items gives.0 (gives.1 ∙ c.args.evaluations.ok.0) in
    let turn = YieldsList-turn road c.loop-evaluated.yielded c.loop-evaluated.evaluated-iterator c.loop-evaluated.yielded_by c.next.result c.next.new.self c.in-Some.evaluated c.in-Some.is c.next.ensures.steps in
    read_all (λ e. IsCommittable s e.0 e.1) c.args.evaluations.items (length c.loop-evaluated.yielded) c.in-Some.evaluated turn.0 turn.1 c.requires

pub loop-evaluated-init : goal.loop-evaluated-init
loop-evaluated-init g c = none_yet c.in_ok-extensions.extensions.items _ c.in_ok-extensions.ensures.items

pub loop-evaluated-preserved : goal.loop-evaluated-preserved
loop-evaluated-preserved g c =
    let s = scheme g.F.RingCore.ring g.F.FieldCore.inv g.F.TwoAdicCore.root g.F.FieldCore.GENERATOR g.F.TwoAdicCore.TWO_ADICITY (record { log_blowup = c.args.log_blowup }) in
    let x = c.in-Some.evaluated in
    let gives = c.into_iter-evaluated-iterator.ensures.into_iter_gives in
    let road = YieldsList-from_vec {s = c.into_iter-evaluated-iterator.result} c.args.evaluations.items gives.0 (gives.1 ∙ c.args.evaluations.ok.0) in
    let turn = YieldsList-turn road c.loop-evaluated.yielded c.loop-evaluated.evaluated-iterator c.loop-evaluated.yielded_by c.next.result c.next.new.self x c.in-Some.is c.next.ensures.steps in
    let here : Extends s x.0 x.1 c.in_ok-extension.field-0 = record {
      shift_not_zero = c.valid.ensures.0;
      committable = read_all (λ e. IsCommittable s e.0 e.1) c.args.evaluations.items (length c.loop-evaluated.yielded) x turn.0 turn.1 c.requires;
      extension_is = c.in_ok-extension.ensures;
    } in
    each_yielded (λ e l. Extends s e.0 e.1 l) c.args.evaluations.items c.loop-evaluated.yielded x c.loop-evaluated.extensions.items c.push.new.self.items c.in_ok-extension.field-0 turn.0 turn.1
    c.loop-evaluated.invariant here c.in_ok-push.ensures.items

pub returns : goal.returns
returns g c =
    let s = scheme g.F.RingCore.ring g.F.FieldCore.inv g.F.TwoAdicCore.root g.F.FieldCore.GENERATOR g.F.TwoAdicCore.TWO_ADICITY (record { log_blowup = c.args.log_blowup }) in
    let gives = c.into_iter-evaluated-iterator.ensures.into_iter_gives in
    let road = YieldsList-from_vec {s = c.into_iter-evaluated-iterator.result} c.args.evaluations.items gives.0 (gives.1 ∙ c.args.evaluations.ok.0) in
    let seen = YieldsList-end road c.loop-evaluated.yielded c.loop-evaluated.evaluated-iterator c.loop-evaluated.yielded_by c.next.result c.next.new.self c.in-None.is c.next.ensures.steps in
    each_done (λ e l. Extends s e.0 e.1 l) c.args.evaluations.items (length c.loop-evaluated.yielded) c.loop-evaluated.extensions.items seen.1 c.loop-evaluated.invariant
