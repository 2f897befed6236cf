use Rattle.std.proofs.Common.{◌+◌, ◌<◌, List, [], ◌∷◌, ◌++◌, length, map, drop, Vec, Global, append_assoc, sym, ◌∙◌, ap, arith}
use Rattle.batch_setup.specs.Setup.{Instance, instances_of}
use Rattle.batch_setup.proofs.Instances.{next}
use Rattle.batch_setup.proofs.instance.TableInstance.paired.Goals as goal

pub loop-i-preserved : goal.loop-i-preserved
loop-i-preserved g c =
    let i = c.loop-i.i in
    let items : Vec g.row.F.Denot Global → List g.row.F.Denot = λ v. v.items in
    let airs = c.args.airs.now in
    let traces = c.args.traces.now in
    let publics = c.args.public_values.now in
    let a = c.index-airs-i.result in
    let t = c.index-traces-i.result in
    let p = c.index-public_values-i.result in
    let in-airs : i < length airs = omega arith in
    let in-traces : i < length traces = omega arith in
    let in-publics : i < length publics = omega arith in
    let done = c.loop-i.instances.items in
    let rest = instances_of (drop (i + 1) airs) (drop (i + 1) traces) (drop (i + 1) (map items publics)) in
    let step = next items airs traces publics i a t p in-airs in-traces in-publics c.index-airs-i.is c.index-traces-i.is c.index-public_values-i.is in
    let own = c.in_ok-new.ensures ∙ ap (λ (v : List g.row.F.Denot). record { air = a; trace = t; public_values = v }) c.deref.ensures.value in
    ap (λ (is : List (Instance g.row.A.Denot g.row.F.Denot)). is ++ rest) c.in_ok-push.ensures.items
    ∙ append_assoc done (c.in_ok-new.field-0 ∷ []) rest
    ∙ ap (λ (x : Instance g.row.A.Denot g.row.F.Denot). done ++ (x ∷ rest)) own
    ∙ ap (λ (is : List (Instance g.row.A.Denot g.row.F.Denot)). done ++ is) (sym step)
    ∙ c.loop-i.invariant
