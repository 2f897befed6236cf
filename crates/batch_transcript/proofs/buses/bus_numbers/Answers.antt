use Rattle.std.proofs.Common.{◌<◌, length, map, ap, sym, subst, refl, ◌∙◌, arith}
use Rattle.std.proofs.lemmas.List.{length-map}
use Rattle.std.specs.BTreeMap.{get_by_text}
use Rattle.air_core.specs.Tree.{local}
use Rattle.p3_lookup.specs.Written.{bus_of_kind}
use Rattle.batch_transcript.specs.Buses.{OpensBy}
use Rattle.batch_transcript.proofs.Numbered.{none-numbered, none-first, numbers-long, numbered-later, numbered-new, mapped-at, opens-next}
use Rattle.batch_transcript.proofs.buses.bus_numbers.Goals as goal
use Rattle.batch_transcript.proofs.buses.bus_numbers.Goals.{then-opener-place+in_ok-push, else-opener-place+in_ok-push-2}

pub loop-place-init : goal.loop-place-init
loop-place-init c = (
  none-numbered (map bus_of_kind c.args.kinds.now) c.new-numbers.result.items c.new-numbers.ensures.items,
  none-first _ _ (λ q. rw c.new-openers.ensures.empty refl),
)

pub index-number-requires : goal.index-number-requires
index-number-requires c =
    omega (arith, c.if-opener-place.true, numbers-long (map bus_of_kind c.args.kinds.now) c.loop-place.place c.loop-place.count c.loop-place.numbers.items c.loop-place.invariant.0)

pub loop-place-preserved : goal.loop-place-preserved
loop-place-preserved c =
    let ks = c.args.kinds.now in
    let bs = map bus_of_kind ks in
    let n = c.loop-place.place in
    let o = c.in_ok-opener.opener in
    let numbers = c.loop-place.numbers.items in
    let before = get_by_text c.loop-place.openers in
    let after = get_by_text c.opener_place.new.openers in
    let short : n < length ks = c.loop-place-test.true in
    let within : n < length bs = omega (arith, short, length-map ks bus_of_kind) in
    let at = mapped-at bus_of_kind ks n c.index-kinds-place.result local short c.index-kinds-place.is in
    let k = opens-next bs n o before after within c.loop-place.invariant.1 (subst (λ b. OpensBy before b n o after) (sym at) c.in_ok-opener.ensures) in (
      elim c.if-opener-place.branch [
        | then-opener-place+in_ok-push w ↦
            numbered-later bs n c.loop-place.count o w.index-number.result.now c.if-opener-place.count numbers c.if-opener-place.numbers.items c.loop-place.invariant.0 within
            k.opener w.if-opener-place.true w.index-number.ensures (ap (λ v. v.items) w.numbers-is ∙ w.in_ok-push.ensures.items) w.count-is
        | else-opener-place+in_ok-push-2 w ↦
            numbered-new bs n c.loop-place.count o c.if-opener-place.count numbers c.if-opener-place.numbers.items c.loop-place.invariant.0 within
            k.opener k.within (λ lt. absurd (omega (arith, lt, w.if-opener-place.false)))
            (ap (λ v. v.items) w.numbers-is ∙ w.in_ok-push-2.ensures.items) w.count-is
      ],
      k.known,
    )
