use Rattle.std.proofs.Common.{◌≡◌, ◌+◌, ◌*◌, ◌<◌, ◌≤◌, ◌++◌, List, length, get_or, ◌∙◌, ap, subst, arith}
use Rattle.std.specs.Prelude.{Err}
use Rattle.std.proofs.lemmas.Result.{err_from_is_err_and}
use Rattle.std.proofs.lemmas.List.{length-map, get_or_default}
use Rattle.air_core.specs.RowCheck.{row_shape}
use Rattle.p3_lookup.specs.Term.{Term, HasInverses}
use Rattle.p3_lookup.specs.Lookup.{IsLookup, sent}
use Rattle.p3_lookup.specs.Written.{read, read_all}
use Rattle.p3_lookup.specs.Honest.{terms_of, lookup_terms, terms_from}
use Rattle.p3_lookup.specs.Generated.{embedded_at}
use Rattle.p3_lookup.specs.RowTerms.{AreTermsAdded}
use Rattle.p3_lookup.proofs.Turns.{at_item, mapped_item}
use Rattle.p3_lookup.proofs.Row.{length-terms, terms_item}
use Rattle.p3_lookup.proofs.Added.{row_more, row_fault, row_end}
use Rattle.p3_lookup.proofs.generate.push_lookups.Goals as goal

pub push_lookup-requires : goal.push_lookup-requires
push_lookup-requires g c =
    let within : c.loop-i.i < length c.args.lookups.now = omega arith in
    record { lookup = at_item (IsLookup (row_shape c.args.cells.now)) read c.args.lookups.now c.loop-i.i c.index-lookups-i.result within c.index-lookups-i.is c.requires.lookups }

pub returns-in_err-push_lookup : goal.returns-in_err-push_lookup
returns-in_err-push_lookup g c =
    let r = g.EF.RingCore.ring in
    let v = embedded_at g.F.RingCore.ring g.EF.ExtensionField.embed c.args.cells.now in
    let ws = c.args.lookups.now in
    let ls = read_all ws in
    let ch = c.args.challenges.now in
    let i = c.loop-i.i in
    let x = c.index-lookups-i.result in
    let tss = terms_from r ch v 0 ls in
    let ts = lookup_terms r ch v i (read x) in
    let within : i < length ws = omega arith in
    let within-2 : i < length ls = omega (arith, within, length-map ws read) in
    let within-3 : i < length tss = omega (arith, within-2, length-terms r ch v 0 ls) in
    let at = λ (d : List (Term g.row.EF.Denot)). terms_item r ch v 0 i i ls (read x) d within-2 (mapped_item read ws i x (read x) within c.index-lookups-i.is) (omega arith) in
    let base-in : 2 * i < length ch = omega (arith, within, c.requires.challenges) in
    let beta-in : 2 * i + 1 < length ch = omega (arith, within, c.requires.challenges) in
    let base : c.index-challenges-i.result ≡ get_or ch (2 * i) r.zero = c.index-challenges-i.is ∙ get_or_default ch (2 * i) c.index-challenges-i.result r.zero base-in in
    let beta : c.index-challenges-i-in-loop-i.result ≡ get_or ch (2 * i + 1) r.zero = c.index-challenges-i-in-loop-i.is ∙ get_or_default ch (2 * i + 1) c.index-challenges-i-in-loop-i.result r.zero beta-in in
    let same : terms_of r c.index-challenges-i.result c.index-challenges-i-in-loop-i.result v (sent (read x)) ≡ ts =
    ap (λ b. terms_of r b c.index-challenges-i-in-loop-i.result v (sent (read x))) base ∙ ap (λ b. terms_of r (get_or ch (2 * i) r.zero) b v (sent (read x))) beta in
    let e = c.in_err-push_lookup.field-0.0 in
    let f = row_fault r tss c.args.terms.now.items i ts within-3 at c.loop-i.terms.items c.loop-i.invariant c.args.row c.loop-i.terms.items c.push_lookup.new.terms.items e
    (subst (λ (us : List (Term g.row.EF.Denot)). AreTermsAdded r us c.args.row i c.loop-i.terms.items c.push_lookup.new.terms.items (Err e)) same c.in_err-push_lookup.ensures) in
    let p = err_from_is_err_and c.from_residual.result c.from_residual.ensures.1 in rw (p.1, p.2) f

pub loop-i-preserved : goal.loop-i-preserved
loop-i-preserved g c =
    let r = g.EF.RingCore.ring in
    let v = embedded_at g.F.RingCore.ring g.EF.ExtensionField.embed c.args.cells.now in
    let ws = c.args.lookups.now in
    let ls = read_all ws in
    let ch = c.args.challenges.now in
    let i = c.loop-i.i in
    let x = c.index-lookups-i.result in
    let tss = terms_from r ch v 0 ls in
    let ts = lookup_terms r ch v i (read x) in
    let within : i < length ws = omega arith in
    let within-2 : i < length ls = omega (arith, within, length-map ws read) in
    let within-3 : i < length tss = omega (arith, within-2, length-terms r ch v 0 ls) in
    let at = λ (d : List (Term g.row.EF.Denot)). terms_item r ch v 0 i i ls (read x) d within-2 (mapped_item read ws i x (read x) within c.index-lookups-i.is) (omega arith) in
    let base-in : 2 * i < length ch = omega (arith, within, c.requires.challenges) in
    let beta-in : 2 * i + 1 < length ch = omega (arith, within, c.requires.challenges) in
    let base : c.index-challenges-i.result ≡ get_or ch (2 * i) r.zero = c.index-challenges-i.is ∙ get_or_default ch (2 * i) c.index-challenges-i.result r.zero base-in in
    let beta : c.index-challenges-i-in-loop-i.result ≡ get_or ch (2 * i + 1) r.zero = c.index-challenges-i-in-loop-i.is ∙ get_or_default ch (2 * i + 1) c.index-challenges-i-in-loop-i.result r.zero beta-in in
    let same : terms_of r c.index-challenges-i.result c.index-challenges-i-in-loop-i.result v (sent (read x)) ≡ ts =
    ap (λ b. terms_of r b c.index-challenges-i-in-loop-i.result v (sent (read x))) base ∙ ap (λ b. terms_of r (get_or ch (2 * i) r.zero) b v (sent (read x))) beta in
    let told = subst (λ (us : List (Term g.row.EF.Denot)). (c.push_lookup.new.terms.items ≡ c.loop-i.terms.items ++ us) × HasInverses r us) same c.in_ok-push_lookup.ensures in
    row_more r tss c.args.terms.now.items i ts within-3 at c.loop-i.terms.items c.loop-i.invariant c.push_lookup.new.terms.items told.0 told.1

pub returns : goal.returns
returns g c =
    let r = g.EF.RingCore.ring in
    let v = embedded_at g.F.RingCore.ring g.EF.ExtensionField.embed c.args.cells.now in
    let ls = read_all c.args.lookups.now in
    let tss = terms_from r c.args.challenges.now v 0 ls in
    let over : length tss ≤ c.loop-i.i = omega (arith, length-terms r c.args.challenges.now v 0 ls, length-map c.args.lookups.now read) in
    row_end r tss c.args.terms.now.items c.loop-i.i c.loop-i.terms.items over c.loop-i.invariant
