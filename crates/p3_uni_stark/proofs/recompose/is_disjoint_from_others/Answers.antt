use Rattle.std.proofs.Common.{◌≡◌, ◌^◌, true, false, sym, ◌∙◌, subst, arith}
use Rattle.std.proofs.lemmas.List.{get_or_read}
use Rattle.p3_field.specs.Domain.{CosetData, point}
use Rattle.commit_core.specs.Space.{AreDisjoint}
use Rattle.p3_uni_stark.specs.Recombine.{domain_at}
use Rattle.p3_uni_stark.proofs.recompose.is_disjoint_from_others.Goals as goal

pub returns-then-not-are_disjoint : goal.returns-then-not-are_disjoint
returns-then-not-are_disjoint g c =
    let r = g.F.RingCore.ring in
    let p = point r g.F.TwoAdicCore.root in
    let ds = c.args.domains.now in
    let d : CosetData g.row.F.Denot = record { shift = r.one; log_size = 0 } in
    let first : domain_at r ds c.args.index ≡ c.index-domains-index.result = sym (get_or_read ds c.args.index c.index-domains-index.result c.requires c.index-domains-index.is d) in
    let second : domain_at r ds c.loop-other.other ≡ c.index-domains-other.result = sym (get_or_read ds c.loop-other.other c.index-domains-other.result (omega arith) c.index-domains-other.is d) in (
      λ t. let f : false ≡ true = t in cc,
      λ apart.
          let at = apart c.loop-other.other (omega arith) (λ e. c.if-other-index.true (sym e)) in
          let P = λ (e : CosetData g.row.F.Denot). AreDisjoint (2 ^ e.log_size) (p e) (2 ^ (domain_at r ds c.loop-other.other).log_size) (p (domain_at r ds c.loop-other.other)) in
          let Q = λ (e : CosetData g.row.F.Denot). AreDisjoint (2 ^ c.index-domains-index.result.log_size) (p c.index-domains-index.result) (2 ^ e.log_size) (p e) in
          let both = subst Q second (subst P first at) in
          sym c.if-not-are_disjoint.true ∙ c.are_disjoint.ensures.1 both,
    )
