use Rattle.std.proofs.Common.{◌≡◌, ℕ, ◌+◌, ◌-◌, ◌*◌, ◌^◌, ◌≤◌, ◌∙◌, inl, inr, sym, ap, arith}
use Rattle.std.proofs.lemmas.Nat.{pow-add}
use Rattle.std.proofs.lemmas.Option.{MatchOption-at_some}
use Rattle.commit_core.specs.Laws.Cosets.{point_not_zero}
use Rattle.commit_core.specs.Laws.Options.{match_some}
use Rattle.commit_core.proofs.split.part_from.Goals as goal

whole : (k a n : ℕ) → a ≤ k → n ≡ k - a → 2 ^ n * 2 ^ a ≡ 2 ^ k
whole k a n h e =
    let s : n + a ≡ k = omega arith in
    sym (pow-add 2 n a) ∙ ap (λ j. 2 ^ j) s

pub unwrap-requires : goal.unwrap-requires
unwrap-requires g c =
    let d = c.args.domain.now in
    match_some c.new.result _ _
    (λ p. elim p [
      | inl over ↦ omega (arith, over, c.valid.ensures.1, c.log_size.ensures)
      | inr zero ↦ point_not_zero g.F.RingCore.ring g.met.F.RingCore.ring_laws g.F.FieldCore.inv g.met.F.FieldCore.field_laws g.F.TwoAdicCore.TWO_ADICITY g.F.TwoAdicCore.root g.met.F.TwoAdicCore.root_laws d c.args.i c.valid.ensures.0 c.valid.ensures.1 (sym c.point.ensures ∙ zero)
    ])
    c.new.ensures

pub returns : goal.returns
returns g c =
    let q = MatchOption-at_some _ _ c.unwrap.result c.unwrap.ensures c.new.ensures in
    record {
      shift_is = q.0 ∙ c.point.ensures;
      size_is = whole c.args.domain.now.log_size c.args.log_chunks c.unwrap.result.log_size c.requires (omega (arith, q.1, c.log_size.ensures));
    }
