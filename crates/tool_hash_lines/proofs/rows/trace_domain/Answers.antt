use Rattle.std.proofs.Common.{◌≡◌, arith, inl, inr, ap, refl, ◌∙◌}
use Rattle.p3_field.specs.BabyBear.{baby_bear_ring}
use Rattle.p3_field.specs.Laws.BabyBearLaws.{same_baby_bear}
use Rattle.p3_field.specs.declared.baby_bear.BabyBear.{BabyBear}
use Rattle.tool_hash_lines.proofs.rows.trace_domain.Goals as goal

pub unreachable-requires : goal.unreachable-requires
unfolding baby_bear_ring
unreachable-requires c = elim c.in-None.ensures [
  | inl h ↦ omega (arith, h)
  | inr e ↦ let f : 1 ≡ 0 = ap (λ (y : BabyBear). y.value) e in omega (arith, f)
]

pub returns : goal.returns
unfolding baby_bear_ring
returns c =
    let shift : c.in-Some.domain.shift ≡ baby_bear_ring.one = c.in-Some.ensures.0 ∙ same_baby_bear _ _ refl in
    λ i. record { shift = shift i; log_size = c.in-Some.ensures.1 i }
