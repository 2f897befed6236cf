use Rattle.std.proofs.Common.{◌≡◌, ℕ, ◌/◌, ◌%◌, ◌^◌, ◌<◌, [], ◌∙◌, subst, arith, ap}
use Rattle.p3_field.specs.Ring.{Ring, of_nat}
use Rattle.air_core.specs.Tree.{Tree, constant}
use Rattle.air_gadgets.specs.Gadgets.{number}
use Rattle.air_gadgets.specs.Words.{limb}
use Rattle.air_gadgets.specs.Laws.Packing.{stand_pair}
use Rattle.blake3_prime.proofs.edges.word_limbs.Goals as goal

pub returns-clause-appends : goal.returns-clause-appends
returns-clause-appends g c = g.met.AB.AirBuilder.appends_along _ _ _ [] [] [] [] c.constant.ensures.appends c.constant-2.ensures.appends

pub returns-in_err-high-clause-appends : goal.returns-in_err-high-clause-appends
returns-in_err-high-clause-appends g c = g.met.AB.AirBuilder.appends_along _ _ _ [] [] [] [] c.constant.ensures.appends c.constant-2.ensures.appends

low_is : {F : Type 0} (r : Ring F) (w : ℕ) (x : F) → x ≡ of_nat r (w % 65536) → ◌≡◌ {A = Tree F} (constant x) (number r (limb w 0))
low_is r w x e = let f : w % 65536 ≡ limb w 0 = omega arith in ap constant (e ∙ ap (of_nat r) f)

high_is : {F : Type 0} (r : Ring F) (w : ℕ) (x : F) → w < 2 ^ 32 → x ≡ of_nat r (w / 65536) → ◌≡◌ {A = Tree F} (constant x) (number r (limb w 1))
high_is r w x b e = let f : w / 65536 ≡ limb w 1 = omega (arith, b) in ap constant (e ∙ ap (of_nat r) f)

pub returns-clause-represents : goal.returns-clause-represents
returns-clause-represents g c =
    let B = g.met.AB.AirBuilder in
    let r = g.AB.F.RingCore.ring in
    let P = g.AB.AirBuilder.represents c.constant-2.new.self in
    let past = B.persists _ _ (B.appends_later _ _ _ _ c.constant-2.ensures.appends) in
    record {
      each = stand_pair P c.in_ok-low.low c.in_ok-high.high (λ k. number r (limb c.args.word k))
          (subst (λ (t : Tree g.row.AB-F.Denot). P c.in_ok-low.low t) (low_is r c.args.word c.from_u64.result c.from_u64.ensures) (past _ _ c.in_ok-low.ensures.represents))
          (subst (λ (t : Tree g.row.AB-F.Denot). P c.in_ok-high.high t) (high_is r c.args.word c.from_u64-2.result (omega (arith, c.ranges.word)) c.from_u64-2.ensures) c.in_ok-high.ensures.represents);
    }
