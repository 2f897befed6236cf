use Rattle.std.proofs.Common.{◌≡◌, ℕ, ◌/◌, ◌%◌, ◌^◌, ◌<◌, List, [], ◌∷◌, ◌++◌, ◌∙◌, ap, arith, append_assoc}
use Rattle.p3_field.specs.Ring.{Ring, of_nat}
use Rattle.p3_field.specs.Poly.{tabulate}
use Rattle.air_gadgets.specs.Words.{limb}
use Rattle.blake3_compress.specs.Generated.{Pushed}
use Rattle.blake3_compress.proofs.pushing.push_limbs.Goals as goal

two : {F : Type 0} (r : Ring F) (a b c : List F) (x y : F) (w : ℕ) → w < 2 ^ 32 → b ≡ a ++ x ∷ [] → c ≡ b ++ y ∷ [] → x ≡ of_nat r (w % 65536) → y ≡ of_nat r (w / 65536)
    → Pushed r a c (tabulate 2 (limb w))
two r a b c x y w h e f p q =
    let low : w % 65536 ≡ limb w 0 = omega arith in
    let high : w / 65536 ≡ limb w 1 = omega (arith, h) in
    record {
      pushed = f ∙ (ap (λ v. v ++ y ∷ []) e ∙ (append_assoc a (x ∷ []) (y ∷ []) ∙ (λ j. a ++ (p ∙ ap (of_nat r) low) j ∷ (q ∙ ap (of_nat r) high) j ∷ [])));
    }

pub returns : goal.returns
returns g c =
    two g.F.RingCore.ring _ _ _ _ _ c.args.word (omega (arith, c.ranges.word)) c.in_ok-push.ensures.items c.in_ok-push-2.ensures.items c.from_u64.ensures c.from_u64-2.ensures
