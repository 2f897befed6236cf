-- Field elements in texts.
use Rattle.std.proofs.Common.{◌≡◌, ℕ, ◌≤◌, ◌%◌, List, [], ◌∷◌, sym, ◌∙◌, ap, arith}
use Rattle.p3_field.specs.declared.baby_bear.BabyBear.{BabyBear}
use Rattle.p3_field.specs.BabyBear.{baby_bear_ring, reduce}
use Rattle.p3_field.specs.Ring.{of_nat}
use Rattle.p3_field.specs.Laws.BabyBearLaws.{same_baby_bear, baby_bear_of_nat}
use Rattle.tool_lines.specs.Texts.{Reads, Stops, Between, Unlimited, one_number, element_numbers}
use Rattle.tool_lines.specs.Laws.Grammars.{SameTexts}
use Rattle.tool_lines.specs.Laws.Stops.{same-stops, same-reads}

small-value : (n : ℕ) → n ≤ 2013265920 → n % 2013265921 ≡ n
small-value n h = omega arith

-- an element is seen as its canonical number
same-element : SameTexts (Between 0 2013265920) one_number Unlimited element_numbers
same-element = record {
  to = reduce;
  to_fits = λ n fits. tt;
  to_numbers = λ n fits. ap (λ (k : ℕ). k ∷ []) (small-value n fits.1);
  whole = λ x _.
      let most : x.value ≤ 2013265920 = let h = x.in_range in omega (arith, h) in
      (x.value, (omega arith, most), same_baby_bear (reduce x.value) x (small-value x.value most));
}

pub element-stops : (old new : List ℕ) → Stops (Between 0 2013265920) one_number old new → Stops Unlimited element_numbers old new
element-stops old new s = same-stops same-element s

pub element-reads : (old new : List ℕ) (n : ℕ) (x : BabyBear) → x ≡ of_nat baby_bear_ring n → Reads (Between 0 2013265920) one_number old new n
    → Reads Unlimited element_numbers old new x
unfolding same-element
element-reads old new n x e r =
    rw (e ∙ sym (baby_bear_of_nat n)) (same-reads same-element r)
