use Rattle.std.proofs.Common.{◌≡◌, ℕ, ◌+◌, ◌<◌, ◌≤◌, ◌⊎◌, List, get_or, set, length, inl, inr, ap, sym, ◌∙◌, arith, length-set, get_or-set_same, get_or-set_other}
use Rattle.std.specs.Int.{bit_at}
use Rattle.std.proofs.lemmas.Bool.{cases_eq}
use Rattle.p3_field.specs.Ring.{Ring, of_nat}
use Rattle.p3_field.specs.Laws.Tabulate.{get_or-tabulate}
use Rattle.air_gadgets.specs.Gadgets.{word_bits}
use Rattle.blake3_prime.proofs.writing.write_word.Goals as goal

bit_is : {F : Type 0} (r : Ring F) (w : ℕ) (bits : List F) (i : ℕ) (d : F) → bits ≡ word_bits r w → i < 32 → get_or bits i d ≡ of_nat r (bit_at w i)
unfolding word_bits
bit_is r w bits i d e lt = ap (λ xs. get_or xs i d) e ∙ get_or-tabulate 32 (λ j. of_nat r (bit_at w j)) i d lt

-- a place outside is no place that is written
outside : (at i k : ℕ) → i < 32 → (k < at) ⊎ (at + 32 ≤ k) → k ≡ at + i → ⊥
outside at i k li (inl l) e = omega (arith, l, e)
outside at i k li (inr l) e = omega (arith, l, e, li)

same_place : (at i k : ℕ) → (k ≡ i → ⊥) → at + k ≡ at + i → ⊥
same_place at i k n e = n (omega (arith, e))

pub loop-i-preserved : goal.loop-i-preserved
loop-i-preserved g c =
    let r = g.F.RingCore.ring in
    let w = c.args.word in
    let i = c.loop-i.i in
    let old = c.loop-i.row in
    let at = c.args.at in
    let bits = c.u32_to_bits_le-bits.result in
    let x = get_or bits i c.index-bits-i.result in
    let li : i < 32 = omega arith in
    let inside : at + i < length old = omega (arith, c.loop-i.invariant.long, li) in
    record {
      long = length-set old (at + i) x ∙ c.loop-i.invariant.long;
      written = λ k d lt. elim (cases_eq k i) [
        | inl e ↦
            ap (λ j. get_or (set old (at + i) x) (at + j) d) e
            ∙ (get_or-set_same old (at + i) x d inside ∙ (bit_is r w bits i c.index-bits-i.result c.u32_to_bits_le-bits.ensures li ∙ ap (λ j. of_nat r (bit_at w j)) (sym e)))
        | inr n ↦ get_or-set_other old (at + i) (at + k) x d (same_place at i k n) ∙ c.loop-i.invariant.written k d (omega (arith, lt, n))
      ];
      kept = λ k d o. get_or-set_other old (at + i) k x d (outside at i k li o) ∙ c.loop-i.invariant.kept k d o;
    }
