use Rattle.std.proofs.Common.{◌≡◌, ℕ, ◌+◌, ◌*◌, ◌/◌, ◌%◌, ◌<◌, ◌↔◌, List, get_or, set, length, inl, inr, ap, refl, subst, sym, ◌∙◌, arith, length-set, get_or-set_same, get_or-set_other}
use Rattle.std.specs.Int.{bit_at}
use Rattle.std.proofs.lemmas.Bool.{cases_eq}
use Rattle.blake3_prime.specs.Laws.Output.{output_word, output_below, output_cell, compressed_words}
use Rattle.blake3_prime.proofs.columns.Blake3Cols.output_words.Goals as goal

-- the same of another word and place
counted_at : {F : Type 0} (z : F) (row : List F) (v w j i k : ℕ) (d : F) → v ≡ w → j ≡ i
    → ((bit_at w k ≡ 0) ↔ (get_or row (8656 + 32 * i + k) d ≡ z)) → (bit_at v k ≡ 0) ↔ (get_or row (8656 + 32 * j + k) d ≡ z)
counted_at z row v w j i k d e f h =
    subst (λ n. (bit_at v k ≡ 0) ↔ (get_or row (8656 + 32 * n + k) d ≡ z)) (sym f)
    (subst (λ m. (bit_at m k ≡ 0) ↔ (get_or row (8656 + 32 * i + k) d ≡ z)) (sym e) h)

pub loop-i-preserved : goal.loop-i-preserved
loop-i-preserved g c =
    let i = c.loop-i.i in
    let old = c.loop-i.words in
    let x = c.word_at.result in
    let inside : i < length old = omega (arith, c.loop-i.invariant.long) in
    record {
      long = length-set old i x ∙ c.loop-i.invariant.long;
      counted = λ j k d lt lk. elim (cases_eq j i) [
        | inl e ↦
            let word : get_or (set old i x) j 0 ≡ x = ap (λ n. get_or (set old i x) n 0) e ∙ get_or-set_same old i x 0 inside in
            counted_at g.F.RingCore.ring.zero c.args.self.now.row.now _ x j i k d word e (c.word_at.ensures.counted.1 k d lk)
        | inr n ↦
            let word : get_or (set old i x) j 0 ≡ get_or old j 0 = get_or-set_other old i j x 0 n in
            counted_at g.F.RingCore.ring.zero c.args.self.now.row.now _ (get_or old j 0) j j k d word refl (c.loop-i.invariant.counted j k d (omega (arith, lt, n)) lk)
      ];
      so_far = λ w hw h k lt. elim (cases_eq k i) [
        | inl e ↦ ap (λ j. get_or (set old i x) j 0) e ∙ (get_or-set_same old i x 0 inside ∙ (c.word_at.ensures.word (w i) (hw i (omega arith), λ k d l. h i k d (omega arith) l) ∙ ap w (sym e)))
        | inr d ↦ get_or-set_other old i k x 0 d ∙ c.loop-i.invariant.so_far w hw h k (omega (arith, lt, d))
      ];
    }

pub returns : goal.returns
returns g c = record {
  counted = λ i k d lt lk. c.loop-i.invariant.counted i k d (omega (arith, lt)) lk;
  words = λ w hw h i lt. c.loop-i.invariant.so_far w hw h i (omega (arith, lt));
  compressed = λ x wx e.
      compressed_words x c.loop-i.words c.loop-i.invariant.long (λ i lt.
      c.loop-i.invariant.so_far (output_word x) (λ j lj. output_below x wx (j / 4) (j % 4) (omega arith))
      (λ j k d lj lk. output_cell g.F.RingCore.ring x c.args.self.now.row.now e j k d lj lk) i (omega (arith, lt)));
}
