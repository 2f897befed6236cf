use Rattle.std.proofs.Common.{◌≡◌, ℕ, ◌+◌, ◌*◌, ◌<◌, ◌∙◌, ap, arith, subst}
use Rattle.std.specs.Prelude.{bit_xor}
use Rattle.std.specs.Int.{rotate_left, w32}
use Rattle.blake3_compress.specs.Compress.{Quarter, Input}
use Rattle.blake3_binary.specs.Trees.{half_column}
use Rattle.blake3_compress.specs.Reading.{HasWordAt, CountsAt}
use Rattle.blake3_binary.specs.Output.{step_words, AreReadAs}
use Rattle.blake3_binary.specs.Laws.Output.{same_counted}
use Rattle.blake3_binary.proofs.columns.last_words.Goals as goal

quarter : ℕ → ℕ → ℕ → ℕ → Quarter
quarter a b c d = record { a = a; b = b; c = c; d = d }

is_read : (e1 f1 e2 f2 d1 b1 d2 b2 u v : ℕ) → d1 ≡ e1 → b1 ≡ f1 → d2 ≡ e2 → b2 ≡ f2 → u ≡ rotate_left w32 d2 8 → v ≡ rotate_left w32 b2 7
    → quarter (bit_xor d1 u) b2 (bit_xor b1 v) d2 ≡ step_words e1 f1 e2 f2
unfolding quarter
is_read e1 f1 e2 f2 d1 b1 d2 b2 u v p1 q1 p2 q2 eu ev =
    let gu : u ≡ rotate_left w32 e2 8 = eu ∙ ap (λ n. rotate_left w32 n 8) p2 in
    let gv : v ≡ rotate_left w32 f2 7 = ev ∙ ap (λ n. rotate_left w32 n 7) q2 in
    λ j. record { a = bit_xor (p1 j) (gu j); b = q2 j; c = bit_xor (q1 j) (gv j); d = p2 j }

-- the four words, each at its place
module _ (Has : ℕ → ℕ → Type 0) (x : Input) (d1 b1 d2 b2 : ℕ → ℕ) (h : AreReadAs Has x d1 b1 d2 b2) (k : ℕ) (lk : k < 4) where
  there : (at to w : ℕ) → at ≡ to → Has at w → Has to w
  there at to w e p = subst (λ n. Has n w) e p

  at_d1 : Has (896 + 190 * (52 + k) + 31) (d1 k)
  at_d1 = there (half_column 26 k + 31) (896 + 190 * (52 + k) + 31) (d1 k) (omega arith) (h.first_d k lk)

  at_b1 : Has (896 + 190 * (52 + k) + 63) (b1 k)
  at_b1 = there (half_column 26 k + 63) (896 + 190 * (52 + k) + 63) (b1 k) (omega arith) (h.first_b k lk)

  at_d2 : Has (896 + 190 * (52 + k) + 126) (d2 k)
  at_d2 = there (half_column 27 k + 31) (896 + 190 * (52 + k) + 126) (d2 k) (omega arith) (h.second_d k lk)

  at_b2 : Has (896 + 190 * (52 + k) + 158) (b2 k)
  at_b2 = there (half_column 27 k + 63) (896 + 190 * (52 + k) + 158) (b2 k) (omega arith) (h.second_b k lk)

pub returns : goal.returns
unfolding quarter
returns g c =
    let r = g.F.RingCore.ring in
    let row = c.args.row.now in
    let k = c.args.g in
    let lk = c.requires.steps in
    record {
      words = λ x d1 b1 d2 b2 h.
          let p1 = at_d1 (HasWordAt r row) x d1 b1 d2 b2 h k lk in
          let q1 = at_b1 (HasWordAt r row) x d1 b1 d2 b2 h k lk in
          let p2 = at_d2 (HasWordAt r row) x d1 b1 d2 b2 h k lk in
          let q2 = at_b2 (HasWordAt r row) x d1 b1 d2 b2 h k lk in
          is_read (d1 k) (b1 k) (d2 k) (b2 k) _ _ _ _ _ _
          (c.word_at-d1.ensures.word _ p1) (c.word_at-b1.ensures.word _ q1) (c.word_at-d2.ensures.word _ p2) (c.word_at-b2.ensures.word _ q2)
          c.rotate_left.ensures c.rotate_left-2.ensures;
      counted = λ x d1 b1 d2 b2 h.
          is_read (d1 k) (b1 k) (d2 k) (b2 k) _ _ _ _ _ _
          (same_counted r row _ _ _ c.word_at-d1.ensures.counted (at_d1 (CountsAt r row) x d1 b1 d2 b2 h k lk))
          (same_counted r row _ _ _ c.word_at-b1.ensures.counted (at_b1 (CountsAt r row) x d1 b1 d2 b2 h k lk))
          (same_counted r row _ _ _ c.word_at-d2.ensures.counted (at_d2 (CountsAt r row) x d1 b1 d2 b2 h k lk))
          (same_counted r row _ _ _ c.word_at-b2.ensures.counted (at_b2 (CountsAt r row) x d1 b1 d2 b2 h k lk))
          c.rotate_left.ensures c.rotate_left-2.ensures;
    }
