use Rattle.std.proofs.Common.{◌≡◌, ℕ, ◌+◌, ◌%◌, ◌∙◌, ap, arith}
use Rattle.std.specs.Prelude.{bit_xor}
use Rattle.std.specs.Int.{rotate_right, w32}
use Rattle.blake3_compress.specs.Compress.{half_a, half_b, half_c, half_d}
use Rattle.blake3_compress.proofs.words.half_step.Goals as goal

sum : (a b m : ℕ) → ((a + b) % 4294967296 + m) % 4294967296 ≡ (a + b + m) % 4294967296
sum a b m = omega arith

pub returns-clause-a : goal.returns-clause-a
unfolding half_a
returns-clause-a c = sum c.args.q.a c.args.q.b c.args.message

pub returns-clause-d : goal.returns-clause-d
unfolding half_a half_d
returns-clause-d c = c.rotate_right-d.ensures ∙ ap (λ n. rotate_right w32 (bit_xor c.args.q.d n) c.args.s) (sum c.args.q.a c.args.q.b c.args.message)

pub returns-clause-c : goal.returns-clause-c
unfolding half_c
returns-clause-c c = ap (λ n. (c.args.q.c + n) % 4294967296) (returns-clause-d c)

pub returns-clause-b : goal.returns-clause-b
unfolding half_b
returns-clause-b c = c.rotate_right-b.ensures ∙ ap (λ n. rotate_right w32 (bit_xor c.args.q.b n) c.args.t) (returns-clause-c c)
