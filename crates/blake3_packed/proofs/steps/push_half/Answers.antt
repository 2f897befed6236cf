use Rattle.blake3_compress.specs.Compress.{half_a, half_b, half_c, half_d}
use Rattle.blake3_packed.specs.Laws.Lanes.{pushed_both}
use Rattle.blake3_packed.proofs.steps.push_half.Goals as goal

pub returns : goal.returns
unfolding half_a half_b half_c half_d
returns c q m h hm =
    let s = c.args.s in
    let t = c.args.t in
    let sums = c.add_two_planes-carries.ensures (λ j. (q j).a) (λ j. (q j).b) m h.a_planes h.b_planes hm in
    let d = c.turned_planes-taken.ensures (λ j. (q j).d) (λ j. half_a (q j) (m j)) h.d_planes sums.0 in
    let e = c.add_planes.ensures (λ j. (q j).c) (λ j. half_d s (q j) (m j)) h.c_planes d in
    let b = c.turned_planes-taken-2.ensures (λ j. (q j).b) (λ j. half_c s (q j) (m j)) h.b_planes e in (
      pushed_both (pushed_both (c.in_ok-push_carries.ensures (λ j. (q j).a) (λ j. (q j).b) sums.1) (c.in_ok-push_planes.ensures (λ j. half_d s (q j) (m j)) d)) (c.in_ok-push_planes-2.ensures (λ j. half_b s t (q j) (m j)) b),
      record { a_planes = sums.0; b_planes = b; c_planes = e; d_planes = d },
    )
