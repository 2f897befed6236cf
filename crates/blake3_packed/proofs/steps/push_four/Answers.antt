use Rattle.std.proofs.Common.{◌≡◌, ℕ, ◌+◌, ◌*◌, ◌%◌, ◌<◌, [], get_or, refl, sym, ◌∙◌, subst, arith, length-set}
use Rattle.blake3_compress.specs.Compress.{word, column_of, step_of_word, words_taken}
use Rattle.blake3_packed.specs.Lanes.{ArePlanes}
use Rattle.blake3_packed.specs.States.{AreQuarter, made_twice, step_cells}
use Rattle.blake3_packed.specs.Laws.Lanes.{pushed_none, pushed_more, pushed_all}
use Rattle.blake3_packed.specs.Laws.Steps.{row_more, row_before, row_after, row_next, rounds_made}
use Rattle.blake3_packed.proofs.steps.push_four.Invariants.{after}
use Rattle.blake3_packed.proofs.steps.push_four.Goals as goal

pub loop-g-init : goal.loop-g-init
loop-g-init c = record {
  long0 = omega arith;
  long1 = omega arith;
  long2 = omega arith;
  long3 = omega arith;
  turned = omega arith;
  so_far = λ x v hw h.
      let p = c.args.p in
      record {
        rows0 = row_before (step_of_word (p % 2) 0) (after x p v 0) (λ j. v j 0) c.args.state.now.row0 h.rows0;
        rows1 = row_before (step_of_word (p % 2) 1) (after x p v 1) (λ j. v j 1) c.args.state.now.row1 h.rows1;
        rows2 = row_before (step_of_word (p % 2) 2) (after x p v 2) (λ j. v j 2) c.args.state.now.row2 h.rows2;
        rows3 = row_before (step_of_word (p % 2) 3) (after x p v 3) (λ j. v j 3) c.args.state.now.row3 h.rows3;
        pushed = pushed_none c.args.values.now.items 190 (λ j k. step_cells (x j) p k (words_taken (p % 2) (v j) k));
      };
}

pub returns : goal.returns
returns c x v hw h =
    let p = c.args.p in
    let g = c.loop-g.g in
    let last : g ≡ 4 = omega arith in
    let S = c.loop-g.invariant.so_far x v hw h in (
      pushed_all g 4 190 (λ j k. step_cells (x j) p k (words_taken (p % 2) (v j) k)) last S.pushed,
      record {
        rows0 = row_after (step_of_word (p % 2) 0) g (after x p v 0) (λ j. v j 0) _ c.loop-g.state.row0 (λ i li. omega (arith, last)) (λ j i li. rounds_made (x j) p (v j) 0 i li) S.rows0;
        rows1 = row_after (step_of_word (p % 2) 1) g (after x p v 1) (λ j. v j 1) _ c.loop-g.state.row1 (λ i li. omega (arith, last)) (λ j i li. rounds_made (x j) p (v j) 1 i li) S.rows1;
        rows2 = row_after (step_of_word (p % 2) 2) g (after x p v 2) (λ j. v j 2) _ c.loop-g.state.row2 (λ i li. omega (arith, last)) (λ j i li. rounds_made (x j) p (v j) 2 i li) S.rows2;
        rows3 = row_after (step_of_word (p % 2) 3) g (after x p v 3) (λ j. v j 3) _ c.loop-g.state.row3 (λ i li. omega (arith, last)) (λ j i li. rounds_made (x j) p (v j) 3 i li) S.rows3;
      },
    )

pub loop-g-preserved : goal.loop-g-preserved
loop-g-preserved c =
    let I = c.loop-g.invariant in
    let p = c.args.p in
    let t = p % 2 in
    let g = c.loop-g.g in
    let lg : g < 4 = omega arith in
    let i0 = g % 4 in
    let l0 : i0 < 4 = omega arith in
    let s0 : step_of_word t 0 i0 ≡ g = omega (arith, lg) in
    let e0 : i0 ≡ column_of t 0 g = omega arith in
    let i1 = (g + p % 2) % 4 in
    let l1 : i1 < 4 = omega arith in
    let s1 : step_of_word t 1 i1 ≡ g = omega (arith, lg) in
    let e1 : i1 ≡ column_of t 1 g = omega arith in
    let i2 = (g + p % 2 * 2) % 4 in
    let l2 : i2 < 4 = omega arith in
    let s2 : step_of_word t 2 i2 ≡ g = omega (arith, lg) in
    let e2 : i2 ≡ column_of t 2 g = omega arith in
    let i3 = (g + p % 2 * 3) % 4 in
    let l3 : i3 < 4 = omega arith in
    let s3 : step_of_word t 3 i3 ≡ g = omega (arith, lg) in
    let e3 : i3 ≡ column_of t 3 g = omega arith in
    record {
      long0 = length-set c.loop-g.state.row0 i0 _ ∙ I.long0;
      long1 = length-set c.loop-g.state.row1 i1 _ ∙ I.long1;
      long2 = length-set c.loop-g.state.row2 i2 _ ∙ I.long2;
      long3 = length-set c.loop-g.state.row3 i3 _ ∙ I.long3;
      turned = refl;
      so_far = λ x v hw h.
          let S = I.so_far x v hw h in
          let q = λ (j : ℕ). words_taken t (v j) g in
          let Q : AreQuarter (record { a = get_or c.loop-g.state.row0 i0 []; b = get_or c.loop-g.state.row1 i1 []; c = get_or c.loop-g.state.row2 i2 []; d = get_or c.loop-g.state.row3 i3 [] }) q = record {
            a_planes = subst (λ i. ArePlanes (get_or c.loop-g.state.row0 i0 []) (λ j. v j 0 i)) e0 (row_next (step_of_word t 0) g i0 (after x p v 0) (λ j. v j 0) c.loop-g.state.row0 l0 s0 S.rows0);
            b_planes = subst (λ i. ArePlanes (get_or c.loop-g.state.row1 i1 []) (λ j. v j 1 i)) e1 (row_next (step_of_word t 1) g i1 (after x p v 1) (λ j. v j 1) c.loop-g.state.row1 l1 s1 S.rows1);
            c_planes = subst (λ i. ArePlanes (get_or c.loop-g.state.row2 i2 []) (λ j. v j 2 i)) e2 (row_next (step_of_word t 2) g i2 (after x p v 2) (λ j. v j 2) c.loop-g.state.row2 l2 s2 S.rows2);
            d_planes = subst (λ i. ArePlanes (get_or c.loop-g.state.row3 i3 []) (λ j. v j 3 i)) e3 (row_next (step_of_word t 3) g i3 (after x p v 3) (λ j. v j 3) c.loop-g.state.row3 l3 s3 S.rows3);
          } in
          let R = c.in_ok-push_step.ensures x q hw Q in
          record {
            rows0 = row_more (step_of_word t 0) g i0 (after x p v 0) (λ j. v j 0) c.loop-g.state.row0 c.push_step.new.taken.a I.long0 l0 s0 (λ i li e. omega (arith, li, e, lg)) S.rows0
                (subst (λ k. ArePlanes c.push_step.new.taken.a (λ j. word (made_twice (x j) p k (words_taken t (v j) k)) 0)) (sym s0) R.1.a_planes);
            rows1 = row_more (step_of_word t 1) g i1 (after x p v 1) (λ j. v j 1) c.loop-g.state.row1 c.push_step.new.taken.b I.long1 l1 s1 (λ i li e. omega (arith, li, e, lg)) S.rows1
                (subst (λ k. ArePlanes c.push_step.new.taken.b (λ j. word (made_twice (x j) p k (words_taken t (v j) k)) 1)) (sym s1) R.1.b_planes);
            rows2 = row_more (step_of_word t 2) g i2 (after x p v 2) (λ j. v j 2) c.loop-g.state.row2 c.push_step.new.taken.c I.long2 l2 s2 (λ i li e. omega (arith, li, e, lg)) S.rows2
                (subst (λ k. ArePlanes c.push_step.new.taken.c (λ j. word (made_twice (x j) p k (words_taken t (v j) k)) 2)) (sym s2) R.1.c_planes);
            rows3 = row_more (step_of_word t 3) g i3 (after x p v 3) (λ j. v j 3) c.loop-g.state.row3 c.push_step.new.taken.d I.long3 l3 s3 (λ i li e. omega (arith, li, e, lg)) S.rows3
                (subst (λ k. ArePlanes c.push_step.new.taken.d (λ j. word (made_twice (x j) p k (words_taken t (v j) k)) 3)) (sym s3) R.1.d_planes);
            pushed = pushed_more g 190 (λ j k. step_cells (x j) p k (words_taken t (v j) k)) S.pushed R.0;
          };
    }
