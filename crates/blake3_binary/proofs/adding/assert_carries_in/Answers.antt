use Rattle.std.proofs.Common.{◌≡◌, suc, ◌+◌, [], ◌∷◌, ◌∙◌, sym, arith, rules, subst}
use Rattle.air_core.specs.Appended.{Appended, AppendedSome}
use Rattle.air_core.specs.Tree.{sum}
use Rattle.air_core.specs.Laws.Appending.{none_first}
use Rattle.air_core.specs.Laws.Lists.{tabulate_joined}
use Rattle.air_core.specs.Laws.Appended.{on_failure, one_more, some_turns, no_turns, all_turns}
use Rattle.blake3_binary.specs.Sums.{majority}
use Rattle.blake3_binary.proofs.adding.assert_carries_in.Goals as goal

pub loop-i-init : goal.loop-i-init
loop-i-init g c =
    let B = g.met.AB.AirBuilder in
    record {
      later = B.later_same _;
      keeps_shape = λ i. g.AB.AirBuilder.shape c.args.builder.now;
      grown = λ t u v ht hu hv. no_turns g.AB.AirBuilder.appends B.appends_along _ (λ i. sum (majority (t (i)) (u (i)) (v i)) (v (suc i)) ∷ []) (B.appends_none _);
    }

pub loop-i-preserved : goal.loop-i-preserved
loop-i-preserved g c =
    let B = g.met.AB.AirBuilder in
    let i = c.loop-i.i in
    let next : i + 1 ≡ suc i = omega arith in
    let keep = B.persists _ _ c.loop-i.invariant.later in
    record {
      later = B.later_along _ _ _ c.loop-i.invariant.later c.assert_next.ensures.later;
      keeps_shape = c.assert_next.ensures.keeps_shape ∙ c.loop-i.invariant.keeps_shape;
      grown = λ t u v ht hu hv.
          let hx = keep _ _ (ht.each (i) c.index-x-i.result (search rules)) in
          let hy = keep _ _ (hu.each (i) c.index-y-i.result (search rules)) in
          let hc = keep _ _ (hv.each i c.index-carries-i.result (search rules)) in
          let hn = keep _ _ (hv.each (i + 1) c.index-carries-i-in-loop-i.result (search rules)) in
          one_more g.AB.AirBuilder.appends B.appends_along i (λ i. sum (majority (t (i)) (u (i)) (v i)) (v (suc i)) ∷ []) (c.loop-i.invariant.grown t u v ht hu hv)
          (subst (λ n. Appended g.AB.AirBuilder.appends c.loop-i.builder c.assert_next.new.builder (sum (majority (t i) (u i) (v i)) (v n) ∷ [])) next (record { all = c.in_ok-assert_next.ensures.appends _ _ _ _ hx hy hc hn }));
    }

pub returns-clause-appends : goal.returns-clause-appends
returns-clause-appends g c t u v ht hu hv =
    let B = g.met.AB.AirBuilder in
    subst (Appended g.AB.AirBuilder.appends _ _) (sym (tabulate_joined 31 (λ i. sum (majority (t (i)) (u (i)) (v i)) (v (suc i)))))
    (all_turns g.AB.AirBuilder.appends B.appends_along _ _ c.loop-i.i 31 (λ i. sum (majority (t (i)) (u (i)) (v i)) (v (suc i)) ∷ []) (omega arith) (c.loop-i.invariant.grown t u v ht hu hv))

pub returns-in_err-assert_next-clause-later : goal.returns-in_err-assert_next-clause-later
returns-in_err-assert_next-clause-later g c = g.met.AB.AirBuilder.later_along _ _ _ c.loop-i.invariant.later c.assert_next.ensures.later

pub returns-in_err-assert_next-clause-keeps_shape : goal.returns-in_err-assert_next-clause-keeps_shape
returns-in_err-assert_next-clause-keeps_shape g c = c.assert_next.ensures.keeps_shape ∙ c.loop-i.invariant.keeps_shape

pub returns-in_err-assert_next-clause-on_error : goal.returns-in_err-assert_next-clause-on_error
returns-in_err-assert_next-clause-on_error g c t u v ht hu hv =
    let B = g.met.AB.AirBuilder in
    on_failure (subst (AppendedSome g.AB.AirBuilder.appends _ _) (sym (tabulate_joined 31 (λ i. sum (majority (t (i)) (u (i)) (v i)) (v (suc i)))))
    (some_turns g.AB.AirBuilder.appends B.appends_along _ _ _ c.loop-i.i 31 (λ i. sum (majority (t (i)) (u (i)) (v i)) (v (suc i)) ∷ []) c.loop-i-test.true (c.loop-i.invariant.grown t u v ht hu hv)
    (record { some = none_first g.AB.AirBuilder.appends _ _ _ _ c.in_err-assert_next.ensures.on_error })))
