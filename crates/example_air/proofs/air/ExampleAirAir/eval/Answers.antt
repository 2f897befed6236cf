use Rattle.std.proofs.lemmas.Result.{IfOk-weaker, on_err_weaker}
use Rattle.std.proofs.lemmas.List.{append-nil}
use Rattle.std.proofs.Common.{List, [], ◌++◌, ◌∙◌, subst}
use Rattle.air_core.specs.Tree.{SomeFirst}
use Rattle.air_core.specs.Laws.Appending.{none_first, some_after}
use Rattle.example_air.proofs.air.ExampleAirAir.eval.Goals as goal

-- a call that sends alone, after one that asserts alone
module _ {S A B : Type 0} {G : S → S → List A → List B → Type 0} (along : (a b c : S) (s t : List A) (i j : List B) → G a b s i → G b c t j → G a c (s ++ t) (i ++ j)) where
  then_sent : (a b c : S) (ts : List A) (is : List B) → G a b ts [] → G b c [] is → G a c ts is
  then_sent a b c ts is p q = subst (λ us. G a c us is) (append-nil ts) (along a b c ts [] [] is p q)

  then_failed : (a b c : S) (ts : List A) (is : List B) → G a b ts [] → G b c [] [] → SomeFirst (G a c) ts is
  then_failed a b c ts is p q = subst (λ us. SomeFirst (G a c) us is) (append-nil ts) (some_after along a b c ts [] [] is p (none_first G b c [] is q))

pub returns-in_ok-assert_bits-in-Bits-clause-appends : goal.returns-in_ok-assert_bits-in-Bits-clause-appends
returns-in_ok-assert_bits-in-Bits-clause-appends g c =
    let sent = rw (c.ONE.ensures ∙ g.met.F.RingCore.one_is) at c.send_number.ensures.appends in
    rw c.in-Bits.is (IfOk-weaker _ _ _ (λ _ q. then_sent g.met.AB.AirBuilder.appends_along _ _ _ _ _ c.in_ok-assert_bits-in-Bits.ensures.appends q) sent)

pub returns-in_ok-assert_bits-in-Bits-clause-on_error : goal.returns-in_ok-assert_bits-in-Bits-clause-on_error
returns-in_ok-assert_bits-in-Bits-clause-on_error g c =
    rw c.in-Bits.is (on_err_weaker _ (λ q. then_failed g.met.AB.AirBuilder.appends_along _ _ _ _ _ c.in_ok-assert_bits-in-Bits.ensures.appends q) c.send_number.ensures.on_error)
