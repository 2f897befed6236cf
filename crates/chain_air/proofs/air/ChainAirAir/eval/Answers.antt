use Rattle.std.proofs.Common.{ℕ, sym, subst}
use Rattle.air_core.specs.Laws.Appended.{both, later, front}
use Rattle.air_core.specs.Laws.Represent.{holds_on_err}
use Rattle.chain_air.specs.Trees.{DeclaresChain, chain_trees}
use Rattle.chain_air.specs.Laws.Declared.{declares_chain, declares_compressions}
use Rattle.chain_air.proofs.air.ChainAirAir.eval.Goals as goal

pub eval-requires : goal.eval-requires
eval-requires g c = declares_compressions ℕ _ c.requires

pub assert_linking-requires : goal.assert_linking-requires
assert_linking-requires g c = record { declares = subst DeclaresChain (sym c.eval.ensures.keeps_shape) (declares_chain ℕ _ c.requires) }

pub returns-clause-appends : goal.returns-clause-appends
unfolding chain_trees
returns-clause-appends g c = (both g.AB.AirBuilder.appends g.met.AB.AirBuilder.appends_along (record { all = c.in_ok-eval.ensures.appends }) c.in_ok-assert_linking.ensures.appends).all

pub returns-in_err-eval-clause-on_error : goal.returns-in_err-eval-clause-on_error
unfolding chain_trees
returns-in_err-eval-clause-on_error g c = holds_on_err _ (front g.AB.AirBuilder.appends g.met.AB.AirBuilder.appends_along _ (record { some = c.in_err-eval.ensures.on_error })).some

pub returns-in_err-assert_linking-clause-on_error : goal.returns-in_err-assert_linking-clause-on_error
unfolding chain_trees
returns-in_err-assert_linking-clause-on_error g c =
    holds_on_err _ (later g.AB.AirBuilder.appends g.met.AB.AirBuilder.appends_along (record { all = c.in_ok-eval.ensures.appends }) c.in_err-assert_linking.ensures.on_error.holds).some
