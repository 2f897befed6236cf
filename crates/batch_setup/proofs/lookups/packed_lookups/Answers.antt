use Rattle.std.proofs.Common.{◌≡◌, ◌-◌, ◌^◌, min, max, sym, ◌∙◌, ap, subst}
use Rattle.air_core.specs.Shape.{declared_shape}
use Rattle.p3_lookup.specs.Packing.{packed}
use Rattle.p3_lookup.specs.Written.{read_all}
use Rattle.batch_constraints.specs.BatchTrees.{AreLookupsOf}
use Rattle.batch_constraints.specs.Laws.Packing.{packed_lookups}
use Rattle.batch_constraints.specs.Sizing.{free_budget}
use Rattle.batch_setup.specs.Packed.{Source, source_of, log_chunks_with, own_budget, unpacked_lookups}
use Rattle.batch_setup.specs.Laws.Budgets.{packed_capped}
use Rattle.batch_setup.proofs.lookups.packed_lookups.Goals as goal

pub returns-clause-lookups : goal.returns-clause-lookups
returns-clause-lookups g c =
    let a = c.args in
    let r = g.F.RingCore.ring in
    let s : Source g.row.F.Denot = source_of g.A.BaseAir.declaration g.A.Air.trees g.A.Air.interactions a.air.now in
    let own = c.free_budget-own.result in
    let own_is : own ≡ min (own_budget r a.masks a.bits s) (2 ^ 64 - 1) =
    c.free_budget-own.ensures ∙ ap (λ k. min (free_budget a.masks k) (2 ^ 64 - 1)) (c.in_ok-log_chunks.ensures ∙ ap (log_chunks_with r a.masks a.bits s) c.in_ok-lookups.ensures.own) in
    let budget_is : c.max.result ≡ max own a.asked = cc in
    c.in_ok-packed.ensures.packed
    ∙ ap (λ b. packed r 0 b (read_all c.in_ok-lookups.lookups)) (budget_is ∙ ap (λ n. max n a.asked) own_is)
    ∙ ap (packed r 0 (max (min (own_budget r a.masks a.bits s) (2 ^ 64 - 1)) a.asked)) c.in_ok-lookups.ensures.own
    ∙ packed_capped r (own_budget r a.masks a.bits s) a.asked (unpacked_lookups s)

pub returns-clause-fit : goal.returns-clause-fit
returns-clause-fit g c =
    let d = g.A.BaseAir.declaration c.args.air.now in
    subst (AreLookupsOf d) (sym c.in_ok-packed.ensures.packed) (packed_lookups g.F.RingCore.ring (declared_shape d) 0 c.max.result (read_all c.in_ok-lookups.lookups) c.in_ok-lookups.ensures.fit)

pub returns-clause-budget : goal.returns-clause-budget
returns-clause-budget g c =
    let a = c.args in
    let r = g.F.RingCore.ring in
    let s : Source g.row.F.Denot = source_of g.A.BaseAir.declaration g.A.Air.trees g.A.Air.interactions a.air.now in
    c.free_budget-own.ensures ∙ ap (λ k. min (free_budget a.masks k) (2 ^ 64 - 1)) (c.in_ok-log_chunks.ensures ∙ ap (log_chunks_with r a.masks a.bits s) c.in_ok-lookups.ensures.own)
