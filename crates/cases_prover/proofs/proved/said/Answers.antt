use Rattle.std.proofs.Common.{◌∙◌, List, map, subst, sym}
use Rattle.batch_statement.specs.Statement.{WellFormed, read_common}
use Rattle.cases_prover.proofs.proved.said.Goals as goal

pub verify_batch-said-requires : goal.verify_batch-said-requires
verify_batch-said-requires g c =
    subst (λ (xs : List g.row.A.Denot). WellFormed (map g.A.BaseAir.declaration xs) (read_common c.args.proved.now.common)) (sym (c.deref.ensures.value ∙ c.in_ok-airs.ensures)) c.requires
