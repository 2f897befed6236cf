use Rattle.std.proofs.Common.{◌<◌, All, length, map, sym, subst}
use Rattle.std.proofs.lemmas.List.{length-map}
use Rattle.batch_statement.specs.Statement.{read_common}
use Rattle.verifier_claims.specs.Claims.{matrix_tables}
use Rattle.verifier_claims.specs.Laws.Listed.{listed_below}
use Rattle.verifier_claims.proofs.claims.made_at.Goals as goal

pub made-requires-clause-listed : goal.made-requires-clause-listed
made-requires-clause-listed g c =
    subst (λ p. All (λ i. i < length c.args.airs.now) (matrix_tables p)) (sym c.traces_in-preprocessed.ensures)
    (listed_below (map g.A.BaseAir.declaration c.args.airs.now) (read_common c.args.common.now) (length c.args.airs.now) c.requires (length-map c.args.airs.now g.A.BaseAir.declaration))
