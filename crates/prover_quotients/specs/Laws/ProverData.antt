-- The prover data of a commitment that may be absent.
use Rattle.std.specs.Prelude.{List, [], ◌∷◌, Option, None, Some, option_map}
use Rattle.prover_answer.specs.Batch.{CommitsToSome}
use Rattle.prover_quotients.specs.Tables.{HasProverDataOfSome}

-- the prover data beside a commitment to some matrices is kept of them
pub keeps_of : {M C D : Type 0} (commits : List M → C × D → Type 0) (ms : List M) (o : Option (C × D)) → CommitsToSome commits ms o → HasProverDataOfSome commits ms (option_map (λ x. x.1) o)
keeps_of commits [] None h = tt
keeps_of commits [] (Some x) h = absurd h
keeps_of commits (m ∷ ms) None h = absurd h
keeps_of commits (m ∷ ms) (Some x) h = (x.0, h)
