use Rattle.prover_values.specs.Laws.Chunks.{held_are_honest}
use Rattle.prover_values.proofs.meanings.committed_chunks_are_honest.Goals as goal

pub returns : goal.returns
returns g c f e top inverse t trees alpha shift log_chunks chunks points point_at held L Q P counts places H =
    held_are_honest f e top inverse L t trees alpha log_chunks shift Q chunks P points point_at counts places held H
