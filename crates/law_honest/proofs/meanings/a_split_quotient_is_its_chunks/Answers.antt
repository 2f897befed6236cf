use Rattle.law_honest.specs.Laws.Chunks.{split_is_chunks}
use Rattle.law_honest.proofs.meanings.a_split_quotient_is_its_chunks.Goals as goal

pub returns : goal.returns
returns g k c p t challenges folding m pieces laws rows fill parts = split_is_chunks c p t challenges laws folding m rows pieces fill parts
