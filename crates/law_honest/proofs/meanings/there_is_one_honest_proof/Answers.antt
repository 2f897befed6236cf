use Rattle.law_honest.specs.Laws.Ground.{one_built}
use Rattle.law_honest.proofs.meanings.there_is_one_honest_proof.Goals as goal

pub returns-clause-by_openings : goal.returns-clause-by_openings
returns-clause-by_openings g k c p s traces degree_bits q r canonical one other same = one_built c p s traces degree_bits canonical q r one other same

pub returns-clause-plain : goal.returns-clause-plain
returns-clause-plain g k c p s traces degree_bits q r canonical alike one other = one_built c p s traces degree_bits canonical q r one other (alike q.opening_proof r.opening_proof)
