use Rattle.law_honest.specs.Laws.Ground.{denominator_event, lookup_event, ood_event}
use Rattle.law_honest.proofs.meanings.no_honest_proof_where_an_event_comes.Goals as goal

pub returns-clause-lookup : goal.returns-clause-lookup
returns-clause-lookup g k c p s traces degree_bits w canonical lacks ground = lookup_event c p s traces degree_bits canonical w lacks ground

pub returns-clause-denominator : goal.returns-clause-denominator
returns-clause-denominator g k c p s traces degree_bits i row w canonical zero ground all = denominator_event c p s traces degree_bits canonical i row w zero ground all

pub returns-clause-ood : goal.returns-clause-ood
returns-clause-ood g k c p s traces degree_bits w z canonical lacks lookup ood = ood_event c p s traces degree_bits canonical w z lacks lookup ood
