use Rattle.law_honest.specs.Laws.Events.{lookup_alone, one_place, zero_alone}
use Rattle.law_honest.proofs.meanings.one_event_comes_at_most.Goals as goal

pub returns-clause-lookup : goal.returns-clause-lookup
returns-clause-lookup g k c p s traces degree_bits canonical lacks other = lookup_alone c p s traces degree_bits canonical lacks other

pub returns-clause-denominator : goal.returns-clause-denominator
returns-clause-denominator g k c p s traces degree_bits canonical zero none = zero_alone c p s traces degree_bits canonical zero none

pub returns-clause-place : goal.returns-clause-place
returns-clause-place g k c p s traces degree_bits i row j other canonical one two = one_place c p s traces degree_bits canonical i row j other one two
