use Rattle.std.proofs.Common.{sym, ◌∙◌}
use Rattle.std.proofs.lemmas.List.{length-map}
use Rattle.verifier_claims.proofs.claim_parts.rounds_over.Goals as goal

pub rounds-requires-clause-domains : goal.rounds-requires-clause-domains
rounds-requires-clause-domains g c = sym (length-map c.args.domains.now (λ v. v.items)) ∙ c.requires.sized.domains_fit

pub rounds-requires-clause-bits : goal.rounds-requires-clause-bits
rounds-requires-clause-bits g c = c.requires.sized.bits_fit

pub rounds-requires-clause-instances : goal.rounds-requires-clause-instances
rounds-requires-clause-instances g c = c.requires.sized.instances_fit

pub rounds-requires-clause-masked : goal.rounds-requires-clause-masked
rounds-requires-clause-masked g c = c.requires.sized.masked

pub rounds-requires-clause-fits : goal.rounds-requires-clause-fits
rounds-requires-clause-fits g c = c.requires.sized.fits

pub rounds-requires-clause-count : goal.rounds-requires-clause-count
rounds-requires-clause-count g c = c.requires.sized.count

pub rounds-requires-clause-chunks : goal.rounds-requires-clause-chunks
rounds-requires-clause-chunks g c = c.requires.sized.chunks
