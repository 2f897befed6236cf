use Rattle.law_honest.specs.Laws.Draws.{reads_stages, same_challenges}
use Rattle.law_honest.proofs.meanings.an_honest_proofs_draws_are_its_own.Goals as goal

pub returns-clause-challenges : goal.returns-clause-challenges
returns-clause-challenges g k c p s traces degree_bits w z opening i = same_challenges c p s traces degree_bits w z opening i

pub returns-clause-alpha : goal.returns-clause-alpha
returns-clause-alpha g k c p s traces degree_bits w z opening = (reads_stages c p s traces degree_bits w z opening).alpha_is

pub returns-clause-zeta : goal.returns-clause-zeta
returns-clause-zeta g k c p s traces degree_bits w z opening = (reads_stages c p s traces degree_bits w z opening).zeta_is

pub returns-clause-opening : goal.returns-clause-opening
returns-clause-opening g k c p s traces degree_bits w z opening = (reads_stages c p s traces degree_bits w z opening).opening_is
