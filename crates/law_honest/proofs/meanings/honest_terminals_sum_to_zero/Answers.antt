use Rattle.law_honest.specs.Laws.Terminals.{honest_vanish}
use Rattle.law_honest.proofs.meanings.honest_terminals_sum_to_zero.Goals as goal

pub returns : goal.returns
returns g k c p eq s traces degree_bits w L eq_same same_eq V = honest_vanish c p eq p.commitment_of s traces degree_bits L eq_same same_eq V w
