use Rattle.blake3_binary.specs.Laws.Sums.{sum2_means, sum3_means}
use Rattle.blake3_binary.specs.Laws.Step.{step_means}
use Rattle.blake3_binary.proofs.meanings.step_means.Goals as goal

pub returns : goal.returns
returns g c =
    let F = g.F.RingCore.ring in
    let L = g.met.F.RingCore.ring_laws in
    record {
      sum2 = λ at at_ext. sum2_means F L c.requires at at_ext;
      sum3 = λ at at_ext. sum3_means F L c.requires at at_ext;
      step = λ at at_ext. step_means F L c.requires at at_ext;
    }
