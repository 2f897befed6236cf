use Rattle.prover_quotients.proofs.columns.columns_on.Goals as goal

pub returns : goal.returns
returns g c = λ t H. record {
  main_values = c.in_ok-main.ensures t.main H.main_held;
  preprocessed_values = c.in_ok-preprocessed.ensures t.preprocessed H.preprocessed_held;
  permutation_values = c.in_ok-permutation.ensures t.permutation H.permutation_held;
}
