-- What the data of a table's identity shows. After Plonky3's p3-batch-stark (VerifierData).
use Rattle.verifier_identity.specs.declared.identity.IdentityData.{IdentityData}
use Rattle.verifier_identity.specs.Identity.{OpenedTable}

abbrev pub identity_opened_of : {F E : Type 0} → IdentityData F E → OpenedTable F E
identity_opened_of v = record {
  trace_local = v.trace_local.now;
  trace_next = v.trace_next.now;
  preprocessed_local = v.preprocessed_local.now;
  preprocessed_next = v.preprocessed_next.now;
  periodic = v.periodic_values.now;
  public = v.public_values.now;
  permutation_local = v.permutation_local.now;
  permutation_next = v.permutation_next.now;
  challenges = v.permutation_challenges.now;
  terminals = v.permutation_values.now;
}
