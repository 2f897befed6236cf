-- Within the scheme's bounds there is no cause to refuse.
use Rattle.std.proofs.Common.{◌≡◌, ℕ, ◌+◌, ◌-◌, ◌*◌, ◌^◌, ◌≤◌, List, length, ◌∙◌, ap, arith}
use Rattle.std.specs.Prelude.{All}
use Rattle.std.proofs.Math.Nat.{mul-le-mul_right, pow-le-pow_right}
use Rattle.std.proofs.lemmas.Nat.{pow-add}
use Rattle.p3_field.specs.Ring.{RingLaws}
use Rattle.p3_field.specs.Field.{FieldLaws, TwoAdicLaws}
use Rattle.p3_field.specs.Domain.{CosetData}
use Rattle.p3_matrix.specs.Matrix.{Rows}
use Rattle.commit_core.specs.Claims.{Request}
use Rattle.commit_core.specs.Commitments.{AreExtensions}
use Rattle.commit_core.specs.Failure.{NoneOf}
use Rattle.plain_pcs.specs.Scheme.{Scheme}
use Rattle.plain_pcs.specs.Extension.{Extends}
use Rattle.plain_pcs.specs.Refusals.{IsWithinBounds, CommitFault, HasSubgroupHeight, ExtensionsFault, QuotientFault, OpenFault}
use Rattle.plain_pcs.specs.Laws.Extensions.{extended_height}
use Rattle.plain_pcs.specs.Laws.Listed.{all_items}
use Rattle.plain_pcs.proofs.Lists.{none_first}
use Rattle.plain_pcs.proofs.Commitments.{no_commit_fault, no_height_fault}
use Rattle.plain_pcs.specs.declared.error.PlainProverError.TheVariants.{Commit, Open}

module _ {F : Type 0} (s : Scheme F) where
  pub commit_granted : (evaluated : List (CosetData F × Rows F)) → s.log_blowup ≤ s.most → All (IsWithinBounds s) evaluated
      → NoneOf (CommitFault s evaluated)
  commit_granted evaluated fits all =
      no_commit_fault s evaluated (λ k d b.
      let W = all k d b in
      record { has_columns = W.has_columns; height_is = W.height_is; fits = omega (arith, fits, W.short) })

  pub extensions_granted : RingLaws s.field.ring → FieldLaws s.field.ring s.field.inv → TwoAdicLaws s.field.ring s.most s.field.root
      → (chunks : List (CosetData F × Rows F)) (ls : List (Rows F)) → AreExtensions (Extends s) chunks ls → NoneOf (ExtensionsFault s ls)
  extensions_granted L W T chunks ls E = no_height_fault s ls (all_items (HasSubgroupHeight s.most) ls (extended_height s L W T chunks ls E))

  -- parts of 2^rows points, of which there are 2^parts
  pub quotient_granted : (d : CosetData F) (rows parts : ℕ) → s.log_blowup ≤ s.most → d.log_size ≡ rows + parts → rows ≤ s.most - s.log_blowup
      → NoneOf (QuotientFault s d (2 ^ parts))
  quotient_granted d rows parts fits size short (Commit i) f =
      let one : 2 ^ (rows + s.log_blowup) ≤ 2 ^ s.most = pow-le-pow_right (omega arith) (omega (arith, fits, short)) in
      let all : 2 ^ (rows + s.log_blowup) * 2 ^ parts ≤ 2 ^ s.most * 2 ^ parts = mul-le-mul_right (2 ^ parts) one in
      let sizes : d.log_size + s.log_blowup ≡ (rows + s.log_blowup) + parts = omega (arith, size) in
      let same : 2 ^ (d.log_size + s.log_blowup) ≡ 2 ^ (rows + s.log_blowup) * 2 ^ parts = ap (λ n. 2 ^ n) sizes ∙ pow-add 2 (rows + s.log_blowup) parts in
      omega (arith, f.1, all, same)
  quotient_granted d rows parts fits size short (Open i) f = f

pub open_granted : {F E : Type 0} (requests : List (Request (List (CosetData F × Rows F)) E))
    → All (λ r. length r.points ≡ length r.prover_data) requests → NoneOf (OpenFault requests)
open_granted requests all (Commit i) f = f
open_granted requests all (Open i) f = none_first (λ r. length r.points ≡ length r.prover_data) requests i all f
