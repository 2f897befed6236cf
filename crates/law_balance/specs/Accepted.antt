-- What an accepted proof over the plain scheme says of what its tables send (not in Plonky3).
use Rattle.std.specs.Prelude.{◌⊎◌, ℕ, ◌<◌, Bool, List}
use Rattle.p3_lookup.specs.Bus.{batch_buses, bus_count, widest}
use Rattle.p3_lookup.specs.Messages.{Message, IsBalanced}
use Rattle.stark_balance.specs.Count.{HasFewAlphas, HasFewMeetings}
use Rattle.stark_balance.specs.Unlucky.{IsPairUnlucky}
use Rattle.plain_pcs.specs.Scheme.{PlainCommitmentData}
use Rattle.batch_config.specs.Setting.{Setting}
use Rattle.batch_statement.specs.Proof.{ProofData}
use Rattle.batch_statement.specs.Statement.{Statement}
use Rattle.verifier_batch.specs.BatchChecks.{drawn_of}
use Rattle.law_soundness.specs.CommittedBatch.{committed_table_at}
use Rattle.law_soundness.specs.Meaning.{IsAlphaUnlucky, IsZetaUnlucky}
use Rattle.law_balance.specs.CommittedSenders.{committed_messages}

module _ {S F E P : Type 0} (c : Setting S F E (PlainCommitmentData F)) (log_blowup : ℕ) (s : Statement F (PlainCommitmentData F)) (p : ProofData F E (PlainCommitmentData F) P) where
  -- the messages of the tables that the proof commits to
  abbrev pub messages_of_proof : List (Message F)
  messages_of_proof = committed_messages c.field (committed_table_at c log_blowup s p) s.common.lookups

  -- the batch has fewer buses than this
  abbrev pub HasFewerBuses : (order : ℕ) → Type 0
  HasFewerBuses order = bus_count (batch_buses s.common.lookups) < order

  module _ (eq : F → F → Bool) where
    -- nothing is left over of them on any bus
    abbrev pub CommittedTablesBalance : Type 0
    CommittedTablesBalance = IsBalanced c.field.ring eq messages_of_proof

    module _ (inverse : E → E) where
      -- with this beta this alpha is unlucky for them
      abbrev pub AreUnluckyForLookups : (alpha beta : E) → Type 0
      AreUnluckyForLookups alpha beta = IsPairUnlucky c.field.ring eq c.extension.ring inverse c.extension.embed (widest s.common.lookups) messages_of_proof alpha beta

      -- the drawn pair is unlucky for them
      abbrev pub IsLookupPairUnlucky : Type 0
      IsLookupPairUnlucky = AreUnluckyForLookups (drawn_of c s p).lookup_alpha (drawn_of c s p).lookup_beta

      -- nothing is left over, or a drawn challenge is unlucky
      abbrev pub BalanceUnlessUnlucky : Type 0
      BalanceUnlessUnlucky = CommittedTablesBalance ⊎ (IsLookupPairUnlucky ⊎ (IsAlphaUnlucky c log_blowup s p ⊎ IsZetaUnlucky c log_blowup s p))

      -- few betas make two pairs of bus and tuple meet, of those that are sent
      abbrev pub FewBetasMeet : Type 0
      FewBetasMeet = HasFewMeetings c.field.ring eq c.extension.ring inverse c.extension.embed (widest s.common.lookups) messages_of_proof

      -- with any other beta few alphas are unlucky for them
      abbrev pub FewAlphasAreUnlucky : Type 0
      FewAlphasAreUnlucky = HasFewAlphas c.field.ring eq c.extension.ring inverse c.extension.embed (widest s.common.lookups) messages_of_proof
