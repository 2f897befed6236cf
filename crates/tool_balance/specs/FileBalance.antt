-- What `balance` answers for a proof file: a status and a text (not in Plonky3).
use Rattle.std.specs.Prelude.{◌≡◌, ◌⊎◌, ℕ, List, ◌++◌, length, codes, nat_eq}
use Rattle.p3_field.specs.BabyBear.{baby_bear_ring}
use Rattle.p3_field.specs.Quartic.{quartic_inv}
use Rattle.p3_field.specs.declared.baby_bear.BabyBear.{BabyBear}
use Rattle.p3_lookup.specs.Messages.{Message}
use Rattle.stark_balance.specs.Nets.{net_counts}
use Rattle.law_balance.specs.Accepted.{IsLookupPairUnlucky, messages_of_proof}
use Rattle.law_soundness.specs.Meaning.{IsAlphaUnlucky, IsZetaUnlucky}
use Rattle.transcript_version.specs.declared.TranscriptVersion.{TranscriptVersion}
use Rattle.tool_proof_text.specs.ProofText.{ToolProofData}
use Rattle.tool_statement.specs.Config.{tool_setting}
use Rattle.tool_statement.specs.StatedTables.{tool_statement}
use Rattle.tool_statement.specs.declared.table.TableStatement.{TableStatement}
use Rattle.tool_verifier.specs.FileAnswer.{IsAccepted, IsMeant, IsRefusedWith}
use Rattle.tool_verifier.specs.declared.status.Status.{Status}
use Rattle.tool_verifier.specs.declared.status.Status.TheVariants.{Done, Refused, Usage, BadInput, ReadFault, WriteFault, OutOfMemory, TooLarge}
use Rattle.tool_balance.specs.Nets.{balanced_line, nets_line}

module _ (version : TranscriptVersion) (tables : List TableStatement) (p : ToolProofData) where
  -- what the tables send over the base field, row by row of the polynomials that the proof commits to
  abbrev pub sent_messages : List (Message BabyBear)
  sent_messages = messages_of_proof (tool_setting version) 1 (tool_statement tables) p

  -- what is left over of it: for each bus and tuple that is sent the sum of its counts, by the bus and then by the tuple's canonical numbers
  abbrev pub committed_nets : List (Message BabyBear)
  committed_nets = net_counts baby_bear_ring (λ x. x.value) sent_messages

  -- the text where the proof is accepted: `accepted`, and the line of the nets
  abbrev pub balance_text : List ℕ
  balance_text = codes "accepted\n" ++ nets_line committed_nets

  -- the drawn lookup pair is unlucky for what is sent
  abbrev pub IsDrawnPairUnlucky : Type 0
  IsDrawnPairUnlucky = IsLookupPairUnlucky (tool_setting version) 1 (tool_statement tables) p (λ x y. nat_eq x.value y.value) quartic_inv

  -- the line is that of nets which are all zero, unless the drawn lookup pair, alpha or zeta is unlucky
  abbrev pub IsBalancedUnlessUnlucky : List ℕ → Type 0
  IsBalancedUnlessUnlucky text =
      (text ≡ codes "accepted\n" ++ balanced_line (length committed_nets))
      ⊎ (IsDrawnPairUnlucky ⊎ (IsAlphaUnlucky (tool_setting version) 1 (tool_statement tables) p ⊎ IsZetaUnlucky (tool_setting version) 1 (tool_statement tables) p))

-- what the text says where the proof is accepted
pub record IsBalanceTold (version : TranscriptVersion) (tables : List TableStatement) (p : ToolProofData) (text : List ℕ) : Type 0 where
  pub meant : IsMeant version tables p
  pub told : text ≡ balance_text version tables p
  pub balanced : IsBalancedUnlessUnlucky version tables p text

-- The status and the text for a file of this version: refused as by `verify`, and else the line of the nets.
unfoldable pub IsFileBalance : TranscriptVersion → List TableStatement → ToolProofData → Status → List ℕ → Type 0
IsFileBalance version tables p Done text = IsAccepted version tables p × IsBalanceTold version tables p text
IsFileBalance version tables p Refused text = IsRefusedWith version tables p text
IsFileBalance version tables p Usage text = ⊥
IsFileBalance version tables p BadInput text = ⊥
IsFileBalance version tables p ReadFault text = ⊥
IsFileBalance version tables p WriteFault text = ⊥
IsFileBalance version tables p OutOfMemory text = ⊥
IsFileBalance version tables p TooLarge text = ⊥
