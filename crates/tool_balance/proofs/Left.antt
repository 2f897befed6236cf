-- Nets that are all zero, and the line that says so.
use Rattle.std.proofs.Common.{◌≡◌, ℕ, List, [], ◌∷◌, ◌++◌, length, None, inl, inr, refl, ◌∙◌, ap}
use Rattle.std.specs.Prelude.{All, codes, nat_eq}
use Rattle.std.proofs.lemmas.List.Elements.{All-head, All-tail}
use Rattle.p3_field.specs.BabyBear.{baby_bear_ring}
use Rattle.p3_field.specs.Laws.BabyBearField.{baby_bear_eq_same, baby_bear_of_canonical, baby_bear_same_eq}
use Rattle.p3_field.specs.Laws.BabyBearLaws.{baby_bear_laws}
use Rattle.p3_field.specs.declared.baby_bear.BabyBear.{BabyBear}
use Rattle.p3_lookup.specs.Messages.{IsBalanced, Message}
use Rattle.stark_balance.specs.Laws.NetCounts.{counts_are_nets}
use Rattle.stark_balance.specs.Nets.{net_counts}
use Rattle.transcript_version.specs.declared.TranscriptVersion.{TranscriptVersion}
use Rattle.tool_proof_text.specs.ProofText.{ToolProofData}
use Rattle.tool_statement.specs.Config.{tool_setting}
use Rattle.tool_statement.specs.declared.table.TableStatement.{TableStatement}
use Rattle.tool_verifier.specs.FileAnswer.{TablesBalance}
use Rattle.tool_balance.proofs.Lines.{passed}
use Rattle.tool_balance.specs.FileBalance.{IsBalancedUnlessUnlucky, balance_text, committed_nets, sent_messages}
use Rattle.tool_balance.specs.Nets.{first_left, line_with}

none_left : (ms : List (Message BabyBear)) → All (λ m. m.count ≡ baby_bear_ring.zero) ms → first_left ms ≡ None
none_left [] h = refl
none_left (m ∷ ms) h = passed m ms (All-head (λ (m : Message BabyBear). m.count ≡ baby_bear_ring.zero) m ms h) ∙ none_left ms (All-tail (λ (m : Message BabyBear). m.count ≡ baby_bear_ring.zero) m ms h)

-- where nothing is left over of the messages, all nets are zero
zero_nets : (ms : List (Message BabyBear)) → IsBalanced baby_bear_ring (λ x y. nat_eq x.value y.value) ms → All (λ m. m.count ≡ baby_bear_ring.zero) (net_counts baby_bear_ring (λ x. x.value) ms)
zero_nets ms balanced i d l =
    let eq = λ (x y : BabyBear). nat_eq x.value y.value in
    let nets = counts_are_nets baby_bear_ring (λ x. x.value) baby_bear_of_canonical eq baby_bear_same_eq baby_bear_eq_same baby_bear_laws ms in
    nets.counts i d l ∙ balanced _ _

-- so the text says that they balance, or a drawn challenge is unlucky
pub told : (version : TranscriptVersion) (tables : List TableStatement) (p : ToolProofData) (text : List ℕ) → TablesBalance version tables p → text ≡ balance_text version tables p
    → IsBalancedUnlessUnlucky version tables p text
unfolding tool_setting
told version tables p text balance e = elim balance [
  | inl b ↦ inl (e ∙ ap (λ o. codes "accepted\n" ++ line_with (length (committed_nets version tables p)) o) (none_left (committed_nets version tables p) (zero_nets (sent_messages version tables p) b)))
  | inr u ↦ inr u
]
