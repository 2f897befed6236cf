-- What is named of a batch proof, and a verifier's answer.
use Rattle.std.proofs.Common.{◌≡◌, ℕ, zero, suc, Bool, List, [], ◌∷◌, ◌++◌, Option, None, refl, sym, subst, ◌∙◌}
use Rattle.p3_field.specs.Checks.{AreSingle, NoneFails, FirstFails, in_turn, numbers, FirstFailing, IsFirstFailing}
use Rattle.p3_field.specs.Laws.Checks.{none_of_numbers, first_of_numbers}
use Rattle.batch_config.specs.Setting.{Setting, Backend}
use Rattle.batch_statement.specs.Proof.{ProofData}
use Rattle.batch_statement.specs.Statement.{Statement}
use Rattle.batch_statement.specs.declared.error.BatchVerificationError.{BatchVerificationError}
use Rattle.verifier_draws.specs.Draws.{grinding_checks, lookup_grinding}
use Rattle.verifier_batch.specs.OpeningChecks.{claim_checks, opening_checks, shape_bounds_of}
use Rattle.verifier_batch.specs.BatchChecks.{Accepted, FirstFault, checks, drawn_of}
use Rattle.audit_batch.specs.Asked.{always, only, checks_in, AreNamed, AreAskedInTurn}
use Rattle.audit_batch.specs.Laws.Asked.{first_is_named, in_always, none_if_unnamed, same_named, turn_always, unnamed_if_none}
use Rattle.audit_batch.specs.Parts.{all_asked, all_list, claims_list, draws_list}
use Rattle.audit_batch.specs.Laws.Parts.{accepted_if_unnamed, first_fault_named, in_all, unnamed_if_accepted}
use Rattle.audit_batch.specs.Laws.Shape.{same_shape, turns}
use Rattle.audit_batch.specs.Audit.{HasWitness, audit, lookup_asked, parts_of, tables_with_lookups}

-- the grinding value before the pair
module _ {F : Type 0} (R : Type 0) where
  in_lookup : (z : F) (tables bits : ℕ) (w : Option F) (passed : Bool) → checks_in (lookup_asked {R = R} z tables bits w passed) ≡ lookup_grinding z tables bits w passed
  unfolding checks_in always only
  in_lookup z zero bits w passed = refl
  in_lookup z (suc n) bits w passed = refl

  turn_lookup : (z : F) (tables bits : ℕ) (w : Option F) (passed : Bool) → AreAskedInTurn (Unit {0}) (lookup_asked {R = R} z tables bits w passed)
  unfolding AreAskedInTurn always only
  turn_lookup z zero bits w passed = (λ h. tt, tt)
  turn_lookup z (suc n) bits w passed = (λ h. tt, (λ h. (h.1, tt), (λ h. (h.0.1, tt), tt)))

  witness_found : (z : F) (tables bits : ℕ) (w : Option F) (passed : Bool) → NoneFails (checks_in (lookup_asked {R = R} z tables bits w passed)) → HasWitness tables w
  unfolding checks_in always only NoneFails
  witness_found z zero bits w passed h = tt
  witness_found z (suc n) bits w passed h = h.0

module _ {S F E C P R : Type 0} (c : Setting S F E C) (b : Backend S F E C P R) (s : Statement F C) (p : ProofData F E C P) where
  -- all checks are the verifier's
  pub same_checks : all_list (parts_of c b s p) ≡ checks c b s p
  unfolding all_list draws_list claims_list checks grinding_checks opening_checks claim_checks
  same_checks =
      let q = parts_of c b s p in
      let l = in_lookup R c.field.ring.zero (tables_with_lookups c b s p) c.lookup_bits p.lookup_pow_witness (drawn_of c s p).lookup_passed in
      λ j. same_shape R c.field.ring (shape_bounds_of c) s p j
      ++ (l j ++ q.ood_grinding)
      ++ (in_turn q.shape.tables q.domain ++ in_turn q.matrices q.metadata ++ q.opens)
      ++ in_turn q.shape.tables q.identity
      ++ q.terminals

  -- nothing is named exactly where the proof is accepted, and what is named first is the verifier's refusal
  opened_turns : (i : ℕ) → AreAskedInTurn (Unit {0}) ((parts_of c b s p).shape.opened i)
  opened_turns i = turns R c.field.ring (shape_bounds_of c) s p i

  grinding_turn : AreAskedInTurn (Unit {0}) ((parts_of c b s p).lookup_grinding)
  grinding_turn = turn_lookup R c.field.ring.zero (tables_with_lookups c b s p) c.lookup_bits p.lookup_pow_witness (drawn_of c s p).lookup_passed

  witness : NoneFails (checks_in ((parts_of c b s p).lookup_grinding)) → (parts_of c b s p).has_witness
  witness h = witness_found R c.field.ring.zero (tables_with_lookups c b s p) c.lookup_bits p.lookup_pow_witness (drawn_of c s p).lookup_passed h

  pub accepted_if_none_named : AreNamed (audit c b s p) [] → Accepted c b s p
  unfolding audit
  accepted_if_none_named n = subst NoneFails same_checks (accepted_if_unnamed (parts_of c b s p) opened_turns grinding_turn witness n)

  pub none_named_if_accepted : (es : List (BatchVerificationError R)) → Accepted c b s p → AreNamed (audit c b s p) es → es ≡ []
  unfolding audit
  none_named_if_accepted es h n = unnamed_if_accepted (parts_of c b s p) opened_turns grinding_turn witness es (subst NoneFails (sym same_checks) h) n

  pub first_named_is_fault : (e : BatchVerificationError R) (es : List (BatchVerificationError R)) → AreNamed (audit c b s p) (e ∷ es) → FirstFault c b s p e
  unfolding audit
  first_named_is_fault e es n = subst (λ cs. FirstFails cs e) same_checks (first_fault_named (parts_of c b s p) opened_turns grinding_turn witness e es n)

  -- there is one list of what is named
  pub same_list : AreSingle (checks c b s p) → (ds es : List (BatchVerificationError R)) → AreNamed (audit c b s p) ds → AreNamed (audit c b s p) es → ds ≡ es
  unfolding audit
  same_list single ds es m n =
      let q = parts_of c b s p in
      same_named (all_asked q) ds es (subst AreSingle (sym (in_all q ∙ same_checks)) single) m n

-- the numbers for which a property fails, all of them
module _ (n : ℕ) (P : ℕ → Type 0) where
  named_numbers : checks_in (always (numbers n P)) ≡ numbers n P
  named_numbers = in_always (numbers n P)

  pub holds_if_none_named : AreNamed (always (numbers n P)) [] → FirstFailing n P None
  holds_if_none_named h = (none_of_numbers n P).0 (subst NoneFails named_numbers (none_if_unnamed (Unit {0}) (always (numbers n P)) (turn_always (Unit {0}) (numbers n P)) tt h))

  pub none_named_if_holds : (is : List ℕ) → FirstFailing n P None → AreNamed (always (numbers n P)) is → is ≡ []
  none_named_if_holds is h m = unnamed_if_none (always (numbers n P)) is (subst NoneFails (sym named_numbers) ((none_of_numbers n P).1 h)) m

  pub first_named_fails : (i : ℕ) (is : List ℕ) → AreNamed (always (numbers n P)) (i ∷ is) → IsFirstFailing n P i
  first_named_fails i is h =
      (first_of_numbers n P i).0
      (subst (λ cs. FirstFails cs i) named_numbers (first_is_named (Unit {0}) (always (numbers n P)) i is (turn_always (Unit {0}) (numbers n P)) tt h))
