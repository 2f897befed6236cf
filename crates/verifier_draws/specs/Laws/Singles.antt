-- There is one verdict on the grinding values, and no pair without lookups.
use Rattle.std.proofs.Common.{◌≡◌, ℕ, zero, suc, Bool, false, List, [], ◌∷◌, Option, refl, ap, arith, cond, zero-add}
use Rattle.std.specs.Prelude.{count_by}
use Rattle.std.specs.List.{list_any}
use Rattle.std.proofs.lemmas.List.Sums.{sum_by-cons}
use Rattle.p3_field.specs.Checks.{AreSingle}
use Rattle.p3_field.specs.Laws.Checks.{none_single, check_single, single_append}
use Rattle.p3_field.specs.Ring.{Ring}
use Rattle.p3_challenger.specs.Script.{ChallengerOf}
use Rattle.transcript_version.specs.declared.TranscriptVersion.{TranscriptVersion}
use Rattle.batch_transcript.specs.BatchScript.{Draws, is_positive}
use Rattle.batch_statement.specs.Proof.{ProofData}
use Rattle.batch_statement.specs.Statement.{Statement}
use Rattle.batch_statement.specs.declared.error.BatchVerificationError.{BatchVerificationError}
use Rattle.batch_statement.specs.Words.{has_some}
use Rattle.verifier_draws.specs.Draws.{drawn, drawn_pair, grinding_checks, lookup_grinding, ood_grinding, script_shape}

-- each check of a grinding value has one refusal
lookup_single : {F : Type 0} (R : Type 0) (z : F) (tables bits : ℕ) (w : Option F) (passed : Bool) → AreSingle (lookup_grinding {R = R} z tables bits w passed)
lookup_single R z zero bits w passed = check_single _ _ _ (none_single (BatchVerificationError R))
lookup_single R z (suc n) bits w passed = check_single _ _ _ (check_single _ _ _ (check_single _ _ _ (none_single (BatchVerificationError R))))

ood_single : {F : Type 0} (R : Type 0) (z : F) (bits : ℕ) (w : F) (passed : Bool) → AreSingle (ood_grinding {R = R} z bits w passed)
ood_single R z bits w passed = check_single _ _ _ (check_single _ _ _ (none_single (BatchVerificationError R)))

pub grinding_single : {S F E C P : Type 0} (R : Type 0) (c : ChallengerOf S F E C) (f : Ring F) (e : Ring E) (dimension : ℕ) (initial : S) (version : TranscriptVersion) (zk : Bool) (lookup_bits ood_bits : ℕ) (s : Statement F C) (p : ProofData F E C P)
    → AreSingle (grinding_checks c f e dimension initial version zk lookup_bits ood_bits s p {R = R})
unfolding grinding_checks
grinding_single R c f e dimension initial version zk lookup_bits ood_bits s p =
    let d = drawn c f e dimension initial version zk lookup_bits ood_bits s p in
    let n = (script_shape version zk lookup_bits ood_bits s).num_lookup_instances in
    single_append (lookup_grinding f.zero n lookup_bits p.lookup_pow_witness d.lookup_passed) (ood_grinding f.zero ood_bits p.ood_pow_witness d.ood_passed)
    (lookup_single R f.zero n lookup_bits p.lookup_pow_witness d.lookup_passed) (ood_single R f.zero ood_bits p.ood_pow_witness d.ood_passed)

-- one table more that has lookups
pub counts_more : {A : Type 0} (xs : List (List A)) (y : A) (ys : List A) → count_by has_some ((y ∷ ys) ∷ xs) ≡ suc (count_by has_some xs)
counts_more {A} xs y ys = let e = sum_by-cons (λ (x : List A). cond (has_some x) 1 0) (y ∷ ys) xs in omega (arith, e)

-- the number of tables with lookups isn't zero exactly where some have lookups
pub counts_some : {A : Type 0} (xs : List (List A)) → is_positive (count_by has_some xs) ≡ list_any has_some xs
counts_some [] = refl
counts_some ([] ∷ xs) = rw zero-add (counts_some xs)
counts_some ((y ∷ ys) ∷ xs) = ap is_positive (counts_more xs y ys)

pub no_pair : {A S E : Type 0} (xs : List (List A)) (d : Draws S E) → list_any has_some xs ≡ false → drawn_pair (count_by has_some xs) d ≡ []
no_pair [] d h = refl
no_pair ([] ∷ xs) d h = rw zero-add (no_pair xs d h)
no_pair ((y ∷ ys) ∷ xs) d h = cc
