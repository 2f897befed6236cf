-- The checks of a proof's shape, part by part.
use Rattle.std.proofs.Common.{◌≡◌, ℕ, ◌+◌, ◌^◌, ◌<◌, ◌≤◌, List, [], ◌++◌, Result, Ok, Err, length, get_or, map, refl, sym, ◌∙◌, ap, subst, inl, inr, arith}
use Rattle.p3_field.specs.Ring.{Ring}
use Rattle.p3_field.specs.Poly.{tabulate}
use Rattle.p3_field.specs.Laws.Tabulate.{get_or-tabulate, length-tabulate}
use Rattle.p3_field.specs.Checks.{Check, check, NoneFails, FirstFails, FirstRefusal, in_turn}
use Rattle.p3_field.specs.Laws.Checks.{none_at, none_of_each, none_alone, first_here, refused_in_turn}
use Rattle.p3_lookup.specs.Bound.{HaveLoadsBelow, IsBoundChecked, IsFirstOverload, bus_load, capped}
use Rattle.p3_lookup.specs.Bus.{bus_count, batch_buses}
use Rattle.p3_lookup.specs.Lookup.{LookupData}
use Rattle.p3_lookup.specs.declared.terminal.LookupError.{LookupError}
use Rattle.p3_lookup.specs.declared.terminal.LookupError.TheVariants.{MultiplicityBound, PermutationWidthMismatch, PermutationLengthMismatch, TerminalPresenceMismatch, CommitmentMismatch, TerminalSum}
use Rattle.batch_statement.specs.Proof.{ProofData}
use Rattle.batch_statement.specs.Statement.{Statement}
use Rattle.batch_statement.specs.declared.error.BatchVerificationError.{BatchVerificationError}
use Rattle.batch_statement.specs.declared.error.BatchVerificationError.TheVariants.{Lookup, OutOfMemory}
use Rattle.verifier_shape.specs.ShapeChecks.{Bounds, HaveItemForEachTable, count_checks, permutation_check, sizes_at, log_chunks_at, heights_of, bound_at, opened_checks_at, opened_by, opened_checks, size_part, bus_bound_part, opened_part, shape_checks}
use Rattle.batch_statement.specs.Verdict.{IsVerdict, IsRefusal}
use Rattle.verifier_shape.specs.Laws.Verdicts.{first_of_five, second_of_five, third_of_five, fourth_of_five, last_of_five, turns_agree}

-- a batch whose counts are right
pub counted : {F E C P : Type 0} (R : Type 0) (zk : _) (s : Statement F C) (p : ProofData F E C P) → NoneFails (count_checks {R = R} zk s p) → HaveItemForEachTable s p
unfolding NoneFails
counted R zk s p h = h.0

-- whose refusal is never out of memory
pub counts_named : {F E C P R : Type 0} (zk : _) (s : Statement F C) (p : ProofData F E C P) (e : BatchVerificationError R) → FirstFails (count_checks zk s p) e → e ≡ OutOfMemory → ⊥
unfolding FirstFails
counts_named zk s p e v m = elim v [
  | inl t ↦ elim t.1 [ inl u ↦ absurd u.1 | inr u ↦ let r = u.1 in cc ]
  | inr t ↦ let r = t.1 in cc
]

-- degree bits and a number of chunks that were found to fit
pub bits_fit : {F : Type 0} (R : Type 0) (f : Ring F) (least most masks : ℕ) (tables : _) (lookups : List (List (LookupData F))) (degree_bits : List ℕ) (n i : ℕ) → i < n
    → NoneFails (in_turn n (sizes_at {R = R} f least most masks tables lookups degree_bits)) → get_or degree_bits i 0 ≤ most
unfolding NoneFails
bits_fit R f least most masks tables lookups degree_bits n i b h = let k = none_at (sizes_at {R = R} f least most masks tables lookups degree_bits) n i b h in k.1.0

pub chunks_fit : {F : Type 0} (R : Type 0) (f : Ring F) (least most masks : ℕ) (tables : _) (lookups : List (List (LookupData F))) (degree_bits : List ℕ) (n i : ℕ) → i < n
    → NoneFails (in_turn n (sizes_at {R = R} f least most masks tables lookups degree_bits)) → log_chunks_at f masks tables lookups degree_bits i + masks < 64
unfolding NoneFails
chunks_fit R f least most masks tables lookups degree_bits n i b h = let k = none_at (sizes_at {R = R} f least most masks tables lookups degree_bits) n i b h in k.1.1.0

-- the bound on each bus
pub bounded : {F : Type 0} (R : Type 0) (order : ℕ) (lookups : List (List (LookupData F))) (heights : List ℕ) → HaveLoadsBelow order lookups heights
    → NoneFails (in_turn (bus_count (batch_buses lookups)) (bound_at {R = R} order lookups heights))
bounded R order lookups heights h =
    none_of_each (bound_at {R = R} order lookups heights) (bus_count (batch_buses lookups)) (λ b l. none_alone (check {R = BatchVerificationError R} (Lookup (MultiplicityBound (capped b))) (bus_load lookups heights b < order)) (h b l))

pub overloaded : {F : Type 0} (R : Type 0) (order : ℕ) (lookups : List (List (LookupData F))) (heights : List ℕ) (bus : ℕ) → IsFirstOverload order lookups heights bus
    → FirstFails (in_turn (bus_count (batch_buses lookups)) (bound_at {R = R} order lookups heights)) (Lookup (MultiplicityBound bus))
overloaded R order lookups heights bus h =
    let f = bound_at {R = R} order lookups heights in
    let n = h.number in
    let c = check {R = BatchVerificationError R} (Lookup (MultiplicityBound (capped n))) (bus_load lookups heights n < order) in
    let before : NoneFails (in_turn n f) =
    none_of_each f n (λ b l. none_alone (check {R = BatchVerificationError R} (Lookup (MultiplicityBound (capped b))) (bus_load lookups heights b < order)) (h.before b l)) in
    let here : FirstFails (f n) (Lookup (MultiplicityBound bus)) =
    first_here c [] (Lookup (MultiplicityBound bus)) (λ l. let r = h.reaches in omega (arith, r, l)) (ap (λ k. Lookup (MultiplicityBound k)) h.named) in
    refused_in_turn f n (bus_count (batch_buses lookups)) (Lookup (MultiplicityBound bus)) h.within before here

pub bound_refused : {F : Type 0} (R : Type 0) (order : ℕ) (lookups : List (List (LookupData F))) (heights : List ℕ) (e : LookupError) → IsBoundChecked order lookups heights (Err e)
    → FirstFails (in_turn (bus_count (batch_buses lookups)) (bound_at {R = R} order lookups heights)) (Lookup e)
bound_refused R order lookups heights (MultiplicityBound bus) h = overloaded R order lookups heights bus h
bound_refused R order lookups heights (PermutationWidthMismatch air expected) h = absurd h
bound_refused R order lookups heights (PermutationLengthMismatch air) h = absurd h
bound_refused R order lookups heights (TerminalPresenceMismatch air expected got) h = absurd h
bound_refused R order lookups heights CommitmentMismatch h = absurd h
bound_refused R order lookups heights TerminalSum h = absurd h

-- the checks of opened values, by the list of the numbers of chunks
pub opened_agree : {F E C P R : Type 0} (f : Ring F) (masks dimension : ℕ) (s : Statement F C) (p : ProofData F E C P) (chunks : List ℕ)
    → chunks ≡ tabulate (length s.tables) (log_chunks_at f masks s.tables s.common.lookups p.degree_bits)
    → in_turn (length s.tables) (opened_by {R = R} s.tables s.publics s.common.lookups p.instances p.lookup_terminals chunks masks dimension)
    ≡ in_turn (length s.tables) (opened_checks f masks dimension s p)
opened_agree f masks dimension s p chunks e =
    let n = length s.tables in
    let here : (i : ℕ) → i < n → get_or chunks i 0 ≡ log_chunks_at f masks s.tables s.common.lookups p.degree_bits i =
    λ i b. ap (λ l. get_or l i 0) e ∙ get_or-tabulate n (log_chunks_at f masks s.tables s.common.lookups p.degree_bits) i 0 b in
    turns_agree (opened_by s.tables s.publics s.common.lookups p.instances p.lookup_terminals chunks masks dimension) (opened_checks f masks dimension s p) n
    (λ i b. λ j. opened_checks_at s.tables s.publics s.common.lookups p.instances p.lookup_terminals (2 ^ (here i b j + masks)) dimension i)

-- the five parts
module _ {F E C P R : Type 0} (f : Ring F) (b : Bounds) (s : Statement F C) (p : ProofData F E C P) where
  pub first_part : (e : BatchVerificationError R) → IsRefusal (count_checks {R = R} b.zk s p) e → IsRefusal (shape_checks {R = R} f b s p) e
  unfolding shape_checks
  first_part e v = first_of_five (count_checks {R = R} b.zk s p) (size_part {R = R} f b s p) (bus_bound_part {R = R} b s p) (opened_part {R = R} f b s p) (permutation_check {R = R} s p) e v

  pub second_part : (e : BatchVerificationError R) → NoneFails (count_checks {R = R} b.zk s p) → IsRefusal (size_part {R = R} f b s p) e → IsRefusal (shape_checks {R = R} f b s p) e
  unfolding shape_checks
  second_part e x v = second_of_five (count_checks {R = R} b.zk s p) (size_part {R = R} f b s p) (bus_bound_part {R = R} b s p) (opened_part {R = R} f b s p) (permutation_check {R = R} s p) e x v

  pub third_part : (e : BatchVerificationError R) → NoneFails (count_checks {R = R} b.zk s p) → NoneFails (size_part {R = R} f b s p) → IsRefusal (bus_bound_part {R = R} b s p) e
      → IsRefusal (shape_checks {R = R} f b s p) e
  unfolding shape_checks
  third_part e x y v = third_of_five (count_checks {R = R} b.zk s p) (size_part {R = R} f b s p) (bus_bound_part {R = R} b s p) (opened_part {R = R} f b s p) (permutation_check {R = R} s p) e x y v

  pub fourth_part : (e : BatchVerificationError R) → NoneFails (count_checks {R = R} b.zk s p) → NoneFails (size_part {R = R} f b s p) → NoneFails (bus_bound_part {R = R} b s p) → IsRefusal (opened_part {R = R} f b s p) e
      → IsRefusal (shape_checks {R = R} f b s p) e
  unfolding shape_checks
  fourth_part e x y z v = fourth_of_five (count_checks {R = R} b.zk s p) (size_part {R = R} f b s p) (bus_bound_part {R = R} b s p) (opened_part {R = R} f b s p) (permutation_check {R = R} s p) e x y z v

  pub last_part : {T : Type 0} (r : Result T (BatchVerificationError R)) → NoneFails (count_checks {R = R} b.zk s p) → NoneFails (size_part {R = R} f b s p) → NoneFails (bus_bound_part {R = R} b s p)
      → NoneFails (opened_part {R = R} f b s p) → IsVerdict (permutation_check {R = R} s p) r → IsVerdict (shape_checks {R = R} f b s p) r
  unfolding shape_checks
  last_part r x y z w v = last_of_five (count_checks {R = R} b.zk s p) (size_part {R = R} f b s p) (bus_bound_part {R = R} b s p) (opened_part {R = R} f b s p) (permutation_check {R = R} s p) r x y z w v
