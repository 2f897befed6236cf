-- An honest proof of a valid statement has the shape that a verifier asks for.
use Rattle.std.proofs.Common.{◌≡◌, ℕ, zero, suc, ◌+◌, ◌^◌, ◌<◌, Bool, false, ◌||◌, List, [], ◌∷◌, ◌++◌, length, get_or, Option, None, refl, sym, ◌∙◌, ap, subst, arith}
use Rattle.std.specs.Prelude.{option_to_list}
use Rattle.std.specs.List.{flat_map, list_any}
use Rattle.p3_field.specs.Checks.{NoneFails}
use Rattle.p3_field.specs.Laws.Checks.{none_alone, none_append, none_of_each}
use Rattle.p3_field.specs.Laws.Tabulate.{get_or-tabulate, length-tabulate, tabulate_items}
use Rattle.p3_field.specs.Poly.{tabulate}
use Rattle.p3_matrix.specs.Matrix.{Rows}
use Rattle.air_core.specs.Shape.{HasColumns}
use Rattle.p3_lookup.specs.Bus.{batch_buses, bus_count}
use Rattle.batch_config.specs.Setting.{Setting, masks}
use Rattle.batch_statement.specs.Proof.{OpenedWithLookups, ProofData}
use Rattle.batch_statement.specs.Statement.{Statement}
use Rattle.verifier_shape.specs.ShapeChecks.{bound_at, bus_bound_part, count_checks, heights_of, opened_checks, opened_part, permutation_check, shape_checks, size_part, sizes_at, table_checks}
use Rattle.batch_statement.specs.Words.{has_some, is_there, no_opened}
use Rattle.verifier_batch.specs.OpeningChecks.{shape_bounds_of}
use Rattle.law_committed.specs.Fields.{FieldsLaws}
use Rattle.law_committed.specs.Laws.Degrees.{all_tabulate}
use Rattle.law_valid.specs.Traced.{TracedTable, declared, log_parts, traced_at}
use Rattle.law_valid.specs.Valid.{IsTracedBatch, Valid}
use Rattle.law_honest.specs.HonestProof.{Prover, alpha, challenges_at, committed_where, honest_proof, opened_of, permutation_matrices, honest_permutation_commitment, honest_terminal, where_some, zeta}
use Rattle.law_acceptance.specs.Laws.Lengths.{table_pass}

-- there is a commitment exactly where something is committed to
committed_there : {A C : Type 0} (f : List A → C) (xs : List A) → is_there (committed_where f xs) ≡ has_some xs
committed_there f [] = refl
committed_there f (x ∷ xs) = refl

some_there : {A B : Type 0} (ls : List A) (y : B) → has_some (option_to_list (where_some ls y)) ≡ has_some ls
some_there [] y = refl
some_there (l ∷ ls) y = refl

some_append : {A : Type 0} (xs ys : List A) → has_some (xs ++ ys) ≡ (has_some xs || has_some ys)
some_append [] ys = refl
some_append (x ∷ xs) ys = refl

some_of_all : {A B : Type 0} (g : A → List B) (xs : List A) → has_some (flat_map g xs) ≡ list_any (λ x. has_some (g x)) xs
some_of_all g [] = refl
some_of_all g (x ∷ xs) = some_append (g x) (flat_map g xs) ∙ ap (λ b. has_some (g x) || b) (some_of_all g xs)

any_tabulate : {A : Type 0} (q : A → Bool) (r : ℕ → Bool) (n : ℕ) (u : ℕ → A) (h : ℕ → ℕ) → ((i : ℕ) → i < n → r (h i) ≡ q (u i)) → list_any r (tabulate n h) ≡ list_any q (tabulate n u)
any_tabulate q r zero u h same = refl
any_tabulate q r (suc n) u h same = λ j. same zero (omega arith) j || any_tabulate q r n (λ i. u (suc i)) (λ i. h (suc i)) (λ i l. same (suc i) (omega (arith, l))) j

module _ {S F E C : Type 0} (c : Setting S F E C) (p : Prover F E C) (s : Statement F C) (traces : List (Rows F)) (degree_bits : List ℕ) (B : IsTracedBatch c p.commitment_of s traces degree_bits) (w : Option F) where
  abbrev traced : ℕ → TracedTable F
  traced i = traced_at s traces degree_bits i

  -- permutation columns are committed to exactly where some table has lookups
  pub permutation_there : is_there (honest_permutation_commitment c p s traces degree_bits w) ≡ list_any has_some s.common.lookups
  permutation_there =
      let n = length s.tables in
      let made = λ (i : ℕ). permutation_matrices c p (traced i) (challenges_at c p s traces degree_bits w i) in
      committed_there p.commitment_of (flat_map made (tabulate n (λ i. i)))
      ∙ (some_of_all made (tabulate n (λ i. i))
      ∙ (any_tabulate has_some (λ i. has_some (made i)) n (λ i. (traced i).lookups) (λ i. i) (λ i h. some_there (traced i).lookups _)
      ∙ ap (list_any has_some) (sym (tabulate_items [] s.common.lookups n B.lists.lookups_long))))

module _ {S F E C P : Type 0} (c : Setting S F E C) (p : Prover F E C) (eq : F → F → Bool) (s : Statement F C) (traces : List (Rows F)) (degree_bits : List ℕ)
    (L : FieldsLaws c.field c.extension c.two_adicity p.inverse) (V : Valid c eq p.commitment_of s traces degree_bits) (w : Option F) (z : F) (opening : P)
    (plain : c.zk ≡ false) (below : c.two_adicity < 64) (columns : (i : ℕ) → i < length s.tables → HasColumns (declared (traced_at s traces degree_bits i)).preprocessed) (R : Type 0) where
  abbrev n : ℕ
  n = length s.tables

  abbrev at : ℕ → TracedTable F
  at i = traced_at s traces degree_bits i

  abbrev proof : ProofData F E C P
  proof = honest_proof c p s traces degree_bits w z opening

  abbrev opened : ℕ → OpenedWithLookups E
  opened i = opened_of c p (at i) (challenges_at c p s traces degree_bits w i) (alpha c p s traces degree_bits w) (zeta c p s traces degree_bits w z)

  nothing_random : (t : TracedTable F) (challenges : List E) (a x : E) → is_there (opened_of c p t challenges a x).base.random ≡ c.zk
  unfolding opened_of
  nothing_random t challenges a x = sym plain

  count_pass : NoneFails (count_checks {R = R} c.zk s proof)
  unfolding NoneFails honest_proof
  count_pass = (
    record {
      instances = length-tabulate n opened;
      publics = V.batch.lists.publics_long;
      degree_bits = V.batch.lists.bits_long;
      terminals = length-tabulate n _;
      lookups = V.batch.lists.lookups_long;
      entries = V.batch.lists.entries_long;
    },
    (record { opened = all_tabulate (λ o. is_there o.base.random ≡ c.zk) n opened (λ i. nothing_random (at i) _ _ _); committed = sym plain }, tt),
  )

  size_pass : NoneFails (size_part {R = R} c.field.ring (shape_bounds_of c) s proof)
  unfolding honest_proof NoneFails
  size_pass =
      none_of_each (sizes_at {R = R} c.field.ring (c.log_min + masks c) c.log_max (masks c) s.tables s.common.lookups degree_bits) n (λ i h.
      let T = V.batch.traced i h in let Q = V.batch.domains i h in
      let least = T.least in let most = T.most in let fits = Q.fits in
      (least, (most, (omega (arith, fits, below), tt))))

  bound_pass : NoneFails (bus_bound_part {R = R} (shape_bounds_of c) s proof)
  unfolding honest_proof
  bound_pass =
      none_of_each (bound_at {R = R} c.order s.common.lookups (heights_of (masks c) degree_bits n)) (bus_count (batch_buses s.common.lookups)) (λ b h. none_alone _ (V.bounded b h))

  opened_pass : NoneFails (opened_part {R = R} c.field.ring (shape_bounds_of c) s proof)
  unfolding honest_proof
  opened_pass =
      none_of_each (opened_checks {R = R} c.field.ring (masks c) c.extension.dimension s proof) n (λ i h.
      let own = table_checks {R = R} i (declared (at i)) (length (at i).publics) (2 ^ log_parts c (at i)) c.extension.dimension (length (at i).lookups) in
      let there : get_or (tabulate n opened) i no_opened ≡ opened i = get_or-tabulate n opened i no_opened h in
      let ends = λ (j : ℕ). honest_terminal c p (at j) (challenges_at c p s traces degree_bits w j) in
      let last : get_or (tabulate n ends) i None ≡ ends i = get_or-tabulate n ends i None h in
      subst NoneFails (sym (λ j. own (there j) (is_there (last j))))
      (table_pass c p (at i) (challenges_at c p s traces degree_bits w i) L (V.batch.domains i h) (V.batch.traced i h) (columns i h) (alpha c p s traces degree_bits w) (zeta c p s traces degree_bits w z) R i))

  permutation_pass : NoneFails (permutation_check {R = R} s proof)
  unfolding honest_proof
  permutation_pass = none_alone _ (permutation_there c p s traces degree_bits V.batch w)

  -- no check of the shape fails
  pub shape_pass : NoneFails (shape_checks {R = R} c.field.ring (shape_bounds_of c) s proof)
  unfolding shape_checks
  shape_pass =
      let a = count_checks {R = R} c.zk s proof in
      let b = size_part {R = R} c.field.ring (shape_bounds_of c) s proof in
      let d = bus_bound_part {R = R} (shape_bounds_of c) s proof in
      let e = opened_part {R = R} c.field.ring (shape_bounds_of c) s proof in
      let f = permutation_check {R = R} s proof in
      none_append (a ++ b ++ d ++ e) f (none_append (a ++ b ++ d) e (none_append (a ++ b) d (none_append a b count_pass size_pass) bound_pass) opened_pass) permutation_pass
