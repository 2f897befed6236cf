-- An honest proof's claims hold of what its commitments hold: so a backend that opens them takes the proof of its openings.
use Rattle.std.proofs.Common.{◌≡◌, ℕ, zero, suc, ◌+◌, ◌-◌, ◌*◌, ◌^◌, ◌<◌, ◌≤◌, false, cond, List, [], ◌∷◌, ◌++◌, length, get_or, map, Option, None, Some, refl, sym, ◌∙◌, ap, subst, arith}
use Rattle.std.specs.Prelude.{option_map, option_to_list, slice_get, zip}
use Rattle.std.specs.List.{flat_map}
use Rattle.std.proofs.Math.Nat.{mul-le-mul_right}
use Rattle.std.proofs.lemmas.List.{get_or-map, length-map}
use Rattle.p3_field.specs.Domain.{CosetData, subgroup}
use Rattle.p3_field.specs.Laws.Tabulate.{get_or-tabulate, length-tabulate}
use Rattle.p3_field.specs.Poly.{tabulate, eval_poly_in}
use Rattle.p3_matrix.specs.Matrix.{Rows}
use Rattle.commit_core.specs.Claims.{CommitmentClaim, MatrixClaim, Request}
use Rattle.commit_core.specs.Commitments.{AreClaims, Committed, IsMatrixClaim, IsRoundClaim}
use Rattle.commit_core.specs.Periodic.{EachFrom}
use Rattle.p3_lookup.specs.Lookup.{LookupData}
use Rattle.p3_field.specs.Domain.{point}
use Rattle.air_core.specs.Shape.{Declaration}
use Rattle.verifier_claims.specs.Claims.{at_point, chunk_claim, chunk_claims, chunk_domains_at, claims_by, commitment_in, preprocessed_local_row, main_claim, preprocessed_matrix_claim, matrix_tables, preprocessed_next_row, on_subgroup, permutation_claims, preprocessed_claim, claims_of_round, values_where_there, where_declared, where_opened}
use Rattle.batch_statement.specs.Words.{bits_at, declared_at, instance_at, no_opened, no_table}
use Rattle.verifier_claims.specs.Laws.Listed.{listed_below}
use Rattle.batch_config.specs.Domains.{chunk_domains, next_by, offered}
use Rattle.batch_statement.specs.Statement.{Statement, AirTable}
use Rattle.batch_config.specs.Setting.{Setting, masks}
use Rattle.verifier_shape.specs.ShapeChecks.{log_chunks_at, permutation_width}
use Rattle.batch_statement.specs.Proof.{OpenedWithLookups}
use Rattle.law_committed.specs.Committed.{CommittedTable, columns_at, trace_domain}
use Rattle.law_committed.specs.Quotient.{honest_chunk}
use Rattle.law_committed.specs.Fields.{FieldsLaws}
use Rattle.law_committed.specs.Rows.{CommitsTo, InterpolateSome}
use Rattle.law_valid.specs.Traced.{TracedTable, constraints, declared, log_parts, log_rows, quotient_shift, traced_at, traces_of}
use Rattle.law_valid.specs.Valid.{IsTracedBatch}
use Rattle.law_honest.specs.HonestProof.{Prover, alpha, challenges_at, committed_table, honest_claims, honest_proof, honest_main_commitment, opened_of, permutation_columns, honest_permutation_commitment, honest_quotient_commitment, where_some, zeta}
use Rattle.law_acceptance.specs.Rounds.{AskFor, IsRoundOf, OpenedMatrix, Round, chunk_opened, chunks_opened, opened_commitments_of, honest_rounds, main_opened, of_table, permutation_opened, point_after, points_with, preprocessed_opened, round_of}
use Rattle.law_acceptance.specs.Laws.Lengths.{honest_commits, permutation_count}

-- lists of one length, whose items are in the relation place by place
abbrev pub ArePaired : {X Y : Type 0} → (X → Y → Type 0) → List X → List Y → Type 0
ArePaired R [] [] = Unit {0}
ArePaired R [] (y ∷ ys) = ⊥
ArePaired R (x ∷ xs) [] = ⊥
ArePaired R (x ∷ xs) (y ∷ ys) = R x y × ArePaired R xs ys

paired_count : {X Y : Type 0} (R : X → Y → Type 0) (xs : List X) (ys : List Y) → ArePaired R xs ys → length ys ≡ length xs
paired_count R [] [] h = refl
paired_count R [] (y ∷ ys) h = absurd h
paired_count R (x ∷ xs) [] h = absurd h
paired_count R (x ∷ xs) (y ∷ ys) h = ap suc (paired_count R xs ys h.1)

paired_at : {X Y : Type 0} (R : X → Y → Type 0) (xs : List X) (ys : List Y) → ArePaired R xs ys → (i : ℕ) (y : Y) → slice_get ys i ≡ Some y → (x : X) → slice_get xs i ≡ Some x → R x y
paired_at R [] [] h i y e x d = cc
paired_at R [] (v ∷ ys) h i y e x d = absurd h
paired_at R (u ∷ xs) [] h i y e x d = absurd h
paired_at R (u ∷ xs) (v ∷ ys) h zero y e x d = let a : v ≡ y = cc in let b : u ≡ x = cc in subst (λ q. R q y) b (subst (R u) a h.0)
paired_at R (u ∷ xs) (v ∷ ys) h (suc i) y e x d = paired_at R xs ys h.1 i y e x d

pub each_paired : {X Y : Type 0} (R : X → Y → Type 0) (xs : List X) (ys : List Y) → ArePaired R xs ys → EachFrom xs ys R
each_paired R xs ys h = record { count = paired_count R xs ys h; each = paired_at R xs ys h }

pub paired_from : {X Y : Type 0} (R : X → Y → Type 0) (xs : List X) (ys : List Y) → EachFrom xs ys R → ArePaired R xs ys
paired_from R [] [] h = tt
paired_from R [] (y ∷ ys) h = let c = h.count in absurd (omega (arith, c))
paired_from R (x ∷ xs) [] h = let c = h.count in absurd (omega (arith, c))
paired_from R (x ∷ xs) (y ∷ ys) h = (h.each zero y refl x refl, paired_from R xs ys (record { count = (let c = h.count in omega (arith, c)); each = λ i. h.each (suc i) }))

paired_tabulate : {X Y : Type 0} (R : X → Y → Type 0) (n : ℕ) (u : ℕ → X) (v : ℕ → Y) → ((i : ℕ) → i < n → R (u i) (v i)) → ArePaired R (tabulate n u) (tabulate n v)
paired_tabulate R zero u v h = tt
paired_tabulate R (suc n) u v h = (h zero (omega arith), paired_tabulate R n (λ i. u (suc i)) (λ i. v (suc i)) (λ i l. h (suc i) (omega (arith, l))))

pub paired_append : {X Y : Type 0} (R : X → Y → Type 0) (xs us : List X) (ys vs : List Y) → ArePaired R xs ys → ArePaired R us vs → ArePaired R (xs ++ us) (ys ++ vs)
paired_append R [] us [] vs h k = k
paired_append R [] us (y ∷ ys) vs h k = absurd h
paired_append R (x ∷ xs) us [] vs h k = absurd h
paired_append R (x ∷ xs) us (y ∷ ys) vs h k = (h.0, paired_append R xs us ys vs h.1 k)

paired_flat : {X Y : Type 0} (R : X → Y → Type 0) (g : ℕ → List X) (h : ℕ → List Y) (n : ℕ) (q : ℕ → ℕ) → ((i : ℕ) → i < n → ArePaired R (g (q i)) (h (q i))) → ArePaired R (flat_map g (tabulate n q)) (flat_map h (tabulate n q))
paired_flat R g h zero q p = tt
paired_flat R g h (suc n) q p =
    paired_append R (g (q zero)) (flat_map g (tabulate n (λ i. q (suc i)))) (h (q zero)) (flat_map h (tabulate n (λ i. q (suc i)))) (p zero (omega arith))
    (paired_flat R g h n (λ i. q (suc i)) (λ i l. p (suc i) (omega (arith, l))))

-- the claims on a round that is there where its commitment is
paired_round : {S F E C : Type 0} (c : Setting S F E C) (o : Option C) (xs : List (OpenedMatrix F E)) (ms : List (MatrixClaim E (CosetData F)))
    → ArePaired (λ x m. IsMatrixClaim c.extension.ring c.extension.embed (λ (e : CosetData F). 2 ^ e.log_size) x.committed x.points m) xs ms → ArePaired (IsRoundOf c) (round_of o xs) (claims_of_round o ms)
paired_round c None xs ms h = tt
paired_round c (Some commitment) xs ms h =
    (record { commitment_is = refl; matrices_are = each_paired (λ x m. IsMatrixClaim c.extension.ring c.extension.embed (λ e. 2 ^ e.log_size) x.committed x.points m) xs ms h }, tt)

-- a claim at zeta, and at the next point where next columns are declared
points_same : {E : Type 0} (ns : List ℕ) (V : E → List E) (x y : E)
    → at_point x (V x) ∷ where_declared ns (at_point y (values_where_there (where_some ns (V y)))) ≡ map (λ u. record { point = u; values = V u }) (points_with ns x y)
points_same [] V x y = refl
points_same (n ∷ ns) V x y = refl

no_items : {A : Type 0} (xs : List A) → length xs ≡ 0 → xs ≡ []
no_items [] e = refl
no_items (x ∷ xs) e = absurd (omega (arith, e))

module _ {S F E C : Type 0} (c : Setting S F E C) (p : Prover F E C) (t : TracedTable F) (challenges : List E) (folding point : E) where
  abbrev k : CommittedTable F E
  k = committed_table c p t challenges

  abbrev o : OpenedWithLookups E
  o = opened_of c p t challenges folding point

  abbrev after : E
  after = point_after c p t challenges folding point

  abbrev IsClaimOf : OpenedMatrix F E → MatrixClaim E (CosetData F) → Type 0
  IsClaimOf x m = IsMatrixClaim c.extension.ring c.extension.embed (λ (e : CosetData F). 2 ^ e.log_size) x.committed x.points m

  -- the claim on the main columns
  main_is : IsClaimOf (main_opened c p t challenges folding point)
      (on_subgroup c.field.ring t.degree_bits (at_point point o.base.trace_local ∷ where_declared (declared t).main_next (at_point after (values_where_there o.base.trace_next))))
  unfolding opened_of
  main_is = record { size_is = refl; points_are = points_same (declared t).main_next (columns_at c.field c.extension k k.main) point after }

  -- that on the preprocessed columns
  preprocessed_points : (m : Option (Rows F)) → InterpolateSome c.field (trace_domain c.field c.extension k) m k.preprocessed
      → at_point point (preprocessed_local_row (option_map (λ m. record { local = columns_at c.field c.extension k k.preprocessed point; next = where_some (declared t).preprocessed_next (columns_at c.field c.extension k k.preprocessed after) }) m))
      ∷ where_declared (declared t).preprocessed_next (at_point after (preprocessed_next_row (option_map (λ m. record { local = columns_at c.field c.extension k k.preprocessed point; next = where_some (declared t).preprocessed_next (columns_at c.field c.extension k k.preprocessed after) }) m)))
      ≡ map (λ u. record { point = u; values = columns_at c.field c.extension k k.preprocessed u }) (points_with (declared t).preprocessed_next point after)
  preprocessed_points None I = none_there (declared t).preprocessed_next ∙ ap (λ ps. map (λ u. record { point = u; values = columns_at c.field c.extension k ps u }) (points_with (declared t).preprocessed_next point after)) (sym I)
    where
      none_there : (ns : List ℕ) → at_point point [] ∷ where_declared ns (at_point after []) ≡ map (λ u. record { point = u; values = [] }) (points_with ns point after)
      none_there [] = refl
      none_there (n ∷ ns) = refl
  preprocessed_points (Some m) I = points_same (declared t).preprocessed_next (columns_at c.field c.extension k k.preprocessed) point after

  preprocessed_is : InterpolateSome c.field (trace_domain c.field c.extension k) (declared t).preprocessed k.preprocessed → IsClaimOf (preprocessed_opened c p t challenges folding point)
      (on_subgroup c.field.ring t.degree_bits (at_point point (preprocessed_local_row o.base.preprocessed) ∷ where_declared (declared t).preprocessed_next (at_point after (preprocessed_next_row o.base.preprocessed))))
  unfolding opened_of
  preprocessed_is I = record { size_is = refl; points_are = preprocessed_points (declared t).preprocessed I }

  -- that on a chunk
  chunk_is : (j : ℕ) → j < 2 ^ log_parts c t → (size : ℕ) → size ≡ log_rows c t → IsClaimOf (chunk_opened c p t challenges folding point j) (on_subgroup c.field.ring size (at_point point (get_or o.base.quotient_chunks j []) ∷ []))
  unfolding opened_of
  chunk_is j h size e =
      let u = honest_chunk c.field c.extension k (quotient_shift c) (log_parts c t) (constraints c t) folding in
      let values = λ (gs : List (List F)). map (λ (g : List F). eval_poly_in c.extension g point) gs in
      let there : get_or (map values (tabulate (2 ^ log_parts c t) u)) j [] ≡ values (u j) =
      get_or-map values (tabulate (2 ^ log_parts c t) u) j [] [] (let l = length-tabulate (2 ^ log_parts c t) u in omega (arith, h, l)) ∙ ap values (get_or-tabulate (2 ^ log_parts c t) u j [] h) in
      record { size_is = ap (λ m. 2 ^ m) e; points_are = λ q. at_point point (there q) ∷ [] }

  -- and those on the permutation columns, where there are lookups
  permutation_claims_are : length k.permutation ≡ permutation_width (length t.lookups) c.extension.dimension → 0 < c.extension.dimension
      → ArePaired IsClaimOf (permutation_opened c p t challenges folding point) (where_opened c.field.ring point after t.degree_bits o.permutation_local o.permutation_next)
  unfolding opened_of
  permutation_claims_are count pos = by_lookups t.lookups (columns_at c.field c.extension k k.permutation point) refl (length-map k.permutation (λ g. eval_poly_in c.extension g point) ∙ count)
    where
      by_lookups : (ls : List (LookupData F)) (row : List E) → row ≡ columns_at c.field c.extension k k.permutation point → length row ≡ permutation_width (length ls) c.extension.dimension
          → ArePaired IsClaimOf (option_to_list (where_some ls (record { committed = record { size = 2 ^ t.degree_bits; polynomials = k.permutation }; points = point ∷ after ∷ [] })))
          (where_opened c.field.ring point after t.degree_bits row (columns_at c.field c.extension k k.permutation after))
      by_lookups [] [] same long = tt
      by_lookups [] (x ∷ row) same long = absurd (omega (arith, long))
      by_lookups (l ∷ ls) [] same long = let q : 1 * c.extension.dimension ≤ (length (l ∷ ls) + 1) * c.extension.dimension = mul-le-mul_right c.extension.dimension (omega arith) in absurd (omega (arith, long, q, pos))
      by_lookups (l ∷ ls) (x ∷ row) same long =
          (record { size_is = refl; points_are = λ q. at_point point (same q) ∷ at_point after (columns_at c.field c.extension k k.permutation after) ∷ [] }, tt)

-- a round's matrices with their points, side by side
zip_back : {F E : Type 0} (os : List (OpenedMatrix F E)) → zip (map (λ (o : OpenedMatrix F E). o.committed) os) (map (λ (o : OpenedMatrix F E). o.points) os) ≡ map (λ (o : OpenedMatrix F E). (o.committed, o.points)) os
zip_back [] = refl
zip_back (o ∷ os) = ap (λ l. (o.committed, o.points) ∷ l) (zip_back os)

paired_map : {X Y Z : Type 0} (R : Z → Y → Type 0) (f : X → Z) (xs : List X) (ys : List Y) → ArePaired (λ x y. R (f x) y) xs ys → ArePaired R (map f xs) ys
paired_map R f [] [] h = tt
paired_map R f [] (y ∷ ys) h = h
paired_map R f (x ∷ xs) [] h = h
paired_map R f (x ∷ xs) (y ∷ ys) h = (h.0, paired_map R f xs ys h.1)

module _ {S F E C : Type 0} (c : Setting S F E C) where
  abbrev IsMatrix : Committed F × List E → MatrixClaim E (CosetData F) → Type 0
  IsMatrix q m = IsMatrixClaim c.extension.ring c.extension.embed (λ (e : CosetData F). 2 ^ e.log_size) q.0 q.1 m

  one_round : {D : Type 0} (r : Round F E C) (q : Request D E) (d : CommitmentClaim E C (CosetData F)) → q.points ≡ map (λ o. o.points) r.matrices → IsRoundOf c r d
      → IsRoundClaim c.extension.ring c.extension.embed (λ (e : CosetData F). 2 ^ e.log_size) (record { commitment = r.commitment; matrices = map (λ o. o.committed) r.matrices }) q d
  one_round r q d e R = record {
    commitment_is = R.commitment_is;
    matrices_are =
        subst (λ qs. EachFrom qs d.matrices IsMatrix) (sym (ap (zip (map (λ o. o.committed) r.matrices)) e ∙ zip_back r.matrices))
        (each_paired IsMatrix (map (λ o. (o.committed, o.points)) r.matrices) d.matrices
        (paired_map IsMatrix (λ o. (o.committed, o.points)) r.matrices d.matrices
        (paired_from (λ o m. IsMatrixClaim c.extension.ring c.extension.embed (λ e. 2 ^ e.log_size) o.committed o.points m) r.matrices d.matrices R.matrices_are)));
  }

  asked : {D : Type 0} (rs : List (Round F E C)) (qs : List (Request D E)) (ds : List (CommitmentClaim E C (CosetData F))) → ArePaired (λ r q. q.points ≡ map (λ o. o.points) r.matrices) rs qs → ArePaired (IsRoundOf c) rs ds
      → ArePaired (λ h d. IsRoundClaim c.extension.ring c.extension.embed (λ (e : CosetData F). 2 ^ e.log_size) h.0 h.1 d) (zip (opened_commitments_of rs) qs) ds
  asked [] [] [] h k = tt
  asked [] [] (d ∷ ds) h k = k
  asked [] (q ∷ qs) ds h k = absurd h
  asked (r ∷ rs) [] ds h k = absurd h
  asked (r ∷ rs) (q ∷ qs) [] h k = k
  asked (r ∷ rs) (q ∷ qs) (d ∷ ds) h k = (one_round r q d h.0 k.0, asked rs qs ds h.1 k.1)

module _ {S F E C P : Type 0} (c : Setting S F E C) (p : Prover F E C) (s : Statement F C) (traces : List (Rows F)) (degree_bits : List ℕ)
    (L : FieldsLaws c.field c.extension c.two_adicity p.inverse) (B : IsTracedBatch c p.commitment_of s traces degree_bits) (plain : c.zk ≡ false) (w : Option F) (z : F) (opening : P) where
  abbrev n : ℕ
  n = length s.tables

  abbrev at : ℕ → TracedTable F
  at i = traced_at s traces degree_bits i

  abbrev ch : ℕ → List E
  ch i = challenges_at c p s traces degree_bits w i

  abbrev a : E
  a = alpha c p s traces degree_bits w

  abbrev x : E
  x = zeta c p s traces degree_bits w z

  abbrev declarations : List (Declaration F)
  declarations = map (λ (t : AirTable F). t.declaration) s.tables

  abbrev instances : List (OpenedWithLookups E)
  instances = tabulate n (λ i. opened_of c p (at i) (ch i) a x)

  abbrev next_at : ℕ → E
  next_at bits = next_by c.extension.ring c.extension.embed c.field.root (masks c) x bits

  abbrev IsClaim : OpenedMatrix F E → MatrixClaim E (CosetData F) → Type 0
  IsClaim y m = IsMatrixClaim c.extension.ring c.extension.embed (λ (e : CosetData F). 2 ^ e.log_size) y.committed y.points m

  long : length declarations ≡ n
  long = length-map s.tables (λ (t : AirTable F). t.declaration)

  declared_same : (i : ℕ) → i < n → declared_at declarations i ≡ declared (at i)
  declared_same i h = get_or-map (λ (t : AirTable F). t.declaration) s.tables i no_table (no_table {F = F}).declaration h

  instance_same : (i : ℕ) → i < n → instance_at instances i ≡ opened_of c p (at i) (ch i) a x
  instance_same i h = get_or-tabulate n (λ i. opened_of c p (at i) (ch i) a x) i no_opened h

  commits_at : (i : ℕ) → i < n → CommitsTo c.field c.extension (committed_table c p (at i) (ch i)) (traces_of (at i)) (permutation_columns c p (at i) (ch i))
  commits_at i h = honest_commits c p (at i) (ch i) L (B.domains i h) (B.traced i h)

  -- the rounds one by one
  mains : ArePaired IsClaim (tabulate n (of_table c p s traces degree_bits w z (main_opened c p))) (tabulate (length declarations) (main_claim c.field.ring x next_at declarations degree_bits instances))
  mains =
      subst (λ m. ArePaired IsClaim (tabulate n (of_table c p s traces degree_bits w z (main_opened c p))) (tabulate m (main_claim c.field.ring x next_at declarations degree_bits instances))) (sym long)
      (paired_tabulate IsClaim n (of_table c p s traces degree_bits w z (main_opened c p)) (main_claim c.field.ring x next_at declarations degree_bits instances) (λ i h.
      let claim = λ (d : Declaration F) (o : OpenedWithLookups E).
      on_subgroup c.field.ring (bits_at degree_bits i) (at_point x o.base.trace_local ∷ where_declared d.main_next (at_point (next_at (bits_at degree_bits i)) (values_where_there o.base.trace_next))) in
      subst (IsClaim (of_table c p s traces degree_bits w z (main_opened c p) i)) (sym (λ j. claim (declared_same i h j) (instance_same i h j))) (main_is c p (at i) (ch i) a x)))

  preprocessed_at : (i : ℕ) → i < n → IsClaim (of_table c p s traces degree_bits w z (preprocessed_opened c p) i) (preprocessed_claim c.field.ring x next_at declarations degree_bits instances i)
  preprocessed_at i h =
      let claim = λ (d : Declaration F) (o : OpenedWithLookups E).
      on_subgroup c.field.ring (bits_at degree_bits i) (at_point x (preprocessed_local_row o.base.preprocessed) ∷ where_declared d.preprocessed_next (at_point (next_at (bits_at degree_bits i)) (preprocessed_next_row o.base.preprocessed))) in
      subst (IsClaim (of_table c p s traces degree_bits w z (preprocessed_opened c p) i)) (sym (λ j. claim (declared_same i h j) (instance_same i h j)))
      (preprocessed_is c p (at i) (ch i) a x (commits_at i h).preprocessed)

  preprocesseds : let ms = matrix_tables s.common.preprocessed in
      ArePaired IsClaim (tabulate (length ms) (λ m. of_table c p s traces degree_bits w z (preprocessed_opened c p) (get_or ms m 0)))
      (tabulate (length ms) (preprocessed_matrix_claim c.field.ring x next_at declarations degree_bits instances ms))
  preprocesseds =
      let ms = matrix_tables s.common.preprocessed in
      paired_tabulate IsClaim (length ms) (λ m. of_table c p s traces degree_bits w z (preprocessed_opened c p) (get_or ms m 0)) (preprocessed_matrix_claim c.field.ring x next_at declarations degree_bits instances ms)
      (λ m h. preprocessed_at (get_or ms m 0) (listed_below declarations s.common n B.formed long m 0 h))

  permutations : ArePaired IsClaim (flat_map (of_table c p s traces degree_bits w z (permutation_opened c p)) (tabulate n (λ i. i)))
      (flat_map (permutation_claims c.field.ring x next_at degree_bits instances) (tabulate (length declarations) (λ i. i)))
  permutations =
      let g = of_table c p s traces degree_bits w z (permutation_opened c p) in
      let h = permutation_claims c.field.ring x next_at degree_bits instances in
      subst (λ m. ArePaired IsClaim (flat_map g (tabulate n (λ i. i))) (flat_map h (tabulate m (λ i. i)))) (sym long)
      (paired_flat IsClaim g h n (λ i. i) (λ i b.
      let claim = λ (o : OpenedWithLookups E). where_opened c.field.ring x (next_at (bits_at degree_bits i)) (bits_at degree_bits i) o.permutation_local o.permutation_next in
      subst (ArePaired IsClaim (g i)) (sym (λ j. claim (instance_same i b j)))
      (permutation_claims_are c p (at i) (ch i) a x (permutation_count c p (at i) (ch i) L (B.domains i b) (B.traced i b)) L.vector.positive)))

  -- the chunks' domains as they are listed
  abbrev chunk_logs : List ℕ
  chunk_logs = tabulate n (λ i. log_chunks_at c.field.ring (masks c) s.tables s.common.lookups degree_bits i)

  abbrev domains_of_chunks : List (List (CosetData F))
  domains_of_chunks = tabulate (length declarations) (chunk_domains_at c.field.ring c.field.root c.field.generator (masks c) degree_bits chunk_logs)

  none_masked : masks c ≡ 0
  none_masked = ap (λ b. cond b 1 0) plain

  domains_there : (i : ℕ) → i < n → get_or domains_of_chunks i [] ≡ chunk_domains c (bits_at degree_bits i) (log_chunks_at c.field.ring (masks c) s.tables s.common.lookups degree_bits i)
  domains_there i h =
      get_or-tabulate (length declarations) (chunk_domains_at c.field.ring c.field.root c.field.generator (masks c) degree_bits chunk_logs) i [] (let e = long in omega (arith, h, e))
      ∙ ap (chunk_domains c (bits_at degree_bits i)) (get_or-tabulate n (λ i. log_chunks_at c.field.ring (masks c) s.tables s.common.lookups degree_bits i) i 0 h)

  chunks_of : (i : ℕ) → i < n → ArePaired IsClaim (of_table c p s traces degree_bits w z (chunks_opened c p) i) (chunk_claims c.field.ring x (masks c) domains_of_chunks instances i)
  chunks_of i h =
      let m = log_chunks_at c.field.ring (masks c) s.tables s.common.lookups degree_bits i in
      let ds = chunk_domains c (bits_at degree_bits i) m in
      let d : ℕ → CosetData F = λ j. record { shift = point c.field.ring c.field.root (offered c.field.ring c.field.generator (subgroup c.field.ring (bits_at degree_bits i)) m) j; log_size = (bits_at degree_bits i + m) - (m + masks c) } in
      let claim = λ (ds : List (CosetData F)) (o : OpenedWithLookups E). tabulate (length ds) (chunk_claim c.field.ring x (masks c) ds o.base.quotient_chunks) in
      let o = opened_of c p (at i) (ch i) a x in
      let masked = none_masked in
      let parts : length ds ≡ 2 ^ log_parts c (at i) = length-tabulate (2 ^ log_parts c (at i)) d in
      subst (ArePaired IsClaim (of_table c p s traces degree_bits w z (chunks_opened c p) i)) (sym (λ j. claim (domains_there i h j) (instance_same i h j)))
      (subst (λ q. ArePaired IsClaim (tabulate (2 ^ log_parts c (at i)) (chunk_opened c p (at i) (ch i) a x)) (tabulate q (chunk_claim c.field.ring x (masks c) ds o.base.quotient_chunks))) (sym parts)
      (paired_tabulate IsClaim (2 ^ log_parts c (at i)) (chunk_opened c p (at i) (ch i) a x) (chunk_claim c.field.ring x (masks c) ds o.base.quotient_chunks) (λ j b.
      let there : get_or ds j (subgroup c.field.ring 0) ≡ d j = get_or-tabulate (2 ^ log_parts c (at i)) d j (subgroup c.field.ring 0) b in
      let size = ap (λ (e : CosetData F). e.log_size) there in
      let least = (B.traced i h).least in
      chunk_is c p (at i) (ch i) a x j b ((get_or ds j (subgroup c.field.ring 0)).log_size + masks c) (omega (arith, size, masked)))))

  quotients : ArePaired IsClaim (flat_map (of_table c p s traces degree_bits w z (chunks_opened c p)) (tabulate n (λ i. i))) (flat_map (chunk_claims c.field.ring x (masks c) domains_of_chunks instances) (tabulate (length declarations) (λ i. i)))
  quotients =
      let g = of_table c p s traces degree_bits w z (chunks_opened c p) in
      let h = chunk_claims c.field.ring x (masks c) domains_of_chunks instances in
      subst (λ m. ArePaired IsClaim (flat_map g (tabulate n (λ i. i))) (flat_map h (tabulate m (λ i. i)))) (sym long) (paired_flat IsClaim g h n (λ i. i) chunks_of)

  all_paired : ArePaired (IsRoundOf c) (honest_rounds c p s traces degree_bits w z) (honest_claims c p s traces degree_bits w z opening)
  unfolding claims_by honest_proof
  all_paired =
      let of = of_table c p s traces degree_bits w z {A = OpenedMatrix F E} in
      let all_of = of_table c p s traces degree_bits w z {A = List (OpenedMatrix F E)} in
      let ms = matrix_tables s.common.preprocessed in
      let places = λ (m : ℕ). tabulate m (λ i. i) in
      let main = tabulate n (of (main_opened c p)) in
      let main_claims = tabulate (length declarations) (main_claim c.field.ring x next_at declarations degree_bits instances) in
      let chunks = flat_map (all_of (chunks_opened c p)) (places n) in
      let chunks_claimed = flat_map (chunk_claims c.field.ring x (masks c) domains_of_chunks instances) (places (length declarations)) in
      let pre = tabulate (length ms) (λ m. of (preprocessed_opened c p) (get_or ms m 0)) in
      let pre_claims = tabulate (length ms) (preprocessed_matrix_claim c.field.ring x next_at declarations degree_bits instances ms) in
      let columns = flat_map (all_of (permutation_opened c p)) (places n) in
      let column_claims = flat_map (permutation_claims c.field.ring x next_at degree_bits instances) (places (length declarations)) in
      let R = IsRoundOf c in
      let o1 = Some (honest_main_commitment c p s traces degree_bits) in
      let o2 = Some (honest_quotient_commitment c p s traces degree_bits w) in
      let o3 = commitment_in s.common.preprocessed in
      let o4 = honest_permutation_commitment c p s traces degree_bits w in
      paired_append R (round_of o1 main ++ round_of o2 chunks ++ round_of o3 pre) (round_of o4 columns) (claims_of_round o1 main_claims ++ claims_of_round o2 chunks_claimed ++ claims_of_round o3 pre_claims) (claims_of_round o4 column_claims)
      (paired_append R (round_of o1 main ++ round_of o2 chunks) (round_of o3 pre) (claims_of_round o1 main_claims ++ claims_of_round o2 chunks_claimed) (claims_of_round o3 pre_claims)
      (paired_append R (round_of o1 main) (round_of o2 chunks) (claims_of_round o1 main_claims) (claims_of_round o2 chunks_claimed) (paired_round c o1 main main_claims mains) (paired_round c o2 chunks chunks_claimed quotients))
      (paired_round c o3 pre pre_claims preprocesseds)) (paired_round c o4 columns column_claims permutations)

  -- So the claims hold of what the commitments hold, for any requests for their matrices at their points.
  pub honest_are_claims : {D : Type 0} (requests : List (Request D E)) → AskFor (honest_rounds c p s traces degree_bits w z) requests
      → AreClaims c.extension.ring c.extension.embed (λ (e : CosetData F). 2 ^ e.log_size) (opened_commitments_of (honest_rounds c p s traces degree_bits w z)) requests (honest_claims c p s traces degree_bits w z opening)
  honest_are_claims requests ask =
      each_paired _ _ _
      (asked c (honest_rounds c p s traces degree_bits w z) requests (honest_claims c p s traces degree_bits w z opening)
      (paired_from (λ r q. q.points ≡ map (λ o. o.points) r.matrices) (honest_rounds c p s traces degree_bits w z) requests ask) all_paired)
