-- A proof with the shape of an honest one, by its parts; and what is stated of one swap table.
use Rattle.std.specs.Prelude.{IsSomeAnd, unwrap_or}
use Rattle.std.specs.Prelude.{slice_index_or as get_or}
use Rattle.std.proofs.Common.{◌≡◌, ℕ, ◌+◌, ◌/◌, ◌^◌, List, [], ◌∷◌, length, Option, None, Some, refl, ◌∙◌, ap, mul_comm, ◌≤◌}
use Rattle.p3_field.specs.declared.baby_bear.BabyBear.{BabyBear}
use Rattle.p3_field.specs.declared.quartic.QuarticExtension.{QuarticExtension}
use Rattle.p3_matrix.specs.Matrix.{Rows, height}
use Rattle.p3_matrix.specs.Laws.Grids.{product_height}
use Rattle.plain_pcs.specs.Scheme.{PlainCommitmentData}
use Rattle.plain_pcs.specs.declared.commitment.PlainProof.{PlainProof}
use Rattle.air_tables.specs.Swap.{swap_declaration, swap_trees}
use Rattle.batch_statement.specs.Proof.{OpenedWithLookups}
use Rattle.batch_statement.specs.Statement.{Statement}
use Rattle.batch_statement.specs.Words.{no_opened}
use Rattle.tool_statement.specs.StatedTables.{tool_common, tool_statement}
use Rattle.tool_statement.specs.declared.table.TableStatement.TheVariants.{Swap}
use Rattle.law_swap_checks.specs.SwapShape.{SwapProof, Single, HasLength, HasWidthAndHeight, IsSwapOpening, IsSwapShape}
use Rattle.law_swap_checks.specs.SwapChecks.{single_matrix_of, swap_opened_of, local_opened, next_opened, swap_chunk_opened}

-- what is opened of one table
abbrev pub opening_of : (local next chunk : List QuarticExtension) → OpenedWithLookups QuarticExtension
opening_of local next chunk = record {
  base = record { trace_local = local; trace_next = Some next; preprocessed = None; quotient_chunks = chunk ∷ []; random = None };
  permutation_local = [];
  permutation_next = [];
}

-- the commitment to one matrix
abbrev pub alone : Rows BabyBear → PlainCommitmentData BabyBear
alone m = record { matrices = m ∷ [] }

-- the proof that has these parts
abbrev pub proof_of : ℕ → (main quotient : Rows BabyBear) → (local next chunk : List QuarticExtension) → PlainProof → BabyBear → SwapProof
proof_of k main quotient local next chunk opening witness = record {
  commitments = record { main = alone main; permutation = None; quotient_chunks = alone quotient; random = None };
  instances = opening_of local next chunk ∷ [];
  opening_proof = opening;
  lookup_terminals = None ∷ [];
  degree_bits = k ∷ [];
  lookup_pow_witness = None;
  ood_pow_witness = witness;
}

-- the parts have these lengths
pub record ArePlain (k : ℕ) (main quotient : Rows BabyBear) (local next chunk : List QuarticExtension) : Type 0 where
  pub main_is : HasWidthAndHeight 2 (2 ^ (k + 1)) main
  pub quotient_is : HasWidthAndHeight 4 (2 ^ (k + 1)) quotient
  pub local_is : length local ≡ 2
  pub next_is : length next ≡ 2
  pub chunk_is : length chunk ≡ 4

the_item : {A : Type 0} (P : A → Type 0) (d : A) (xs : List A) → Single P xs → P (get_or xs 0 d)
the_item P d [] h = absurd h
the_item P d (x ∷ []) h = h
the_item P d (x ∷ y ∷ xs) h = absurd h

the_list : {A : Type 0} (P : A → Type 0) (d : A) (xs : List A) → Single P xs → xs ≡ get_or xs 0 d ∷ []
the_list P d [] h = absurd h
the_list P d (x ∷ []) h = refl
the_list P d (x ∷ y ∷ xs) h = absurd h

the_value : {A : Type 0} (P : A → Type 0) (d : A) (o : Option A) → IsSomeAnd o P → P (unwrap_or o d)
the_value P d None h = absurd h
the_value P d (Some x) h = h

the_option : {A : Type 0} (P : A → Type 0) (d : A) (o : Option A) → IsSomeAnd o P → o ≡ Some (unwrap_or o d)
the_option P d None h = absurd h
the_option P d (Some x) h = refl

opening_is : (o : OpenedWithLookups QuarticExtension) → IsSwapOpening o → o ≡ opening_of o.base.trace_local (unwrap_or o.base.trace_next []) (get_or o.base.quotient_chunks 0 [])
opening_is o h =
    let next = the_option (HasLength 2) [] o.base.trace_next h.trace_next in
    let chunk = the_list (HasLength 4) [] o.base.quotient_chunks h.quotient_chunks in
    let preprocessed = h.preprocessed in
    let random = h.random in
    let local' = h.permutation_local in
    let next' = h.permutation_next in
    λ i. record {
      base = record { trace_local = o.base.trace_local; trace_next = next i; preprocessed = preprocessed i; quotient_chunks = chunk i; random = random i };
      permutation_local = local' i;
      permutation_next = next' i;
    }

module _ (k : ℕ) (p : SwapProof) (shape : IsSwapShape k p) where
  opened_is : IsSwapOpening (swap_opened_of p)
  opened_is = the_item IsSwapOpening no_opened p.instances shape.instances

  pub parts_are : ArePlain k (single_matrix_of p.commitments.main) (single_matrix_of p.commitments.quotient_chunks) (local_opened p) (next_opened p) (swap_chunk_opened p)
  parts_are = record {
    main_is = the_item (HasWidthAndHeight 2 (2 ^ (k + 1))) (record { values = []; width = 0 }) p.commitments.main.matrices shape.main;
    quotient_is = the_item (HasWidthAndHeight 4 (2 ^ (k + 1))) (record { values = []; width = 0 }) p.commitments.quotient_chunks.matrices shape.quotient_chunks;
    local_is = opened_is.trace_local;
    next_is = the_value (HasLength 2) [] (swap_opened_of p).base.trace_next opened_is.trace_next;
    chunk_is = the_item (HasLength 4) [] (swap_opened_of p).base.quotient_chunks opened_is.quotient_chunks;
  }

  pub proof_is : p ≡ proof_of k (single_matrix_of p.commitments.main) (single_matrix_of p.commitments.quotient_chunks) (local_opened p) (next_opened p) (swap_chunk_opened p) p.opening_proof p.ood_pow_witness
  proof_is =
      let main = the_list (HasWidthAndHeight 2 (2 ^ (k + 1))) (record { values = []; width = 0 }) p.commitments.main.matrices shape.main in
      let quotient = the_list (HasWidthAndHeight 4 (2 ^ (k + 1))) (record { values = []; width = 0 }) p.commitments.quotient_chunks.matrices shape.quotient_chunks in
      let permutation = shape.permutation in
      let random = shape.random in
      let instances : p.instances ≡ opening_of (local_opened p) (next_opened p) (swap_chunk_opened p) ∷ [] = the_list IsSwapOpening no_opened p.instances shape.instances ∙ ap (λ v. v ∷ []) (opening_is (swap_opened_of p) opened_is) in
      let terminals = shape.lookup_terminals in
      let bits = shape.degree_bits in
      let witness = shape.lookup_pow_witness in
      λ i. record {
        commitments = record { main = record { matrices = main i }; permutation = permutation i; quotient_chunks = record { matrices = quotient i }; random = random i };
        instances = instances i;
        opening_proof = p.opening_proof;
        lookup_terminals = terminals i;
        degree_bits = bits i;
        lookup_pow_witness = witness i;
        ood_pow_witness = p.ood_pow_witness;
      }

-- the heights of the matrices
pub shape_height : (columns rows : ℕ) (m : Rows BabyBear) → 1 ≤ columns → HasWidthAndHeight columns rows m → height m ≡ rows
shape_height columns rows m positive h =
    ap (λ w. length m.values / w) h.width ∙ product_height m.values rows columns (let e = h.values in e ∙ mul_comm columns rows) positive

-- what is stated of one swap table: no preprocessed columns and no lookups
abbrev pub swap_statement : (a b x : BabyBear) → Statement BabyBear (PlainCommitmentData BabyBear)
swap_statement a b x = record {
  tables = record { declaration = swap_declaration; trees = swap_trees } ∷ [];
  publics = (a ∷ b ∷ x ∷ []) ∷ [];
  common = record { preprocessed = None; lookups = [] ∷ [] };
}

pub statement_is : (k : ℕ) (a b x : BabyBear) → tool_statement (Swap k a b x ∷ []) ≡ swap_statement a b x
unfolding tool_common
statement_is k a b x = refl
