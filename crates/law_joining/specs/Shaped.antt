-- What an author shows of the tables that are proved, beside what their constraints mean: that their traces have the declared shapes, and that the configuration
-- has room for them. After Plonky3's p3-batch-stark (StarkInstance, prove_batch).
use Rattle.std.specs.Int.{IsPowerOfTwo}
use Rattle.std.specs.Prelude.{◌≡◌, ℕ, ◌+◌, ◌^◌, ◌<◌, ◌≤◌, List, length, map, All, false}
use Rattle.p3_field.specs.Ring.{Ring, pow}
use Rattle.p3_matrix.specs.Matrix.{FillsRows, height}
use Rattle.air_core.specs.Check.{HasHeight}
use Rattle.air_core.specs.Shape.{Declaration, HasWholeRows, IsInteraction, declared_shape}
use Rattle.air_core.specs.Tree.{Interaction, Tree}
use Rattle.commit_core.specs.Periodic.{IsPeriod}
use Rattle.batch_config.specs.Setting.{Setting}
use Rattle.batch_setup.specs.Packed.{Source, log_chunks_with, packed_lookups, source_of, unpacked_lookups}
use Rattle.batch_setup.specs.Setup.{Instance, log_of}
use Rattle.batch_statement.specs.Statement.{AirTable}
use Rattle.law_committed.specs.Fields.{FieldsLaws}
use Rattle.law_valid.specs.Traced.{TracedTable, quotient_shift}

-- A configuration serves: its fields have the laws, its backend masks nothing, and no subgroup has the quotients' shift among its elements.
pub record Serves {S F E C : Type 0} (c : Setting S F E C) (inverse : E → E) : Type 0 where
  pub fields : FieldsLaws c.field c.extension c.two_adicity inverse
  pub plain : c.zk ≡ false
  pub shift : quotient_shift c ≡ c.field.ring.zero → ⊥
  pub shifted : (k : ℕ) → k ≤ c.two_adicity → pow c.field.ring (quotient_shift c) (2 ^ k) ≡ c.field.ring.one → ⊥

-- An AIR is whole: the values of its preprocessed trace fill rows, and its interactions read declared cells. Each AIR is.
pub record IsWhole {F : Type 0} (s : Source F) : Type 0 where
  pub rows : HasWholeRows s.declaration.preprocessed
  pub interactions : All (IsInteraction (declared_shape s.declaration)) s.interactions

-- the logarithm of a trace's height
abbrev pub log_rows_of : {A F : Type 0} → Instance A F → ℕ
log_rows_of i = log_of (height i.trace)

module _ {S F E C A : Type 0} (c : Setting S F E C) (declaration : A → Declaration F) (trees : A → List (Tree F)) (interactions : A → List (Interaction F)) where
  abbrev pub source_of_instance : Instance A F → Source F
  source_of_instance i = source_of declaration trees interactions i.air

  -- A trace has the shape that its AIR declares:
  pub record IsShaped (i : Instance A F) : Type 0 where
    -- the AIR's columns, at least one, in whole rows, as many as a power of two within the backend's bounds;
    pub width : i.trace.width ≡ (declaration i.air).width
    pub some : 0 < (declaration i.air).width
    pub fills : FillsRows i.trace.values i.trace.width
    pub power : IsPowerOfTwo (height i.trace)
    pub least : c.log_min ≤ log_rows_of i
    pub most : log_rows_of i ≤ c.log_max
    -- as many as the preprocessed trace has, and a multiple of each periodic column's length, which is a power of two;
    pub prepared : HasHeight (declaration i.air).preprocessed (height i.trace)
    pub periods : All (λ column. IsPeriod (height i.trace) (length column)) (declaration i.air).periodic
    -- there are as many public values as declared;
    pub publics : length i.public_values ≡ (declaration i.air).public_values
    -- and the field has a subgroup for the rows times the chunks of the quotient
    pub room : log_rows_of i + log_chunks_with c.field.ring 0 (log_rows_of i) (source_of_instance i) (unpacked_lookups (source_of_instance i)) ≤ c.two_adicity

  -- the table of an instance: its lookups are packed within the budget that leaves the number of chunks as it is
  abbrev pub traced_instance : Instance A F → TracedTable F
  traced_instance i = record {
    table = record { declaration = declaration i.air; trees = trees i.air };
    lookups = packed_lookups c.field.ring 0 (log_rows_of i) 0 (source_of_instance i);
    publics = i.public_values;
    trace = i.trace;
    degree_bits = log_rows_of i;
  }
