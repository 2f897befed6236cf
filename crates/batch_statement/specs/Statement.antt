-- What a batch proof is about: tables, their public values, and the data that prover and verifier share. After Plonky3's
-- p3-batch-stark (CommonData, GlobalPreprocessed).
use Rattle.std.specs.Prelude.{◌≡◌, ℕ, suc, ◌<◌, min, List, [], ◌∷◌, length, map, flat_map, take, All, Option, None, Some, Vec}
use Rattle.std.specs.Prelude.{slice_index_or as get_or, slice_get}
use Rattle.air_core.specs.Tree.{Tree}
use Rattle.air_core.specs.Shape.{Declaration, declared_shape, width_of}
use Rattle.p3_lookup.specs.Lookup.{LookupData, HasCountForEach, ReadsSent}
use Rattle.p3_lookup.specs.Bus.{HaveOneWidth}
use Rattle.p3_lookup.specs.Written.{Written, read_all}
use Rattle.batch_statement.specs.declared.preprocessed.PreprocessedInstanceMeta.{PreprocessedInstanceMeta}

-- a table: what its AIR declares, and its constraints
pub record AirTable (F : Type 0) : Type 0 where
  pub declaration : Declaration F
  pub trees : List (Tree F)

-- the tables of AIRs with these declarations and these constraints
abbrev pub tables_of : {A F : Type 0} → (A → Declaration F) → (A → List (Tree F)) → List A → List (AirTable F)
tables_of declaration trees airs = map (λ a. record { declaration = declaration a; trees = trees a }) airs

-- the commitment to all preprocessed traces, for each table its entry, and for each committed matrix its table
pub record PreprocessedTracesData (C : Type 0) : Type 0 where
  pub commitment : C
  pub instances : List (Option PreprocessedInstanceMeta)
  pub matrix_to_instance : List ℕ

-- the data that prover and verifier share
pub record Common (F C : Type 0) : Type 0 where
  pub preprocessed : Option (PreprocessedTracesData C)
  pub lookups : List (List (LookupData F))

-- the same as a program holds it: each expression is a list of nodes
pub record WrittenCommon (F C : Type 0) : Type 0 where
  pub preprocessed : Option (PreprocessedTracesData C)
  pub lookups : List (List (Written F))

abbrev pub read_common : {F C : Type 0} → WrittenCommon F C → Common F C
read_common w = record { preprocessed = w.preprocessed; lookups = map read_all w.lookups }

-- what a proof is of: tables, a list of public values for each, and common data
pub record Statement (F C : Type 0) : Type 0 where
  pub tables : List (AirTable F)
  pub publics : List (List F)
  pub common : Common F C

-- the least of a number and the number of entries, where there are such
abbrev pub within_entries : {C : Type 0} → Option (PreprocessedTracesData C) → ℕ → ℕ
within_entries None n = n
within_entries (Some g) n = min n (length g.instances)

-- how many instances common data has for tables with these declarations: an instance is a number below all lengths
abbrev pub instance_count : {F C : Type 0} → List (Declaration F) → Common F C → ℕ
instance_count ds c = within_entries c.preprocessed (min (length ds) (length c.lookups))

-- the entry of instance i, where it has one
abbrev pub entry_of : {C : Type 0} → Option (PreprocessedTracesData C) → ℕ → Option PreprocessedInstanceMeta
entry_of None i = None
entry_of (Some g) i = get_or g.instances i None

-- there is an entry exactly where the preprocessed width isn't zero, and it has that width
abbrev pub HasEntryOf : ℕ → Option PreprocessedInstanceMeta → Type 0
HasEntryOf width None = width ≡ 0
HasEntryOf width (Some e) = (0 < width) × (e.width ≡ width)

-- the increasing list of the instances with an entry, the first of these entries being that of instance i
abbrev pub with_entry : ℕ → List (Option PreprocessedInstanceMeta) → List ℕ
with_entry i [] = []
with_entry i (None ∷ es) = with_entry (suc i) es
with_entry i (Some e ∷ es) = i ∷ with_entry (suc i) es

-- the committed matrices are those of the first n instances with an entry, in order
abbrev pub ListsEntries : {C : Type 0} → ℕ → Option (PreprocessedTracesData C) → Type 0
ListsEntries n None = Unit {0}
ListsEntries n (Some g) = g.matrix_to_instance ≡ with_entry 0 (take n g.instances)

-- an entry's matrix is that of its instance
abbrev pub IsPlaced : List ℕ → ℕ → Option PreprocessedInstanceMeta → Type 0
IsPlaced listed i None = Unit {0}
IsPlaced listed i (Some e) = slice_get listed e.matrix_index ≡ Some i

abbrev pub HasPlace : {C : Type 0} → Option (PreprocessedTracesData C) → ℕ → Type 0
HasPlace None i = Unit {0}
HasPlace (Some g) i = IsPlaced g.matrix_to_instance i (get_or g.instances i None)

-- Common data is well-formed for tables with these declarations:
pub record WellFormed {F C : Type 0} (ds : List (Declaration F)) (c : Common F C) : Type 0 where
  -- an instance's lookups read only constants and those public values, main cells and preprocessed cells that the instance
  -- declares, and next cells only of declared next columns;
  pub reads : (i : ℕ) → i < instance_count ds c → (d : Declaration F) → All (ReadsSent (declared_shape (get_or ds i d))) (get_or c.lookups i [])
  -- each lookup has as many multiplicities as tuples;
  pub counted : (i : ℕ) → i < instance_count ds c → All HasCountForEach (get_or c.lookups i [])
  -- all tuples on one bus have one width;
  pub one_width : HaveOneWidth (flat_map (λ ls. ls) (take (instance_count ds c) c.lookups))
  -- an instance has an entry exactly where its preprocessed width isn't zero, and the entry has that width;
  pub entries : (i : ℕ) → i < instance_count ds c → (d : Declaration F) → HasEntryOf (width_of (get_or ds i d).preprocessed) (entry_of c.preprocessed i)
  -- the committed matrices are those of the instances with an entry, in order;
  pub listed : ListsEntries (instance_count ds c) c.preprocessed
  -- and an entry names its instance's place among them
  pub places : (i : ℕ) → i < instance_count ds c → HasPlace c.preprocessed i

-- the statement on these tables, with these public values and common data that a program holds so
abbrev pub statement_with : {F C : Type 0} → List (AirTable F) → List (List F) → WrittenCommon F C → Statement F C
statement_with tables publics common = record { tables = tables; publics = publics; common = read_common common }

-- the statement on AIRs with these declarations and constraints, as a call takes it: their public values in vectors
abbrev pub stated : {A F C G : Type 0} → (A → Declaration F) → (A → List (Tree F)) → List A → List (Vec F G) → WrittenCommon F C → Statement F C
stated declaration trees airs public_values common = statement_with (tables_of declaration trees airs) (map (λ v. v.items) public_values) common
