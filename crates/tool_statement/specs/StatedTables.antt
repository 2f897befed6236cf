-- The tables of a statement, and what they fix: what their AIRs declare and constrain, public values, and the data that prover and verifier
-- share.
use Rattle.std.specs.Prelude.{◌≡◌, ℕ, ◌≤◌, List, [], ◌∷◌, length, map, min, replicate, Option, None, Some}
use Rattle.std.specs.Prelude.{slice_index_or as get_or}
use Rattle.p3_field.specs.Checks.{FirstFailing, IsFirstFailing}
use Rattle.p3_field.specs.Poly.{tabulate}
use Rattle.p3_field.specs.BabyBear.{baby_bear_ring}
use Rattle.p3_field.specs.Domain.{CosetData}
use Rattle.p3_field.specs.declared.baby_bear.BabyBear.{BabyBear}
use Rattle.p3_matrix.specs.Matrix.{Rows}
use Rattle.p3_lookup.specs.Lookup.{LookupData}
use Rattle.blake3_prime.specs.Trees.{blake3_declaration, blake3_trees}
use Rattle.plain_pcs.specs.Scheme.{PlainCommitmentData}
use Rattle.plain_pcs.specs.Extension.{commitment_of}
use Rattle.air_tables.specs.Swap.{swap_declaration, swap_trees}
use Rattle.air_tables.specs.Wheel.{wheel_declaration, wheel_trees}
use Rattle.tool_tables.specs.Words.{words_declaration, take_interactions, give_interactions}
use Rattle.batch_statement.specs.Statement.{AirTable, PreprocessedTracesData, Common, Statement, with_entry}
use Rattle.batch_statement.specs.declared.preprocessed.PreprocessedInstanceMeta.{PreprocessedInstanceMeta}
use Rattle.batch_setup.specs.Packed.{Source, packed_at}
use Rattle.batch_setup.specs.Preprocessed.{committed_below, entry_at}
use Rattle.tool_statement.specs.Config.{tool_scheme}
use Rattle.tool_statement.specs.declared.table.TableStatement.{TableStatement}
use Rattle.tool_statement.specs.declared.table.TableStatement.TheVariants.{Swap, Wheel, Take, Give, Hash}

-- the logarithm of the table's height
abbrev pub log_height_of : TableStatement → ℕ
log_height_of (Swap k a b x) = k
log_height_of (Wheel k) = k
log_height_of (Take k) = k
log_height_of (Give k) = k
log_height_of (Hash k) = k

-- a table has up to 2^10 rows, a wheel at least two, and a table of compressions up to 2^3
abbrev pub TableWithin : TableStatement → Type 0
TableWithin (Swap k a b x) = k ≤ 10
TableWithin (Wheel k) = (1 ≤ k) × (k ≤ 10)
TableWithin (Take k) = k ≤ 10
TableWithin (Give k) = k ≤ 10
TableWithin (Hash k) = k ≤ 3

abbrev pub publics_of : TableStatement → List BabyBear
publics_of (Swap k a b x) = a ∷ b ∷ x ∷ []
publics_of (Wheel k) = []
publics_of (Take k) = []
publics_of (Give k) = []
publics_of (Hash k) = []

-- what the table's AIR declares, its constraints and its interactions
abbrev pub source_of_table : TableStatement → Source BabyBear
source_of_table (Swap k a b x) = record { declaration = swap_declaration; trees = swap_trees; interactions = [] }
source_of_table (Wheel k) = record { declaration = wheel_declaration baby_bear_ring k; trees = wheel_trees; interactions = [] }
source_of_table (Take k) = record { declaration = words_declaration 1; trees = []; interactions = take_interactions baby_bear_ring }
source_of_table (Give k) = record { declaration = words_declaration 2; trees = []; interactions = give_interactions baby_bear_ring }
source_of_table (Hash k) = record { declaration = blake3_declaration; trees = blake3_trees baby_bear_ring; interactions = [] }

abbrev pub sources_of : List TableStatement → List (Source BabyBear)
sources_of tables = map source_of_table tables

abbrev pub log_heights_of : List TableStatement → List ℕ
log_heights_of tables = map log_height_of tables

-- a proof's degree bits of table i are the stated logarithm of its height
abbrev pub HasStatedHeight : List TableStatement → (degree_bits : List ℕ) → ℕ → Type 0
HasStatedHeight tables degree_bits i = get_or (log_heights_of tables) i 0 ≡ get_or degree_bits i 0

-- table i is the first, below both lengths, of which that isn't so
abbrev pub IsHeightMismatch : List TableStatement → (degree_bits : List ℕ) → ℕ → Type 0
IsHeightMismatch tables degree_bits i = IsFirstFailing (min (length tables) (length degree_bits)) (HasStatedHeight tables degree_bits) i

-- it is so of all
abbrev pub HaveStatedHeights : List TableStatement → (degree_bits : List ℕ) → Type 0
HaveStatedHeights tables degree_bits = FirstFailing (min (length tables) (length degree_bits)) (HasStatedHeight tables degree_bits) None

abbrev pub publics_lists : List TableStatement → List (List BabyBear)
publics_lists tables = map publics_of tables

-- the lookups of table i, packed within its free budget
abbrev pub packed_lookups_at : List TableStatement → ℕ → List (LookupData BabyBear)
packed_lookups_at tables i = packed_at baby_bear_ring 0 (sources_of tables) (log_heights_of tables) (replicate (length tables) 0) i

-- what the plain scheme commits to, which are the preprocessed traces of wheels, in order; and each table's entry
abbrev pub preprocessed_traces : List TableStatement → List (CosetData BabyBear × Rows BabyBear)
preprocessed_traces tables = committed_below baby_bear_ring.one (sources_of tables) (log_heights_of tables) (length tables)

abbrev pub entries_of : List TableStatement → List (Option PreprocessedInstanceMeta)
entries_of tables = tabulate (length tables) (entry_at baby_bear_ring.one (sources_of tables) (log_heights_of tables))

-- the commitment to traces with these entries; none where there is no trace
abbrev pub preprocessed_commitment_of : List (Option PreprocessedInstanceMeta) → List (CosetData BabyBear × Rows BabyBear) → Option (PreprocessedTracesData (PlainCommitmentData BabyBear))
preprocessed_commitment_of entries [] = None
preprocessed_commitment_of entries (t ∷ ts) = Some (record { commitment = commitment_of tool_scheme (t ∷ ts); instances = entries; matrix_to_instance = with_entry 0 entries })

-- the data that prover and verifier share of these tables
unfoldable pub tool_common : List TableStatement → Common BabyBear (PlainCommitmentData BabyBear)
tool_common tables = record {
  preprocessed = preprocessed_commitment_of (entries_of tables) (preprocessed_traces tables);
  lookups = tabulate (length tables) (packed_lookups_at tables);
}

-- the table with its constraints
abbrev pub air_table_of : TableStatement → AirTable BabyBear
air_table_of t = record { declaration = (source_of_table t).declaration; trees = (source_of_table t).trees }

-- what a proof of these tables is of
abbrev pub tool_statement : List TableStatement → Statement BabyBear (PlainCommitmentData BabyBear)
tool_statement tables = record { tables = map air_table_of tables; publics = publics_lists tables; common = tool_common tables }
