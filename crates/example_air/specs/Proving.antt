-- The two tables as a batch that is proved.
use Rattle.std.specs.Int.{IsPowerOfTwo}
use Rattle.std.specs.Prelude.{◌≡◌, ℕ, ◌≤◌, List, [], ◌∷◌}
use Rattle.p3_field.specs.BabyBear.{baby_bear_ring}
use Rattle.p3_field.specs.declared.baby_bear.BabyBear.{BabyBear}
use Rattle.p3_matrix.specs.Matrix.{Rows, height}
use Rattle.plain_pcs.specs.declared.error.PlainProverError.{PlainProverError}
use Rattle.batch_setup.specs.Setup.{Instance}
use Rattle.law_honest.specs.HonestProof.{IsBuilt}
use Rattle.prover_answer.specs.PlainBackend.{plain_prover_backend}
use Rattle.prover_answer.specs.Telling.{Tells}
use Rattle.prover_answer.specs.declared.error.ProvingError.{ProvingError}
use Rattle.tool_airs.specs.Airs.{AirsBatch, AirsProof, airs_batch}
use Rattle.tool_statement.specs.Config.{tool_scheme}
use Rattle.example_air.specs.Bytes.{bits_rows, bytes_rows, example_declaration, example_interactions, example_trees}
use Rattle.example_air.specs.declared.air.ExampleAir.{ExampleAir}
use Rattle.example_air.specs.declared.air.ExampleAir.TheVariants.{Bits, Bytes}

-- the two tables with these traces, over the program's configuration
abbrev pub tables_instances : (bits times : Rows BabyBear) → List (Instance ExampleAir BabyBear)
tables_instances bits times = record { air = Bits; trace = bits; public_values = [] } ∷ record { air = Bytes; trace = times; public_values = [] } ∷ []

abbrev pub tables_batch : (bits times : Rows BabyBear) → AirsBatch
tables_batch bits times = airs_batch (example_declaration baby_bear_ring) (example_trees baby_bear_ring) (example_interactions baby_bear_ring) (tables_instances bits times)

-- and with the traces of these bytes
abbrev pub bytes_batch : (bytes : List ℕ) → AirsBatch
bytes_batch bytes = tables_batch (bits_rows baby_bear_ring bytes) (bytes_rows baby_bear_ring bytes)

-- the proof is the honest one of these traces
abbrev pub IsTablesProof : (bits times : Rows BabyBear) → AirsProof → Type 0
IsTablesProof bits times q = let b = tables_batch bits times in IsBuilt b.setting b.prover b.statement b.traces b.degree_bits q

-- there is none, for this reason
abbrev pub LacksTablesProof : (bits times : Rows BabyBear) → ProvingError PlainProverError → Type 0
LacksTablesProof bits times e = Tells (plain_prover_backend tool_scheme) (tables_batch bits times) e

-- a table of bits has nine columns and a power of two of rows, up to 1024; a table of all bytes has one column of 256 rows
pub record AreTables (bits times : Rows BabyBear) : Type 0 where
  pub bits_width : bits.width ≡ 9
  pub power : IsPowerOfTwo (height bits)
  pub few : height bits ≤ 1024
  pub times_width : times.width ≡ 1
  pub times_height : height times ≡ 256
