-- What an accepted proof of a chain means.
use Rattle.std.proofs.Common.{◌≡◌, ℕ, zero, suc, ◌^◌, ◌<◌, ◌≤◌, List, [], ◌∷◌, length, get_or, None, refl, sym, subst, arith}
use Rattle.std.specs.Prelude.{All}
use Rattle.p3_field.specs.BabyBear.{baby_bear_ring}
use Rattle.p3_field.specs.Quartic.{of_baby_bear_value, quartic_inv, quartic_ring}
use Rattle.p3_field.specs.declared.baby_bear.BabyBear.{BabyBear}
use Rattle.p3_field.specs.declared.quartic.QuarticExtension.{QuarticExtension}
use Rattle.air_core.specs.Laws.Lists.{all_of_tabulate}
use Rattle.air_core.specs.Shape.{Declaration, ReadsDeclared, declared_shape, width_of}
use Rattle.p3_lookup.specs.Lookup.{HasCountForEach, LookupData, ReadsSent}
use Rattle.p3_lookup.specs.Trees.{lookup_trees}
use Rattle.plain_pcs.specs.Scheme.{PlainCommitmentData}
use Rattle.blake3_compress.specs.Generated.{input_of}
use Rattle.batch_statement.specs.Statement.{Common, HasEntryOf, Statement, WellFormed}
use Rattle.batch_statement.specs.Words.{bits_at}
use Rattle.verifier_batch.specs.BatchChecks.{Accepted}
use Rattle.chain_air.specs.Chain.{AreChainRows, AreEight}
use Rattle.chain_air.specs.Laws.Declared.{chain_read}
use Rattle.chain_air.specs.Trees.{chain_trees}
use Rattle.law_chain.specs.Committed.{CommittedChains}
use Rattle.law_committed.specs.BaseRows.{main_row}
use Rattle.law_committed.specs.Batch.{DividedTable}
use Rattle.law_committed.specs.Committed.{CommittedTable, Holds}
use Rattle.law_committed.specs.Fields.{FieldsLaws, baby_bear_field, quartic_extension}
use Rattle.law_soundness.specs.CommittedBatch.{ReadDeclared, committed_at, committed_table_at, lookups_at}
use Rattle.law_soundness.specs.Laws.Accepted.{batch_holds}
use Rattle.law_soundness.specs.Laws.Bound.{Binds}
use Rattle.law_soundness.specs.Laws.Opened.{columns_declared, counts}
use Rattle.law_soundness.specs.Laws.Swap.{holds_before}
use Rattle.law_soundness.specs.Laws.SwapTables.{first_of}
use Rattle.law_soundness.specs.Meaning.{CommittedTablesHold, HoldUnlessUnlucky}
use Rattle.law_soundness.specs.PlainSetting.{plain_scheme}
use Rattle.tool_airs.specs.Airs.{AirsProof, airs_common}
use Rattle.tool_hash_lines.specs.Laws.Matrices.{binds_of_tool, laws_of_tool, plain_tool}
use Rattle.transcript_version.specs.declared.TranscriptVersion.TheVariants.{V2}
use Rattle.tool_statement.specs.Config.{tool_backend, tool_scheme, tool_setting}
use Rattle.chain_proofs.specs.Statement.{HasStatedHeight, RowsAreChain, chain_statement, constraints, declared, none_sent}

-- prover and verifier share no preprocessed trace, and no lookup
abbrev pub chain_common : ℕ → Common BabyBear (PlainCommitmentData BabyBear)
chain_common k = airs_common declared constraints none_sent (record {} ∷ []) (k ∷ [])

abbrev plain_common : Common BabyBear (PlainCommitmentData BabyBear)
plain_common = record { preprocessed = None; lookups = [] ∷ [] }

pub common_is : (k : ℕ) → chain_common k ≡ plain_common
unfolding airs_common
common_is k = refl

none_listed : (P : LookupData BabyBear → Type 0) (i : ℕ) → All P (get_or ([] ∷ []) i [])
none_listed P zero j d l = absurd (omega (arith, l))
none_listed P (suc i) j d l = absurd (omega (arith, l))

plain_formed : WellFormed (declared (record {}) ∷ []) plain_common
plain_formed = record {
  reads = λ i l d. none_listed (ReadsSent (declared_shape (get_or (declared (record {}) ∷ []) i d))) i;
  counted = λ i l. none_listed HasCountForEach i;
  one_width = λ i j d l m e. absurd (omega (arith, l));
  entries = entries;
  listed = tt;
  places = λ i l. tt;
}
  where
    entries : (i : ℕ) → i < 1 → (d : Declaration BabyBear) → HasEntryOf (width_of (get_or (declared (record {}) ∷ []) i d).preprocessed) None
    entries zero l d = refl
    entries (suc i) l d = absurd (omega (arith, l))

pub chain_formed : (k : ℕ) → WellFormed (declared (record {}) ∷ []) (chain_common k)
chain_formed k = subst (λ (c : Common BabyBear (PlainCommitmentData BabyBear)). WellFormed (declared (record {}) ∷ []) c) (sym (common_is k)) plain_formed

module _ (start end : List ℕ) (k : ℕ) (p : AirsProof) (L : FieldsLaws baby_bear_field quartic_extension 27 quartic_inv) (B : Binds tool_scheme quartic_ring of_baby_bear_value)
    (accepted : Accepted (tool_setting V2) tool_backend (chain_statement start end k) p) where
  abbrev s : Statement BabyBear (PlainCommitmentData BabyBear)
  s = chain_statement start end k

  abbrev t : CommittedTable BabyBear QuarticExtension
  t = committed_table_at (tool_setting V2) 1 s p 0

  fields : FieldsLaws (tool_setting V2).field (tool_setting V2).extension (tool_setting V2).two_adicity quartic_inv
  fields = laws_of_tool V2 quartic_inv L

  binds : Binds (plain_scheme (tool_setting V2) 1) (tool_setting V2).extension.ring (tool_setting V2).extension.embed
  binds = binds_of_tool V2 B

  reads : ReadDeclared s
  reads zero d l = chain_read baby_bear_ring
  reads (suc i) d l = absurd (omega (arith, l))

  -- the table holds, or a challenge is unlucky
  pub holds : HoldUnlessUnlucky (tool_setting V2) 1 s p
  holds = batch_holds (tool_setting V2) tool_backend 1 s p quartic_inv fields (plain_tool V2) binds (chain_formed k) accepted reads

  -- there is one table, with the AIR's columns
  counted : length p.degree_bits ≡ 1
  counted = (counts (tool_setting V2) tool_backend 1 s p quartic_inv fields (plain_tool V2) binds (chain_formed k) accepted).degree_bits

  wide : length t.main ≡ 9168
  wide = (columns_declared (tool_setting V2) tool_backend 1 s p quartic_inv fields (plain_tool V2) binds (chain_formed k) accepted 0 (omega arith)).main

  own : CommittedTablesHold (tool_setting V2) 1 s p → Holds baby_bear_field quartic_extension t (chain_trees baby_bear_ring)
  unfolding tool_setting
  own h =
      holds_before baby_bear_field quartic_extension t (chain_trees baby_bear_ring) (lookup_trees baby_bear_ring (lookups_at s 0))
      (all_of_tabulate (λ (u : DividedTable BabyBear QuarticExtension). Holds baby_bear_field quartic_extension u.table u.trees) 1 (committed_at (tool_setting V2) 1 s p) h 0 (omega arith))

  -- so its rows are a chain
  pub rows_chain : CommittedChains → AreEight (input_of start) → AreEight (input_of end) → k ≤ 3 → HasStatedHeight k p.degree_bits → RowsAreChain start end k p
  rows_chain C first last low height no_alpha no_zeta =
      let many = counted in
      let high : bits_at p.degree_bits 0 ≡ k = height (omega (arith, many)) in
      subst (λ n. AreChainRows baby_bear_ring (2 ^ n) (main_row baby_bear_field t) (input_of start) (input_of end)) high
      ((C t (input_of start) (input_of end) (omega (arith, high, low)) first last wide refl).0 (own (first_of holds no_alpha no_zeta)))
