-- Where no check of a proof over the plain scheme fails, each constraint of each table is zero on each row of the committed polynomials, or one of two drawn challenges is
-- unlucky.
use Rattle.std.proofs.Common.{◌≡◌, ℕ, ◌-◌, ◌^◌, ◌<◌, ◌≤◌, ◌⊎◌, List, [], None, length, get_or, map, refl, subst, arith}
use Rattle.std.specs.Prelude.{All}
use Rattle.std.proofs.lemmas.List.Elements.{All-get_or}
use Rattle.p3_field.specs.Checks.{NoneFails}
use Rattle.air_core.specs.Laws.Lists.{all_tabulate}
use Rattle.air_core.specs.Shape.{Declaration, ReadsDeclared, declared_shape}
use Rattle.commit_core.specs.Periodic.{IsPeriod}
use Rattle.p3_lookup.specs.Lookup.{ReadsSent}
use Rattle.plain_pcs.specs.Scheme.{PlainCommitmentData}
use Rattle.law_committed.specs.Batch.{AllHold, DividedTable, IsUnluckyAlphaOfBatch, IsUnluckyZetaOfBatch}
use Rattle.law_committed.specs.Committed.{IsBounded}
use Rattle.law_committed.specs.Fields.{FieldsLaws}
use Rattle.law_committed.specs.Identity.{CommittedIdentity}
use Rattle.law_committed.specs.Laws.Batch.{batch_holds_or_unlucky}
use Rattle.batch_constraints.specs.BatchTrees.{AreLookupsOf}
use Rattle.batch_config.specs.Domains.{chunk_domains}
use Rattle.batch_config.specs.Setting.{Setting, Backend, masks}
use Rattle.batch_statement.specs.Proof.{ProofData}
use Rattle.batch_statement.specs.Statement.{Statement, AirTable, WellFormed}
use Rattle.batch_statement.specs.Words.{no_opened, no_table, bits_at}
use Rattle.verifier_batch.specs.OpeningChecks.{log_chunks_of_table}
use Rattle.verifier_identity.specs.TableIdentity.{identity_of_table}
use Rattle.verifier_batch.specs.BatchChecks.{Accepted, drawn_of, table_challenges_of}
use Rattle.law_soundness.specs.CommittedBatch.{ReadDeclared, committed_at, committed_batch, committed_quotient, committed_table_at, constraints_at, lookups_at, stated_table}
use Rattle.law_soundness.specs.PlainSetting.{IsPlain, plain_scheme}
use Rattle.law_soundness.specs.Laws.Bound.{Binds}
use Rattle.batch_constraints.specs.Laws.Images.{all_of_map}
use Rattle.law_soundness.specs.Laws.Checked.{domains_fit, identity_holds, periods_fit, table_accepted}
use Rattle.law_soundness.specs.Laws.Opened.{columns_bounded, declared_is, fixed_bounded, inside, local_wide, no_masks, quotient_bounded, sums_bounded, values_opened}
use Rattle.law_soundness.specs.Laws.Read.{identity_is_committed}
use Rattle.law_soundness.specs.UnluckyCounts.{HasLowDegrees}

module _ {S F E P R : Type 0} (c : Setting S F E (PlainCommitmentData F)) (b : Backend S F E (PlainCommitmentData F) P R) (log_blowup : ℕ) (s : Statement F (PlainCommitmentData F))
    (p : ProofData F E (PlainCommitmentData F) P) (inverse : E → E) (L : FieldsLaws c.field c.extension c.two_adicity inverse) (plain : IsPlain c b log_blowup)
    (binds : Binds (plain_scheme c log_blowup) c.extension.ring c.extension.embed) (formed : WellFormed (map (λ t. t.declaration) s.tables) s.common) (accepted : Accepted c b s p) where
  abbrev n : ℕ
  n = length s.tables

  abbrev declarations : List (Declaration F)
  declarations = map (λ t. t.declaration) s.tables

  abbrev alpha : E
  alpha = (drawn_of c s p).alpha

  abbrev zeta : E
  zeta = (drawn_of c s p).zeta

  unmasked : masks c ≡ 0
  unmasked = no_masks c b log_blowup s p inverse L plain binds formed accepted

  module _ (i : ℕ) (below : i < n) where
    abbrev d : Declaration F
    d = (stated_table s i).declaration

    abbrev k : ℕ
    k = bits_at p.degree_bits i

    own_lookups : AreLookupsOf d (lookups_at s i)
    own_lookups = λ j u l.
        let same = declared_is c b log_blowup s p inverse L plain binds formed accepted i below in
        let within = inside c b log_blowup s p inverse L plain binds formed accepted i below in
        let reads = subst (λ (x : Declaration F). All (ReadsSent (declared_shape x)) (lookups_at s i)) same (formed.reads i within (no_table {F = F}).declaration) in
        record { counted = formed.counted i within j u l; reads = reads j u l }

    -- no check of its identity fails, over all rows that its degree bits tell
    own_checks : NoneFails (identity_of_table {R = R} c.field c.extension i k (stated_table s i) (lookups_at s i) (get_or s.publics i []) (table_challenges_of c s p i)
        (get_or p.lookup_terminals i None) (chunk_domains c k (log_chunks_of_table c s p i)) alpha zeta (get_or p.instances i no_opened))
    own_checks =
        let e : k - masks c ≡ k = omega (arith, unmasked) in
        subst (λ m. NoneFails (identity_of_table {R = R} c.field c.extension i m (stated_table s i) (lookups_at s i) (get_or s.publics i []) (table_challenges_of c s p i)
        (get_or p.lookup_terminals i None) (chunk_domains c k (log_chunks_of_table c s p i)) alpha zeta (get_or p.instances i no_opened))) e (table_accepted c b s p accepted i below)

    -- so the identity of its committed polynomials holds at the drawn point
    committed_identity : ReadDeclared s → CommittedIdentity c.field c.extension (committed_table_at c log_blowup s p i) (constraints_at c s i) (committed_quotient c log_blowup s p i) alpha zeta
    committed_identity reads =
        let t = committed_table_at c log_blowup s p i in
        identity_is_committed c.field c.extension c.two_adicity inverse L d (lookups_at s i) t.main t.preprocessed t.permutation t.public_values t.challenges t.terminals k
        (committed_quotient c log_blowup s p i) alpha zeta (get_or p.instances i no_opened) (values_opened c b log_blowup s p inverse L plain binds formed accepted i below)
        (local_wide c b log_blowup s p inverse L plain binds formed accepted i below) (stated_table s i).trees
        (All-get_or (λ (x : AirTable F). All (ReadsDeclared (declared_shape x.declaration)) x.trees) s.tables i no_table below reads) own_lookups
        (identity_holds R c.field c.extension i k (stated_table s i) (lookups_at s i) (get_or s.publics i []) (table_challenges_of c s p i) (get_or p.lookup_terminals i None)
        (chunk_domains c k (log_chunks_of_table c s p i)) alpha zeta (get_or p.instances i no_opened) own_checks)

    height_fits : k ≤ c.two_adicity
    height_fits = let h = domains_fit c b s p accepted i below in omega (arith, h)

    -- its polynomials have degrees below its height, and its periodic columns fit
    pub table_bounded : IsBounded c.field (committed_table_at c log_blowup s p i)
    table_bounded = record {
      main = columns_bounded c b log_blowup s p inverse L plain binds formed accepted i below;
      preprocessed = fixed_bounded c b log_blowup s p inverse L plain binds formed accepted i below;
      permutation = sums_bounded c b log_blowup s p inverse L plain binds formed accepted i below;
      periodic = all_of_map (IsPeriod (2 ^ k)) (λ (column : List F). length column) d.periodic (map (λ (column : List F). length column) d.periodic) refl
          (periods_fit R c.field c.extension i k (stated_table s i) (lookups_at s i) (get_or s.publics i []) (table_challenges_of c s p i) (get_or p.lookup_terminals i None)
          (chunk_domains c k (log_chunks_of_table c s p i)) alpha zeta (get_or p.instances i no_opened) own_checks);
    }

  -- so are those of its quotient
  pub batch_low : All (HasLowDegrees c.field) (committed_batch c log_blowup s p)
  batch_low = all_tabulate (HasLowDegrees c.field) n (committed_at c log_blowup s p) (λ i below. record { table = table_bounded i below; quotient = quotient_bounded c b log_blowup s p inverse L plain binds formed accepted i below })

  pub heights_fit : All (λ t. t.table.log_height ≤ c.two_adicity) (committed_batch c log_blowup s p)
  heights_fit = all_tabulate (λ (t : DividedTable F E). t.table.log_height ≤ c.two_adicity) n (committed_at c log_blowup s p) height_fits

  pub batch_holds : ReadDeclared s
      → AllHold c.field c.extension (committed_batch c log_blowup s p)
      ⊎ (IsUnluckyAlphaOfBatch c.field c.extension (committed_batch c log_blowup s p) alpha ⊎ IsUnluckyZetaOfBatch c.field c.extension (committed_batch c log_blowup s p) alpha zeta)
  batch_holds reads =
      batch_holds_or_unlucky c.field c.extension c.two_adicity inverse L (committed_batch c log_blowup s p) alpha zeta heights_fit
      (all_tabulate (λ (t : DividedTable F E). CommittedIdentity c.field c.extension t.table t.trees t.quotient alpha zeta) n (committed_at c log_blowup s p) (λ i below. committed_identity i below reads))
