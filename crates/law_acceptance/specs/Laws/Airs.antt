-- The tables of AIRs are as an honest proof asks it.
use Rattle.std.proofs.Common.{◌≡◌, ℕ, ◌+◌, ◌*◌, ◌^◌, ◌<◌, ◌≤◌, Bool, true, false, List, length, get_or, refl, sym, subst, arith}
use Rattle.std.specs.Prelude.{All}
use Rattle.std.proofs.Math.Nat.{pow-le-pow_right}
use Rattle.std.proofs.lemmas.List.{length-map}
use Rattle.std.proofs.lemmas.List.Elements.{All-map}
use Rattle.std.proofs.lemmas.Nat.{pow-add}
use Rattle.p3_field.specs.Domain.{CosetData}
use Rattle.p3_matrix.specs.Matrix.{Rows}
use Rattle.air_core.specs.Shape.{Declaration, HasColumns, ReadsDeclared, declared_shape}
use Rattle.air_core.specs.Tree.{Tree}
use Rattle.batch_config.specs.Setting.{Backend, Setting}
use Rattle.batch_statement.specs.Words.{no_table}
use Rattle.batch_statement.specs.Statement.{Common, Statement, AirTable, tables_of}
use Rattle.law_valid.specs.Traced.{log_parts, log_rows, traced_at}
use Rattle.law_valid.specs.Valid.{IsTracedBatch, Valid}
use Rattle.batch_statement.specs.Proof.{ProofData}
use Rattle.verifier_batch.specs.BatchChecks.{Accepted}
use Rattle.law_committed.specs.Fields.{FieldsLaws}
use Rattle.law_honest.specs.HonestProof.{AreCanonical, IsHonest, Prover, zeta}
use Rattle.law_acceptance.specs.Honest.{AreRegular, HaveFewRows, IsOutsideRows}
use Rattle.law_acceptance.specs.Laws.Accepted.{honest_accepted}

-- 2^63 at most, and less than as much again
pub small_size : (k l top : ℕ) → k + l ≤ top → top < 64 → k < 63 → 2 ^ k * (2 ^ l + 1) < 2 ^ 64
small_size k l top fits below few =
    let whole : 2 ^ (k + l) ≡ 2 ^ k * 2 ^ l = pow-add 2 k l in
    let turned : 2 ^ k * (2 ^ l + 1) ≡ 2 ^ k * 2 ^ l + 2 ^ k = omega arith in
    let a : k + l ≤ 63 = omega (arith, fits, below) in
    let b : k ≤ 62 = omega (arith, few) in
    let p : 2 ^ (k + l) ≤ 2 ^ 63 = pow-le-pow_right (omega arith) a in
    let q : 2 ^ k ≤ 2 ^ 62 = pow-le-pow_right (omega arith) b in
    omega (arith, whole, turned, p, q)

-- in a field whose two-adicity is below 63 no table of a traced batch has more
pub few_rows : {S F E C : Type 0} (c : Setting S F E C) (commitment_of : List (CosetData F × Rows F) → C) (s : Statement F C) (traces : List (Rows F)) (degree_bits : List ℕ)
    → c.two_adicity < 63 → IsTracedBatch c commitment_of s traces degree_bits → HaveFewRows c s traces degree_bits
few_rows c commitment_of s traces degree_bits low B i h = let q = (B.domains i h).fits in omega (arith, low, q)

module _ {S F E C A : Type 0} (c : Setting S F E C) (commitment_of : List (CosetData F × Rows F) → C) (declaration : A → Declaration F) (trees : A → List (Tree F))
    (columns : (a : A) → HasColumns (declaration a).preprocessed) (reads : (a : A) → All (ReadsDeclared (declared_shape (declaration a))) (trees a)) (airs : List A)
    (s : Statement F C) (own : s.tables ≡ tables_of declaration trees airs) (traces : List (Rows F)) (degree_bits : List ℕ) (B : IsTracedBatch c commitment_of s traces degree_bits) (below : c.two_adicity < 64)
    (few : HaveFewRows c s traces degree_bits) where
  abbrev Sound : AirTable F → Type 0
  Sound t = HasColumns t.declaration.preprocessed × All (ReadsDeclared (declared_shape t.declaration)) t.trees

  all_sound : All Sound s.tables
  all_sound = subst (All Sound) (sym own) (All-map Sound (λ (a : A). record { declaration = declaration a; trees = trees a }) airs (λ i a l. (columns (get_or airs i a), reads (get_or airs i a))))

  pub airs_sound : AreRegular c s traces degree_bits
  airs_sound i h =
      let here = all_sound i no_table h in
      let Q = B.domains i h in
      record {
        has_columns = here.0;
        reads = here.1;
        small = small_size (log_rows c (traced_at s traces degree_bits i)) (log_parts c (traced_at s traces degree_bits i)) c.two_adicity Q.fits below (few i h);
      }

-- So an honest proof of a valid statement on the tables of AIRs is accepted.
pub airs_accepted : {S F E C P R A : Type 0} (c : Setting S F E C) (p : Prover F E C) (eq : F → F → Bool) (declaration : A → Declaration F) (trees : A → List (Tree F))
    (columns : (a : A) → HasColumns (declaration a).preprocessed) (reads : (a : A) → All (ReadsDeclared (declared_shape (declaration a))) (trees a)) (airs : List A) (publics : List (List F)) (common : Common F C)
    (traces : List (Rows F)) (degree_bits : List ℕ) (L : FieldsLaws c.field c.extension c.two_adicity p.inverse) (eq_same : (x y : F) → eq x y ≡ true → x ≡ y) (same_eq : (x : F) → eq x x ≡ true)
    (K : AreCanonical c.field.ring c.order p.canonical) (b : Backend S F E C P R) (q : ProofData F E C P) → c.zk ≡ false → c.two_adicity < 64
    → let s : Statement F C = record { tables = tables_of declaration trees airs; publics = publics; common = common } in
    HaveFewRows c s traces degree_bits → Valid c eq p.commitment_of s traces degree_bits → IsHonest c p s traces degree_bits b q
    → ((i : ℕ) → i < length airs → IsOutsideRows c (traced_at s traces degree_bits i) (zeta c p s traces degree_bits q.lookup_pow_witness q.ood_pow_witness)) → Accepted c b s q
airs_accepted c p eq declaration trees columns reads airs publics common traces degree_bits L eq_same same_eq K b q plain below few V G outside =
    let s : Statement _ _ = record { tables = tables_of declaration trees airs; publics = publics; common = common } in
    let long : length s.tables ≡ length airs = length-map airs _ in
    honest_accepted c p eq s traces degree_bits L eq_same same_eq K V (airs_sound c p.commitment_of declaration trees columns reads airs s refl traces degree_bits V.batch below few) plain below b q G
    (λ i h. outside i (omega (arith, h, long)))
