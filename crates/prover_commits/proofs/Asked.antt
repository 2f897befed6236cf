-- The tables of a traced batch can be asked for, with the challenges that are drawn.
use Rattle.std.proofs.Common.{◌≡◌, ℕ, ◌<◌, List, [], length, get_or, map, Option, sym, ◌∙◌, ap, arith}
use Rattle.std.specs.Prelude.{All}
use Rattle.std.proofs.lemmas.List.{length-map}
use Rattle.std.proofs.lemmas.List.Elements.{All-map}
use Rattle.p3_field.specs.Laws.Tabulate.{get_or-tabulate, length-tabulate}
use Rattle.air_core.specs.Shape.{Declaration, HasColumns}
use Rattle.air_core.specs.Tree.{Tree}
use Rattle.batch_config.specs.Setting.{Setting, masks}
use Rattle.batch_setup.specs.Setup.{Instance, airs_of}
use Rattle.batch_statement.specs.Words.{no_table}
use Rattle.batch_statement.specs.Statement.{AirTable, WrittenCommon}
use Rattle.law_committed.specs.Fields.{FieldsLaws}
use Rattle.law_honest.specs.HonestProof.{Prover, challenges_at}
use Rattle.law_honest.specs.Laws.Draws.{challenges_count}
use Rattle.prover_answer.specs.Batch.{Batch, IsTracedAll, all_challenges, batch_of, table_count}
use Rattle.prover_commits.specs.Laws.Instances.{counted}
use Rattle.prover_commits.specs.Columns.{AreReady}
use Rattle.prover_commits.proofs.Whole.{ready}

module _ {S F E C A : Type 0} (c : Setting S F E C) (p : Prover F E C) (declaration : A → Declaration F) (trees : A → List (Tree F)) (instances : List (Instance A F)) (common : WrittenCommon F C)
    (B : IsTracedAll (batch_of c p declaration trees instances common)) (w : Option F) where
  abbrev b : Batch S F E C
  b = batch_of c p declaration trees instances common

  abbrev own : ℕ → List E
  own i = challenges_at c p b.statement b.traces b.degree_bits w i

  pub one_each : length instances ≡ table_count b
  one_each = sym (counted c p declaration trees instances common)

  -- there are as many lists of challenges as instances
  pub as_many : {V : Type 0} (items : V → List E) (challenges : List V) → map items challenges ≡ all_challenges b w → length challenges ≡ length instances
  as_many items challenges drawn = sym (length-map challenges items) ∙ (ap length drawn ∙ (length-tabulate (table_count b) own ∙ counted c p declaration trees instances common))

  pub all_ready : ((a : A) → HasColumns (declaration a).preprocessed) → FieldsLaws c.field c.extension c.two_adicity p.inverse → masks c ≡ 0 → (challenges : List (List E)) → challenges ≡ all_challenges b w → AreReady b challenges (length instances)
  all_ready has L plain challenges drawn i l =
      let n = counted c p declaration trees instances common in
      let h : i < table_count b = omega (arith, l, n) in
      let Wide : AirTable F → Type 0 = λ t. HasColumns t.declaration.preprocessed in
      let wide : All Wide b.statement.tables = All-map Wide (λ (a : A). record { declaration = declaration a; trees = trees a }) (airs_of instances) (λ j a k. has (get_or (airs_of instances) j a)) in
      ready b L B plain i (get_or challenges i []) h (wide i no_table h)
      (ap length (ap (λ (l : List (List E)). get_or l i []) drawn ∙ get_or-tabulate (table_count b) own i [] h) ∙ challenges_count b.setting b.prover b.statement b.traces b.degree_bits B w i h)
