-- One table more of a batch: it can be asked for, and what is made of it comes after what is made of the tables before it.
use Rattle.std.proofs.Common.{◌≡◌, ℕ, ◌+◌, ◌*◌, ◌^◌, ◌<◌, ◌≤◌, List, [], ◌∷◌, ◌++◌, length, get_or, Option, sym, ◌∙◌, ap, subst, arith}
use Rattle.std.specs.Int.{IsPowerOfTwo}
use Rattle.std.specs.Prelude.{option_map, option_to_list}
use Rattle.std.proofs.Math.Pow.{pow_mono}
use Rattle.std.proofs.lemmas.List.{get_or-map, length-map}
use Rattle.std.proofs.lemmas.Nat.{pow_pos}
use Rattle.p3_field.specs.Domain.{CosetData, subgroup}
use Rattle.p3_matrix.specs.Matrix.{Rows, height}
use Rattle.air_core.specs.Shape.{Declaration}
use Rattle.air_core.specs.Tree.{Tree}
use Rattle.p3_lookup.specs.declared.terminal.LookupTerminal.{LookupTerminal}
use Rattle.p3_lookup.specs.Written.{Written, read, read_all}
use Rattle.batch_config.specs.Setting.{Setting}
use Rattle.batch_setup.specs.Laws.Logarithms.{log_of_power}
use Rattle.batch_setup.specs.Setup.{Instance, log_of}
use Rattle.batch_statement.specs.Statement.{WrittenCommon}
use Rattle.law_valid.specs.Traced.{TracedTable, log_rows}
use Rattle.law_honest.specs.HonestProof.{Prover, argument_of_table}
use Rattle.prover_answer.specs.Batch.{Batch, batch_of, table_at}
use Rattle.prover_answer.specs.declared.error.ProvingError.{ProvingError}
use Rattle.prover_commits.specs.Instances.{instance_table}
use Rattle.prover_commits.specs.Laws.Instances.{table_is}
use Rattle.prover_commits.specs.Columns.{AreFlattened, ArePermutationsMade, AreReady, FractionsOf, IsPermutationMade, IsReadyForColumns, IsZeroAt, NoneMade}
use Rattle.prover_commits.proofs.Made.{made_flattened}
use Rattle.prover_commits.proofs.Whole.{made_more, zero_of_table}

module _ {S F E C A : Type 0} (c : Setting S F E C) (p : Prover F E C) (declaration : A → Declaration F) (trees : A → List (Tree F)) (instances : List (Instance A F)) (common : WrittenCommon F C) (challenges : List (List E)) (place : ℕ)
    (ready : AreReady (batch_of c p declaration trees instances common) challenges (length instances)) (within : place < length instances) (long : length common.lookups ≡ length instances)
    (x : Instance A F) (lookups none : List (Written F)) (own : List E) (x_is : x ≡ get_or instances place x) (lookups_are : lookups ≡ get_or common.lookups place none) (own_is : own ≡ get_or challenges place []) where
  abbrev b : Batch S F E C
  b = batch_of c p declaration trees instances common

  abbrev t : TracedTable F
  t = instance_table c declaration trees x (read_all lookups)

  same : table_at b place ≡ t
  same = table_is c p declaration trees instances common place x (read_all lookups) within x_is (ap read_all lookups_are ∙ sym (get_or-map read_all common.lookups place none [] (omega (arith, within, long))))

  -- the table can be asked for
  pub one_ready : IsReadyForColumns c t own
  one_ready = subst (λ (u : TracedTable F). IsReadyForColumns c u own) same (subst (λ (l : List E). IsReadyForColumns c (table_at b place) l) (sym own_is) (ready place within))

  pub some_row : 0 < height x.trace
  some_row = let e = one_ready.rows in let h : 0 < 2 ^ log_rows c t = pow_pos (log_rows c t) in omega (arith, e, h)

  pub two_challenges : length own ≡ 2 * length lookups
  two_challenges = one_ready.challenges_long ∙ ap (λ n. 2 * n) (length-map lookups read)

  -- there is a domain of its rows
  pub power : (n : ℕ) → n ≡ height x.trace → IsPowerOfTwo n
  power n e = (log_rows c t, e ∙ one_ready.rows)

  pub fits : (n : ℕ) → n ≡ height x.trace → n ≤ 2 ^ c.two_adicity
  fits n e = subst (λ k. k ≤ 2 ^ c.two_adicity) (sym (e ∙ (one_ready.rows ∙ ap (λ k. 2 ^ k) one_ready.unmasked))) (pow_mono one_ready.fits)

  -- what is made of it comes after
  pub added : (columns more : List (CosetData F × Rows F)) (terminals later : List (Option (LookupTerminal E))) (matrix : Option (Rows F)) (terminal : Option (LookupTerminal E)) (n : ℕ) → n ≡ height x.trace → ArePermutationsMade b challenges place columns terminals
      → AreFlattened c.extension (argument_of_table c p t own) (height x.trace) matrix terminal
      → more ≡ columns ++ option_to_list (option_map (λ m. (subgroup c.field.ring (log_of n), m)) matrix) → later ≡ terminals ++ terminal ∷ [] → ArePermutationsMade b challenges (place + 1) more later
  added columns more terminals later matrix terminal n e made flat pushed ended =
      let d = subgroup c.field.ring (log_of n) in
      let on : d ≡ subgroup c.field.ring t.degree_bits = ap (subgroup c.field.ring) (log_of_power n t.degree_bits (e ∙ (one_ready.rows ∙ ap (λ k. 2 ^ k) one_ready.unmasked))) in
      let one = made_flattened c p t own one_ready d on matrix terminal flat in
      made_more b challenges place columns more terminals later (option_map (λ m. (d, m)) matrix) terminal made
      (subst (λ (u : TracedTable F). IsPermutationMade c p u (get_or challenges place []) (option_map (λ m. (d, m)) matrix, terminal)) (sym same)
      (subst (λ (l : List E). IsPermutationMade c p t l (option_map (λ m. (d, m)) matrix, terminal)) own_is one))
      pushed ended

  -- or its zero denominator is the first
  pub refused : {R : Type 0} (e : ProvingError R) → ((i : ℕ) → i < place → FractionsOf b challenges i) → IsZeroAt (argument_of_table c p t own) (height x.trace) place e → NoneMade b challenges (length instances) e
  refused e before z =
      zero_of_table b challenges (length instances) place e within before
      (subst (λ (u : TracedTable F). IsZeroAt (argument_of_table c p u (get_or challenges place [])) (height u.trace) place e) (sym same)
      (subst (λ (l : List E). IsZeroAt (argument_of_table c p t l) (height t.trace) place e) own_is z))
