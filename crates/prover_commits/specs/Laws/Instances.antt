-- The instances of a traced batch, one by one: each is a table of the batch, whose rows are as many as its degree bits say.
use Rattle.std.proofs.Common.{◌≡◌, ℕ, zero, suc, ◌+◌, ◌-◌, ◌^◌, ◌<◌, ◌≤◌, List, [], ◌∷◌, length, get_or, map, refl, sym, ◌∙◌, ap, subst, arith}
use Rattle.std.specs.Int.{IsPowerOfTwo}
use Rattle.std.specs.Prelude.{All}
use Rattle.std.proofs.Math.Pow.{pow_mono}
use Rattle.std.proofs.lemmas.List.{get_or-map, get_or_default, length-map}
use Rattle.p3_field.specs.Domain.{CosetData, subgroup}
use Rattle.p3_field.specs.Laws.SubgroupSelectors.{map_tabulate}
use Rattle.p3_field.specs.Poly.{tabulate}
use Rattle.p3_matrix.specs.Matrix.{Rows, height}
use Rattle.air_core.specs.Shape.{Declaration}
use Rattle.air_core.specs.Tree.{Tree}
use Rattle.p3_lookup.specs.Lookup.{LookupData}
use Rattle.p3_lookup.specs.Written.{read_all}
use Rattle.batch_config.specs.Setting.{Setting, masks}
use Rattle.batch_setup.specs.Setup.{ArePowers, Instance, airs_of, log_of}
use Rattle.verifier_shape.specs.ShapeChecks.{heights_of}
use Rattle.batch_statement.specs.Words.{no_table}
use Rattle.batch_statement.specs.Statement.{AirTable, WrittenCommon}
use Rattle.law_valid.specs.Traced.{TracedTable, log_rows, no_rows}
use Rattle.law_honest.specs.HonestProof.{Prover}
use Rattle.prover_answer.specs.Batch.{Batch, IsTracedAll, batch_of, main_matrices, table_at, table_count}
use Rattle.prover_commits.specs.Instances.{instance_table}

-- a list that is mapped is the table of what its items give
map_is_tabulate : {X Y : Type 0} (f : X → Y) (g : ℕ → Y) (xs : List X) → ((i : ℕ) (x : X) → i < length xs → x ≡ get_or xs i x → f x ≡ g i) → map f xs ≡ tabulate (length xs) g
map_is_tabulate f g [] h = refl
map_is_tabulate f g (x ∷ xs) h = λ k. h zero x (omega arith) refl k ∷ map_is_tabulate f (λ i. g (suc i)) xs (λ i y l e. h (suc i) y (omega (arith, l)) e) k

-- the image of an item
image_at : {X Y : Type 0} (f : X → Y) (xs : List X) (i : ℕ) (x : X) (z : Y) → i < length xs → x ≡ get_or xs i x → get_or (map f xs) i z ≡ f x
image_at f xs i x z h e = get_or-map f xs i x z h ∙ ap f (sym e)

module _ {S F E C A : Type 0} (c : Setting S F E C) (p : Prover F E C) (declaration : A → Declaration F) (trees : A → List (Tree F)) (instances : List (Instance A F)) (common : WrittenCommon F C) where
  abbrev batch : Batch S F E C
  batch = batch_of c p declaration trees instances common

  abbrev table_of_air : A → AirTable F
  table_of_air a = record { declaration = declaration a; trees = trees a }

  -- there are as many tables
  pub counted : table_count batch ≡ length instances
  counted = length-map (airs_of instances) table_of_air ∙ length-map instances (λ i. i.air)

  -- table i is that of instance i, with the lookups at its place
  pub table_is : (i : ℕ) (x : Instance A F) (ls : List (LookupData F)) → i < length instances → x ≡ get_or instances i x → ls ≡ get_or (map read_all common.lookups) i [] → table_at batch i ≡ instance_table c declaration trees x ls
  table_is i x ls h e q =
      let within : i < length (airs_of instances) = let n = length-map instances (λ (y : Instance A F). y.air) in omega (arith, h, n) in
      let own : get_or (map table_of_air (airs_of instances)) i no_table ≡ table_of_air x.air =
      image_at table_of_air (airs_of instances) i x.air no_table within (sym (image_at (λ (y : Instance A F). y.air) instances i x x.air h e)) in
      let publics : get_or (map (λ (y : Instance A F). y.public_values) instances) i [] ≡ x.public_values = image_at (λ (y : Instance A F). y.public_values) instances i x [] h e in
      let trace : get_or (map (λ (y : Instance A F). y.trace) instances) i no_rows ≡ x.trace = image_at (λ (y : Instance A F). y.trace) instances i x no_rows h e in
      let bits = image_at (λ (y : Instance A F). log_of (height y.trace) + masks c) instances i x 0 h e in
      λ k. record { table = own k; lookups = sym q k; publics = publics k; trace = trace k; degree_bits = bits k }

  module _ (B : IsTracedAll batch) where
    -- its trace has the rows that its degree bits say
    pub rows_are : (i : ℕ) (x : Instance A F) → i < length instances → x ≡ get_or instances i x → height x.trace ≡ 2 ^ log_rows c (table_at batch i)
    rows_are i x h e =
        ap (λ (t : TracedTable F). height t.trace) (sym (table_is i x (get_or (map read_all common.lookups) i []) h e refl))
        ∙ (B.traced i (let n = counted in omega (arith, h, n))).rows.tall

    -- the heights are those of the degree bits
    pub heights_are : map (λ i. height i.trace) instances ≡ heights_of (masks c) batch.degree_bits (table_count batch)
    heights_are =
        map_is_tabulate (λ (i : Instance A F). height i.trace) (λ i. 2 ^ (get_or batch.degree_bits i 0 - masks c)) instances rows_are
        ∙ ap (λ n. heights_of (masks c) batch.degree_bits n) (sym counted)

    -- powers of two, for which there are subgroups
    at_item : (P : Instance A F → Type 0) → ((i : ℕ) (x : Instance A F) → i < length instances → x ≡ get_or instances i x → P x) → All P instances
    at_item P h i d l = h i (get_or instances i d) l (get_or_default instances i d (get_or instances i d) l)

    pub powers : ArePowers instances
    powers = at_item (λ i. IsPowerOfTwo (height i.trace)) (λ i x l e. (log_rows c (table_at batch i), rows_are i x l e))

    pub fit : All (λ i. height i.trace ≤ 2 ^ c.two_adicity) instances
    fit =
        at_item (λ i. height i.trace ≤ 2 ^ c.two_adicity) (λ i x l e.
        let Q = B.domains i (let n = counted in omega (arith, l, n)) in
        let small = Q.fits in
        let low : log_rows c (table_at batch i) ≤ c.two_adicity = omega (arith, small) in
        subst (λ n. n ≤ 2 ^ c.two_adicity) (sym (rows_are i x l e)) (pow_mono low))

    -- where nothing is masked, each trace on the subgroup with a point for each of its rows is what is committed
    pub matrices_are : masks c ≡ 0 → map (λ i. (subgroup c.field.ring (log_of (height i.trace)), i.trace)) instances ≡ main_matrices batch
    matrices_are plain =
        let r = c.field.ring in
        let of_table : TracedTable F → CosetData F × Rows F = λ t. (subgroup r t.degree_bits, t.trace) in
        map_is_tabulate (λ (i : Instance A F). (subgroup r (log_of (height i.trace)), i.trace)) (λ i. of_table (table_at batch i)) instances (λ i x l e.
        let unmasked : log_of (height x.trace) ≡ log_of (height x.trace) + masks c = omega (arith, plain) in
        (λ k. (subgroup r (unmasked k), x.trace))
        ∙ ap of_table (sym (table_is i x (get_or (map read_all common.lookups) i []) l e refl)))
        ∙ (ap (λ n. tabulate n (λ i. of_table (table_at batch i))) (sym counted) ∙ sym (map_tabulate of_table (table_count batch) (table_at batch)))
