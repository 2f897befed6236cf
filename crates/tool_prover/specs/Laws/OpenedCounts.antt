-- How many numbers there are, at most, in what an honest proof opens of a small table.
use Rattle.std.proofs.Common.{◌≡◌, ℕ, ◌+◌, ◌*◌, ◌^◌, ◌≤◌, List, [], ◌∷◌, ◌++◌, length, map, Option, None, Some, arith, length-append}
use Rattle.std.specs.Prelude.{option_map}
use Rattle.std.proofs.lemmas.List.{length-map}
use Rattle.p3_field.specs.Laws.Tabulate.{length-tabulate}
use Rattle.p3_field.specs.Poly.{tabulate, eval_poly_in}
use Rattle.p3_field.specs.declared.quartic.QuarticExtension.{QuarticExtension}
use Rattle.p3_matrix.specs.Matrix.{Rows}
use Rattle.air_core.specs.Shape.{width_of}
use Rattle.p3_uni_stark.specs.Opened.{OpenedData, PreprocessedData}
use Rattle.tool_lines.specs.Texts.{extension_numbers, list_numbers, option_numbers}
use Rattle.tool_proof_text.specs.Openings.{instance_numbers, opened_numbers, preprocessed_numbers, values_numbers}
use Rattle.plain_pcs.specs.Laws.OpenedCommitments.{power_within}
use Rattle.batch_config.specs.Domains.{next_by}
use Rattle.batch_config.specs.Setting.{Setting, masks}
use Rattle.batch_statement.specs.Proof.{OpenedWithLookups}
use Rattle.law_valid.specs.Traced.{TracedTable, constraints, declared, log_parts, quotient_shift}
use Rattle.law_valid.specs.Valid.{HasQuotientDomain, IsTraced}
use Rattle.law_committed.specs.Committed.{CommittedTable, columns_at, trace_domain}
use Rattle.law_committed.specs.Fields.{FieldsLaws}
use Rattle.law_committed.specs.Quotient.{honest_chunk}
use Rattle.law_committed.specs.Rows.{InterpolateSome}
use Rattle.law_committed.specs.Laws.Degrees.{all_images, all_tabulate}
use Rattle.law_honest.specs.HonestProof.{Prover, committed_table, opened_of, where_some}
use Rattle.law_acceptance.specs.Laws.Lengths.{honest_commits}
use Rattle.tool_prover.specs.Laws.Lengths.{list_few}
use Rattle.tool_prover.specs.Laws.OpenedSizes.{at_columns, main_few, permutation_few}

-- a list of at most n values, each of four numbers
values_few : (n : ℕ) (xs : List QuarticExtension) → length xs ≤ n → length (values_numbers xs) ≤ n * 4 + 1
values_few n xs h = list_few extension_numbers 4 n xs h (λ i d l. omega arith)

next_few : (n : ℕ) (ns : List ℕ) (xs : List QuarticExtension) → length xs ≤ n → length (option_numbers values_numbers (where_some ns xs)) ≤ n * 4 + 2
next_few n [] xs h = omega arith
next_few n (k ∷ ns) xs h = let v = values_few n xs h in omega (arith, v)

-- the parts of what is opened, put together
prepared_sum : (p : PreprocessedData QuarticExtension) → length (values_numbers p.local) ≤ 5 → length (option_numbers values_numbers p.next) ≤ 6 → length (preprocessed_numbers p) ≤ 11
prepared_sum p a b = omega (arith, a, b, length-append (values_numbers p.local) (option_numbers values_numbers p.next))

opened_sum : (o : OpenedData QuarticExtension) → length (values_numbers o.trace_local) ≤ 36673 → length (option_numbers values_numbers o.trace_next) ≤ 36674
    → length (option_numbers preprocessed_numbers o.preprocessed) ≤ 12 → length (list_numbers values_numbers o.quotient_chunks) ≤ 67 → length (option_numbers values_numbers o.random) ≤ 1
    → length (opened_numbers o) ≤ 73427
opened_sum o a b c d e =
    let local = values_numbers o.trace_local in
    let next = option_numbers values_numbers o.trace_next in
    let prepared = option_numbers preprocessed_numbers o.preprocessed in
    let chunks = list_numbers values_numbers o.quotient_chunks in
    let random = option_numbers values_numbers o.random in
    omega (
      arith,
      a,
      b,
      c,
      d,
      e,
      length-append local next,
      length-append (local ++ next) prepared,
      length-append (local ++ next ++ prepared) chunks,
      length-append (local ++ next ++ prepared ++ chunks) random,
    )

instance_sum : (o : OpenedWithLookups QuarticExtension) → length (opened_numbers o.base) ≤ 73427 → length (values_numbers o.permutation_local) ≤ 33
    → length (values_numbers o.permutation_next) ≤ 33 → length (instance_numbers o) ≤ 74000
instance_sum o a b c =
    let local = values_numbers o.permutation_local in
    let next = values_numbers o.permutation_next in
    omega (arith, a, b, c, length-append (opened_numbers o.base) local, length-append (opened_numbers o.base ++ local) next)

module _ {S F C : Type 0} (c : Setting S F QuarticExtension C) (p : Prover F QuarticExtension C) (t : TracedTable F) (challenges : List QuarticExtension)
    (L : FieldsLaws c.field c.extension c.two_adicity p.inverse) (Q : HasQuotientDomain c t) (T : IsTraced c t) (dimension : c.extension.dimension ≤ 4)
    (columns : (declared t).width ≤ 9168) (prepared : width_of (declared t).preprocessed ≤ 1) (lookups : length t.lookups ≤ 1) (parts : log_parts c t ≤ 1) where
  abbrev k : CommittedTable F QuarticExtension
  k = committed_table c p t challenges

  by_trace : (m : Option (Rows F)) → width_of m ≤ 1 → InterpolateSome c.field (trace_domain c.field c.extension k) m k.preprocessed → (ns : List ℕ) (x y : QuarticExtension)
      → length (option_numbers preprocessed_numbers (option_map (λ m. record { local = columns_at c.field c.extension k k.preprocessed x; next = where_some ns (columns_at c.field c.extension k k.preprocessed y) }) m)) ≤ 12
  by_trace None few I ns x y = omega arith
  by_trace (Some m) few I ns x y =
      let there : length k.preprocessed ≤ 1 = let n = I.count in omega (arith, n, few) in
      let local = columns_at c.field c.extension k k.preprocessed x in
      let next = where_some ns (columns_at c.field c.extension k k.preprocessed y) in
      let sum = prepared_sum (record { local = local; next = next }) (values_few 1 local (at_columns _ k.preprocessed 1 there)) (next_few 1 ns (columns_at c.field c.extension k k.preprocessed y) (at_columns _ k.preprocessed 1 there)) in
      omega (arith, sum)

  module _ (alpha zeta : QuarticExtension) where
    abbrev after : QuarticExtension
    after = next_by c.extension.ring c.extension.embed c.field.root (masks c) zeta t.degree_bits

    few_values : (n : ℕ) (polys : List (List F)) (x : QuarticExtension) → length polys ≤ n → length (columns_at c.field c.extension k polys x) ≤ n
    few_values n polys x h = at_columns (λ (g : List F). eval_poly_in c.extension g x) polys n h

    chunks_few : length (list_numbers values_numbers (opened_of c p t challenges alpha zeta).base.quotient_chunks) ≤ 67
    unfolding opened_of honest_chunk
    chunks_few =
        let u = honest_chunk c.field c.extension k (quotient_shift c) (log_parts c t) (constraints c t) alpha in
        let values = λ (gs : List (List F)). map (λ (g : List F). eval_poly_in c.extension g zeta) gs in
        let two : 2 ^ log_parts c t ≤ 2 ^ 1 = power_within (log_parts c t) 1 parts in
        let long = length-tabulate (2 ^ log_parts c t) u in
        let many = length-map (tabulate (2 ^ log_parts c t) u) values in
        list_few values_numbers 33 2 (map values (tabulate (2 ^ log_parts c t) u)) (omega (arith, two, long, many))
        (all_images (λ (gs : List (List F)). length gs ≤ 8) (λ xs. length (values_numbers xs) ≤ 33) values (λ gs h. values_few 8 (values gs) (few_values 8 gs zeta h)) (tabulate (2 ^ log_parts c t) u)
        (all_tabulate (λ (gs : List (List F)). length gs ≤ 8) (2 ^ log_parts c t) u (λ j. (let n : length (u j) ≡ c.extension.dimension = length-tabulate c.extension.dimension _ in omega (arith, n, dimension)))))

    pub opened_few : length (instance_numbers (opened_of c p t challenges alpha zeta)) ≤ 74000
    unfolding opened_of
    opened_few =
        let o = opened_of c p t challenges alpha zeta in
        let wide = main_few c p t challenges L Q T dimension columns prepared lookups parts in
        let narrow = permutation_few c p t challenges L Q T dimension columns prepared lookups parts in
        instance_sum o
        (opened_sum o.base (values_few 9168 _ (few_values 9168 k.main zeta wide)) (next_few 9168 (declared t).main_next _ (few_values 9168 k.main after wide))
        (by_trace (declared t).preprocessed prepared (honest_commits c p t challenges L Q T).preprocessed (declared t).preprocessed_next zeta after) chunks_few (omega arith))
        (values_few 8 _ (few_values 8 k.permutation zeta narrow)) (values_few 8 _ (few_values 8 k.permutation after narrow))
