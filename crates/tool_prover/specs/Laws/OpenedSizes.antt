-- What an honest proof opens of a small table is within the limits of a proof's text.
use Rattle.std.proofs.Common.{◌≡◌, ℕ, zero, suc, ◌+◌, ◌*◌, ◌^◌, ◌≤◌, List, [], ◌∷◌, length, map, Option, None, Some, ap, arith}
use Rattle.std.specs.Prelude.{option_map}
use Rattle.std.proofs.lemmas.List.{length-map}
use Rattle.p3_field.specs.Laws.Tabulate.{length-tabulate}
use Rattle.p3_field.specs.Poly.{tabulate, eval_poly_in}
use Rattle.p3_field.specs.declared.quartic.QuarticExtension.{QuarticExtension}
use Rattle.p3_matrix.specs.Matrix.{Rows}
use Rattle.air_core.specs.Shape.{width_of}
use Rattle.tool_lines.specs.Texts.{ListWithin, OptionWithin}
use Rattle.tool_proof_text.specs.Openings.{InstanceWithin, PreprocessedWithin, ValuesWithin}
use Rattle.plain_pcs.specs.Laws.OpenedCommitments.{power_within}
use Rattle.batch_config.specs.Domains.{next_by}
use Rattle.batch_config.specs.Setting.{Setting, masks}
use Rattle.verifier_shape.specs.ShapeChecks.{permutation_width}
use Rattle.law_valid.specs.Traced.{TracedTable, constraints, declared, log_parts, quotient_shift}
use Rattle.law_valid.specs.Valid.{HasQuotientDomain, IsTraced}
use Rattle.law_committed.specs.Committed.{CommittedTable, columns_at, trace_domain}
use Rattle.law_committed.specs.Fields.{FieldsLaws}
use Rattle.law_committed.specs.Quotient.{honest_chunk}
use Rattle.law_committed.specs.Rows.{InterpolateSome}
use Rattle.law_committed.specs.Laws.Degrees.{all_images, all_tabulate}
use Rattle.law_honest.specs.HonestProof.{Prover, committed_table, opened_of, where_some}
use Rattle.law_acceptance.specs.Laws.Lengths.{honest_commits, permutation_count}

-- a list of values, of which there are few
values_within : (xs : List QuarticExtension) → length xs ≤ 65536 → ValuesWithin xs
values_within xs h = ((omega arith, h), λ i d l. tt)

next_within : (ns : List ℕ) (xs : List QuarticExtension) → length xs ≤ 65536 → OptionWithin ValuesWithin (where_some ns xs)
next_within [] xs h = tt
next_within (n ∷ ns) xs h = values_within xs h

-- as many values as columns
pub at_columns : {F E : Type 0} (g : List F → E) (columns : List (List F)) (n : ℕ) → length columns ≤ n → length (map g columns) ≤ n
at_columns g columns n h = omega (arith, length-map columns g, h)

few_permuted : (n d : ℕ) → n ≤ 1 → d ≤ 4 → permutation_width n d ≤ 8
few_permuted zero d a b = omega arith
few_permuted (suc n) d a b = (let none : n ≡ 0 = omega (arith, a) in let two : (suc n + 1) * d ≡ 2 * d = ap (λ m. (suc m + 1) * d) none in omega (arith, two, b))

module _ {S F C : Type 0} (c : Setting S F QuarticExtension C) (p : Prover F QuarticExtension C) (t : TracedTable F) (challenges : List QuarticExtension)
    (L : FieldsLaws c.field c.extension c.two_adicity p.inverse) (Q : HasQuotientDomain c t) (T : IsTraced c t) (dimension : c.extension.dimension ≤ 4)
    (columns : (declared t).width ≤ 9168) (prepared : width_of (declared t).preprocessed ≤ 1) (lookups : length t.lookups ≤ 1) (parts : log_parts c t ≤ 1) where
  abbrev k : CommittedTable F QuarticExtension
  k = committed_table c p t challenges

  pub main_few : length k.main ≤ 9168
  main_few = let n = (honest_commits c p t challenges L Q T).main.count in let w = T.width in omega (arith, n, w, columns)

  pub permutation_few : length k.permutation ≤ 8
  permutation_few = let n = permutation_count c p t challenges L Q T in let m = few_permuted (length t.lookups) c.extension.dimension lookups dimension in omega (arith, n, m)

  by_trace : (m : Option (Rows F)) → width_of m ≤ 1 → InterpolateSome c.field (trace_domain c.field c.extension k) m k.preprocessed → (ns : List ℕ) (x y : QuarticExtension)
      → OptionWithin PreprocessedWithin (option_map (λ m. record { local = columns_at c.field c.extension k k.preprocessed x; next = where_some ns (columns_at c.field c.extension k k.preprocessed y) }) m)
  by_trace None few I ns x y = tt
  by_trace (Some m) few I ns x y =
      let few_there : length k.preprocessed ≤ 65536 = let n = I.count in omega (arith, n, few) in
      record {
        local = values_within (columns_at c.field c.extension k k.preprocessed x) (at_columns _ k.preprocessed 65536 few_there);
        next = next_within ns (columns_at c.field c.extension k k.preprocessed y) (at_columns _ k.preprocessed 65536 few_there);
      }

  module _ (alpha zeta : QuarticExtension) where
    abbrev after : QuarticExtension
    after = next_by c.extension.ring c.extension.embed c.field.root (masks c) zeta t.degree_bits

    few_values : (polys : List (List F)) (x : QuarticExtension) → length polys ≤ 9168 → length (columns_at c.field c.extension k polys x) ≤ 65536
    few_values polys x h = let n = at_columns (λ (g : List F). eval_poly_in c.extension g x) polys 9168 h in omega (arith, n)

    chunks_within : ListWithin 0 1024 ValuesWithin (opened_of c p t challenges alpha zeta).base.quotient_chunks
    unfolding opened_of honest_chunk
    chunks_within =
        let u = honest_chunk c.field c.extension k (quotient_shift c) (log_parts c t) (constraints c t) alpha in
        let values = λ (gs : List (List F)). map (λ (g : List F). eval_poly_in c.extension g zeta) gs in
        let two : 2 ^ log_parts c t ≤ 2 ^ 1 = power_within (log_parts c t) 1 parts in
        let long = length-tabulate (2 ^ log_parts c t) u in
        let many = length-map (tabulate (2 ^ log_parts c t) u) values in (
          (omega arith, omega (arith, two, long, many)),
          all_images (λ (gs : List (List F)). length gs ≤ 8) ValuesWithin values (λ gs h. values_within (values gs) (few_values gs zeta (omega (arith, h)))) (tabulate (2 ^ log_parts c t) u)
              (all_tabulate (λ (gs : List (List F)). length gs ≤ 8) (2 ^ log_parts c t) u (λ j. (let n : length (u j) ≡ c.extension.dimension = length-tabulate c.extension.dimension _ in omega (arith, n, dimension)))),
        )

    pub opened_within : InstanceWithin (opened_of c p t challenges alpha zeta)
    unfolding opened_of
    opened_within =
        let permuted : length k.permutation ≤ 9168 = let m = permutation_few in omega (arith, m) in
        record {
          base = record {
            trace_local = values_within _ (few_values k.main zeta main_few);
            trace_next = next_within (declared t).main_next _ (few_values k.main after main_few);
            preprocessed = by_trace (declared t).preprocessed prepared (honest_commits c p t challenges L Q T).preprocessed (declared t).preprocessed_next zeta after;
            quotient_chunks = chunks_within;
            random = tt;
          };
          permutation_local = values_within _ (few_values k.permutation zeta permuted);
          permutation_next = values_within _ (few_values k.permutation after permuted);
        }
