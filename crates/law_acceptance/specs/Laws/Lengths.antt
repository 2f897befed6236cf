-- What an honest proof opens of a table has the lengths that a verifier asks for.
use Rattle.std.proofs.Common.{◌≡◌, ℕ, zero, suc, ◌*◌, ◌^◌, ◌<◌, false, cond, List, [], ◌∷◌, ◌++◌, length, map, Option, None, Some, refl, sym, ◌∙◌, ap, arith}
use Rattle.std.specs.Prelude.{option_map, option_to_list}
use Rattle.std.proofs.lemmas.Bool.{false≢true}
use Rattle.std.proofs.lemmas.List.{length-map}
use Rattle.p3_field.specs.Checks.{NoneFails}
use Rattle.p3_field.specs.Laws.Checks.{none_append}
use Rattle.p3_field.specs.Laws.Tabulate.{length-tabulate}
use Rattle.p3_field.specs.Poly.{tabulate, eval_poly_in}
use Rattle.p3_matrix.specs.Matrix.{Rows}
use Rattle.air_core.specs.Shape.{HasColumns, width_of}
use Rattle.batch_config.specs.Domains.{next_by}
use Rattle.batch_config.specs.Setting.{Setting, masks}
use Rattle.verifier_shape.specs.ShapeChecks.{chunk_checks, is_some, lookup_checks, main_checks, next_check, next_length, permutation_width, preprocessed_checks, table_checks}
use Rattle.batch_statement.specs.Words.{has_some, is_there}
use Rattle.batch_statement.specs.Proof.{OpenedWithLookups}
use Rattle.law_committed.specs.Committed.{CommittedTable, columns_at, trace_domain}
use Rattle.law_committed.specs.Fields.{FieldsLaws}
use Rattle.law_committed.specs.Quotient.{honest_chunk}
use Rattle.law_committed.specs.Rows.{CommitsTo, InterpolateSome}
use Rattle.law_committed.specs.Laws.Degrees.{all_images, all_tabulate}
use Rattle.law_valid.specs.Traced.{TracedTable, constraints, declared, log_parts, quotient_shift, traces_of}
use Rattle.law_valid.specs.Valid.{HasQuotientDomain, IsTraced}
use Rattle.law_valid.specs.Laws.Holding.{commits_beside}
use Rattle.law_honest.specs.HonestProof.{Prover, columns_for, committed_table, opened_of, permutation_columns, honest_terminal, where_some}
use Rattle.law_honest.specs.Laws.Generated.{permutation_tall}

-- the next row is there where next columns are declared
next_pass : {E : Type 0} (R : Type 0) (i width : ℕ) (ns : List ℕ) (xs : List E) → length xs ≡ width → (next_check {R = R} i width ns (where_some ns xs)).holds
next_pass R i width [] xs e = refl
next_pass R i width (n ∷ ns) xs e = ap Some e

-- as many values as columns
columns_long : {F E : Type 0} (n : ℕ) (g : List F → E) (columns : List (List F)) → length columns ≡ n → length (map g columns) ≡ n
columns_long n g columns e = length-map columns g ∙ e

-- the preprocessed rows, where there are preprocessed columns
next_long : {E : Type 0} (n : ℕ) (ns : List ℕ) (xs : List E) → length xs ≡ n → next_length (where_some ns xs) ≡ cond (has_some ns) n 0
next_long n [] xs e = refl
next_long n (k ∷ ns) xs e = e

next_absent : {E : Type 0} (ns : List ℕ) (xs : List E) → has_some ns ≡ false → is_there (where_some ns xs) ≡ false
next_absent [] xs h = refl
next_absent (k ∷ ns) xs h = absurd (false≢true (sym h))

preprocessed_pass : {E : Type 0} (R : Type 0) (i width : ℕ) (ns : List ℕ) (local next : List E) → 0 < width → length local ≡ width → length next ≡ width
    → NoneFails (preprocessed_checks {R = R} i width ns (Some (record { local = local; next = where_some ns next })))
unfolding NoneFails
preprocessed_pass R i zero ns local next pos a b = absurd (omega (arith, pos))
preprocessed_pass R i (suc n) ns local next pos a b = ((a, next_long (suc n) ns next b), (next_absent ns next, tt))

-- both permutation rows, and the terminal
permutation_long : (n d : ℕ) (c : ℕ) → c ≡ n → permutation_width n d ≡ permutation_width c d
permutation_long n d c e = ap (λ m. permutation_width m d) (sym e)

terminal_there : {A E : Type 0} (ls : List A) (x : E) → is_there (where_some ls x) ≡ is_some (length ls)
terminal_there [] x = refl
terminal_there (l ∷ ls) x = refl

module _ {S F E C : Type 0} (c : Setting S F E C) (p : Prover F E C) (t : TracedTable F) (challenges : List E)
    (L : FieldsLaws c.field c.extension c.two_adicity p.inverse) (Q : HasQuotientDomain c t) (T : IsTraced c t) where
  -- the table commits to the traces and the permutation columns
  pub honest_commits : CommitsTo c.field c.extension (committed_table c p t challenges) (traces_of t) (permutation_columns c p t challenges)
  unfolding committed_table
  honest_commits = commits_beside c p.inverse L t Q (permutation_columns c p t challenges) challenges (option_to_list (honest_terminal c p t challenges)) T (permutation_tall c p t challenges)

  abbrev k : CommittedTable F E
  k = committed_table c p t challenges

  main_long : length k.main ≡ (declared t).width
  main_long = honest_commits.main.count ∙ T.width

  -- as many flattened columns as coefficients of the permutation columns
  columns_wide : (n : ℕ) → (columns_for c p t challenges n).width * c.extension.dimension ≡ permutation_width n c.extension.dimension
  columns_wide zero = omega arith
  columns_wide (suc n) = refl

  pub permutation_count : length k.permutation ≡ permutation_width (length t.lookups) c.extension.dimension
  unfolding permutation_columns
  permutation_count = honest_commits.permutation.count ∙ columns_wide (length t.lookups)

  module _ (has_columns : HasColumns (declared t).preprocessed) (alpha zeta : E) where
    abbrev o : OpenedWithLookups E
    o = opened_of c p t challenges alpha zeta

    main_pass : (R : Type 0) (i : ℕ) → NoneFails (main_checks {R = R} i (declared t) (length t.publics) o.base)
    unfolding NoneFails opened_of
    main_pass R i =
        let e = c.extension in
        let after = next_by e.ring e.embed c.field.root (masks c) zeta t.degree_bits in (
          T.publics,
          (
            columns_long (declared t).width (λ g. eval_poly_in e g zeta) k.main main_long,
            (next_pass R i (declared t).width (declared t).main_next (columns_at c.field e k k.main after) (columns_long (declared t).width (λ g. eval_poly_in e g after) k.main main_long), tt),
          ),
        )

    chunk_pass : (R : Type 0) (i : ℕ) → NoneFails (chunk_checks {R = R} i (2 ^ log_parts c t) c.extension.dimension o.base)
    unfolding NoneFails opened_of honest_chunk
    chunk_pass R i =
        let e = c.extension in
        let u = honest_chunk c.field e k (quotient_shift c) (log_parts c t) (constraints c t) alpha in
        let values = λ (gs : List (List F)). map (λ (g : List F). eval_poly_in e g zeta) gs in (
          length-map (tabulate (2 ^ log_parts c t) u) values ∙ length-tabulate (2 ^ log_parts c t) u,
          (
            all_images (λ (gs : List (List F)). length gs ≡ e.dimension) (λ (ys : List E). length ys ≡ e.dimension) values (λ gs h. columns_long e.dimension (λ (g : List F). eval_poly_in e g zeta) gs h)
                (tabulate (2 ^ log_parts c t) u) (all_tabulate (λ (gs : List (List F)). length gs ≡ e.dimension) (2 ^ log_parts c t) u (λ j. length-tabulate e.dimension _)),
            (tt, tt),
          ),
        )

    by_trace : (R : Type 0) (i : ℕ) (m : Option (Rows F)) → HasColumns m → InterpolateSome c.field (trace_domain c.field c.extension k) m k.preprocessed → (x y : E)
        → NoneFails (preprocessed_checks {R = R} i (width_of m) (declared t).preprocessed_next
        (option_map (λ m. record { local = columns_at c.field c.extension k k.preprocessed x; next = where_some (declared t).preprocessed_next (columns_at c.field c.extension k k.preprocessed y) }) m))
    unfolding NoneFails
    by_trace R i None h I x y = (refl, tt)
    by_trace R i (Some m) h I x y =
        preprocessed_pass R i m.width (declared t).preprocessed_next (columns_at c.field c.extension k k.preprocessed x) (columns_at c.field c.extension k k.preprocessed y) h
        (columns_long m.width (λ g. eval_poly_in c.extension g x) k.preprocessed I.count) (columns_long m.width (λ g. eval_poly_in c.extension g y) k.preprocessed I.count)

    preprocessed_of_pass : (R : Type 0) (i : ℕ) → NoneFails (preprocessed_checks {R = R} i (width_of (declared t).preprocessed) (declared t).preprocessed_next o.base.preprocessed)
    unfolding opened_of
    preprocessed_of_pass R i =
        by_trace R i (declared t).preprocessed has_columns honest_commits.preprocessed zeta (next_by c.extension.ring c.extension.embed c.field.root (masks c) zeta t.degree_bits)

    lookup_pass : (R : Type 0) (i : ℕ) → NoneFails (lookup_checks {R = R} i (length t.lookups) c.extension.dimension o (is_there (honest_terminal c p t challenges)))
    unfolding NoneFails opened_of honest_terminal
    lookup_pass R i =
        let e = c.extension in
        let after = next_by e.ring e.embed c.field.root (masks c) zeta t.degree_bits in
        let w = permutation_width (length t.lookups) e.dimension in (
          (columns_long w (λ g. eval_poly_in e g zeta) k.permutation permutation_count, columns_long w (λ g. eval_poly_in e g after) k.permutation permutation_count),
          (terminal_there t.lookups _, tt),
        )

    -- so no check of what is opened of the table fails
    pub table_pass : (R : Type 0) (i : ℕ)
        → NoneFails (table_checks {R = R} i (declared t) (length t.publics) (2 ^ log_parts c t) c.extension.dimension (length t.lookups) o (is_there (honest_terminal c p t challenges)))
    unfolding table_checks
    table_pass R i =
        let d = declared t in
        let a = main_checks {R = R} i d (length t.publics) o.base in
        let b = chunk_checks {R = R} i (2 ^ log_parts c t) c.extension.dimension o.base in
        let q = preprocessed_checks {R = R} i (width_of d.preprocessed) d.preprocessed_next o.base.preprocessed in
        let l = lookup_checks {R = R} i (length t.lookups) c.extension.dimension o (is_there (honest_terminal c p t challenges)) in
        none_append (a ++ b ++ q) l (none_append (a ++ b) q (none_append a b (main_pass R i) (chunk_pass R i)) (preprocessed_of_pass R i)) (lookup_pass R i)
