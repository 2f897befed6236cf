-- The fold of what is read at a point, over the vanishing polynomial's value there, is the quotient's value.
use Rattle.std.proofs.Common.{◌≡◌, ℕ, ◌+◌, ◌-◌, ◌%◌, ◌^◌, ◌<◌, ◌≤◌, List, length, get_or, map, refl, sym, ◌∙◌, ap, subst, arith}
use Rattle.std.specs.Prelude.{IfSome}
use Rattle.std.specs.List.{All}
use Rattle.std.specs.Option.{option_map}
use Rattle.std.proofs.lemmas.Nat.{pow_pos, mod_below}
use Rattle.p3_field.specs.Field.{TwoAdic, Extension}
use Rattle.p3_field.specs.Poly.{eval_poly, eval_poly_in, tabulate}
use Rattle.p3_field.specs.Domain.{CosetData, point, vanishing_polynomial, first_selector, last_selector, transition_selector}
use Rattle.p3_field.specs.Laws.Tabulate.{get_or-tabulate, tabulate_same}
use Rattle.p3_matrix.specs.Matrix.{Rows, height}
use Rattle.air_core.specs.CellValues.{reading_at}
use Rattle.air_core.specs.Tree.{Tree, eval_tree}
use Rattle.commit_core.specs.Periodic.{IsPeriod, IsPeriodicTable}
use Rattle.p3_uni_stark.specs.Fold.{fold}
use Rattle.law_committed.specs.Committed.{CommittedTable, columns_at, next_point, periodic_poly, permutation_at, row_count_of, trace_domain, committed_values_at}
use Rattle.law_committed.specs.Fields.{FieldsLaws}
use Rattle.law_committed.specs.Quotient.{quotient_value}
use Rattle.law_committed.specs.Rows.{flattened_matrix}
use Rattle.prover_values.specs.Evaluations.{Evaluations, IsReadOn, quotient_values_on}
use Rattle.prover_values.specs.QuotientRows.{QuotientRows, quotient_cells_at, quotient_term}
use Rattle.prover_values.specs.Laws.Reads.{columns_read, periodic_read, selector_read, some_permutation_read, some_read}
use Rattle.prover_values.specs.Laws.Repeating.{point_far, vanishing_repeats}

-- the rows as evaluations: with flattened permutation columns, and whole periodic columns
abbrev pub evaluations_of : {F E : Type 0} → Extension F E → QuotientRows F E → List (List F) → Evaluations F E
evaluations_of e q periodic = record {
  main = q.main;
  preprocessed = q.preprocessed;
  permutation = option_map (flattened_matrix e) q.permutation;
  public_values = q.public_values;
  periodic = periodic;
  challenges = q.challenges;
  terminals = q.terminals;
}

-- the rows fit the domain d of a table and the larger domain u: there is a row for each point of u, the periodic columns are those
-- that fit d, and the selectors are d's
pub record HaveQuotientRows {F E : Type 0} (f : TwoAdic F) (e : Extension F E) (d u : CosetData F) (q : QuotientRows F E) (periods : Rows F) (columns : List (List F)) : Type 0 where
  pub main : height q.main ≡ 2 ^ u.log_size
  pub preprocessed : IfSome q.preprocessed (λ r. height r ≡ 2 ^ u.log_size)
  pub permutation : IfSome (option_map (flattened_matrix e) q.permutation) (λ r. height r ≡ 2 ^ u.log_size)
  pub fit : All (λ c. IsPeriod (2 ^ d.log_size) (length c)) columns
  pub periodic : IsPeriodicTable f.ring (2 ^ d.log_size) (point f.ring f.root d) (2 ^ u.log_size) (point f.ring f.root u) columns periods
  pub first : q.first_row ≡ tabulate (2 ^ u.log_size) (λ i. eval_poly f.ring (first_selector f.ring f.inv d) (point f.ring f.root u i))
  pub last : q.last_row ≡ tabulate (2 ^ u.log_size) (λ i. eval_poly f.ring (last_selector f.ring f.inv f.root d) (point f.ring f.root u i))
  pub transition : q.transition ≡ tabulate (2 ^ u.log_size) (λ i. eval_poly f.ring (transition_selector f.ring f.inv f.root d) (point f.ring f.root u i))

module _ {F E : Type 0} (f : TwoAdic F) (e : Extension F E) (top : ℕ) (inverse : E → E) (L : FieldsLaws f e top inverse) (t : CommittedTable F E) (u : CosetData F) (c : ℕ)
    (size : u.log_size ≡ t.log_height + c) (fits : u.log_size ≤ top) where
  low : t.log_height ≤ top
  low = omega (arith, size, fits)

  module _ (q : QuotientRows F E) (periods : Rows F) (periodic : List (List F)) (R : IsReadOn f t u (evaluations_of e q periodic)) (H : HaveQuotientRows f e (trace_domain f e t) u q periods periodic) (i : ℕ) (b : i < 2 ^ u.log_size) where
    abbrev next : ℕ
    next = (i + 2 ^ c) % 2 ^ u.log_size

    below : next < 2 ^ u.log_size
    below = mod_below (i + 2 ^ c) (2 ^ u.log_size) (pow_pos u.log_size)

    next_is : e.embed (point f.ring f.root u next) ≡ next_point f e t (e.embed (point f.ring f.root u i))
    next_is = ap e.embed (sym (point_far f.ring L.below top f.root L.roots u t.log_height c size fits i)) ∙ L.embeds.keeps_mul (f.root t.log_height) (point f.ring f.root u i)

    -- what is read at a point are the table's values there
    pub cells_are : quotient_cells_at f.ring.zero e.ring.zero e.embed q periods i next ≡ committed_values_at f e t (e.embed (point f.ring f.root u i))
    cells_are =
        let n = 2 ^ u.log_size in
        let p = point f.ring f.root u in
        let d = trace_domain f e t in
        let main = columns_read f e top inverse L n p t q.main (row_count_of t) t.main R.main H.main in
        let preprocessed = some_read f e top inverse L n p t q.preprocessed (row_count_of t) t.preprocessed R.preprocessed H.preprocessed in
        let permutation = some_permutation_read f e top inverse L n p t q.permutation (row_count_of t) R.permutation H.permutation in
        let selected = selector_read f e top inverse L n p in
        λ j. record {
          main_local = main i b j;
          main_next = (main next below ∙ ap (columns_at f e t t.main) next_is) j;
          preprocessed_local = preprocessed i b j;
          preprocessed_next = (preprocessed next below ∙ ap (columns_at f e t t.preprocessed) next_is) j;
          periodic = (periodic_read f e top inverse L n p t low periodic periods H.periodic H.fit i b ∙ ap (map (λ l. eval_poly_in e (periodic_poly f e t l) (e.embed (p i)))) (sym R.periodic)) j;
          public_values = map e.embed (sym R.public_values j);
          first_row = selected (first_selector f.ring f.inv d) q.first_row H.first i b j;
          last_row = selected (last_selector f.ring f.inv f.root d) q.last_row H.last i b j;
          transition = selected (transition_selector f.ring f.inv f.root d) q.transition H.transition i b j;
          permutation_local = permutation i b j;
          permutation_next = (permutation next below ∙ ap (permutation_at f e t) next_is) j;
          challenges = sym R.challenges j;
          terminals = sym R.terminals j;
        }

    -- and the fold over the vanishing polynomial's value is the quotient's value
    pub term_is : (trees : List (Tree F)) (inverses : List F) (shift : F) (k : ℕ) (alpha : E)
        → inverses ≡ tabulate (2 ^ c) (λ j. f.inv (eval_poly f.ring (vanishing_polynomial f.ring f.inv (trace_domain f e t)) (point f.ring f.root u j)))
        → quotient_term f.ring.zero e.ring e.embed q periods trees inverses (2 ^ c) (2 ^ u.log_size) alpha i ≡ quotient_value f e t shift k trees alpha (point f.ring f.root u i)
    unfolding quotient_value
    term_is trees inverses shift k alpha are =
        let V : ℕ → F = λ j. eval_poly f.ring (vanishing_polynomial f.ring f.inv (trace_domain f e t)) (point f.ring f.root u j) in
        let place : i % 2 ^ c < 2 ^ c = mod_below i (2 ^ c) (pow_pos c) in
        let turned : get_or inverses (i % 2 ^ c) f.ring.zero ≡ f.inv (V i) =
        ap (λ l. get_or l (i % 2 ^ c) f.ring.zero) are ∙ (get_or-tabulate (2 ^ c) (λ j. f.inv (V j)) (i % 2 ^ c) f.ring.zero place ∙ ap f.inv (vanishing_repeats f.ring L.below top f.root L.roots u t.log_height c size fits f.inv L.below_field (trace_domain f e t) L.below_field.one_differs refl i)) in
        λ j. e.ring.mul (fold e.ring alpha (map (eval_tree (reading_at e.ring e.embed (cells_are j))) trees)) (e.embed (turned j))

-- So a list of these is that of the quotient's values on the domain, where the numbers are as a program has them.
pub terms_are : {F E : Type 0} (f : TwoAdic F) (e : Extension F E) (top : ℕ) (inverse : E → E) → FieldsLaws f e top inverse → (t : CommittedTable F E) (d u : CosetData F) → u.log_size ≤ top
    → d.shift ≡ f.ring.one → t.log_height ≡ d.log_size → d.log_size ≤ u.log_size
    → (q : QuotientRows F E) (periods : Rows F) (periodic : List (List F)) → IsReadOn f t u (evaluations_of e q periodic) → HaveQuotientRows f e d u q periods periodic
    → (trees : List (Tree F)) (inverses : List F) (alpha : E) → inverses ≡ tabulate (2 ^ (u.log_size - d.log_size)) (λ j. f.inv (eval_poly f.ring (vanishing_polynomial f.ring f.inv d) (point f.ring f.root u j)))
    → (values : List E) (count step rows : ℕ) → count ≡ 2 ^ u.log_size → step ≡ 2 ^ (u.log_size - d.log_size) → rows ≡ 2 ^ u.log_size
    → values ≡ tabulate count (quotient_term f.ring.zero e.ring e.embed q periods trees inverses step rows alpha)
    → values ≡ quotient_values_on f e t trees alpha u
terms_are {F} {E} f e top inverse L t d u fits one tall larger q periods periodic R H trees inverses alpha inverted values count step rows counted stepped all is =
    let n = 2 ^ u.log_size in
    let c = u.log_size - d.log_size in
    let same : d ≡ trace_domain f e t = (λ j. record { shift = one j; log_size = sym tall j }) in
    let size : u.log_size ≡ t.log_height + c = omega (arith, tall, larger) in
    let term : ℕ → ℕ → ℕ → E = λ k m i. quotient_term f.ring.zero e.ring e.embed q periods trees inverses k m alpha i in
    let here : tabulate count (term step rows) ≡ tabulate n (term (2 ^ c) n) = (λ j. tabulate (counted j) (term (stepped j) (all j))) in
    let V : CosetData F → List F = λ z. tabulate (2 ^ c) (λ j. f.inv (eval_poly f.ring (vanishing_polynomial f.ring f.inv z) (point f.ring f.root u j))) in
    is ∙ (here
    ∙ tabulate_same n (term (2 ^ c) n) (λ i. quotient_value f e t u.shift (u.log_size - t.log_height) trees alpha (point f.ring f.root u i))
    (λ i b. term_is f e top inverse L t u c size fits q periods periodic R (subst (λ (z : CosetData F). HaveQuotientRows f e z u q periods periodic) same H) i b trees inverses u.shift (u.log_size - t.log_height) alpha
    (inverted ∙ ap V same)))
