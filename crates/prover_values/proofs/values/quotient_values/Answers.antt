use Rattle.std.proofs.Common.{◌≡◌, ℕ, ◌+◌, ◌*◌, ◌^◌, List, Option, IfOk, IfSome, length, sym, ◌∙◌, ap, subst}
use Rattle.std.specs.Option.{option_map}
use Rattle.std.proofs.lemmas.Nat.{pow_pos}
use Rattle.p3_field.specs.Ring.{Ring}
use Rattle.p3_field.specs.Field.{TwoAdic, Extension}
use Rattle.p3_field.specs.Laws.Tabulate.{first_coset_point}
use Rattle.p3_matrix.specs.Matrix.{Rows, height}
use Rattle.air_core.specs.Shape.{width_of}
use Rattle.commit_core.specs.Periodic.{IsPeriodicTable}
use Rattle.p3_lookup.specs.Written.{read_all}
use Rattle.batch_constraints.specs.BatchTrees.{table_trees}
use Rattle.law_committed.specs.Committed.{CommittedTable}
use Rattle.law_committed.specs.Rows.{flattened_matrix}
use Rattle.prover_values.specs.Evaluations.{IsReadOn, quotient_values_on}
use Rattle.prover_values.specs.QuotientRows.{permutation_column_count}
use Rattle.prover_values.proofs.Recombined.{of_reference, in_front, periods_along, points_fewer, some_wide, unflattened_tall, unflattened_wide}
use Rattle.prover_values.proofs.values.quotient_values.Goals as goal

-- a table over the same points and columns
table_along : {A : Type 0} (r : Ring A) (n m n2 m2 : ℕ) (p q p2 q2 : ℕ → A) (cs cs2 : List (List A)) (T : Rows A) → n ≡ n2 → m ≡ m2 → ((i : ℕ) → p i ≡ p2 i) → ((i : ℕ) → q i ≡ q2 i) → cs ≡ cs2
    → IsPeriodicTable r n p m q cs T → IsPeriodicTable r n2 p2 m2 q2 cs2 T
table_along {A} r n m n2 m2 p q p2 q2 cs cs2 T en em ep eq ec I =
    let fp : p ≡ p2 = (λ j i. ep i j) in
    let fq : q ≡ q2 = (λ j i. eq i j) in
    subst (λ (c : List (List A)). IsPeriodicTable r n2 p2 m2 q2 c T) ec
    (subst (λ (z : ℕ → A). IsPeriodicTable r n2 p2 m2 z cs T) fq
    (subst (λ (z : ℕ → A). IsPeriodicTable r n2 z m2 q cs T) fp
    (subst (λ (z : ℕ). IsPeriodicTable r n2 p z q cs T) em
    (subst (λ (z : ℕ). IsPeriodicTable r z p m q cs T) en I))))

pub build_periodic_lde_table-requires-clause-fit : goal.build_periodic_lde_table-requires-clause-fit
build_periodic_lde_table-requires-clause-fit g c =
    periods_along (λ v. v.items) c.periodic_columns.result.now (g.A.BaseAir.declaration c.args.air.now).periodic _ (2 ^ c.args.trace_domain.log_size)
    (g.met.SC.Pcs.CosetPcs.coset_points c.args.trace_domain) c.periodic_columns.ensures c.requires.periods

pub build_periodic_lde_table-requires-clause-shift : goal.build_periodic_lde_table-requires-clause-shift
build_periodic_lde_table-requires-clause-shift g c =
    g.met.SC.Pcs.CosetPcs.coset_point c.args.trace_domain 0
    ∙ (first_coset_point g.SC.Val.RingCore.ring g.met.SC.Val.RingCore.ring_laws c.args.trace_domain.shift (g.SC.Val.TwoAdicCore.root c.args.trace_domain.log_size) ∙ c.requires.shift)

pub build_periodic_lde_table-requires-clause-larger : goal.build_periodic_lde_table-requires-clause-larger
build_periodic_lde_table-requires-clause-larger g c =
    points_fewer c.args.trace_domain.log_size c.args.quotient_domain.log_size _ _ c.requires.larger
    (g.met.SC.Pcs.CosetPcs.coset_points c.args.trace_domain) (g.met.SC.Pcs.CosetPcs.coset_points c.args.quotient_domain)

pub recombined_columns-requires : goal.recombined_columns-requires
recombined_columns-requires g c =
    let flat = c.args.opt_permutation_on_quotient_domain in
    let D = g.SC.Challenge.BasedVectorSpace.DIMENSION in
    let N = 2 ^ c.args.quotient_domain.log_size in
    of_reference (λ r. r.width ≡ (length c.args.lookups.now + 1) * D) flat
    (some_wide (option_map (λ m. m.now) flat) (length c.args.lookups.now) D N (pow_pos c.args.quotient_domain.log_size) (in_front (λ r. height r ≡ N) flat c.requires.permutation_height) c.requires.permutation_width)

pub quotient_on-requires-clause-permutation_width : goal.quotient_on-requires-clause-permutation_width
quotient_on-requires-clause-permutation_width g c =
    let e : Extension g.row.SC-Val.Denot g.row.SC-Challenge.Denot = record { ring = g.SC.Challenge.RingCore.ring; embed = g.SC.Challenge.ExtensionField.embed; dimension = g.SC.Challenge.BasedVectorSpace.DIMENSION; basis = g.SC.Challenge.ExtensionField.basis; coefficients = g.SC.Challenge.BasedVectorSpace.coefficients; from_coefficients = g.SC.Challenge.BasedVectorSpace.from_coefficients } in
    let V = g.met.SC.Challenge.BasedVectorSpace.vector_laws in
    let flat = c.args.opt_permutation_on_quotient_domain in
    let p = c.in_ok-permutation.permutation in
    let N = 2 ^ c.args.quotient_domain.log_size in
    let lent : option_map (λ m. m.now) c.as_ref.result ≡ p = c.as_ref.ensures.value in
    let n = permutation_column_count (length c.args.lookups.now) in
    ap width_of lent ∙ unflattened_wide e V p n (ap width_of (sym c.in_ok-permutation.ensures) ∙ c.requires.permutation_width)

pub quotient_on-requires-clause-permutation_height : goal.quotient_on-requires-clause-permutation_height
quotient_on-requires-clause-permutation_height g c =
    let e : Extension g.row.SC-Val.Denot g.row.SC-Challenge.Denot = record { ring = g.SC.Challenge.RingCore.ring; embed = g.SC.Challenge.ExtensionField.embed; dimension = g.SC.Challenge.BasedVectorSpace.DIMENSION; basis = g.SC.Challenge.ExtensionField.basis; coefficients = g.SC.Challenge.BasedVectorSpace.coefficients; from_coefficients = g.SC.Challenge.BasedVectorSpace.from_coefficients } in
    let V = g.met.SC.Challenge.BasedVectorSpace.vector_laws in
    let flat = c.args.opt_permutation_on_quotient_domain in
    let p = c.in_ok-permutation.permutation in
    let N = 2 ^ c.args.quotient_domain.log_size in
    let lent : option_map (λ m. m.now) c.as_ref.result ≡ p = c.as_ref.ensures.value in
    let tall = subst (λ (o : Option (Rows g.row.SC-Val.Denot)). IfSome o (λ r. height r ≡ N)) c.in_ok-permutation.ensures (in_front (λ r. height r ≡ N) flat c.requires.permutation_height) in
    of_reference (λ r. height r ≡ N) c.as_ref.result (subst (λ (o : Option (Rows g.row.SC-Challenge.Denot)). IfSome o (λ r. height r ≡ N)) (sym lent) (unflattened_tall e V p N tall))

pub quotient_on-requires-clause-periodic : goal.quotient_on-requires-clause-periodic
quotient_on-requires-clause-periodic g c =
    table_along g.SC.Val.RingCore.ring _ _ _ _ _ _ _ _ _ _ _ (g.met.SC.Pcs.CosetPcs.coset_points c.args.trace_domain) (g.met.SC.Pcs.CosetPcs.coset_points c.args.quotient_domain)
    (g.met.SC.Pcs.CosetPcs.coset_point c.args.trace_domain) (g.met.SC.Pcs.CosetPcs.coset_point c.args.quotient_domain) c.periodic_columns.ensures c.in_ok-periodic.ensures

pub returns : goal.returns
returns g c =
    let f : TwoAdic g.row.SC-Val.Denot = record { ring = g.SC.Val.RingCore.ring; inv = g.SC.Val.FieldCore.inv; root = g.SC.Val.TwoAdicCore.root; generator = g.SC.Val.FieldCore.GENERATOR } in
    let e : Extension g.row.SC-Val.Denot g.row.SC-Challenge.Denot = record { ring = g.SC.Challenge.RingCore.ring; embed = g.SC.Challenge.ExtensionField.embed; dimension = g.SC.Challenge.BasedVectorSpace.DIMENSION; basis = g.SC.Challenge.ExtensionField.basis; coefficients = g.SC.Challenge.BasedVectorSpace.coefficients; from_coefficients = g.SC.Challenge.BasedVectorSpace.from_coefficients } in
    let V = g.met.SC.Challenge.BasedVectorSpace.vector_laws in
    let flat = c.args.opt_permutation_on_quotient_domain in
    let p = c.in_ok-permutation.permutation in
    let N = 2 ^ c.args.quotient_domain.log_size in
    let lent : option_map (λ m. m.now) c.as_ref.result ≡ p = c.as_ref.ensures.value in
    let trees = table_trees g.SC.Val.RingCore.ring (g.A.Air.trees c.args.air.now) (read_all c.args.lookups.now) in
    let same : option_map (flattened_matrix e) (option_map (λ m. m.now) c.as_ref.result) ≡ option_map (λ m. m.now) flat = ap (option_map (flattened_matrix e)) lent ∙ sym c.in_ok-permutation.ensures in
    subst (λ (o : Option (Rows g.row.SC-Val.Denot)). IfOk c.quotient_on.result (λ v. (t : CommittedTable g.row.SC-Val.Denot g.row.SC-Challenge.Denot) → t.log_height ≡ c.args.trace_domain.log_size
    → IsReadOn f t c.args.quotient_domain (record {
      main = c.args.trace_on_quotient_domain.now;
      preprocessed = option_map (λ m. m.now) c.args.preprocessed_on_quotient_domain;
      permutation = o;
      public_values = c.args.public_values.now;
      periodic = (g.A.BaseAir.declaration c.args.air.now).periodic;
      challenges = c.args.permutation_challenges.now;
      terminals = c.args.permutation_vals.now;
    })
    → v.items ≡ quotient_values_on f e t trees c.args.alpha c.args.quotient_domain)) same c.quotient_on.ensures
