use Rattle.std.proofs.Common.{◌≡◌, ◌+◌, ◌-◌, ◌%◌, ◌^◌, ◌<◌, List, [], length, get_or, map, sym, ◌∙◌, ap, subst, arith}
use Rattle.std.specs.Option.{option_map}
use Rattle.std.proofs.lemmas.List.{get_or_default}
use Rattle.std.proofs.lemmas.Nat.{mod_below, pow_pos}
use Rattle.p3_field.specs.Field.{TwoAdic, Extension}
use Rattle.p3_field.specs.Laws.Tabulate.{length-tabulate, tabulate_push}
use Rattle.p3_field.specs.Laws.TwoAdic.{decide_by}
use Rattle.p3_matrix.specs.Matrix.{height}
use Rattle.air_core.specs.CellValues.{CellValues, reading_at}
use Rattle.air_core.specs.Layout.{place_count}
use Rattle.air_core.specs.Shape.{Fits, declared_shape}
use Rattle.air_core.specs.Tree.{eval_tree}
use Rattle.p3_lookup.specs.Trees.{lookup_trees}
use Rattle.p3_lookup.specs.Written.{read_all}
use Rattle.p3_uni_stark.specs.Fold.{fold, fold_powers}
use Rattle.batch_constraints.specs.BatchTrees.{table_trees}
use Rattle.law_committed.specs.Fields.{FieldsLaws}
use Rattle.prover_folder.specs.FolderState.{GivenWithLookups, given_cells, given_shape}
use Rattle.prover_values.specs.QuotientRows.{QuotientRows, given_at, quotient_term}
use Rattle.prover_values.specs.Laws.QuotientValues.{HaveQuotientRows, terms_are}
use Rattle.prover_values.proofs.QuotientSteps.{further_fits, flattened_tall, if_some_mapped, total_is, within}
use Rattle.prover_values.proofs.RowFits.{columns_fit, row_fits}
use Rattle.prover_values.proofs.quotient.quotient_on.Goals as goal

pub overflow_add-row : goal.overflow_add-row
overflow_add-row g c =
    let h = further_fits c.loop-row.row c.expansion-step.result c.size-size.result c.args.quotient_domain.log_size (c.args.quotient_domain.log_size - c.args.trace_domain.log_size) g.F.TwoAdicCore.TWO_ADICITY
    c.size-size.ensures c.expansion-step.ensures c.valid.ensures.1 (omega arith) g.met.F.TwoAdicCore.below_64 c.loop-row-test.true in
    omega (arith, h)

pub folder_at-folder-requires-clause-first : goal.folder_at-folder-requires-clause-first
folder_at-folder-requires-clause-first g c = within _ _ _ _ _ c.in_ok-selectors.ensures.first c.size-size.ensures c.loop-row-test.true

pub folder_at-folder-requires-clause-last : goal.folder_at-folder-requires-clause-last
folder_at-folder-requires-clause-last g c = within _ _ _ _ _ c.in_ok-selectors.ensures.last c.size-size.ensures c.loop-row-test.true

pub folder_at-folder-requires-clause-transition : goal.folder_at-folder-requires-clause-transition
folder_at-folder-requires-clause-transition g c = within _ _ _ _ _ c.in_ok-selectors.ensures.transition c.size-size.ensures c.loop-row-test.true

pub prover_fold_with_lookups-folded-requires-clause-declared : goal.prover_fold_with_lookups-folded-requires-clause-declared
prover_fold_with_lookups-folded-requires-clause-declared g c =
    let q : QuotientRows g.row.F.Denot g.row.E.Denot = record {
      main = c.args.main.now;
      preprocessed = option_map (λ m. m.now) c.args.preprocessed;
      permutation = option_map (λ m. m.now) c.args.permutation;
      public_values = c.args.public_values.now;
      challenges = c.args.challenges.now;
      terminals = c.args.terminals.now;
      first_row = c.in_ok-selectors.selectors.is_first_row.items;
      last_row = c.in_ok-selectors.selectors.is_last_row.items;
      transition = c.in_ok-selectors.selectors.is_transition.items;
    } in
    let d = g.A.BaseAir.declaration c.args.air.now in
    let z = g.F.RingCore.ring.zero in
    let N = 2 ^ c.args.quotient_domain.log_size in
    let row = c.loop-row.row in
    let next = (row + c.expansion-step.result) % c.size-size.result in
    let low : row < N = omega (arith, c.loop-row-test.true, c.size-size.ensures) in
    let inside : next < c.size-size.result = mod_below (row + c.expansion-step.result) c.size-size.result (omega (arith, c.loop-row-test.true)) in
    let after : next < N = omega (arith, inside, c.size-size.ensures) in
    let preprocessed = if_some_mapped (λ m. m.now) (λ r. height r ≡ N) c.args.preprocessed c.requires.preprocessed_height in
    let permutation = if_some_mapped (λ m. m.now) (λ r. height r ≡ N) c.args.permutation c.requires.permutation_height in
    let periods = ap length (c.deref.ensures.value ∙ c.in_ok-read_periodic.ensures) ∙ (length-tabulate c.args.periodic.now.width _ ∙ c.requires.periodic.width_is) in
    let P : GivenWithLookups g.row.F.Denot g.row.E.Denot → Type 0 = λ w. Fits (declared_shape d) (given_shape w) in
    subst P (sym c.folder_at-folder.ensures.given)
    (row_fits d z q c.deref.result.now c.deref-in-loop-row.result.now N row next low after (g.met.A.BaseAir.next_below c.args.air.now) (g.met.A.BaseAir.preprocessed_next_below c.args.air.now)
    c.requires.height c.requires.width preprocessed c.requires.preprocessed_width periods c.requires.public)

pub prover_fold_with_lookups-folded-requires-clause-columns : goal.prover_fold_with_lookups-folded-requires-clause-columns
prover_fold_with_lookups-folded-requires-clause-columns g c = λ some.
    let q : QuotientRows g.row.F.Denot g.row.E.Denot = record {
      main = c.args.main.now;
      preprocessed = option_map (λ m. m.now) c.args.preprocessed;
      permutation = option_map (λ m. m.now) c.args.permutation;
      public_values = c.args.public_values.now;
      challenges = c.args.challenges.now;
      terminals = c.args.terminals.now;
      first_row = c.in_ok-selectors.selectors.is_first_row.items;
      last_row = c.in_ok-selectors.selectors.is_last_row.items;
      transition = c.in_ok-selectors.selectors.is_transition.items;
    } in
    let d = g.A.BaseAir.declaration c.args.air.now in
    let z = g.F.RingCore.ring.zero in
    let N = 2 ^ c.args.quotient_domain.log_size in
    let row = c.loop-row.row in
    let next = (row + c.expansion-step.result) % c.size-size.result in
    let low : row < N = omega (arith, c.loop-row-test.true, c.size-size.ensures) in
    let inside : next < c.size-size.result = mod_below (row + c.expansion-step.result) c.size-size.result (omega (arith, c.loop-row-test.true)) in
    let after : next < N = omega (arith, inside, c.size-size.ensures) in
    let preprocessed = if_some_mapped (λ m. m.now) (λ r. height r ≡ N) c.args.preprocessed c.requires.preprocessed_height in
    let permutation = if_some_mapped (λ m. m.now) (λ r. height r ≡ N) c.args.permutation c.requires.permutation_height in
    let P : GivenWithLookups g.row.F.Denot g.row.E.Denot → Type 0 = λ w. length c.args.lookups.now < (given_shape w).permutation in
    subst P (sym c.folder_at-folder.ensures.given)
    (columns_fit d z q c.deref.result.now c.deref-in-loop-row.result.now N row next low after (length c.args.lookups.now) permutation c.requires.permutation_width some)

pub index-requires : goal.index-requires
index-requires g c =
    let inside : c.loop-row.row % c.expansion-step.result < c.expansion-step.result = mod_below c.loop-row.row c.expansion-step.result (omega (arith, c.expansion-step.ensures, pow_pos (c.args.quotient_domain.log_size - c.args.trace_domain.log_size))) in
    let h = within _ _ _ _ _ c.in_ok-selectors.ensures.inverse c.expansion-step.ensures inside in
    search (arith, h)

pub mul-requires : goal.mul-requires
mul-requires g c = g.met.E.PrimeCharacteristicRing.may_mul _ _

pub loop-row-preserved : goal.loop-row-preserved
loop-row-preserved g c =
    let s = g.E.RingCore.ring in
    let z = g.F.RingCore.ring.zero in
    let embed = g.E.ExtensionField.embed in
    let own = g.A.Air.trees c.args.air.now in
    let others = lookup_trees g.F.RingCore.ring (read_all c.args.lookups.now) in
    let trees = table_trees g.F.RingCore.ring own (read_all c.args.lookups.now) in
    let alpha = c.args.alpha in
    let T = c.args.periodic.now in
    let row = c.loop-row.row in
    let step = c.expansion-step.result in
    let size = c.size-size.result in
    let next = (row + step) % size in
    let inverses = c.in_ok-selectors.selectors.inv_vanishing.items in
    let q : QuotientRows g.row.F.Denot g.row.E.Denot = record {
      main = c.args.main.now;
      preprocessed = option_map (λ m. m.now) c.args.preprocessed;
      permutation = option_map (λ m. m.now) c.args.permutation;
      public_values = c.args.public_values.now;
      challenges = c.args.challenges.now;
      terminals = c.args.terminals.now;
      first_row = c.in_ok-selectors.selectors.is_first_row.items;
      last_row = c.in_ok-selectors.selectors.is_last_row.items;
      transition = c.in_ok-selectors.selectors.is_transition.items;
    } in
    let t = quotient_term z s embed q T trees inverses step size alpha in
    let given = c.folder_at-folder.ensures.given in
    let read = c.deref.ensures.value ∙ c.in_ok-read_periodic.ensures in
    let count : c.total_constraints.result ≡ length trees = c.total_constraints.ensures ∙ (ap place_count c.in_ok-constraints.ensures ∙ total_is own others) in
    let powers = ap (λ (w : GivenWithLookups g.row.F.Denot g.row.E.Denot). w.plain.powers) given ∙ (c.deref-in-loop-row.ensures.value ∙ (c.in_ok-alpha_powers.ensures ∙ ap (fold_powers s alpha) count)) in
    let cells = ap (given_cells s.zero embed) given ∙ ap (λ (p : List g.row.F.Denot). given_cells s.zero embed (given_at z q p [] row next)) read in
    let folded = c.prover_fold_with_lookups-folded.ensures.fold alpha powers ∙ ap (λ (v : CellValues g.row.E.Denot). fold s alpha (map (eval_tree (reading_at s embed v)) trees)) cells in
    let place : row % step < step = mod_below row step (omega (arith, c.expansion-step.ensures, pow_pos (c.args.quotient_domain.log_size - c.args.trace_domain.log_size))) in
    let inside : row % step < length inverses = within _ _ _ _ _ c.in_ok-selectors.ensures.inverse c.expansion-step.ensures place in
    let item : c.index.result.now ≡ get_or inverses (row % step) z = c.index.ensures ∙ get_or_default inverses (row % step) c.index.result.now z inside in
    let value : c.mul.result ≡ t row = g.met.E.PrimeCharacteristicRing.muls _ _ _ c.mul.ensures ∙ (λ j. s.mul (folded j) ((c.from_base.ensures ∙ ap embed item) j)) in
    c.in_ok-push.ensures.items ∙ tabulate_push row t _ _ c.loop-row.invariant value

pub returns : goal.returns
returns g c = λ t low R.
    let f : TwoAdic g.row.F.Denot = record { ring = g.F.RingCore.ring; inv = g.F.FieldCore.inv; root = g.F.TwoAdicCore.root; generator = g.F.FieldCore.GENERATOR } in
    let e : Extension g.row.F.Denot g.row.E.Denot = record { ring = g.E.RingCore.ring; embed = g.E.ExtensionField.embed; dimension = g.E.BasedVectorSpace.DIMENSION; basis = g.E.ExtensionField.basis; coefficients = g.E.BasedVectorSpace.coefficients; from_coefficients = g.E.BasedVectorSpace.from_coefficients } in
    let L : FieldsLaws f e g.F.TwoAdicCore.TWO_ADICITY g.E.FieldCore.inv = record {
      below = g.met.F.RingCore.ring_laws;
      below_field = g.met.F.FieldCore.field_laws;
      below_decided = decide_by _ g.met.F.FieldCore.eq_same g.met.F.FieldCore.same_eq;
      roots = g.met.F.TwoAdicCore.root_laws;
      above = g.met.E.RingCore.ring_laws;
      above_field = g.met.E.FieldCore.field_laws;
      above_decided = decide_by _ g.met.E.FieldCore.eq_same g.met.E.FieldCore.same_eq;
      embeds = g.met.E.ExtensionField.embed_laws;
      vector = g.met.E.BasedVectorSpace.vector_laws;
      spans = g.met.E.ExtensionField.basis_laws;
    } in
    let d = c.args.trace_domain in
    let u = c.args.quotient_domain in
    let N = 2 ^ u.log_size in
    let columns = (g.A.BaseAir.declaration c.args.air.now).periodic in
    let q : QuotientRows g.row.F.Denot g.row.E.Denot = record {
      main = c.args.main.now;
      preprocessed = option_map (λ m. m.now) c.args.preprocessed;
      permutation = option_map (λ m. m.now) c.args.permutation;
      public_values = c.args.public_values.now;
      challenges = c.args.challenges.now;
      terminals = c.args.terminals.now;
      first_row = c.in_ok-selectors.selectors.is_first_row.items;
      last_row = c.in_ok-selectors.selectors.is_last_row.items;
      transition = c.in_ok-selectors.selectors.is_transition.items;
    } in
    let rows = if_some_mapped (λ m. m.now) (λ r. height r ≡ N) c.args.permutation c.requires.permutation_height in
    let H : HaveQuotientRows f e d u q c.args.periodic.now columns = record {
      main = c.requires.height;
      preprocessed = if_some_mapped (λ m. m.now) (λ r. height r ≡ N) c.args.preprocessed c.requires.preprocessed_height;
      permutation = flattened_tall e L.vector q.permutation N rows;
      fit = c.requires.periods;
      periodic = c.requires.periodic;
      first = c.in_ok-selectors.ensures.first;
      last = c.in_ok-selectors.ensures.last;
      transition = c.in_ok-selectors.ensures.transition;
    } in
    let all : c.loop-row.row ≡ c.size-size.result = omega arith in
    terms_are f e g.F.TwoAdicCore.TWO_ADICITY g.E.FieldCore.inv L t d u c.valid.ensures.1 c.requires.shift low c.requires.larger q c.args.periodic.now columns R H
    (table_trees g.F.RingCore.ring (g.A.Air.trees c.args.air.now) (read_all c.args.lookups.now)) c.in_ok-selectors.selectors.inv_vanishing.items c.args.alpha c.in_ok-selectors.ensures.inverse
    c.loop-row.values.items c.loop-row.row c.expansion-step.result c.size-size.result (all ∙ c.size-size.ensures) c.expansion-step.ensures c.size-size.ensures c.loop-row.invariant
