use Rattle.std.proofs.Common.{◌≡◌, ℕ, ◌+◌, ◌-◌, ◌^◌, ◌≤◌, ◌∙◌, List, length, map, get_or, inr, subst, sym, ap, arith}
use Rattle.std.specs.Prelude.{All}
use Rattle.std.proofs.lemmas.List.{length-map}
use Rattle.std.proofs.lemmas.List.Elements.{All-map}
use Rattle.p3_field.specs.Ring.{pow}
use Rattle.p3_field.specs.Domain.{CosetData, point}
use Rattle.p3_field.specs.Laws.Roots.{field_no_zero_divisors}
use Rattle.p3_matrix.specs.Laws.Powers.{power_le_cancel}
use Rattle.p3_matrix.specs.Matrix.{Rows, height}
use Rattle.commit_core.specs.Laws.Periods.{period_below, longest_is, longest_divided}
use Rattle.commit_core.specs.Laws.Repeated.{power_not_zero}
use Rattle.commit_core.specs.Periodic.{IsPeriod, IsPeriodicTable}
use Rattle.plain_pcs.specs.Transfer.{IsRepeated}
use Rattle.plain_pcs.proofs.Heights.{one_greatest}
use Rattle.plain_pcs.proofs.PeriodicTables.{period_positive, folded_table, folded_height, some_column, no_table, no_period}
use Rattle.plain_pcs.proofs.evaluating.periodic_table.Goals as goal

pub log2_strict_usize-requires : goal.log2_strict_usize-requires
log2_strict_usize-requires g c =
    (longest_is (λ x. length x.items) (2 ^ c.args.trace_domain.log_size) c.args.periodic_cols.now c.in-Some.period c.requires.fit c.in-Some.ensures).0

pub overflow_sub-folds : goal.overflow_sub-folds
overflow_sub-folds g c =
    let P = longest_is (λ x. length x.items) (2 ^ c.args.trace_domain.log_size) c.args.periodic_cols.now c.in-Some.period c.requires.fit c.in-Some.ensures in
    omega (arith, period_below c.log2_strict_usize.result c.args.trace_domain.log_size c.in-Some.period c.log2_strict_usize.ensures P.1, c.log_size.ensures)

pub repeated-requires : goal.repeated-requires
repeated-requires g c = λ k d h. period_positive (2 ^ c.args.trace_domain.log_size) (length (get_or c.args.periodic_cols.now k d).items) (c.requires.fit k d h)

pub powers_of-from-requires : goal.powers_of-from-requires
powers_of-from-requires g c = omega (arith, c.log_size.ensures)

pub powers_of-to-requires : goal.powers_of-to-requires
powers_of-to-requires g c =
    let larger : c.args.trace_domain.log_size ≤ c.args.quotient_domain.log_size = power_le_cancel c.args.trace_domain.log_size c.args.quotient_domain.log_size c.requires.larger in
    omega (arith, larger, c.log_size.ensures)

pub transferred-requires : goal.transferred-requires
transferred-requires g c =
    let P = longest_is (λ x. length x.items) (2 ^ c.args.trace_domain.log_size) c.args.periodic_cols.now c.in-Some.period c.requires.fit c.in-Some.ensures in
    let below = period_below c.log2_strict_usize.result c.args.trace_domain.log_size c.in-Some.period c.log2_strict_usize.ensures P.1 in
    let small : c.log2_strict_usize.result ≡ c.powers_of-from.result.log_size =
    let e : c.powers_of-from.result.log_size ≡ c.args.trace_domain.log_size - (c.log_size.result - c.log2_strict_usize.result) = ap (λ (d : CosetData g.row.F.Denot). d.log_size) c.powers_of-from.ensures in
    omega (arith, e, below, c.log_size.ensures) in
    let some = some_column (λ x. length x.items) c.args.periodic_cols.now c.in-Some.period c.in-Some.ensures in
    c.in_ok-columns-in-Some.ensures.height_is (omega (arith, some, length-map c.args.periodic_cols.now (λ x. x.items))) ∙ (c.log2_strict_usize.ensures ∙ ap (λ n. 2 ^ n) small)

pub new-requires : goal.new-requires
new-requires g c = inr (c.powers_of-to.result.log_size, c.in_ok-values-in-Some.ensures.height_is)

pub returns-in_ok-values-in-Some-clause-table : goal.returns-in_ok-values-in-Some-clause-table
returns-in_ok-values-in-Some-clause-table g c =
    let r = g.F.RingCore.ring in
    let L = g.met.F.RingCore.ring_laws in
    let inv = g.F.FieldCore.inv in
    let W = g.met.F.FieldCore.field_laws in
    let root = g.F.TwoAdicCore.root in
    let d = c.args.trace_domain in
    let e = c.args.quotient_domain in
    let d1 = c.powers_of-from.result in
    let e1 = c.powers_of-to.result in
    let a = c.log_size.result - c.log2_strict_usize.result in
    let columns : List (List g.row.F.Denot) = map (λ x. x.items) c.args.periodic_cols.now in
    let m = c.in_ok-columns-in-Some.columns in
    let v = c.in_ok-values-in-Some.values in
    let P = longest_is (λ x. length x.items) (2 ^ d.log_size) c.args.periodic_cols.now c.in-Some.period c.requires.fit c.in-Some.ensures in
    let below = period_below c.log2_strict_usize.result d.log_size c.in-Some.period c.log2_strict_usize.ensures P.1 in
    let larger : d.log_size ≤ e.log_size = power_le_cancel d.log_size e.log_size c.requires.larger in
    let from : d1.log_size ≡ d.log_size - a = ap (λ (x : CosetData g.row.F.Denot). x.log_size) c.powers_of-from.ensures in
    let to : e1.log_size ≡ e.log_size - a = ap (λ (x : CosetData g.row.F.Denot). x.log_size) c.powers_of-to.ensures in
    let shift : d1.shift ≡ pow r d.shift (2 ^ a) = ap (λ (x : CosetData g.row.F.Denot). x.shift) c.powers_of-from.ensures in
    let shift_e : e1.shift ≡ pow r e.shift (2 ^ a) = ap (λ (x : CosetData g.row.F.Denot). x.shift) c.powers_of-to.ensures in
    let sum : d1.log_size + a ≡ d.log_size = omega (arith, from, below, c.log_size.ensures) in
    let sum_e : e1.log_size + a ≡ e.log_size = omega (arith, to, below, larger, c.log_size.ensures) in
    let small : c.log2_strict_usize.result ≡ d1.log_size = omega (arith, from, below, c.log_size.ensures) in
    let size : c.in-Some.period ≡ 2 ^ d1.log_size = c.log2_strict_usize.ensures ∙ ap (λ n. 2 ^ n) small in
    let nz = λ (z : d1.shift ≡ r.zero). power_not_zero r (field_no_zero_divisors r L inv W) W.one_differs d.shift (2 ^ a) c.valid.ensures.0 (sym shift ∙ z) in
    let laid : IsRepeated r.zero (2 ^ d1.log_size) columns m = subst (λ (k : ℕ). IsRepeated r.zero k columns m) size c.in_ok-columns-in-Some.ensures in
    let fit = longest_divided (λ x. length x.items) (2 ^ d.log_size) c.args.periodic_cols.now c.in-Some.period c.requires.fit c.in-Some.ensures in
    let each : All (λ x. IsPeriod c.in-Some.period (length x)) columns = All-map (λ x. IsPeriod c.in-Some.period (length x)) (λ x. x.items) c.args.periodic_cols.now fit in
    let periods : All (λ x. IsPeriod (2 ^ d1.log_size) (length x)) columns = subst (λ (k : ℕ). All (λ x. IsPeriod k (length x)) columns) size each in
    let table : IsPeriodicTable r (2 ^ d.log_size) (point r root d) (2 ^ e.log_size) (point r root e) columns v =
    folded_table r L inv W g.F.TwoAdicCore.TWO_ADICITY root g.met.F.TwoAdicCore.root_laws d e d1 e1 a columns m v c.valid.ensures.1 c.valid-in-Some.ensures.1 nz sum sum_e shift shift_e periods laid c.in_ok-values-in-Some.ensures in
    subst (λ (t : Rows g.row.F.Denot). IsPeriodicTable r (2 ^ d.log_size) (point r root d) (2 ^ e.log_size) (point r root e) columns t) (sym c.new.ensures) table

pub returns-in_ok-values-in-Some-clause-height : goal.returns-in_ok-values-in-Some-clause-height
returns-in_ok-values-in-Some-clause-height g c = λ p G.
    let d = c.args.trace_domain in
    let e = c.args.quotient_domain in
    let a = c.log_size.result - c.log2_strict_usize.result in
    let P = longest_is (λ x. length x.items) (2 ^ d.log_size) c.args.periodic_cols.now c.in-Some.period c.requires.fit c.in-Some.ensures in
    let below = period_below c.log2_strict_usize.result d.log_size c.in-Some.period c.log2_strict_usize.ensures P.1 in
    let larger : d.log_size ≤ e.log_size = power_le_cancel d.log_size e.log_size c.requires.larger in
    let to : c.powers_of-to.result.log_size ≡ e.log_size - a = ap (λ (x : CosetData g.row.F.Denot). x.log_size) c.powers_of-to.ensures in
    let same : p ≡ c.in-Some.period = one_greatest (map (λ x. length x.items) c.args.periodic_cols.now) p c.in-Some.period G c.in-Some.ensures in
    folded_height (height c.new.result) p d.log_size c.log2_strict_usize.result a c.powers_of-to.result.log_size e.log_size
    (ap (λ (t : Rows g.row.F.Denot). height t) c.new.ensures ∙ c.in_ok-values-in-Some.ensures.height_is) (same ∙ c.log2_strict_usize.ensures)
    (omega (arith, below, c.log_size.ensures)) (omega (arith, to, below, larger, c.log_size.ensures)) larger

pub returns-in-None-clause-table : goal.returns-in-None-clause-table
returns-in-None-clause-table g c =
    let r = g.F.RingCore.ring in
    let root = g.F.TwoAdicCore.root in
    no_table r (2 ^ c.args.trace_domain.log_size) (point r root c.args.trace_domain) (2 ^ c.args.quotient_domain.log_size) (point r root c.args.quotient_domain) (λ x. x.items) c.args.periodic_cols.now c.empty.result c.in-None.ensures c.empty.ensures

pub returns-in-None-clause-height : goal.returns-in-None-clause-height
returns-in-None-clause-height g c = λ p G. absurd (no_period (λ x. length x.items) c.args.periodic_cols.now p c.in-None.ensures G)
