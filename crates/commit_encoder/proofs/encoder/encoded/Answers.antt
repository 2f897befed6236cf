use Rattle.std.proofs.Common.{◌≡◌, ◌*◌, ◌^◌, ◌≤◌, ◌∙◌, length, refl, subst, sym, ap, arith}
use Rattle.std.specs.Int.{IsPowerOfTwo}
use Rattle.std.proofs.lemmas.Nat.{pow_pos}
use Rattle.p3_matrix.specs.Matrix.{Rows, FillsRows, height}
use Rattle.p3_matrix.specs.Laws.Cells.{width_positive}
use Rattle.commit_encoder.proofs.Padded.{code_count, code_rows, subgroup_size, power_times, times_more, padded_height, padded_code, other_error}
use Rattle.commit_encoder.proofs.encoder.encoded.Goals as goal

pub returns-then-count-message-clause-no_subgroup : goal.returns-then-count-message-clause-no_subgroup
returns-then-count-message-clause-no_subgroup g c =
    let m = c.args.message in
    let rate = c.args.log_inv_rate in
    let fills : FillsRows m.values m.width = subst (λ (v : Rows g.row.F.Denot). FillsRows v.values v.width) c.message.view_is c.message.invariant in
    let len : c.len.result ≡ length m.values = omega (arith, c.len.ensures, c.message.inside.values.ok.0, ap (λ (v : Rows g.row.F.Denot). length v.values) c.message.view_is) in
    let count : c.in-Some.count ≡ length m.values * 2 ^ rate = c.in-Some.ensures.0 ∙ ap (λ k. k * 2 ^ rate) len in
    let rows = code_rows m rate c.in-Some.count c.message.inside.width c.requires fills count (ap (λ (v : Rows g.row.F.Denot). v.width) c.message.view_is) in
    let size = subgroup_size c.TWO_ADICITY.result g.F.TwoAdicCore.TWO_ADICITY c.TWO_ADICITY.ensures g.met.F.TwoAdicCore.below_64 in
    (λ e. (omega (arith, c.in-Some.ensures.1, ap (λ k. k * 2 ^ rate) len), omega (arith, rows, size, c.if-count-message.true)), λ h. refl)

pub padded-requires-clause-rows : goal.padded-requires-clause-rows
padded-requires-clause-rows g c =
    let m = c.args.message in
    let rate = c.args.log_inv_rate in
    let fills : FillsRows m.values m.width = subst (λ (v : Rows g.row.F.Denot). FillsRows v.values v.width) c.message.view_is c.message.invariant in
    let len : c.len.result ≡ length m.values = omega (arith, c.len.ensures, c.message.inside.values.ok.0, ap (λ (v : Rows g.row.F.Denot). length v.values) c.message.view_is) in
    let count : c.in-Some.count ≡ length m.values * 2 ^ rate = c.in-Some.ensures.0 ∙ ap (λ k. k * 2 ^ rate) len in
    (height m * 2 ^ rate, code_count m (2 ^ rate) c.in-Some.count fills count)

pub returns-in_err-padded-clause-no_subgroup : goal.returns-in_err-padded-clause-no_subgroup
returns-in_err-padded-clause-no_subgroup g c =
    let m = c.args.message in
    let rate = c.args.log_inv_rate in
    let fills : FillsRows m.values m.width = subst (λ (v : Rows g.row.F.Denot). FillsRows v.values v.width) c.message.view_is c.message.invariant in
    let len : c.len.result ≡ length m.values = omega (arith, c.len.ensures, c.message.inside.values.ok.0, ap (λ (v : Rows g.row.F.Denot). length v.values) c.message.view_is) in
    let count : c.in-Some.count ≡ length m.values * 2 ^ rate = c.in-Some.ensures.0 ∙ ap (λ k. k * 2 ^ rate) len in
    let rows = code_rows m rate c.in-Some.count c.message.inside.width c.requires fills count (ap (λ (v : Rows g.row.F.Denot). v.width) c.message.view_is) in
    let size = subgroup_size c.TWO_ADICITY.result g.F.TwoAdicCore.TWO_ADICITY c.TWO_ADICITY.ensures g.met.F.TwoAdicCore.below_64 in
    (λ e. absurd (other_error c.from_residual.result c.from_residual.ensures.1 e), λ h. absurd (omega (arith, rows, size, h.1, c.if-count-message.false)))

pub dft_batch-requires-clause-power : goal.dft_batch-requires-clause-power
dft_batch-requires-clause-power g c =
    let m = c.args.message in
    let rate = c.args.log_inv_rate in
    let fills : FillsRows m.values m.width = subst (λ (v : Rows g.row.F.Denot). FillsRows v.values v.width) c.message.view_is c.message.invariant in
    let len : c.len.result ≡ length m.values = omega (arith, c.len.ensures, c.message.inside.values.ok.0, ap (λ (v : Rows g.row.F.Denot). length v.values) c.message.view_is) in
    let count : c.in-Some.count ≡ length m.values * 2 ^ rate = c.in-Some.ensures.0 ∙ ap (λ k. k * 2 ^ rate) len in
    let more : length m.values ≤ c.in-Some.count = omega (arith, times_more (length m.values) (2 ^ rate) (pow_pos rate), count) in
    let p = c.in_ok-padded.padded in
    let high : height p ≡ height m * 2 ^ rate =
    padded_height g.F.RingCore.ring g.met.F.RingCore.ring_laws m p (2 ^ rate) c.in-Some.count (width_positive m c.requires) (pow_pos rate) fills count more c.in_ok-padded.ensures.width c.in_ok-padded.ensures.values in
    subst IsPowerOfTwo (sym high) (power_times (height m) rate c.requires)

pub dft_batch-requires-clause-subgroup : goal.dft_batch-requires-clause-subgroup
dft_batch-requires-clause-subgroup g c =
    let m = c.args.message in
    let rate = c.args.log_inv_rate in
    let fills : FillsRows m.values m.width = subst (λ (v : Rows g.row.F.Denot). FillsRows v.values v.width) c.message.view_is c.message.invariant in
    let len : c.len.result ≡ length m.values = omega (arith, c.len.ensures, c.message.inside.values.ok.0, ap (λ (v : Rows g.row.F.Denot). length v.values) c.message.view_is) in
    let count : c.in-Some.count ≡ length m.values * 2 ^ rate = c.in-Some.ensures.0 ∙ ap (λ k. k * 2 ^ rate) len in
    let rows = code_rows m rate c.in-Some.count c.message.inside.width c.requires fills count (ap (λ (v : Rows g.row.F.Denot). v.width) c.message.view_is) in
    let size = subgroup_size c.TWO_ADICITY.result g.F.TwoAdicCore.TWO_ADICITY c.TWO_ADICITY.ensures g.met.F.TwoAdicCore.below_64 in
    let more : length m.values ≤ c.in-Some.count = omega (arith, times_more (length m.values) (2 ^ rate) (pow_pos rate), count) in
    let p = c.in_ok-padded.padded in
    let high : height p ≡ height m * 2 ^ rate =
    padded_height g.F.RingCore.ring g.met.F.RingCore.ring_laws m p (2 ^ rate) c.in-Some.count (width_positive m c.requires) (pow_pos rate) fills count more c.in_ok-padded.ensures.width c.in_ok-padded.ensures.values in
    omega (arith, high, rows, size, c.if-count-message.false)

pub returns-in_err-dft_batch-clause-no_subgroup : goal.returns-in_err-dft_batch-clause-no_subgroup
returns-in_err-dft_batch-clause-no_subgroup g c =
    let m = c.args.message in
    let rate = c.args.log_inv_rate in
    let fills : FillsRows m.values m.width = subst (λ (v : Rows g.row.F.Denot). FillsRows v.values v.width) c.message.view_is c.message.invariant in
    let len : c.len.result ≡ length m.values = omega (arith, c.len.ensures, c.message.inside.values.ok.0, ap (λ (v : Rows g.row.F.Denot). length v.values) c.message.view_is) in
    let count : c.in-Some.count ≡ length m.values * 2 ^ rate = c.in-Some.ensures.0 ∙ ap (λ k. k * 2 ^ rate) len in
    let rows = code_rows m rate c.in-Some.count c.message.inside.width c.requires fills count (ap (λ (v : Rows g.row.F.Denot). v.width) c.message.view_is) in
    let size = subgroup_size c.TWO_ADICITY.result g.F.TwoAdicCore.TWO_ADICITY c.TWO_ADICITY.ensures g.met.F.TwoAdicCore.below_64 in
    (λ e. absurd (other_error c.from_residual-in_err-dft_batch.result c.from_residual-in_err-dft_batch.ensures.1 e), λ h. absurd (omega (arith, rows, size, h.1, c.if-count-message.false)))

pub returns-clause-code : goal.returns-clause-code
returns-clause-code g c =
    let m = c.args.message in
    let rate = c.args.log_inv_rate in
    let fills : FillsRows m.values m.width = subst (λ (v : Rows g.row.F.Denot). FillsRows v.values v.width) c.message.view_is c.message.invariant in
    let len : c.len.result ≡ length m.values = omega (arith, c.len.ensures, c.message.inside.values.ok.0, ap (λ (v : Rows g.row.F.Denot). length v.values) c.message.view_is) in
    let count : c.in-Some.count ≡ length m.values * 2 ^ rate = c.in-Some.ensures.0 ∙ ap (λ k. k * 2 ^ rate) len in
    let more : length m.values ≤ c.in-Some.count = omega (arith, times_more (length m.values) (2 ^ rate) (pow_pos rate), count) in
    let p = c.in_ok-padded.padded in
    padded_code g.F.RingCore.ring g.met.F.RingCore.ring_laws m p (2 ^ rate) c.in-Some.count (width_positive m c.requires) (pow_pos rate) fills count more c.in_ok-padded.ensures.width c.in_ok-padded.ensures.values
    g.F.TwoAdicCore.root rate c.in_ok-dft_batch.field-0 refl c.in_ok-dft_batch.ensures

pub returns-clause-no_subgroup : goal.returns-clause-no_subgroup
returns-clause-no_subgroup g c =
    let m = c.args.message in
    let rate = c.args.log_inv_rate in
    let fills : FillsRows m.values m.width = subst (λ (v : Rows g.row.F.Denot). FillsRows v.values v.width) c.message.view_is c.message.invariant in
    let len : c.len.result ≡ length m.values = omega (arith, c.len.ensures, c.message.inside.values.ok.0, ap (λ (v : Rows g.row.F.Denot). length v.values) c.message.view_is) in
    let count : c.in-Some.count ≡ length m.values * 2 ^ rate = c.in-Some.ensures.0 ∙ ap (λ k. k * 2 ^ rate) len in
    let rows = code_rows m rate c.in-Some.count c.message.inside.width c.requires fills count (ap (λ (v : Rows g.row.F.Denot). v.width) c.message.view_is) in
    let size = subgroup_size c.TWO_ADICITY.result g.F.TwoAdicCore.TWO_ADICITY c.TWO_ADICITY.ensures g.met.F.TwoAdicCore.below_64 in
    (λ e. let q : ⊥ = cc in absurd q, λ h. absurd (omega (arith, rows, size, h.1, c.if-count-message.false)))
