use Rattle.std.proofs.Common.{◌≡◌, ℕ, ◌+◌, ◌*◌, List, length, map, drop, sym, ◌∙◌, ap, subst, arith}
use Rattle.std.specs.Prelude.{All}
use Rattle.std.specs.Option.{option_map}
use Rattle.std.proofs.lemmas.List.{length-map}
use Rattle.p3_matrix.specs.Matrix.{Rows, height}
use Rattle.p3_matrix.specs.Laws.Grids.{product_fills}
use Rattle.p3_lookup.specs.Lookup.{LookupData, HasCountForEach}
use Rattle.p3_lookup.specs.Written.{read, read_all}
use Rattle.p3_lookup.specs.Term.{Term, HasInverses, term_value}
use Rattle.p3_lookup.specs.Generated.{argument_over}
use Rattle.p3_lookup.specs.RowTerms.{table_terms, sizes, row_size, group_sums, AreColumns}
use Rattle.p3_lookup.proofs.Row.{sizes_are}
use Rattle.p3_lookup.proofs.Added.{table_inverses}
use Rattle.p3_lookup.proofs.Groups.{length_table, generated}
use Rattle.p3_lookup.proofs.generate.columns_and_terminal.Goals as goal

pub quotients_of-requires : goal.quotients_of-requires
quotients_of-requires g c =
    let p = argument_over g.F.RingCore.ring g.EF.RingCore.ring g.EF.FieldCore.inv g.EF.ExtensionField.embed c.args.main.now (option_map (λ m. m.now) c.args.preprocessed) c.args.public_values.now (read_all c.args.lookups.now) c.args.challenges.now in
    let n = height c.args.main.now in
    let ws = c.args.lookups.now in
    let ls = read_all ws in
    let ns = sizes ls in
    let told = c.in_ok-terms.ensures in
    let Q : List (Term g.row.EF.Denot) → Type 0 = λ l. HasInverses p.ring l in
    subst Q (sym (c.deref.ensures.value ∙ told.0)) (table_inverses p n told.1)

pub rows_of-requires : goal.rows_of-requires
rows_of-requires g c =
    let p = argument_over g.F.RingCore.ring g.EF.RingCore.ring g.EF.FieldCore.inv g.EF.ExtensionField.embed c.args.main.now (option_map (λ m. m.now) c.args.preprocessed) c.args.public_values.now (read_all c.args.lookups.now) c.args.challenges.now in
    let n = height c.args.main.now in
    let ws = c.args.lookups.now in
    let ls = read_all ws in
    let ns = sizes ls in
    let told = c.in_ok-terms.ensures in
    let counted : All HasCountForEach ls = λ k d lt. (c.requires.lookups k d lt).counted in
    let same = λ (i : ℕ). sizes_are p.ring p.challenges (p.value i) 0 ls counted in
    let xs = c.deref-2.result.now in
    let e : xs ≡ map (term_value p.ring p.inv) (table_terms p n) = c.deref-2.ensures.value ∙ c.in_ok-quotients.ensures ∙ ap (map (term_value p.ring p.inv)) (c.deref.ensures.value ∙ told.0) in
    let long : length xs ≡ n * row_size ns = ap length e ∙ length-map (table_terms p n) (term_value p.ring p.inv) ∙ length_table p ns same n in
    omega (arith, long, ap (λ k. k * row_size ns) c.height.ensures.result)

pub new-columns-requires : goal.new-columns-requires
new-columns-requires g c = product_fills c.in_ok-values.values.items c.height.result (length c.args.lookups.now + 1) c.in_ok-values.ensures.grid.length_is

pub returns : goal.returns
returns g c =
    let p = argument_over g.F.RingCore.ring g.EF.RingCore.ring g.EF.FieldCore.inv g.EF.ExtensionField.embed c.args.main.now (option_map (λ m. m.now) c.args.preprocessed) c.args.public_values.now (read_all c.args.lookups.now) c.args.challenges.now in
    let n = height c.args.main.now in
    let ws = c.args.lookups.now in
    let ls = read_all ws in
    let ns = sizes ls in
    let told = c.in_ok-terms.ensures in
    let counted : All HasCountForEach ls = λ k d lt. (c.requires.lookups k d lt).counted in
    let same = λ (i : ℕ). sizes_are p.ring p.challenges (p.value i) 0 ls counted in
    let xs = c.deref-2.result.now in
    let e : xs ≡ map (term_value p.ring p.inv) (table_terms p n) = c.deref-2.ensures.value ∙ c.in_ok-quotients.ensures ∙ ap (map (term_value p.ring p.inv)) (c.deref.ensures.value ∙ told.0) in
    let fs = λ (i : ℕ). group_sums p.ring ns (drop (i * row_size ns) xs) in
    let wide : length ws ≡ length ls = sym (length-map ws (read {F = g.row.F.Denot})) in
    let columns = subst (λ (w : ℕ). AreColumns p.ring fs w c.in_ok-values.values.items n c.in_ok-values.terminal) wide
    (subst (λ (k : ℕ). AreColumns p.ring fs (length ws) c.in_ok-values.values.items k c.in_ok-values.terminal) c.height.ensures.result c.in_ok-values.ensures) in
    let matrix = c.new-columns.ensures ∙ ap (λ (w : ℕ). let m : Rows g.row.EF.Denot = record { values = c.in_ok-values.values.items; width = w + 1 } in m) wide in
    generated p g.met.EF.RingCore.ring_laws ns same (length-map ls (λ (l : LookupData g.row.F.Denot). length l.tuples)) n xs c.in_ok-values.values.items c.in_ok-values.terminal c.new-columns.result e told.1 columns matrix
