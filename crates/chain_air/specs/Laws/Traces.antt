-- Traces meet the constraints exactly where their rows are those of a chain.
use Rattle.std.proofs.Common.{◌≡◌, ℕ, ◌+◌, ◌*◌, ◌^◌, ◌<◌, ◌++◌, List, length, get_or, map, refl, sym, ◌∙◌, ap, subst, arith}
use Rattle.std.specs.Prelude.{All}
use Rattle.std.proofs.lemmas.List.{get_or-map, length-append, length-map}
use Rattle.std.proofs.lemmas.List.Elements.{All-map}
use Rattle.p3_field.specs.Ring.{Ring, of_nat}
use Rattle.p3_field.specs.Field.{RingHom}
use Rattle.p3_field.specs.Laws.Roots.{field_no_zero_divisors}
use Rattle.p3_matrix.specs.Matrix.{height, row_at}
use Rattle.air_core.specs.declared.cells.Cell.{Cell}
use Rattle.air_core.specs.declared.cells.ExtCell.{ExtCell}
use Rattle.air_core.specs.Check.{TableTraces, table_row}
use Rattle.air_core.specs.RowCheck.{cell_value, ext_cell_value, tree_value_at_row}
use Rattle.air_core.specs.Tree.{Tree}
use Rattle.air_gadgets.specs.Words.{PrimeFieldLaws}
use Rattle.blake3_compress.specs.TraceRow.{limb_cells}
use Rattle.blake3_compress.specs.Laws.Cells.{Within, in_itself, in_left, in_right, limb_cell, length-limb_cells}
use Rattle.blake3_prime.specs.Laws.TraceRow.{row_means}
use Rattle.law_committed.specs.Laws.BaseRows.{traces_read}
use Rattle.chain_air.specs.Chain.{publics_of}
use Rattle.chain_air.specs.Meanings.{ArePublics, TracesMean, ChainsMean}
use Rattle.chain_air.specs.Trees.{chain_trees}
use Rattle.chain_air.specs.Laws.Chain.{chain_means}
use Rattle.chain_air.specs.Laws.Linked.{linked_means}

-- the public values of a chain are the limbs of its chaining values
pub publics_are : {F : Type 0} (r : Ring F) (start end : ℕ → ℕ) → ArePublics r (publics_of r start end) start end
unfolding publics_of
publics_are r start end =
    let a = limb_cells 8 start in
    let b = limb_cells 8 end in
    let la : length a ≡ 16 = length-limb_cells 8 start in
    let lb : length b ≡ 16 = length-limb_cells 8 end in
    let all : length (a ++ b) ≡ 32 = omega (arith, length-append a b, la, lb) in
    let first : Within (a ++ b) 0 a = in_left a b 0 a (omega (arith, la)) (in_itself a) in
    let second : Within (a ++ b) 16 b = in_right a b 16 0 16 b la (omega arith) (in_itself b) in record {
      first = λ w k lw lk.
          let e : 2 * w + k ≡ 0 + 2 * w + k = omega arith in
          get_or-map (of_nat r) (a ++ b) (2 * w + k) 0 r.zero (omega (arith, all, lw, lk))
          ∙ ap (of_nat r) (ap (λ m. get_or (a ++ b) m 0) e ∙ limb_cell (a ++ b) 0 8 start first w k lw lk);
      last = λ w k lw lk. get_or-map (of_nat r) (a ++ b) (16 + 2 * w + k) 0 r.zero (omega (arith, all, lw, lk)) ∙ ap (of_nat r) (limb_cell (a ++ b) 16 8 end second w k lw lk);
    }

-- there are 32
pub publics_long : {F : Type 0} (r : Ring F) (start end : ℕ → ℕ) → length (publics_of r start end) ≡ 32
unfolding publics_of
publics_long r start end =
    let a = limb_cells 8 start in
    let b = limb_cells 8 end in
    omega (arith, length-map (a ++ b) (of_nat r), length-append a b, length-limb_cells 8 start, length-limb_cells 8 end)

-- what holds of each mapped item holds of the image of each item
values_of : {X Y : Type 0} (Q : Y → Type 0) (f : X → Y) (xs : List X) → All Q (map f xs) → All (λ x. Q (f x)) xs
values_of Q f xs h k d l =
    let long = length-map xs f in
    subst Q (get_or-map f xs k d (f d) l) (h k (f d) (omega (arith, l, long)))

module _ {F : Type 0} (r : Ring F) (inv : F → F) (order : ℕ) (canonical : F → ℕ) (P : PrimeFieldLaws r inv order canonical) (o : 2 ^ 20 < order) (t : TableTraces F) where
  abbrev at : ℕ → Cell → F
  at j c = cell_value r (table_row r.zero t j) c

  abbrev at_ext : ℕ → ExtCell → F
  at_ext j c = ext_cell_value r.zero (table_row r.zero t j) c

  itself : RingHom r r (λ x. x)
  itself = record { keeps_zero = refl; keeps_one = refl; keeps_add = λ x y. refl; keeps_mul = λ x y. refl }

pub traces_mean : {F : Type 0} (r : Ring F) (inv : F → F) (order : ℕ) (canonical : F → ℕ) → PrimeFieldLaws r inv order canonical → 2 ^ 20 < order → TracesMean r
traces_mean {F = F} r inv order canonical P o t start end ws we some long publics =
    let n = height t.main in
    let rows = row_at t.main in
    let value : ℕ → Tree F → F = λ j. tree_value_at_row r r (λ x. x) (table_row r.zero t j) in
    let linked =
    linked_means r r (λ x. x) P.ring_laws P.ring_laws (itself r inv order canonical P o t) (λ y z w. w) (field_no_zero_divisors r P.ring_laws inv P.field_laws) n some rows t.public_values
    (at r inv order canonical P o t) (at_ext r inv order canonical P o t) (traces_read r t P.field_laws.one_differs) in
    let chain =
    chain_means r inv order canonical P o (row_means r inv order canonical P o) n some rows long t.public_values start end ws we (subst (λ ps. ArePublics r ps start end) (sym publics) (publics_are r start end)) in (
      λ h. chain.0 (linked.0 (λ j lt. values_of (λ x. x ≡ r.zero) (value j) (chain_trees r) (h j lt))),
      λ C j lt. All-map (λ x. x ≡ r.zero) (value j) (chain_trees r) (linked.1 (chain.1 C) j lt),
    )

pub chains_mean : {F : Type 0} (r : Ring F) (inv : F → F) (order : ℕ) (canonical : F → ℕ) → PrimeFieldLaws r inv order canonical → 2 ^ 20 < order → ChainsMean r
chains_mean r inv order canonical P o n rows publics start end some long ws we are =
    chain_means r inv order canonical P o (row_means r inv order canonical P o) n some rows long publics start end ws we (subst (λ ps. ArePublics r ps start end) (sym are) (publics_are r start end))
