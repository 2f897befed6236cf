-- The rows of a table with lookups, as a check of them reads them.
use Rattle.std.proofs.Common.{◌≡◌, ℕ, ◌+◌, ◌*◌, ◌<◌, List, [], ◌∷◌, ◌++◌, length, map, refl, ap, arith}
use Rattle.air_core.specs.RowCheck.{Row, row_shape}
use Rattle.air_core.specs.Shape.{Declaration, Fits, declared_shape, width_of}
use Rattle.air_core.specs.Tree.{Tree, over_base, over_extension}
use Rattle.p3_lookup.specs.Lookup.{LookupData, FitLookups}
use Rattle.batch_constraints.specs.BatchTrees.{AreLookupsOf}
use Rattle.batch_constraints.specs.Laws.Reads.{shape_fits_lookups}

-- a row with the declared numbers of values has the declared cells
pub row_fits : {F E : Type 0} (d : Declaration F) (w : Row F E) → length w.main_local ≡ d.width → length w.preprocessed_local ≡ width_of d.preprocessed
    → length w.periodic ≡ length d.periodic → length w.public_values ≡ d.public_values → Fits (declared_shape d) (row_shape w)
row_fits d w a b c e = record {
  main = omega (arith, a);
  main_next = λ k h. refl;
  preprocessed = omega (arith, b);
  preprocessed_next = λ k h. refl;
  periodic = omega (arith, c);
  public = omega (arith, e);
}

-- and what the constraints of its n lookups read
pub row_fits_lookups : {F E : Type 0} (d : Declaration F) (w : Row F E) (ls : List (LookupData F)) (n : ℕ) → length ls ≡ n → Fits (declared_shape d) (row_shape w) → AreLookupsOf d ls
    → (0 < n → length w.permutation_local ≡ n + 1) → length w.challenges ≡ 2 * n → (0 < n → length w.terminals ≡ 1) → FitLookups (row_shape w) ls
row_fits_lookups d w ls n long fits h columns challenges terminals =
    shape_fits_lookups d (row_shape w) ls n long fits h (λ some. let c = columns some in omega (arith, c)) (omega (arith, challenges)) (λ some. let t = terminals some in omega (arith, t))

-- the values of asserted trees are those of the trees
pub values_over_extension : {F E : Type 0} (g : Tree F → E) (us : List (Tree F)) → map (λ a. g a.tree) (map over_extension us) ≡ map g us
values_over_extension g [] = refl
values_over_extension {E = E} g (u ∷ us) = ap (λ (l : List E). g u ∷ l) (values_over_extension g us)

pub asserted_values : {F E : Type 0} (g : Tree F → E) (ts us : List (Tree F)) → map (λ a. g a.tree) (map over_base ts ++ map over_extension us) ≡ map g (ts ++ us)
asserted_values g [] us = values_over_extension g us
asserted_values {E = E} g (t ∷ ts) us = ap (λ (l : List E). g t ∷ l) (asserted_values g ts us)
