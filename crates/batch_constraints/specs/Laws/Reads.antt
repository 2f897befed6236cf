-- What the constraints of a table with lookups read.
use Rattle.std.proofs.Common.{◌≡◌, ℕ, zero, suc, ◌*◌, ◌<◌, ◌≤◌, List, length, arith, refl}
use Rattle.air_core.specs.declared.cells.Cell.{Cell}
use Rattle.air_core.specs.declared.cells.Cell.TheVariants.{Main, Preprocessed, Periodic, Public, FirstRow, LastRow, Transition}
use Rattle.air_core.specs.Shape.{Shape, Fits, Declares, IsSendable, ReadsSendable, Declaration, declared_shape}
use Rattle.air_core.specs.Tree.{Tree}
use Rattle.air_core.specs.Laws.Maps.{reads_more}
use Rattle.air_core.specs.Layout.{layout_of, layout_shape}
use Rattle.p3_lookup.specs.Lookup.{LookupData, IsLookup, FitLookups}
use Rattle.batch_constraints.specs.BatchTrees.{layout_with, AreLookupsOf}

-- a shape that fits declares each cell that may be sent
pub declares_more : (a b : Shape) → Fits a b → (c : Cell) → Declares a c × IsSendable c → Declares b c × IsSendable c
declares_more a b h (Main next column) d = ((omega (arith, d.0.0, h.main), λ e. h.main_next column (d.0.1 e)), tt)
declares_more a b h (Preprocessed next column) d = ((omega (arith, d.0.0, h.preprocessed), λ e. h.preprocessed_next column (d.0.1 e)), tt)
declares_more a b h (Periodic n) d = absurd d.1
declares_more a b h (Public n) d = (omega (arith, d.0, h.public), tt)
declares_more a b h FirstRow d = absurd d.1
declares_more a b h LastRow d = absurd d.1
declares_more a b h Transition d = absurd d.1

pub sendable_more : {F : Type 0} (a b : Shape) → Fits a b → (t : Tree F) → ReadsSendable a t → ReadsSendable b t
sendable_more a b h t r = reads_more (λ c. Declares a c × IsSendable c) (λ c. Declares b c × IsSendable c) (λ _. ⊥) (λ _. ⊥) (declares_more a b h) (λ c q. q) t r

-- a lookup of a shape is one of each shape that fits
pub lookup_more : {F : Type 0} (a b : Shape) → Fits a b → (l : LookupData F) → IsLookup a l → IsLookup b l
lookup_more a b h l r = record {
  counted = r.counted;
  reads = record {
    tuples = λ k d w j u v. sendable_more a b h _ (r.reads.tuples k d w j u v);
    counts = λ k d w. sendable_more a b h _ (r.reads.counts k d w);
  };
}

-- the builder of a table's layout declares what the table does
pub layout_fits : {F : Type 0} (d : Declaration F) (n : ℕ) → Fits (declared_shape d) (layout_shape (layout_with (layout_of d) n))
layout_fits d zero = record { main = omega arith; main_next = λ c h. refl; preprocessed = omega arith; preprocessed_next = λ c h. refl; periodic = omega arith; public = omega arith }
layout_fits d (suc n) = record { main = omega arith; main_next = λ c h. refl; preprocessed = omega arith; preprocessed_next = λ c h. refl; periodic = omega arith; public = omega arith }

-- what has the declared cells, and a permutation column for the running sum and one for each lookup, two challenges for each, and the
-- terminal, has what the constraints of the lookups read
pub shape_fits_lookups : {F : Type 0} (d : Declaration F) (s : Shape) (ls : List (LookupData F)) (n : ℕ) → length ls ≡ n → Fits (declared_shape d) s → AreLookupsOf d ls
    → (0 < n → n < s.permutation) → 2 * n ≤ s.challenges → (0 < n → 0 < s.terminals) → FitLookups s ls
shape_fits_lookups d s ls n long fits h columns challenges terminals = record {
  lookups = λ k e l. lookup_more (declared_shape d) s fits _ (h k e l);
  columns = λ some. let c = columns (omega (arith, long, some)) in omega (arith, long, c);
  challenges = omega (arith, long, challenges);
  terminal = λ some. terminals (omega (arith, long, some));
}

-- and so the builder of a table's layout
pub table_fits : {F : Type 0} (d : Declaration F) (n : ℕ) (ls : List (LookupData F)) → length ls ≡ n → AreLookupsOf d ls → FitLookups (layout_shape (layout_with (layout_of d) n)) ls
table_fits d zero ls e h = shape_fits_lookups d (layout_shape (layout_with (layout_of d) zero)) ls zero e (layout_fits d zero) h (λ l. absurd (omega (arith, l))) (omega arith) (λ l. absurd (omega (arith, l)))
table_fits d (suc n) ls e h = shape_fits_lookups d (layout_shape (layout_with (layout_of d) (suc n))) ls (suc n) e (layout_fits d (suc n)) h (λ _. omega arith) (omega arith) (λ _. omega arith)
