-- The lookups of a statement's tables: each table has one at most, and all are on bus 0.
use Rattle.std.proofs.Common.{◌≡◌, ℕ, ◌<◌, false, List, [], ◌∷◌, length, get_or, map, replicate, None, refl, sym, ◌∙◌, ap, arith}
use Rattle.std.specs.Prelude.{All}
use Rattle.std.proofs.lemmas.List.{get_or-map, length-map}
use Rattle.std.proofs.lemmas.List.Elements.{All-cons, All-nil}
use Rattle.p3_field.specs.BabyBear.{baby_bear_ring}
use Rattle.p3_field.specs.Laws.Tabulate.{get_or-tabulate, length-tabulate, tabulate_items, tabulate_same}
use Rattle.p3_field.specs.declared.baby_bear.BabyBear.{BabyBear}
use Rattle.p3_matrix.specs.Matrix.{Rows}
use Rattle.air_core.specs.declared.cells.Cell.TheVariants.{Main}
use Rattle.air_core.specs.declared.cells.Count.{Count}
use Rattle.air_core.specs.Shape.{ReadsSendable, Shape}
use Rattle.air_core.specs.Tree.{Tree, cell}
use Rattle.p3_lookup.specs.Bus.{bus_in}
use Rattle.p3_lookup.specs.Generated.{sent_shape}
use Rattle.p3_lookup.specs.Lookup.{IsLookup, LookupData, lookups_of}
use Rattle.batch_setup.specs.Packed.{no_source, packed_lookups}
use Rattle.tool_statement.specs.StatedTables.{log_heights_of, packed_lookups_at, source_of_table, tool_common}
use Rattle.tool_statement.specs.declared.table.TableStatement.{TableStatement}
use Rattle.tool_statement.specs.declared.table.TableStatement.TheVariants.{Swap, Wheel, Take, Give, Hash}
use Rattle.law_tool_valid.specs.Job.{JobTable, swap_of, wheel_of, take_of, give_of, hash_of}
use Rattle.law_tool_valid.specs.Laws.Messages.{job_bus, own_lookups}

abbrev pub lookups_of_table : TableStatement → List (LookupData BabyBear)
lookups_of_table t = lookups_of (source_of_table t).interactions

-- one lookup at most is packed as it is
packed_as_is : (t : TableStatement) (bits asked : ℕ) → packed_lookups baby_bear_ring 0 bits asked (source_of_table t) ≡ lookups_of_table t
packed_as_is (Swap k a b x) bits asked = refl
packed_as_is (Wheel k) bits asked = refl
packed_as_is (Take k) bits asked = refl
packed_as_is (Give k) bits asked = refl
packed_as_is (Hash k) bits asked = refl

-- a job's table of the same kind, which has the same lookups
abbrev kind_of : TableStatement → JobTable BabyBear
kind_of (Swap k a b x) = swap_of k a b
kind_of (Wheel k) = wheel_of k
kind_of (Take k) = take_of []
kind_of (Give k) = give_of []
kind_of (Hash k) = hash_of []

same_lookups : (t : TableStatement) → lookups_of_table t ≡ own_lookups baby_bear_ring (kind_of t)
same_lookups (Swap k a b x) = refl
same_lookups (Wheel k) = refl
same_lookups (Take k) = refl
same_lookups (Give k) = refl
same_lookups (Hash k) = refl

module _ (tables : List TableStatement) where
  abbrev pub table_at : ℕ → TableStatement
  table_at i = get_or tables i (Take 0)

  pub packed_at_is : (i : ℕ) → i < length tables → packed_lookups_at tables i ≡ lookups_of_table (table_at i)
  packed_at_is i l =
      let bits = get_or (log_heights_of tables) i 0 in
      let asked = get_or (replicate (length tables) 0) i 0 in
      ap (packed_lookups baby_bear_ring 0 bits asked) (get_or-map source_of_table tables i (Take 0) no_source l) ∙ packed_as_is (table_at i) bits asked

  pub common_count : length (tool_common tables).lookups ≡ length tables
  unfolding tool_common
  common_count = length-tabulate (length tables) (packed_lookups_at tables)

  pub common_at : (i : ℕ) → i < length tables → get_or (tool_common tables).lookups i [] ≡ packed_lookups_at tables i
  unfolding tool_common
  common_at i l = get_or-tabulate (length tables) (packed_lookups_at tables) i [] l

  -- so they are those of a job
  common_are : (tool_common tables).lookups ≡ map (own_lookups baby_bear_ring) (map kind_of tables)
  unfolding tool_common
  common_are =
      let n = length tables in
      let own = own_lookups baby_bear_ring in
      let kinds = map kind_of tables in
      let many : length kinds ≡ n = length-map tables kind_of in
      tabulate_same n (packed_lookups_at tables) (λ i. get_or (map own kinds) i []) (λ i l.
      packed_at_is i l
      ∙ (same_lookups (table_at i)
      ∙ (ap own (sym (get_or-map kind_of tables i (Take 0) (take_of []) l)) ∙ sym (get_or-map own kinds i (take_of []) [] (let e = many in omega (arith, l, e))))))
      ∙ sym (tabulate_items [] (map own kinds) n (length-map kinds own ∙ many))

  -- on bus 0
  pub on_bus_zero : (i : ℕ) → i < length tables → 0 < length (lookups_of_table (table_at i)) → bus_in (tool_common tables).lookups i 0 ≡ 0
  on_bus_zero i l some =
      let own = own_lookups baby_bear_ring in
      let kinds = map kind_of tables in
      let here : own (get_or kinds i (take_of [])) ≡ lookups_of_table (table_at i) = ap own (get_or-map kind_of tables i (Take 0) (take_of []) l) ∙ sym (same_lookups (table_at i)) in
      ap (λ ls. bus_in ls i 0) common_are
      ∙ job_bus baby_bear_ring kinds i (take_of []) (let e = length-map tables kind_of in omega (arith, l, e)) (let e = ap length here in omega (arith, some, e))

-- a table's lookups are one at most
pub one_at_most : (t : TableStatement) → 0 < length (lookups_of_table t) → length (lookups_of_table t) ≡ 1
one_at_most (Swap k a b x) some = absurd (omega (arith, some))
one_at_most (Wheel k) some = absurd (omega (arith, some))
one_at_most (Take k) some = refl
one_at_most (Give k) some = refl
one_at_most (Hash k) some = absurd (omega (arith, some))

only : {X : Type 0} (P : X → Type 0) (x : X) → P x → All P (x ∷ [])
only P x h = All-cons P x [] h (All-nil P)

-- which reads the rows' own cells
pub lookups_fit : (t : TableStatement) (m : Rows BabyBear) → m.width ≡ (source_of_table t).declaration.width → All (IsLookup (sent_shape m None [])) (lookups_of_table t)
lookups_fit (Swap k a b x) m e = All-nil (IsLookup (sent_shape m None []))
lookups_fit (Wheel k) m e = All-nil (IsLookup (sent_shape m None []))
lookups_fit (Hash k) m e = All-nil (IsLookup (sent_shape m None []))
lookups_fit (Take k) m e =
    let s : Shape = sent_shape m None [] in
    only (IsLookup s) _ (record {
      counted = refl;
      reads = record {
        tuples = only (All (ReadsSendable s)) _ (only (ReadsSendable s) (cell (Main false 0)) ((omega (arith, e), λ n. refl), tt));
        counts = only (λ (c : Count (Tree BabyBear)). ReadsSendable s c.value) _ tt;
      };
    })
lookups_fit (Give k) m e =
    let s : Shape = sent_shape m None [] in
    only (IsLookup s) _ (record {
      counted = refl;
      reads = record {
        tuples = only (All (ReadsSendable s)) _ (only (ReadsSendable s) (cell (Main false 0)) ((omega (arith, e), λ n. refl), tt));
        counts = only (λ (c : Count (Tree BabyBear)). ReadsSendable s c.value) _ (tt, ((omega (arith, e), λ n. refl), tt));
      };
    })
