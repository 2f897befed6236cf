-- The lookups that an AIR's interactions make are lookups of its table.
use Rattle.std.proofs.Common.{ℕ, ◌*◌, ◌<◌, List, length, All, sym, subst, arith, drop}
use Rattle.std.proofs.lemmas.List.Elements.{All-map, All-take, All-drop}
use Rattle.p3_field.specs.Poly.{tabulate}
use Rattle.p3_field.specs.Laws.Tabulate.{length-tabulate, get_or-tabulate}
use Rattle.air_core.specs.Shape.{Shape, Declaration, declared_shape, IsInteraction, ReadsSendable}
use Rattle.air_core.specs.Tree.{Tree, Interaction, tuple_at, tuple_width}
use Rattle.p3_lookup.specs.Lookup.{IsLookup, lookup_of, lookups_of}
use Rattle.batch_constraints.specs.BatchTrees.{AreLookupsOf}

-- a tuple of an interaction reads what its fields do
tuple_reads : {F : Type 0} (s : Shape) (i : Interaction F) (k : ℕ) → All (ReadsSendable s) i.fields → All (ReadsSendable s) (tuple_at i k)
tuple_reads s i k h = All-take (ReadsSendable s) _ (drop (k * tuple_width i) i.fields) (All-drop (ReadsSendable s) (k * tuple_width i) i.fields h)

tuples_read : {F : Type 0} (s : Shape) (i : Interaction F) → All (ReadsSendable s) i.fields → All (All (ReadsSendable s)) (tabulate (length i.counts) (tuple_at i))
tuples_read {F = F} s i h k d l =
    let P : List (Tree F) → Type 0 = λ ts. All (ReadsSendable s) ts in
    let within : k < length i.counts = omega (arith, l, length-tabulate (length i.counts) (tuple_at i)) in
    subst P (sym (get_or-tabulate (length i.counts) (tuple_at i) k d within)) (tuple_reads s i k h)

pub own_lookup : {F : Type 0} (s : Shape) (i : Interaction F) → IsInteraction s i → IsLookup s (lookup_of i)
own_lookup s i h = record {
  counted = sym (length-tabulate (length i.counts) (tuple_at i));
  reads = record { tuples = tuples_read s i h.fields; counts = h.counts };
}

pub own_lookups : {F : Type 0} (d : Declaration F) (is : List (Interaction F)) → All (IsInteraction (declared_shape d)) is → AreLookupsOf d (lookups_of is)
own_lookups d is h = All-map (IsLookup (declared_shape d)) lookup_of is (λ k e l. own_lookup (declared_shape d) _ (h k e l))
