-- What lookups of a case read, from their nodes.
use Rattle.std.proofs.Common.{◌≡◌, ◌*◌, ◌<◌, ◌≤◌, Bool, true, List, [], ◌∷◌, length, map, refl, lit<, arith}
use Rattle.std.specs.Prelude.{All}
use Rattle.std.proofs.lemmas.List.{length-map}
use Rattle.std.proofs.lemmas.List.Elements.{All-map, All-cons}
use Rattle.p3_field.specs.declared.baby_bear.BabyBear.{BabyBear}
use Rattle.air_core.specs.declared.cells.Cell.TheVariants.{Main}
use Rattle.air_core.specs.declared.cells.Count.{Count}
use Rattle.air_core.specs.declared.node.Node.{Node}
use Rattle.air_core.specs.declared.node.Node.TheVariants.{Base, Constant}
use Rattle.air_core.specs.Shape.{Shape, ReadsSendable}
use Rattle.air_core.specs.Symbolic.{tree_of, trees_after}
use Rattle.air_core.specs.Tree.{Bus}
use Rattle.p3_lookup.specs.Lookup.{FitLookups, IsLookup, HasCountForEach}
use Rattle.p3_lookup.specs.Written.{Written, read, read_all, tree_count}
use Rattle.cases_air.specs.Taken.{HasColumn, IsSendableByColumn, IsTakenLookup}

pub cell_sendable : (next : Bool) → IsSendableByColumn (Base (Main next 0) ∷ [])
unfolding trees_after
cell_sendable next s h = ((h.column, λ e. h.next), tt)

pub constant_sendable : (x : BabyBear) → IsSendableByColumn (Constant x ∷ [])
unfolding trees_after
constant_sendable x s h = tt

pub none_of : {X : Type 0} (P : X → Type 0) → All P []
none_of P k d l = absurd (omega (arith, l))

-- what holds of one item holds of all of its list
pub one_of : {X : Type 0} (P : X → Type 0) (x : X) → P x → All P (x ∷ [])
one_of P x p = All-cons P x [] p (none_of P)

-- a lookup of tuples and counts that may be read
pub taken_of : (bus : Bus) (es : List (List (List (Node BabyBear)))) (ms : List (Count (List (Node BabyBear)))) → length ms ≡ length es
    → All (All IsSendableByColumn) es → All (λ c. IsSendableByColumn c.value) ms → IsTakenLookup (record { bus = bus; elements = es; multiplicities = ms })
taken_of bus es ms e he hm s h = record {
  counted = counted_of;
  reads = record {
    tuples = All-map (All (ReadsSendable s)) (map tree_of) es (λ k d l. All-map (ReadsSendable s) tree_of _ (λ j b m. he k d l j b m s h));
    counts = All-map (λ c. ReadsSendable s c.value) tree_count ms (λ k d l. hm k d l s h);
  };
}
  where
    counted_of : length (map tree_count ms) ≡ length (map (map tree_of) es)
    counted_of = omega (arith, e, length-map ms tree_count, length-map es (map tree_of))

-- what holds of lookups that are taken wherever there is a first column
pub all_taken : (s : Shape) → HasColumn s → (ls : List (Written BabyBear)) → All IsTakenLookup ls → All (IsLookup s) (read_all ls)
all_taken s h ls all = All-map (IsLookup s) read ls (λ k d l. all k d l s h)

-- so their constraints read cells of the shape, where it has their columns, challenges and terminal
pub fit_taken : (s : Shape) → HasColumn s → (ls : List (Written BabyBear)) → All IsTakenLookup ls
    → (0 < length ls → length ls < s.permutation) → 2 * length ls ≤ s.challenges → (0 < length ls → 0 < s.terminals) → FitLookups s (read_all ls)
fit_taken s h ls all columns challenges terminal =
    let e : length (read_all ls) ≡ length ls = length-map ls read in
    record {
      lookups = all_taken s h ls all;
      columns = λ p. omega (arith, e, columns (omega (arith, e, p)));
      challenges = omega (arith, e, challenges);
      terminal = λ p. terminal (omega (arith, e, p));
    }

one_column : Shape
one_column = record {
  main = 1;
  main_next = λ _. true;
  preprocessed = 0;
  preprocessed_next = λ _. true;
  periodic = 0;
  public = 0;
  permutation = 0;
  challenges = 0;
  terminals = 0;
}

pub taken_counted : (l : Written BabyBear) → IsTakenLookup l → HasCountForEach (read l)
unfolding one_column
taken_counted l h = (h one_column (record { column = lit< tt; next = refl })).counted

pub all_counted : (ls : List (Written BabyBear)) → All IsTakenLookup ls → All HasCountForEach (read_all ls)
unfolding one_column
all_counted ls all = All-map HasCountForEach read ls (λ k d l. (all k d l one_column (record { column = lit< tt; next = refl })).counted)

-- the right side of an equation
abbrev pub right_of : {X : Type 0} {x y : X} → x ≡ y → X
right_of {y = y} e = y
