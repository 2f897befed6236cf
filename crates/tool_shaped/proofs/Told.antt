-- The parts of a table's shape are the shape that a prover asks for.
use Rattle.std.proofs.Common.{◌≡◌, ℕ, ◌+◌, ◌-◌, ◌^◌, ◌≤◌, Bool, List, length, sym, ◌∙◌, ap, subst, arith}
use Rattle.std.specs.Int.{IsPowerOfTwo}
use Rattle.std.specs.Prelude.{All, IsTrue, ◌↔◌}
use Rattle.p3_field.specs.Ring.{Ring}
use Rattle.p3_matrix.specs.Matrix.{FillsRows, Rows, height}
use Rattle.air_core.specs.Check.{HasHeight}
use Rattle.air_core.specs.Shape.{Declaration}
use Rattle.air_core.specs.Tree.{Interaction, Tree}
use Rattle.commit_core.specs.Periodic.{IsPeriod}
use Rattle.batch_config.specs.Setting.{Setting}
use Rattle.batch_constraints.specs.Sizing.{table_log_chunks}
use Rattle.batch_setup.specs.Laws.Logarithms.{log_of_power}
use Rattle.batch_setup.specs.Packed.{Source, source_of, unpacked_lookups}
use Rattle.batch_setup.specs.Setup.{Instance, log_of}
use Rattle.law_joining.specs.Shaped.{IsShaped}
use Rattle.tool_shaped.specs.Parts.{HasInstanceShape, HasRoom, HasShape, HasSizes, IsHeightWithin}

tall : (n : ℕ) → IsPowerOfTwo n → n ≡ 2 ^ (log_of n - 0)
tall n (k, e) =
    let none : log_of n - 0 ≡ log_of n = omega arith in
    e ∙ ap (λ j. 2 ^ j) (sym (none ∙ log_of_power n k e))

-- what tells the room for so many rows tells the shape, where these are the trace's and the other parts hold
pub told_shape : {F : Type 0} (f : Ring F) (two_adicity least most : ℕ) (s : Source F) (m : Rows F) (publics : List F) (rows : ℕ) → rows ≡ height m → FillsRows m.values m.width
    → HasSizes s.declaration m.width (length publics) → IsHeightWithin least most rows → All (λ (column : List F). IsPeriod rows (length column)) s.declaration.periodic → HasHeight s.declaration.preprocessed rows
    → (b : Bool) → (IsTrue b ↔ HasRoom f two_adicity s rows) → (IsTrue b ↔ HasShape f two_adicity least most s m publics)
told_shape {F = F} f two_adicity least most s m publics rows same fills sizes within periods prepared b told =
    let Periods : ℕ → Type 0 = λ n. All (λ (column : List F). IsPeriod n (length column)) s.declaration.periodic in
    let Prepared : ℕ → Type 0 = λ n. HasHeight s.declaration.preprocessed n in
    let Room : ℕ → Type 0 = λ n. HasRoom f two_adicity s n in (
      (λ h. record {
        fills = fills;
        sizes = sizes;
        rows = subst (IsHeightWithin least most) same within;
        periods = subst Periods same periods;
        prepared = subst Prepared same prepared;
        room = subst Room same (told.0 h);
      }),
      λ h. told.1 (subst Room (sym same) h.room),
    )

module _ {S F E C A : Type 0} (c : Setting S F E C) (declaration : A → Declaration F) (trees : A → List (Tree F)) (interactions : A → List (Interaction F)) where
  abbrev HasParts : Instance A F → Type 0
  HasParts i = HasInstanceShape c.field.ring c.two_adicity c.log_min c.log_max declaration trees interactions i

  abbrev IsWhole : Instance A F → Type 0
  IsWhole i = IsShaped c declaration trees interactions i

  abbrev source : Instance A F → Source F
  source i = source_of declaration trees interactions i.air

  -- the room for the chunks of so many rows
  abbrev Room : Instance A F → ℕ → Type 0
  Room i n = log_of (height i.trace) + table_log_chunks c.field.ring (source i).declaration (source i).trees 0 0 n (unpacked_lookups (source i)) ≤ c.two_adicity

  shaped_of : (i : Instance A F) → HasParts i → IsWhole i
  shaped_of i h = record {
    width = h.sizes.0;
    some = h.sizes.1;
    fills = h.fills;
    power = h.rows.0;
    least = h.rows.1;
    most = h.rows.2;
    prepared = h.prepared;
    periods = h.periods;
    publics = h.sizes.2;
    room = subst (Room i) (tall (height i.trace) h.rows.0) h.room;
  }

  parts_of : (i : Instance A F) → IsWhole i → HasParts i
  parts_of i h = record {
    fills = h.fills;
    sizes = (h.width, h.some, h.publics);
    rows = (h.power, h.least, h.most);
    periods = h.periods;
    prepared = h.prepared;
    room = subst (Room i) (sym (tall (height i.trace) h.power)) h.room;
  }

  -- what tells the parts within these bounds tells the shape, of one table and of all
  pub told : (i : Instance A F) (least most : ℕ) (b : Bool) → least ≡ c.log_min → most ≡ c.log_max
      → (IsTrue b ↔ HasInstanceShape c.field.ring c.two_adicity least most declaration trees interactions i) → (IsTrue b ↔ IsShaped c declaration trees interactions i)
  told i least most b l m h =
      let P : ℕ → ℕ → Type 0 = λ x y. IsTrue b ↔ HasInstanceShape c.field.ring c.two_adicity x y declaration trees interactions i in
      let t : IsTrue b ↔ HasParts i = subst (P c.log_min) m (subst (λ x. P x most) l h) in
      ((λ y. shaped_of i (t.0 y)), λ y. t.1 (parts_of i y))

  pub told_all : (is : List (Instance A F)) (least most : ℕ) (b : Bool) → least ≡ c.log_min → most ≡ c.log_max
      → (IsTrue b ↔ All (HasInstanceShape c.field.ring c.two_adicity least most declaration trees interactions) is) → (IsTrue b ↔ All (IsShaped c declaration trees interactions) is)
  told_all is least most b l m h =
      let P : ℕ → ℕ → Type 0 = λ x y. IsTrue b ↔ All (HasInstanceShape c.field.ring c.two_adicity x y declaration trees interactions) is in
      let t : IsTrue b ↔ All HasParts is = subst (P c.log_min) m (subst (λ x. P x most) l h) in
      ((λ y k d n. shaped_of _ (t.0 y k d n)), λ y. t.1 (λ k d n. parts_of _ (y k d n)))
