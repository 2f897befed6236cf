-- The tests of common data, put together.
use Rattle.std.proofs.Common.{◌≡◌, ℕ, ◌<◌, ◌≤◌, min, List, [], ◌∷◌, All, length, map, take, get_or, Option, None, Some, sym, ◌∙◌, ap, subst, arith}
use Rattle.std.specs.Prelude.{flat_map}
use Rattle.std.proofs.lemmas.List.{length-map, take-map}
use Rattle.std.proofs.lemmas.List.Elements.{All-weaker}
use Rattle.air_core.specs.Shape.{Declaration, declared_shape}
use Rattle.p3_lookup.specs.Lookup.{LookupData, HasCountForEach, ReadsSent, IsLookup}
use Rattle.p3_lookup.specs.Bus.{HaveOneWidth}
use Rattle.p3_lookup.specs.Written.{Written, read_all}
use Rattle.batch_statement.specs.Statement.{PreprocessedTracesData, WrittenCommon, WellFormed, read_common, instance_count, within_entries}
use Rattle.batch_statement.specs.Fitting.{FitsPreprocessed}

-- the lookups of the first n tables read what they may, and are counted
abbrev pub LookupsFit : {F : Type 0} → List (Declaration F) → List (List (Written F)) → ℕ → Type 0
LookupsFit {F = F} ds ws n = (k : ℕ) → k < n → (d : Declaration F) → All (IsLookup (declared_shape (get_or ds k d))) (get_or (map read_all ws) k [])

abbrev pub WidthsFit : {F : Type 0} → List (List (Written F)) → ℕ → Type 0
WidthsFit ws n = HaveOneWidth (flat_map (λ ls. ls) (map read_all (take n ws)))

-- the number of instances, found from the lengths
pub counted : {A F C : Type 0} (f : A → Declaration F) (airs : List A) (w : WrittenCommon F C) (n : ℕ)
    → n ≡ within_entries w.preprocessed (min (length airs) (length w.lookups)) → n ≡ instance_count (map f airs) (read_common w)
counted {F = F} f airs w n e =
    e ∙ ap (λ k. within_entries w.preprocessed (min k (length w.lookups))) (sym (length-map airs f))
    ∙ ap (λ k. within_entries w.preprocessed (min (length (map f airs)) k)) (sym (length-map w.lookups (read_all {F = F})))

within_below : {C : Type 0} (p : Option (PreprocessedTracesData C)) (n : ℕ) → within_entries p n ≤ n
within_below None n = omega arith
within_below (Some g) n = omega arith

some_declaration : {F : Type 0} (ds : List (Declaration F)) (i : ℕ) → i < length ds → Declaration F
some_declaration [] i h = absurd (omega (arith, h))
some_declaration (d ∷ ds) i h = d

pub well_formed : {F C : Type 0} (ds : List (Declaration F)) (w : WrittenCommon F C) (n : ℕ) → n ≡ instance_count ds (read_common w)
    → LookupsFit ds w.lookups n → WidthsFit w.lookups n → FitsPreprocessed ds w.preprocessed n → WellFormed ds (read_common w)
well_formed {F = F} ds w n e lookups widths traces =
    let P : ℕ → Type 0 = λ k. LookupsFit ds w.lookups k in
    let Q : ℕ → Type 0 = λ k. WidthsFit w.lookups k in
    let R : ℕ → Type 0 = λ k. FitsPreprocessed ds w.preprocessed k in
    let S : List (List (LookupData F)) → Type 0 = λ ls. HaveOneWidth (flat_map (λ l. l) ls) in
    let m = instance_count ds (read_common w) in
    let own = subst P e lookups in
    let fitting = subst R e traces in
    let within : m ≤ length ds = omega (arith, within_below w.preprocessed (min (length ds) (length (map (read_all {F = F}) w.lookups)))) in
    record {
      reads = λ i h d. All-weaker (IsLookup (declared_shape (get_or ds i d))) (ReadsSent (declared_shape (get_or ds i d))) (λ l p. p.reads) (get_or (map read_all w.lookups) i []) (own i h d);
      counted = λ i h. let d = some_declaration ds i (omega (arith, h, within)) in
          All-weaker (IsLookup (declared_shape (get_or ds i d))) HasCountForEach (λ l p. p.counted) (get_or (map read_all w.lookups) i []) (own i h d);
      one_width = subst S (sym (take-map (read_all {F = F}) m w.lookups)) (subst Q e widths);
      entries = fitting.entries;
      listed = fitting.listed;
      places = fitting.places;
    }

pub lookups_from : {F C : Type 0} (ds : List (Declaration F)) (w : WrittenCommon F C) (n : ℕ) → n ≡ instance_count ds (read_common w) → WellFormed ds (read_common w) → LookupsFit ds w.lookups n
lookups_from {F = F} ds w n e h =
    let P : ℕ → Type 0 = λ k. LookupsFit ds w.lookups k in
    subst P (sym e) (λ i lt d j l in-j. record { counted = h.counted i lt j l in-j; reads = h.reads i lt d j l in-j })

pub widths_from : {F C : Type 0} (ds : List (Declaration F)) (w : WrittenCommon F C) (n : ℕ) → n ≡ instance_count ds (read_common w) → WellFormed ds (read_common w) → WidthsFit w.lookups n
widths_from {F = F} ds w n e h =
    let Q : ℕ → Type 0 = λ k. WidthsFit w.lookups k in
    let S : List (List (LookupData F)) → Type 0 = λ ls. HaveOneWidth (flat_map (λ l. l) ls) in
    subst Q (sym e) (subst S (take-map (read_all {F = F}) (instance_count ds (read_common w)) w.lookups) h.one_width)

pub traces_from : {F C : Type 0} (ds : List (Declaration F)) (w : WrittenCommon F C) (n : ℕ) → n ≡ instance_count ds (read_common w) → WellFormed ds (read_common w) → FitsPreprocessed ds w.preprocessed n
traces_from ds w n e h =
    let R : ℕ → Type 0 = λ k. FitsPreprocessed ds w.preprocessed k in
    subst R (sym e) (record { entries = h.entries; listed = h.listed; places = h.places })
