-- Batches of matrices over an extension as batches over its base.
use Rattle.std.proofs.Common.{◌≡◌, ℕ, ◌*◌, ◌/◌, ◌%◌, ◌^◌, ◌<◌, List, [], ◌∷◌, length, map, get_or, refl, sym, ◌∙◌, ap, subst, arith, Vec}
use Rattle.std.specs.Prelude.{flat_map, All, slice_get, option_map}
use Rattle.std.specs.Int.{IsPowerOfTwo}
use Rattle.std.proofs.lemmas.List.{length-map}
use Rattle.std.proofs.lemmas.List.Elements.{All-nil, All-cons, All-map}
use Rattle.std.proofs.lemmas.Option.{slice_get-map, slice_get-get_or}
use Rattle.std.proofs.Math.ListN.{get_or-map}
use Rattle.std.proofs.Math.Nat.{mul-div_cancel, mul-mod_left}
use Rattle.p3_field.specs.Field.{VectorLaws}
use Rattle.p3_field.specs.Laws.VectorSpace.{flat_map_injective}
use Rattle.p3_matrix.specs.Matrix.{Rows, height, row_at}
use Rattle.p3_matrix.specs.declared.dense.Dimensions.{Dimensions}
use Rattle.p3_matrix.specs.Laws.Flattened.{length-pieces, height-pieces, row_at-pieces}
use Rattle.commit_core.specs.Periodic.{IsGreatest, EachFrom}
use Rattle.commit_rows.specs.Batches.{lists, IsBatch, IsRowOf, AreRowsAt, row_in, dimensions_of, HaveWidths, flat_rows, widened}

map_injective : {X Y : Type 0} (f : X → Y) → ((x y : X) → f x ≡ f y → x ≡ y) → (xs ys : List X) → map f xs ≡ map f ys → xs ≡ ys
map_injective f inj [] [] e = refl
map_injective f inj [] (y ∷ ys) e = cc
map_injective f inj (x ∷ xs) [] e = cc
map_injective f inj (x ∷ xs) (y ∷ ys) e =
    let a : f x ≡ f y = cc in
    let b : map f xs ≡ map f ys = cc in
    cc (inj x y a, map_injective f inj xs ys b)

-- a product by a positive number tells the factor
pub product_cancel : (a b d : ℕ) → 0 < d → a * d ≡ b * d → a ≡ b
product_cancel a b d p e = sym (mul-div_cancel a p) ∙ (ap (λ k. k / d) e ∙ mul-div_cancel b p)

module _ {E F : Type 0} (d : ℕ) (parts : E → List F) (whole : List F → E) (V : VectorLaws d parts whole) where
  pub flat_height : (m : Rows E) → height (flat_rows parts d m) ≡ height m
  flat_height m = height-pieces parts d V.coefficients_length V.positive m (flat_rows parts d m) refl refl

  pub flat_heights : (ms : List (Rows E)) → map (λ m. height m) (map (flat_rows parts d) ms) ≡ map (λ m. height m) ms
  flat_heights [] = refl
  flat_heights (m ∷ ms) = cc (flat_height m, flat_heights ms)

  pub flat_batch : (ms : List (Rows E)) → IsBatch ms → IsBatch (map (flat_rows parts d) ms)
  flat_batch ms b = record {
    not_empty = subst (λ n. 0 < n) (sym (length-map ms (flat_rows parts d))) b.not_empty;
    heights = All-map (λ (m : Rows F). IsPowerOfTwo (height m)) (flat_rows parts d) ms (λ k e h. subst IsPowerOfTwo (sym (flat_height (get_or ms k e))) (b.heights k e h));
  }

  pub flat_row : (ms : List (Rows E)) (i : ℕ) → IsRowOf ms i → IsRowOf (map (flat_rows parts d) ms) i
  flat_row ms i (n, (greatest, below)) = (n, (subst (λ hs. IsGreatest hs n) (sym (flat_heights ms)) greatest, below))

  pub flat_dimensions : (ms : List (Rows E)) → dimensions_of (map (flat_rows parts d) ms) ≡ map (widened d) (dimensions_of ms)
  flat_dimensions [] = refl
  flat_dimensions (m ∷ ms) = cc (flat_height m, flat_dimensions ms)

  flat_rows_of : (most i : ℕ) (ms : List (Rows E)) → map (λ m. row_at m (row_in most (height m) i)) (map (flat_rows parts d) ms) ≡ map (flat_map parts) (map (λ m. row_at m (row_in most (height m) i)) ms)
  flat_rows_of most i [] = refl
  flat_rows_of most i (m ∷ ms) =
      let at = row_at-pieces parts d V.coefficients_length m (flat_rows parts d m) (row_in most (height m) i) refl refl in
      let same = ap (λ h. row_at (flat_rows parts d m) (row_in most h i)) (flat_height m) in
      cc (same ∙ at, flat_rows_of most i ms)

  -- what the rows over the base are, where there is a greatest height
  pub flat_rows_at : (ms : List (Rows E)) (i most : ℕ) (rows : List (List F)) → IsGreatest (map (λ m. height m) ms) most → AreRowsAt (map (flat_rows parts d) ms) i rows
      → rows ≡ map (flat_map parts) (map (λ m. row_at m (row_in most (height m) i)) ms)
  flat_rows_at ms i most rows greatest at = at most (subst (λ hs. IsGreatest hs most) (sym (flat_heights ms)) greatest) ∙ flat_rows_of most i ms

  pub restored_rows_at : (ms : List (Rows E)) (i : ℕ) (rows : List (List F)) (restored : List (List E)) → map (flat_map parts) restored ≡ rows → AreRowsAt (map (flat_rows parts d) ms) i rows → AreRowsAt ms i restored
  restored_rows_at ms i rows restored e at most greatest =
      map_injective (flat_map parts) (flat_map_injective d parts whole V) restored (map (λ m. row_at m (row_in most (height m) i)) ms) (e ∙ flat_rows_at ms i most rows greatest at)

  pub divisible : {A : Type 0} (vs : List (Vec F A)) (rows : List (List E)) → lists vs ≡ map (flat_map parts) rows → All (λ v. length v.items % d ≡ 0) vs
  divisible [] rows e = All-nil (λ v. length v.items % d ≡ 0)
  divisible (v ∷ vs) [] e = cc
  divisible (v ∷ vs) (r ∷ rows) e =
      let a : v.items ≡ flat_map parts r = cc in
      let b : lists vs ≡ map (flat_map parts) rows = cc in
      let n : length v.items ≡ length r * d = ap length a ∙ length-pieces parts d V.coefficients_length r in
      All-cons (λ v. length v.items % d ≡ 0) v vs (ap (λ k. k % d) n ∙ mul-mod_left (length r) d) (divisible vs rows b)

  pub flat_widths : (ds : List Dimensions) (rows : List (List E)) → HaveWidths (map (widened d) ds) (map (flat_map parts) rows) → HaveWidths ds rows
  flat_widths ds rows h = record {
    count = sym (length-map rows (flat_map parts)) ∙ (h.count ∙ length-map ds (widened d));
    each = λ i row e s k.
        let a = slice_get-map (flat_map parts) rows i ∙ ap (option_map (flat_map parts)) e in
        let b = slice_get-map (widened d) ds i ∙ ap (option_map (widened d)) k in
        let same = h.each i (flat_map parts row) a (widened d s) b in
        product_cancel (length row) s.width d V.positive (sym (length-pieces parts d V.coefficients_length row) ∙ same);
  }

  pub flat_widths_each : (ds : List Dimensions) (rows : List (List (List E))) → All (HaveWidths (map (widened d) ds)) (map (map (flat_map parts)) rows) → All (HaveWidths ds) rows
  flat_widths_each ds rows h k e below =
      flat_widths ds (get_or rows k e) (subst (HaveWidths (map (widened d) ds)) (get_or-map (map (flat_map parts)) rows k e) (h k (map (flat_map parts) e) (subst (λ n. k < n) (sym (length-map rows (map (flat_map parts)))) below)))

  -- an inner scheme takes what is laid out over the base
  pub flat_takes : (takes : ℕ → Type 0) (ms : List (Rows E)) → All (λ m. (m.width * d < 2 ^ 64) × takes (m.width * d)) ms → All (λ m. takes m.width) (map (flat_rows parts d) ms)
  flat_takes takes ms h = All-map (λ (m : Rows F). takes m.width) (flat_rows parts d) ms (λ k e b. (h k e b).1)

  pub wide_takes : (takes : ℕ → Type 0) (ds : List Dimensions) → All (λ s. (s.width * d < 2 ^ 64) × takes (s.width * d)) ds → All (λ s. takes s.width) (map (widened d) ds)
  wide_takes takes ds h = All-map (λ (s : Dimensions). takes s.width) (widened d) ds (λ k e b. (h k e b).1)

  -- the same for several places
  pub flat_row_each : (ms : List (Rows E)) (indices : List ℕ) → All (IsRowOf ms) indices → All (IsRowOf (map (flat_rows parts d) ms)) indices
  flat_row_each ms indices h k e below = flat_row ms (get_or indices k e) (h k e below)

  pub restored_each : (ms : List (Rows E)) (indices : List ℕ) (rows : List (List (List F))) (restored : List (List (List E))) → map (map (flat_map parts)) restored ≡ rows
      → EachFrom indices rows (AreRowsAt (map (flat_rows parts d) ms)) → EachFrom indices restored (AreRowsAt ms)
  restored_each ms indices rows restored e h = record {
    count = sym (length-map restored (map (flat_map parts))) ∙ (ap length e ∙ h.count);
    each = λ k r s i t.
        let a = ap (λ l. slice_get l k) (sym e) ∙ (slice_get-map (map (flat_map parts)) restored k ∙ ap (option_map (map (flat_map parts))) s) in
        restored_rows_at ms i (map (flat_map parts) r) r refl (h.each k (map (flat_map parts) r) a i t);
  }

  pub divisible_each : {A : Type 0} (ms : List (Rows E)) (indices : List ℕ) (openings : List (Vec (Vec F A) A)) → All (IsRowOf ms) indices
      → EachFrom indices (map (λ rows. lists rows.items) openings) (AreRowsAt (map (flat_rows parts d) ms)) → All (λ rows. All (λ row. length row.items % d ≡ 0) rows.items) openings
  divisible_each ms indices openings within h k e below =
      let rows = get_or openings k e in
      let many : length openings ≡ length indices = sym (length-map openings (λ rows. lists rows.items)) ∙ h.count in
      let inside : k < length indices = omega arith in
      let i = get_or indices k 0 in
      let a = slice_get-map (λ rows. lists rows.items) openings k ∙ ap (option_map (λ rows. lists rows.items)) (slice_get-get_or openings k e below) in
      let (most, (greatest, low)) = within k 0 inside in
      divisible rows.items (map (λ m. row_at m (row_in most (height m) i)) ms) (flat_rows_at ms i most (lists rows.items) greatest (h.each k (lists rows.items) a i (slice_get-get_or indices k 0 inside)))

-- a fact moved along equations of what it speaks of
pub moved : {S D R P : Type 0} (Q : S → D → R → P → Type 0) (s t : S) (a b : D) (q r : R) (o p : P) → s ≡ t → a ≡ b → q ≡ r → o ≡ p → Q s a q o → Q t b r p
moved Q s t a b q r o p e f g h x = subst (λ z. Q t b r z) h (subst (λ z. Q t b z o) g (subst (λ z. Q t z q o) f (subst (λ z. Q z a q o) e x)))
