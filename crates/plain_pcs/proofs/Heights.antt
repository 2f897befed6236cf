-- Matrices of different heights, and a row of the highest.
use Rattle.std.proofs.Common.{◌≡◌, ℕ, ◌*◌, ◌/◌, ◌+◌, ◌<◌, ◌≤◌, [], ◌∷◌, ◌++◌, take, inl, inr, List, Some, length, map, get_or, refl, sym, ◌∙◌, ap, subst, arith, mul_comm, Vec}
use Rattle.std.specs.Prelude.{All, Bool, true, false, not, IsTrue, slice_get, option_map}
use Rattle.std.specs.Cmp.{IsEquivalence}
use Rattle.std.specs.Cmp.Lexicographic.{pointwise}
use Rattle.std.proofs.lemmas.Cmp.{lists_equiv}
use Rattle.std.proofs.lemmas.Option.{slice_get-map, slice_get-get_or}
use Rattle.std.specs.Int.{IsPowerOfTwo}
use Rattle.std.proofs.lemmas.Bool.{cases_lt}
use Rattle.std.proofs.lemmas.List.{length-map, take_more, map-append}
use Rattle.std.proofs.lemmas.List.{get_or-map as read_map, get_or_default}
use Rattle.std.proofs.lemmas.List.Elements.{All-map, All-contains}
use Rattle.std.proofs.lemmas.Nat.{pow_pos}
use Rattle.std.proofs.Math.ListN.{get_or-map}
use Rattle.std.proofs.Math.Nat.{div-lt_iff_lt-mul}
use Rattle.p3_matrix.specs.Matrix.{Rows, height, row_at}
use Rattle.p3_matrix.specs.declared.dense.Dimensions.{Dimensions}
use Rattle.p3_matrix.specs.Laws.Powers.{power_divides}
use Rattle.commit_core.specs.Space.{EachOf}
use Rattle.commit_core.specs.Periodic.{IsGreatest, EachFrom}
use Rattle.commit_rows.specs.Batches.{lists, IsRowOf, AreRowsAt, row_in, dimensions_of, HaveWidths}
use Rattle.plain_pcs.specs.PlainMmcs.{IsRowByEq, AreTheRows, AreDimensions, IsRowOpening, AreRowOpenings}
use Rattle.plain_pcs.proofs.Places.{each_mapped, source, mapped_at}

power_positive : (n : ℕ) → IsPowerOfTwo n → 0 < n
power_positive n (k, e) = omega (arith, pow_pos k, e)

-- how many rows of the highest belong to one of a smaller matrix
pub step_positive : (most h : ℕ) → IsPowerOfTwo most → IsPowerOfTwo h → h ≤ most → 0 < most / h
step_positive most h p q le = elim (cases_lt 0 (most / h)) [
  | inl a ↦ a
  | inr b ↦
      let none : most / h ≡ 0 = omega arith in
      absurd (omega (arith, power_divides most h p q le, ap (λ x. x * h) none, power_positive most p))
]

pub row_below : (most h i : ℕ) → IsPowerOfTwo most → IsPowerOfTwo h → h ≤ most → i < most → i / (most / h) < h
row_below most h i p q le below =
    let whole : h * (most / h) ≡ most = mul_comm h (most / h) ∙ power_divides most h p q le in
    (div-lt_iff_lt-mul {k = most / h} {x = i} {y = h} (step_positive most h p q le)).1 (omega (arith, whole))

pub one_greatest : (xs : List ℕ) (a b : ℕ) → IsGreatest xs a → IsGreatest xs b → a ≡ b
one_greatest xs a b A B =
    let x : a ≤ b = subst (λ v. v ≤ b) A.is_one.2 (B.none_greater A.is_one.0 a A.is_one.1) in
    let y : b ≤ a = subst (λ v. v ≤ a) B.is_one.2 (A.none_greater B.is_one.0 b B.is_one.1) in
    omega arith

module _ {T : Type 0} (ms : List (Rows T)) (most : ℕ) (G : IsGreatest (map (λ m. height m) ms) most) where
  pub none_higher : All (λ m. height m ≤ most) ms
  none_higher k d h =
      let f : Rows T → ℕ = λ m. height m in
      subst (λ n. n ≤ most) (get_or-map f ms k d) (G.none_greater k (f d) (subst (λ n. k < n) (sym (length-map ms f)) h))

  pub greatest_power : All (λ m. IsPowerOfTwo (height m)) ms → IsPowerOfTwo most
  greatest_power powers = All-contains IsPowerOfTwo (map (λ (m : Rows T). height m) ms) most (All-map IsPowerOfTwo (λ (m : Rows T). height m) ms powers) G.is_one

-- the width and height of a matrix
abbrev size_of : {T : Type 0} → Rows T → Dimensions
size_of m = record { width = m.width; height = height m }

module _ {T : Type 0} (ms : List (Rows T)) (i : ℕ) where
  pub the_rows_at_greatest : (eq : T → T → Bool) (most : ℕ) (rows : List (List T)) → IsGreatest (map (λ m. height m) ms) most → EachFrom ms rows (λ m row. IsRowByEq eq (row_in most (height m) i) m row) → AreTheRows eq ms i rows
  the_rows_at_greatest eq most rows G e n H =
      let P : ℕ → Type 0 = λ k. EachFrom ms rows (λ m row. IsRowByEq eq (row_in k (height m) i) m row) in
      subst P (one_greatest (map (λ (m : Rows T). height m) ms) most n G H) e

  -- rows that are the committed ones are so by ==
  pub equal_rows : (eq : T → T → Bool) (rows : List (List T)) → IsEquivalence eq → AreRowsAt ms i rows → AreTheRows eq ms i rows
  equal_rows eq rows E at most G =
      let row : Rows T → List T = λ m. row_at m (row_in most (height m) i) in
      let P : List (List T) → Type 0 = λ l. EachFrom ms l (λ m r. IsRowByEq eq (row_in most (height m) i) m r) in
      subst P (sym (at most G)) (each_mapped ms row (λ m r. IsRowByEq eq (row_in most (height m) i) m r) (λ j m h. (lists_equiv E).refl (row (get_or ms j m))))

  pub opened_rows_accepted : (eq : T → T → Bool) (rows : List (List T)) → IsEquivalence eq → All (λ m. IsPowerOfTwo (height m)) ms → IsRowOf ms i → AreRowsAt ms i rows → HaveWidths (dimensions_of ms) rows → IsRowOpening eq ms (dimensions_of ms) i rows
  opened_rows_accepted eq rows E powers place at widths = record {
    shape = record { dimensions = record { same = refl; powers = powers }; widths = widths };
    place = place;
    values = equal_rows eq rows E at;
  }

-- rows as long as the matrices are wide
pub widths_of : {T : Type 0} (ms : List (Rows T)) (rows : List (List T)) → map (λ row. length row) rows ≡ map (λ m. m.width) ms → HaveWidths (dimensions_of ms) rows
widths_of {T} ms rows e =
    let n : length rows ≡ length ms = sym (length-map rows (λ (row : List T). length row)) ∙ (ap length e ∙ length-map ms (λ (m : Rows T). m.width)) in
    record {
      count = n ∙ sym (length-map ms size_of);
      each = λ k row p d q.
          let (m, at, same) = source size_of (slice_get ms k) d (sym (slice_get-map size_of ms k) ∙ q) in
          let long : slice_get (map (λ (r : List T). length r) rows) k ≡ Some (length row) = slice_get-map (λ (r : List T). length r) rows k ∙ ap (option_map (λ (r : List T). length r)) p in
          let wide : slice_get (map (λ (m : Rows T). m.width) ms) k ≡ Some m.width = slice_get-map (λ (m : Rows T). m.width) ms k ∙ ap (option_map (λ (m : Rows T). m.width)) at in
          let both : Some (length row) ≡ Some m.width = sym long ∙ (ap (λ l. slice_get l k) e ∙ wide) in
          let is : length row ≡ m.width = cc in
          is ∙ ap (λ (s : Dimensions). s.width) same;
    }

module _ {T : Type 0} (ms : List (Rows T)) (ds : List Dimensions) (i : ℕ) (m : Rows T) (d : Dimensions) where
  pub size_at : ds ≡ dimensions_of ms → i < length ms → m ≡ get_or ms i m → get_or ds i d ≡ record { width = m.width; height = height m }
  size_at e h q = ap (λ l. get_or l i d) e ∙ (read_map size_of ms i m d h ∙ ap size_of (sym q))

  pub dimensions_more : length ds ≡ length ms → i < length ms → m ≡ get_or ms i m → get_or ds i d ≡ record { width = m.width; height = height m } → take i ds ≡ dimensions_of (take i ms) → take (i + 1) ds ≡ dimensions_of (take (i + 1) ms)
  dimensions_more n h q s e =
      let a = take_more ds i d (omega (arith, n, h)) in
      let b = ap (map size_of) (take_more ms i m h) ∙ map-append size_of (take i ms) (get_or ms i m ∷ []) in
      let c : get_or ds i d ≡ size_of (get_or ms i m) = s ∙ ap size_of q in
      a ∙ (ap (λ l. l ++ get_or ds i d ∷ []) e ∙ (ap (λ y. dimensions_of (take i ms) ++ y ∷ []) c ∙ sym b))

not_false : (b : Bool) → not b ≡ false → b ≡ true
not_false true h = refl
not_false false h = sym h

-- what the test of two rows tells
pub tested_row : {T : Type 0} (eq : T → T → Bool) (a row b at : List T) (t : Bool) → a ≡ row → b ≡ at → t ≡ not (pointwise eq a b) → (t ≡ false → IsTrue (pointwise eq row at)) × (IsTrue (pointwise eq row at) → t ≡ false)
tested_row eq a row b at t p q e =
    let s : pointwise eq a b ≡ pointwise eq row at = ap (λ l. pointwise eq l b) p ∙ ap (λ l. pointwise eq row l) q in
    (λ f. sym s ∙ not_false (pointwise eq a b) (sym e ∙ f), λ k. e ∙ ap not (s ∙ k))

module _ {T : Type 0} (ms : List (Rows T)) where
  -- several openings of the committed rows
  pub all_opened_accepted : (eq : T → T → Bool) (is : List ℕ) (openings : List (List (List T))) → IsEquivalence eq → All (λ m. IsPowerOfTwo (height m)) ms → All (IsRowOf ms) is
      → EachFrom is openings (AreRowsAt ms) → All (HaveWidths (dimensions_of ms)) openings → AreRowOpenings eq ms (dimensions_of ms) is openings
  all_opened_accepted eq is openings E powers places at widths = record {
    shape = record { dimensions = record { same = refl; powers = powers }; count = at.count; widths = widths };
    places = places;
    values = record { count = at.count; each = λ i y q x p. equal_rows ms x eq y E (at.each i y q x p) };
  }

  pub widths_each : (is : List ℕ) (openings : List (List (List T))) (A : ℕ → List (List T) → Type 0)
      → EachOf (length is) openings (λ i y. (x : ℕ) → slice_get is i ≡ Some x → A x y × (map (λ row. length row) y ≡ map (λ m. m.width) ms)) → All (HaveWidths (dimensions_of ms)) openings
  widths_each is openings A E k d h =
      widths_of ms (get_or openings k d) (E.each k (get_or openings k d) (slice_get-get_or openings k d h) (get_or is k 0) (slice_get-get_or is k 0 (omega (arith, h, E.count)))).1

  -- openings of the right shape have as many rows as there are matrices
  pub row_counts : {A : Type 0} (ds : List Dimensions) (openings : List (Vec (Vec T A) A)) → AreDimensions ms ds → All (HaveWidths ds) (map (λ rows. lists rows.items) openings) → All (λ rows. length rows.items ≡ length ms) openings
  row_counts {A} ds openings D widths k d h =
      let f : Vec (Vec T A) A → List (List T) = λ rows. lists rows.items in
      let item = get_or openings k d in
      let w = mapped_at (HaveWidths ds) f openings k item h (get_or_default openings k d item h) widths in
      omega (arith, w.count, length-map item.items (λ (v : Vec T A). v.items), ap length D.same, length-map ms size_of)
