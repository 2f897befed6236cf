-- Tables of periodic columns by a transform of the columns over all rows.
use Rattle.std.proofs.Common.{◌≡◌, ℕ, zero, suc, ◌+◌, ◌-◌, ◌*◌, ◌/◌, ◌%◌, ◌^◌, ◌<◌, ◌≤◌, List, [], ◌∷◌, Some, length, get_or, map, subst, sym, ◌∙◌, ap, arith, mul_assoc}
use Rattle.std.specs.Prelude.{slice_get}
use Rattle.std.specs.List.{All}
use Rattle.std.proofs.Math.Nat.{mod-eq_of_lt, mod-mod, mod-mod_of_dvd, mul-div_cancel}
use Rattle.std.proofs.lemmas.Nat.{mod_below, pow-add, pow_pos}
use Rattle.std.proofs.lemmas.Nat.Gcd.{mod-eq-zero_of_dvd}
use Rattle.std.proofs.lemmas.List.{ext_get_or, map-id, length-map}
use Rattle.std.proofs.lemmas.Option.{slice_get_within}
use Rattle.p3_field.specs.Ring.{Ring, RingLaws, pow}
use Rattle.p3_field.specs.Field.{FieldLaws, TwoAdicLaws}
use Rattle.p3_field.specs.Poly.{eval_poly, Apart}
use Rattle.p3_field.specs.Domain.{CosetData, point, IsInterpolant}
use Rattle.p3_field.specs.Newton.{newton}
use Rattle.p3_field.specs.Laws.Interpolants.{interpolant_exists, points_apart}
use Rattle.p3_field.specs.Laws.Own.{own_hom}
use Rattle.p3_matrix.specs.Interpolation.{IsInterpolatedAt}
use Rattle.p3_matrix.specs.Matrix.{Rows, height, cell_at, column}
use Rattle.p3_matrix.specs.Laws.Cells.{length-column, get_or-column}
use Rattle.p3_matrix.specs.Laws.Grids.{IsGrid, product_height}
use Rattle.p3_dft.specs.Transform.{values_at}
use Rattle.p3_dft.specs.Laws.Values.{get_or-values_at}
use Rattle.commit_core.specs.Periodic.{IsGreatest, IsPeriod, over_rows, IsPeriodicAt, IsPeriodicTable}
use Rattle.commit_core.specs.Laws.Repeated.{length_over_rows, get_or_over_rows, periods_points, periodic_on_coset}
use Rattle.plain_pcs.specs.Transfer.{IsTransfer, IsRepeated}
use Rattle.plain_pcs.specs.Laws.Listed.{item_has}
use Rattle.plain_pcs.proofs.Commitments.{values_of_interpolant}

-- a period has values, and whole copies fill the rows
pub period_positive : (n k : ℕ) → IsPeriod n k → 0 < k
period_positive n k p = omega (arith, p.0.1, pow_pos p.0.0)

whole_copies : (n k : ℕ) → IsPeriod n k → n ≡ n / k * k
whole_copies n k p =
    let pos : 0 < k = period_positive n k p in
    let none : n % k ≡ 0 = mod-eq-zero_of_dvd k p.1 in
    omega arith

-- a period laid over a number of rows, and that over more rows, is the period over these
over_twice : {A : Type 0} (z : A) (n k p : ℕ) (xs : List A) → n ≡ k * p → 0 < p → IsPeriod p (length xs) → over_rows n (over_rows p xs) ≡ over_rows n xs
over_twice z n k p xs e some period =
    let l = length xs in
    let pos : 0 < l = period_positive p l period in
    let copies : p ≡ p / l * l = whole_copies p l period in
    let ys = over_rows p xs in
    let long : length ys ≡ p = length_over_rows p (p / l) xs copies pos in
    let outer : n ≡ k * length ys = e ∙ ap (λ m. k * m) (sym long) in
    let whole : n ≡ k * (p / l) * l = e ∙ (ap (λ m. k * m) copies ∙ sym (mul_assoc k (p / l) l)) in
    let filled : 0 < length ys = omega (arith, long, some) in
    let total : length (over_rows n ys) ≡ n = length_over_rows n k ys outer filled in
    ext_get_or z (over_rows n ys) (over_rows n xs) (total ∙ sym (length_over_rows n (k * (p / l)) xs whole pos))
    (λ i b.
    let below : i < n = omega (arith, total) in
    let inside : i % p < p = mod_below i p some in
    get_or_over_rows n k ys i z outer filled below
    ∙ (ap (λ m. get_or ys (i % m) z) long
    ∙ (get_or_over_rows p (p / l) xs (i % p) z copies pos inside
    ∙ (ap (λ m. get_or xs m z) (mod-mod_of_dvd l i period.1)
    ∙ sym (get_or_over_rows n (k * (p / l)) xs i z whole pos below)))))

module _ {A : Type 0} (r : Ring A) where
  -- a column of the matrix is the period over all rows
  repeated_column : (n : ℕ) (columns : List (List A)) (m : Rows A) (j : ℕ) (c : List A) → IsRepeated r.zero n columns m → IsPeriod n (length c) → slice_get columns j ≡ Some c → column r.zero m j ≡ over_rows n c
  repeated_column n columns m j c R p h =
      let pos = period_positive n (length c) p in
      let copies = whole_copies n (length c) p in
      let some : j < length columns = slice_get_within columns j c h in
      let tall : height m ≡ n = R.height_is (omega arith) in
      let long : length (over_rows n c) ≡ n = length_over_rows n (n / length c) c copies pos in
      ext_get_or r.zero (column r.zero m j) (over_rows n c)
      (length-column r.zero m j ∙ (tall ∙ sym long))
      (λ i b.
      let inside : i < height m = omega (arith, length-column r.zero m j) in
      let below : i < n = omega arith in
      get_or-column r.zero m j i inside ∙ (R.cell_is i j c below h ∙ sym (get_or_over_rows n (n / length c) c i r.zero copies pos below)))

module _ {A : Type 0} (r : Ring A) (L : RingLaws r) (inv : A → A) (W : FieldLaws r inv) (top : ℕ) (root : ℕ → A) (T : TwoAdicLaws r top root) where
  periodic_cell : (d e : CosetData A) (columns : List (List A)) (m v : Rows A) (j : ℕ) (c : List A) (i : ℕ) → d.log_size ≤ top → (d.shift ≡ r.zero → ⊥) → IsPeriod (2 ^ d.log_size) (length c)
      → IsRepeated r.zero (2 ^ d.log_size) columns m → IsTransfer r root d e m v → slice_get columns j ≡ Some c → i < 2 ^ e.log_size
      → IsPeriodicAt r r (λ y. y) (2 ^ d.log_size) (point r root d) (point r root e i) c (cell_at r.zero v (i % height v) j)
  periodic_cell d e columns m v j c i fits nz p R I h b =
      let n = 2 ^ d.log_size in
      let w = over_rows n c in
      let long : length w ≡ n = length_over_rows n (n / length c) c (whole_copies n (length c) p) (period_positive n (length c) p) in
      let f = newton r inv (length w) (point r root d) (λ k. get_or w k r.zero) in
      let apart : Apart (length w) (point r root d) = λ x y a z. points_apart r L inv W top root T d fits nz x y a (omega arith) in
      let F : IsInterpolant r (point r root d) w f = interpolant_exists r L inv W (point r root d) w apart in
      let some : j < length columns = slice_get_within columns j c h in
      let across : j < m.width = omega (arith, R.width_is) in
      let before : column r.zero m j ≡ values_at r (point r root d) n f = repeated_column r n columns m j c R p h ∙ values_of_interpolant r (point r root d) n w f long F in
      let after : column r.zero v j ≡ values_at r (point r root e) (2 ^ e.log_size) f = I.column_is j f across (omega (arith, F.length_is)) before in
      let tall : i < height v = omega (arith, I.height_is) in
      record {
        interpolant = f;
        interpolates = F;
        value_is =
            ap (λ k. cell_at r.zero v k j) (mod-eq_of_lt tall)
            ∙ (sym (get_or-column r.zero v j i tall)
            ∙ (ap (λ l. get_or l i r.zero) after
            ∙ (get_or-values_at r (point r root e) (2 ^ e.log_size) f i r.zero b ∙ ap (λ l. eval_poly r l (point r root e i)) (sym (map-id f)))));
      }

  -- A transfer between the domains of the points' powers, of columns laid over as many rows as the smaller has points: the table
  -- reads the columns' interpolants at the points themselves.
  folded_cell : (d e d1 e1 : CosetData A) (a : ℕ) (columns : List (List A)) (m v : Rows A) (j : ℕ) (c : List A) (i : ℕ) → d.log_size ≤ top → e.log_size ≤ top → (d1.shift ≡ r.zero → ⊥)
      → d1.log_size + a ≡ d.log_size → e1.log_size + a ≡ e.log_size → d1.shift ≡ pow r d.shift (2 ^ a) → e1.shift ≡ pow r e.shift (2 ^ a)
      → IsPeriod (2 ^ d1.log_size) (length c) → IsRepeated r.zero (2 ^ d1.log_size) columns m → IsTransfer r root d1 e1 m v → slice_get columns j ≡ Some c
      → IsPeriodicAt r r (λ y. y) (2 ^ d.log_size) (point r root d) (point r root e i) c (cell_at r.zero v (i % height v) j)
  folded_cell d e d1 e1 a columns m v j c i fits fits_e nz sum sum_e shift shift_e p R I h =
      let q = 2 ^ d1.log_size in
      let w = over_rows q c in
      let pos : 0 < length c = period_positive q (length c) p in
      let some : 0 < 2 ^ e1.log_size = pow_pos e1.log_size in
      let k = i % 2 ^ e1.log_size in
      let below : k < 2 ^ e1.log_size = mod_below i (2 ^ e1.log_size) some in
      let same : k % height v ≡ i % height v = ap (λ n. i % n % height v) (sym I.height_is) ∙ mod-mod i (height v) in
      let y = cell_at r.zero v (i % height v) j in
      let at : IsPeriodicAt r r (λ y. y) q (point r root d1) (point r root e1 k) c (cell_at r.zero v (k % height v) j) =
      periodic_cell d1 e1 columns m v j c k (omega arith) nz p R I h below in
      let here : IsInterpolatedAt r r (λ y. y) (point r root d1) w (point r root e1 k) y =
      subst (λ (n : ℕ). IsInterpolatedAt r r (λ y. y) (point r root d1) w (point r root e1 k) (cell_at r.zero v n j)) same at in
      let power : IsInterpolatedAt r r (λ y. y) (point r root d1) w (pow r (point r root e i) (2 ^ a)) y =
      subst (λ (x : A). IsInterpolatedAt r r (λ y. y) (point r root d1) w x y) (sym (periods_points r L r L (λ y. y) (own_hom r) top root T e e1 a fits_e sum_e shift_e i)) here in
      let long : length w ≡ q = length_over_rows q (q / length c) c (whole_copies q (length c) p) pos in
      let whole : IsPeriodicAt r r (λ y. y) (2 ^ d.log_size) (point r root d) (point r root e i) w y =
      periodic_on_coset r L r L (λ y. y) (own_hom r) top root T d d1 a w (point r root e i) y fits sum shift long power in
      let size : 2 ^ d.log_size ≡ 2 ^ a * q = let c : a + d1.log_size ≡ d.log_size = omega arith in ap (λ m. 2 ^ m) (sym c) ∙ pow-add 2 a d1.log_size in
      subst (λ (l : List A). IsInterpolatedAt r r (λ y. y) (point r root d) l (point r root e i) y) (over_twice r.zero (2 ^ d.log_size) (2 ^ a) q c size (pow_pos d1.log_size) p) whole

  pub folded_table : (d e d1 e1 : CosetData A) (a : ℕ) (columns : List (List A)) (m v : Rows A) → d.log_size ≤ top → e.log_size ≤ top → (d1.shift ≡ r.zero → ⊥)
      → d1.log_size + a ≡ d.log_size → e1.log_size + a ≡ e.log_size → d1.shift ≡ pow r d.shift (2 ^ a) → e1.shift ≡ pow r e.shift (2 ^ a)
      → All (λ c. IsPeriod (2 ^ d1.log_size) (length c)) columns → IsRepeated r.zero (2 ^ d1.log_size) columns m → IsTransfer r root d1 e1 m v
      → IsPeriodicTable r (2 ^ d.log_size) (point r root d) (2 ^ e.log_size) (point r root e) columns v
  folded_table d e d1 e1 a columns m v fits fits_e nz sum sum_e shift shift_e periods R I = record {
    width_is = I.width_is ∙ R.width_is;
    has_rows = λ h. let q : 0 < 2 ^ e1.log_size = pow_pos e1.log_size in omega (arith, I.height_is);
    cell_is = λ j c i h b. folded_cell d e d1 e1 a columns m v j c i fits fits_e nz sum sum_e shift shift_e (item_has (λ x. IsPeriod (2 ^ d1.log_size) (length x)) columns j c periods h) R I h;
  }

-- where there is a longest one, there is a column, and without a column none
pub some_column : {V : Type 0} (f : V → ℕ) (columns : List V) (p : ℕ) → IsGreatest (map f columns) p → 0 < length columns
some_column f columns p G = let (i, inside, at) = G.is_one in omega (arith, inside, length-map columns f)

pub no_period : {V : Type 0} (f : V → ℕ) (columns : List V) (p : ℕ) → length columns ≡ 0 → IsGreatest (map f columns) p → ⊥
no_period f columns p none G = omega (arith, some_column f columns p G)

pub no_table : {A V : Type 0} (r : Ring A) (n : ℕ) (p : ℕ → A) (m : ℕ) (q : ℕ → A) (items : V → List A) (columns : List V) (t : Rows A) → length columns ≡ 0 → t ≡ record { values = []; width = 0 }
    → IsPeriodicTable r n p m q (map items columns) t
no_table {A} r n p m q items columns t none is =
    let long : length (map items columns) ≡ 0 = length-map columns items ∙ none in
    record {
      width_is = ap (λ (v : Rows A). v.width) is ∙ sym long;
      has_rows = λ h. absurd (omega (arith, long));
      cell_is = λ j c i h b. absurd (omega (arith, slice_get_within (map items columns) j c h, long));
    }

-- a domain by its two parts
pub same_domain : {A : Type 0} (d : CosetData A) (shift : A) (k : ℕ) → d.shift ≡ shift → d.log_size ≡ k → d ≡ record { shift = shift; log_size = k }
same_domain d shift k p q = λ i. record { shift = p i; log_size = q i }

-- how many rows the table has
pub folded_height : (h p n k a e b : ℕ) → h ≡ 2 ^ e → p ≡ 2 ^ k → k + a ≡ n → e + a ≡ b → n ≤ b → h ≡ p * (2 ^ b / 2 ^ n)
folded_height h p n k a e b is q sum sum_e le =
    let rest : n + (b - n) ≡ b = omega arith in
    let more : k + (b - n) ≡ e = omega arith in
    let split : 2 ^ b ≡ 2 ^ (b - n) * 2 ^ n = ap (λ i. 2 ^ i) (let c : b - n + n ≡ b = omega arith in sym c) ∙ pow-add 2 (b - n) n in
    let quotient : 2 ^ b / 2 ^ n ≡ 2 ^ (b - n) = ap (λ x. x / 2 ^ n) split ∙ mul-div_cancel (2 ^ (b - n)) (pow_pos n) in
    is ∙ (ap (λ i. 2 ^ i) (sym more) ∙ (pow-add 2 k (b - n) ∙ (ap (λ x. x * 2 ^ (b - n)) (sym q) ∙ ap (λ x. p * x) (sym quotient))))

-- an item of a list that is read from another
read_at : {A X : Type 0} (items : X → List A) (xs : List X) (h : List A → A) (j : ℕ) (c : List A) (z : A) → slice_get (map items xs) j ≡ Some c → get_or (map (λ x. h (items x)) xs) j z ≡ h c
read_at items [] h j c z e = cc
read_at items (x ∷ xs) h zero c z e = let same : items x ≡ c = cc in ap h same
read_at items (x ∷ xs) h (suc j) c z e = read_at items xs h j c z e

-- a grid of the columns' values
pub repeated_grid : {A X : Type 0} (z : A) (items : X → List A) (xs : List X) (n : ℕ) (vs : List A) (m : Rows A) → IsGrid z vs n (length xs) (λ i j. get_or (map (λ x. get_or (items x) (i % length (items x)) z) xs) j z)
    → m ≡ record { values = vs; width = length xs } → IsRepeated z n (map items xs) m
repeated_grid {A} z items xs n vs m G is = record {
  width_is = wide ∙ sym (length-map xs items);
  height_is = λ h. let some : 0 < length xs = omega (arith, length-map xs items) in ap (λ (v : Rows A). height v) is ∙ product_height vs n (length xs) G.length_is some;
  cell_is = λ i j c b h.
      let some : j < length xs = omega (arith, slice_get_within (map items xs) j c h, length-map xs items) in
      ap (λ (v : Rows A). cell_at z v i j) is ∙ (G.cell_is i j b some ∙ read_at items xs (λ l. get_or l (i % length l) z) j c z h);
}
  where
    wide : m.width ≡ length xs
    wide = ap (λ (v : Rows A). v.width) is
