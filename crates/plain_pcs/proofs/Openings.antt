-- Opened values, list by list.
use Rattle.std.proofs.Common.{◌≡◌, ℕ, zero, suc, ◌+◌, ◌-◌, ◌^◌, ◌<◌, ◌≤◌, List, [], ◌∷◌, ◌++◌, length, get_or, map, take, refl, sym, ◌∙◌, ap, subst, arith}
use Rattle.std.specs.Prelude.{zip, Vec, All}
use Rattle.std.proofs.Math.Pow.{pow_mono}
use Rattle.std.proofs.lemmas.List.{map_push, map_more, ext_get_or, length-map, get_or-map, take_all}
use Rattle.std.proofs.lemmas.Option.{slice_get-get_or, slice_get_read}
use Rattle.commit_core.specs.Claims.{Request}
use Rattle.commit_core.specs.Commitments.{Committed, OpenedCommitment, values_of, opened_round, opened}
use Rattle.commit_core.specs.Periodic.{EachFrom}
use Rattle.commit_core.specs.Laws.OneItem.{matrix_in, round_in}
use Rattle.commit_core.specs.Laws.Pairs.{length-zip}
use Rattle.p3_field.specs.Ring.{Ring, RingLaws}
use Rattle.p3_field.specs.Field.{FieldLaws, TwoAdicLaws, RingHom}
use Rattle.p3_field.specs.Poly.{eval_poly}
use Rattle.p3_field.specs.Domain.{CosetData, coset_point, point}
use Rattle.p3_field.specs.Laws.Roots.{field_no_zero_divisors}
use Rattle.p3_field.specs.Laws.Interpolants.{points_apart}
use Rattle.p3_matrix.specs.Matrix.{Rows, height, column}
use Rattle.p3_matrix.specs.Interpolation.{IsInterpolatedAt}
use Rattle.plain_pcs.specs.Scheme.{PlainCommitmentData}
use Rattle.plain_pcs.specs.Transfer.{IsTransfer}
use Rattle.plain_pcs.specs.Opening.{HaveMatrixValues, EachHasValues, opened_each}
use Rattle.plain_pcs.specs.Laws.Short.{value_of_short}

-- one result more
pub one_more : {X Y Z : Type 0} (items : Z → Y) (f : X → Y) (ws zs : List Z) (w : Z) (xs : List X) (i : ℕ) (x : X) → map items ws ≡ map f (take i xs) → zs ≡ ws ++ w ∷ [] → i < length xs → items w ≡ f (get_or xs i x)
    → map items zs ≡ map f (take (i + 1) xs)
one_more items f ws zs w xs i x e q h v =
    ap (map items) q ∙ (map_push items ws w ∙ (ap (λ l. l ++ items w ∷ []) e ∙ (ap (λ y. map f (take i xs) ++ y ∷ []) v ∙ sym (map_more f xs i x h))))

pub get_or-zip : {X Y : Type 0} (xs : List X) (ys : List Y) (i : ℕ) (x : X) (y : Y) → i < length xs → i < length ys → get_or (zip xs ys) i (x, y) ≡ (get_or xs i x, get_or ys i y)
get_or-zip [] ys i x y a b = absurd (omega arith)
get_or-zip (v ∷ xs) [] i x y a b = absurd (omega arith)
get_or-zip (v ∷ xs) (w ∷ ys) zero x y a b = refl
get_or-zip (v ∷ xs) (w ∷ ys) (suc i) x y a b = get_or-zip xs ys i x y (omega arith) (omega arith)

module _ {F E : Type 0} (r : Ring F) (L : RingLaws r) (inv : F → F) (W : FieldLaws r inv) (top : ℕ) (root : ℕ → F) (T : TwoAdicLaws r top root)
    (s : Ring E) (M : RingLaws s) (embed : F → E) (H : RingHom r s embed) where
  -- the interpolants' values at a point are those of the polynomials that have the matrix's values
  pub opened_values : (d : CosetData F) (m : Rows F) (c : Committed F) (x : E) (v : List E) (t : F) → (d.shift ≡ r.zero → ⊥) → d.log_size ≤ top → height m ≡ 2 ^ d.log_size
      → HaveMatrixValues r root (2 ^ d.log_size) d m c.polynomials → length v ≡ m.width → t ≡ d.shift
      → ((j k : ℕ) → j < m.width → height m ≡ 2 ^ k → IsInterpolatedAt r s embed (coset_point r t (root k)) (column r.zero m j) x (get_or v j s.zero))
      → v ≡ values_of s embed c x
  opened_values d m c x v t nz fits high V long shift I =
      let fs = c.polynomials in
      let f : List F → E = λ g. eval_poly s (map embed g) x in
      let n : length v ≡ length (map f fs) = long ∙ (sym V.count ∙ sym (length-map fs f)) in
      ext_get_or s.zero v (map f fs) n
      (λ j h.
      let a : j < m.width = omega (arith, long) in
      let b : j < length fs = omega (arith, V.count) in
      let P : F → Type 0 = λ w. IsInterpolatedAt r s embed (coset_point r w (root d.log_size)) (column r.zero m j) x (get_or v j s.zero) in
      value_of_short r L (2 ^ d.log_size) (get_or fs j []) s M embed H (field_no_zero_divisors r L inv W) (point r root d) (column r.zero m j) x (get_or v j s.zero)
      (points_apart r L inv W top root T d fits nz) (V.short j [] b) (V.values_are j a) (subst P shift (I j d.log_size a high))
      ∙ sym (get_or-map f fs j [] s.zero b))

-- the rows for a part of the domain have the polynomials' values on it, and it has as many points as these have coefficients
pub narrowed : {F : Type 0} (r : Ring F) (root : ℕ → F) (blowup : ℕ) (d e : CosetData F) (m v : Rows F) (fs : List (List F)) → e.log_size ≡ d.log_size - blowup → IsTransfer r root d e m v
    → HaveMatrixValues r root (2 ^ (d.log_size - blowup)) d m fs → HaveMatrixValues r root (2 ^ e.log_size) e v fs
narrowed r root blowup d e m v fs size T V =
    let n : 2 ^ (d.log_size - blowup) ≡ 2 ^ e.log_size = ap (λ k. 2 ^ k) (sym size) in
    let most : 2 ^ e.log_size ≤ 2 ^ d.log_size = let h : e.log_size ≤ d.log_size = omega arith in pow_mono h in
    let short : All (λ f. length f ≤ 2 ^ e.log_size) fs = λ k f b. let h = V.short k f b in omega (arith, h, n) in
    record {
      count = V.count ∙ sym T.width_is;
      short = short;
      values_are = λ j b.
          let across : j < m.width = omega (arith, T.width_is) in
          T.column_is j (get_or fs j []) across (let h = short j [] (omega (arith, V.count)) in omega (arith, h, most)) (V.values_are j across);
    }

module _ {F E : Type 0} (r : Ring F) (root : ℕ → F) (blowup : ℕ) (s : Ring E) (embed : F → E) where
  -- all matrices
  pub all_matrices : (kept : List (CosetData F × Rows F)) (points : List (List E)) (cs : List (Committed F)) (i : ℕ) (ws : List (List (List E))) → length points ≡ length kept → length points ≤ i → EachHasValues r root blowup kept cs
      → ws ≡ map (λ p. map (values_of s embed p.0) p.1) (take i (zip cs points)) → ws ≡ opened_each s embed cs points
  all_matrices kept points cs i ws long past H now =
      let le : length points ≤ length cs = omega (arith, H.count) in
      let end : length (zip cs points) ≤ i = omega (arith, length-zip cs points le) in
      now ∙ ap (map (λ (p : Committed F × List E). map (values_of s embed p.0) p.1)) (take_all i (zip cs points) end)

  -- all requests
  pub all_requests : (requests : List (Request (List (CosetData F × Rows F)) E)) (held : List (OpenedCommitment (PlainCommitmentData F) F)) (i : ℕ) (ws : List (List (List (List E)))) → length requests ≤ i
      → EachFrom requests held (λ q h. EachHasValues r root blowup q.prover_data h.matrices) → ws ≡ map (λ p. opened_round s embed p.0 p.1) (take i (zip held requests)) → ws ≡ opened s embed held requests
  all_requests requests held i ws past H now =
      let le : length requests ≤ length held = omega (arith, H.count) in
      let end : length (zip held requests) ≤ i = omega (arith, length-zip held requests le) in
      now ∙ ap (map (λ (p : OpenedCommitment (PlainCommitmentData F) F × Request (List (CosetData F × Rows F)) E). opened_round s embed p.0 p.1)) (take_all i (zip held requests) end)

module _ {F E A : Type 0} (r : Ring F) (root : ℕ → F) (blowup : ℕ) (s : Ring E) (embed : F → E) where
  -- one matrix more
  pub next_matrix : (stored kept : List (CosetData F × Rows F)) (lists : List (Vec E A)) (cs : List (Committed F)) (i : ℕ) (ws zs : List (Vec (Vec E A) A)) (w : Vec (Vec E A) A) (e : CosetData F × Rows F) (l : Vec E A) (xs : List E)
      → length lists ≡ length kept → i < length lists → EachHasValues r root blowup kept cs → stored ≡ kept → e ≡ get_or stored i e → l ≡ get_or lists i l → xs ≡ l.items
      → map matrix_in ws ≡ map (λ p. map (values_of s embed p.0) p.1) (take i (zip cs (map (λ v. v.items) lists))) → zs ≡ ws ++ w ∷ []
      → ((c : Committed F) → HaveMatrixValues r root (2 ^ (e.0.log_size - blowup)) e.0 e.1 c.polynomials → matrix_in w ≡ map (values_of s embed c) xs)
      → map matrix_in zs ≡ map (λ p. map (values_of s embed p.0) p.1) (take (i + 1) (zip cs (map (λ v. v.items) lists)))
  next_matrix stored kept lists cs i ws zs w e l xs long h H view read item q now more told =
      let at : e ≡ get_or kept i e = read ∙ ap (λ k. get_or k i e) view in
      let pts : List (List E) = map (λ v. v.items) lists in
      let f : Committed F × List E → List (List E) = λ p. map (values_of s embed p.0) p.1 in
      let none : Committed F = record { size = 0; polynomials = [] } in
      let n : length pts ≡ length lists = length-map lists (λ v. v.items) in
      let a : i < length cs = omega (arith, H.count) in
      let b : i < length pts = omega arith in
      let le : length pts ≤ length cs = omega (arith, H.count) in
      let inside : i < length (zip cs pts) = omega (arith, length-zip cs pts le) in
      let c = get_or cs i none in
      let V : HaveMatrixValues r root (2 ^ (e.0.log_size - blowup)) e.0 e.1 c.polynomials = H.each i c (slice_get-get_or cs i none a) e (slice_get_read kept (length kept) i e refl (omega arith) at) in
      let same : get_or pts i [] ≡ xs = get_or-map (λ v. v.items) lists i l [] h ∙ (ap (λ (v : Vec E A). v.items) (sym item) ∙ sym q) in
      let value : matrix_in w ≡ f (get_or (zip cs pts) i (none, [])) =
      told c V ∙ (ap (map (values_of s embed c)) (sym same) ∙ ap f (sym (get_or-zip cs pts i none [] a b))) in
      one_more matrix_in f ws zs w (zip cs pts) i (none, []) now more inside value

  -- one request more
  pub next_request : (requests : List (Request (List (CosetData F × Rows F)) E)) (held : List (OpenedCommitment (PlainCommitmentData F) F)) (i : ℕ) (ws zs : List (Vec (Vec (Vec E A) A) A)) (w : Vec (Vec (Vec E A) A) A)
      (e : Request (List (CosetData F × Rows F)) E) (kept : List (CosetData F × Rows F)) (points : List (List E))
      → i < length requests → EachFrom requests held (λ q h. EachHasValues r root blowup q.prover_data h.matrices) → e ≡ get_or requests i e → kept ≡ e.prover_data → points ≡ e.points
      → map round_in ws ≡ map (λ p. opened_round s embed p.0 p.1) (take i (zip held requests)) → zs ≡ ws ++ w ∷ []
      → ((cs : List (Committed F)) → EachHasValues r root blowup kept cs → round_in w ≡ opened_each s embed cs points)
      → map round_in zs ≡ map (λ p. opened_round s embed p.0 p.1) (take (i + 1) (zip held requests))
  next_request requests held i ws zs w e kept points h H at same lists now more told =
      let f : OpenedCommitment (PlainCommitmentData F) F × Request (List (CosetData F × Rows F)) E → List (List (List E)) = λ p. opened_round s embed p.0 p.1 in
      let none : OpenedCommitment (PlainCommitmentData F) F = record { commitment = record { matrices = [] }; matrices = [] } in
      let a : i < length held = omega (arith, H.count) in
      let le : length requests ≤ length held = omega (arith, H.count) in
      let inside : i < length (zip held requests) = omega (arith, length-zip held requests le) in
      let c = get_or held i none in
      let V : EachHasValues r root blowup e.prover_data c.matrices = H.each i c (slice_get-get_or held i none a) e (slice_get_read requests (length requests) i e refl h at) in
      let P : List (CosetData F × Rows F) → Type 0 = λ k. EachHasValues r root blowup k c.matrices in
      let value : round_in w ≡ f (get_or (zip held requests) i (none, e)) =
      told c.matrices (subst P (sym same) V)
      ∙ (ap (opened_each s embed c.matrices) (lists ∙ ap (λ (q : Request (List (CosetData F × Rows F)) E). q.points) at) ∙ ap f (sym (get_or-zip held requests i none e a h))) in
      one_more round_in f ws zs w (zip held requests) i (none, e) now more inside value
