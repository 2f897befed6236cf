-- Lists that grow by an item or a row.
use Rattle.std.proofs.Common.{◌≡◌, ℕ, ◌+◌, ◌<◌, ◌≤◌, ◌==◌, List, [], ◌∷◌, ◌++◌, length, get_or, set, take, refl, sym, ◌∙◌, ap, arith, inl, inr, length-set, get_or-set_same, get_or-set_other}
use Rattle.std.specs.List.{flat_map}
use Rattle.std.proofs.lemmas.Bool.{cases_eq, eq-eqb, ne_eqb}
use Rattle.std.proofs.lemmas.List.{append-nil, append_assoc, ext_get_or, length-take, take_more}
use Rattle.std.proofs.lemmas.List.Concat.{flat_map-append}
use Rattle.std.proofs.lemmas.List.Sums.{count_by-le-length, count_by_more_yes, count_by_more_no}
use Rattle.p3_field.specs.Poly.{tabulate}
use Rattle.p3_field.specs.Ring.{Ring}
use Rattle.p3_matrix.specs.Matrix.{FillsRows}
use Rattle.p3_matrix.specs.Laws.Flattened.{length-pieces}
use Rattle.p3_matrix.specs.Laws.Grids.{product_fills}
use Rattle.p3_field.specs.Laws.Tabulate.{length-tabulate, get_or-tabulate, tabulate_more}
use Rattle.example_air.specs.Bytes.{bits_row, byte_times}
use Rattle.example_air.specs.Laws.Sizes.{row-long}

-- one cell more after a list
pub cells-more : {A : Type 0} (front : List A) (f : ℕ → A) (n : ℕ) (old new : List A) (x : A) → old ≡ front ++ tabulate n f → new ≡ old ++ x ∷ [] → x ≡ f n → new ≡ front ++ tabulate (n + 1) f
cells-more front f n old new x e h is =
    h ∙ (ap (λ (l : List _). l ++ x ∷ []) e ∙ (append_assoc front (tabulate n f) (x ∷ []) ∙ ap (λ (l : List _). front ++ l) (ap (λ (y : _). tabulate n f ++ y ∷ []) is ∙ tabulate_more n f)))

-- the cells of a row, and its last
pub row-ends : {A : Type 0} (front : List A) (f : ℕ → A) (n m : ℕ) (old new : List A) (x y : A) → n ≡ m → old ≡ front ++ tabulate n f → new ≡ old ++ x ∷ [] → x ≡ y → new ≡ front ++ (tabulate m f ++ y ∷ [])
row-ends front f n m old new x y same e h is =
    h ∙ (ap (λ (l : List _). l ++ x ∷ []) (e ∙ ap (λ k. front ++ tabulate k f) same) ∙ (append_assoc front (tabulate m f) (x ∷ []) ∙ ap (λ (z : _). front ++ (tabulate m f ++ z ∷ [])) is))

-- the rows of the first n items, and one more
pub rows-more : {X A : Type 0} (f : X → List A) (xs : List X) (n : ℕ) (x d : X) (old new : List A) → n < length xs → x ≡ get_or xs n d → old ≡ flat_map f (take n xs) → new ≡ old ++ f x
    → new ≡ flat_map f (take (n + 1) xs)
rows-more f xs n x d old new room is e h =
    let front : take n xs ++ x ∷ [] ≡ take (n + 1) xs = ap (λ (y : _). take n xs ++ y ∷ []) is ∙ sym (take_more xs n d room) in
    h
    ∙ (ap (λ (l : List _). l ++ f x) e
    ∙ (sym (flat_map-append f (take n xs) (x ∷ []) ∙ ap (λ (l : List _). flat_map f (take n xs) ++ l) (append-nil (f x))) ∙ ap (λ (l : List _). flat_map f l) front))

-- the counts of the first n bytes, and one byte more
pub times-more : (bytes counts : List ℕ) (n b : ℕ) → n < length bytes → b ≡ get_or bytes n 0 → b < 256 → counts ≡ tabulate 256 (byte_times (take n bytes)) → set counts b (get_or counts b 0 + 1) ≡ tabulate 256 (byte_times (take (n + 1) bytes))
times-more bytes counts n b room is small e =
    let before = byte_times (take n bytes) in
    let after = byte_times (take (n + 1) bytes) in
    let long : length counts ≡ 256 = ap (λ (l : List ℕ). length l) e ∙ length-tabulate 256 before in
    let counted : (k : ℕ) → k < 256 → get_or counts k 0 ≡ before k = λ k lt. ap (λ (l : List ℕ). get_or l k 0) e ∙ get_or-tabulate 256 before k 0 lt in
    ext_get_or 0 (set counts b (get_or counts b 0 + 1)) (tabulate 256 after) (length-set counts b (get_or counts b 0 + 1) ∙ (long ∙ sym (length-tabulate 256 after)))
    (λ k h.
    let lt : k < 256 = omega (arith, h, length-set counts b (get_or counts b 0 + 1), long) in
    elim (cases_eq k b) [
      | inl same ↦
          ap (λ j. get_or (set counts b (get_or counts b 0 + 1)) j 0) same
          ∙ (get_or-set_same counts b (get_or counts b 0 + 1) 0 (omega (arith, small, long))
          ∙ (ap (λ m. m + 1) (counted b small)
          ∙ (sym (count_by_more_yes (λ x. x == b) bytes n 0 room (eq-eqb (get_or bytes n 0) b (sym is)))
          ∙ (ap after (sym same) ∙ sym (get_or-tabulate 256 after k 0 lt)))))
      | inr other ↦
          get_or-set_other counts b k (get_or counts b 0 + 1) 0 other
          ∙ (counted k lt
          ∙ (sym (count_by_more_no (λ x. x == k) bytes n 0 room (ne_eqb (get_or bytes n 0) k (λ q. other (sym (is ∙ q)))))
          ∙ sym (get_or-tabulate 256 after k 0 lt)))
    ])

-- a count is at most the number of bytes
pub times-few : (bytes counts : List ℕ) (n k m : ℕ) → k < 256 → n ≤ length bytes → length bytes ≤ m → counts ≡ tabulate 256 (byte_times (take n bytes)) → get_or counts k 0 ≤ m
times-few bytes counts n k m lt inside few e =
    let is : get_or counts k 0 ≡ byte_times (take n bytes) k = ap (λ (l : List ℕ). get_or l k 0) e ∙ get_or-tabulate 256 (byte_times (take n bytes)) k 0 lt in
    omega (arith, is, count_by-le-length (λ x. x == k) (take n bytes), length-take n bytes, inside, few)

-- rows of nine cells fill whole rows
pub rows-fill : {A : Type 0} (r : Ring A) (bytes : List ℕ) (values : List A) → values ≡ flat_map (bits_row r) bytes → FillsRows values 9
rows-fill r bytes values e = product_fills values (length bytes) 9 (ap (λ (l : List _). length l) e ∙ length-pieces (bits_row r) 9 (row-long r) bytes)
