-- The checks of the claims on a matrix and on a commitment, by what the search for the first fault finds.
use Rattle.std.proofs.Common.{◌≡◌, ℕ, zero, suc, ◌+◌, ◌^◌, ◌<◌, ◌≤◌, ◌↔◌, inl, inr, List, [], ◌∷◌, ◌++◌, Option, Some, None, length, get_or, map, refl, sym, ◌∙◌, ap, subst, arith}
use Rattle.std.specs.Prelude.{All, Bool, true, false, IsTrue, slice_get, zip, option_map}
use Rattle.std.proofs.lemmas.Bool.{cases_lt}
use Rattle.std.proofs.lemmas.List.{length-map, get_or-map}
use Rattle.std.proofs.lemmas.Option.{same_Some, slice_get-map, get_or_from_slice_get}
use Rattle.p3_field.specs.Ring.{Ring, RingLaws}
use Rattle.p3_field.specs.Field.{FieldLaws, TwoAdicLaws}
use Rattle.p3_field.specs.Poly.{eval_poly, Apart, DegreeBelow}
use Rattle.p3_field.specs.Checks.{Check, check, NoneFails, FirstFails, FirstRefusal, in_turn, of_items, FirstFailing}
use Rattle.p3_field.specs.Laws.Checks.{first_here, first_stops, refusal_later, refusal_after, none_alone, none_by, first_by}
use Rattle.p3_field.specs.Domain.{CosetData, coset_point, point, IsInterpolant}
use Rattle.p3_field.specs.Laws.Interpolants.{interpolant_unique, points_apart}
use Rattle.p3_matrix.specs.Matrix.{Rows, height, column}
use Rattle.p3_matrix.specs.Laws.Cells.{length-column}
use Rattle.commit_core.specs.Space.{EachOf}
use Rattle.commit_core.specs.Claims.{PointClaim, MatrixClaim, CommitmentClaim}
use Rattle.plain_pcs.specs.Scheme.{Scheme, scheme, PlainCommitmentData}
use Rattle.plain_pcs.specs.Extension.{extended_domain}
use Rattle.plain_pcs.specs.Laws.Listed.{item_at}
use Rattle.plain_pcs.specs.Checks.{HasDimensions, HasLowDegree, HasValue, degree_check, value_check, point_checks, matrix_checks, round_checks}
use Rattle.plain_pcs.specs.Faults.{AreColumnPolynomials}
use Rattle.plain_pcs.specs.declared.error.PlainError.{PlainError}
use Rattle.plain_pcs.specs.declared.error.PlainError.TheVariants.{RoundShape, Dimensions, Degree, Value}

-- the item of a map, by the item itself
pub item_of_map : {F C : Type 0} (items : C → List F) (xs : List C) (j : ℕ) (x : C) (l : List F) → j < length xs → x ≡ get_or xs j x → l ≡ items x → l ≡ get_or (map items xs) j []
item_of_map items xs j x l h e f = f ∙ (ap items e ∙ sym (get_or-map items xs j x [] h))

-- what holds of each item before place n and of the item there, holds of each before place n + 1
pub one_more : {A : Type 0} (xs : List A) (n : ℕ) (x : A) (P : ℕ → A → Type 0) → slice_get xs n ≡ Some x → ((i : ℕ) (y : A) → i < n → slice_get xs i ≡ Some y → P i y) → P n x
    → (i : ℕ) (y : A) → i < n + 1 → slice_get xs i ≡ Some y → P i y
one_more xs n x P here before p i y lt q = elim (cases_lt i n) [
  | inl a ↦ before i y a q
  | inr a ↦
      let at : n ≡ i = omega arith in
      let same : x ≡ y = same_Some x y (sym here ∙ (ap (slice_get xs) at ∙ q)) in
      subst (λ j. P j y) at (subst (P n) same p)
]

pub zip_within : {A B : Type 0} (xs : List A) (ys : List B) (i : ℕ) (z : A × B) → slice_get (zip xs ys) i ≡ Some z → i < length ys
zip_within [] ys i z q = absurd cc
zip_within (x ∷ xs) [] i z q = absurd cc
zip_within (x ∷ xs) (y ∷ ys) zero z q = omega arith
zip_within (x ∷ xs) (y ∷ ys) (suc i) z q = let h = zip_within xs ys i z q in omega arith

-- a test that fails
pub not_told : (told : Bool) (H : Type 0) → IsTrue told ↔ H → told ≡ false → H → ⊥
not_told told H same e h = let t : told ≡ true = same.1 h in cc

-- the interpolants of the columns, here in vectors, are their polynomials
module _ {F : Type 0} (r : Ring F) (L : RingLaws r) (inv : F → F) (W : FieldLaws r inv) (top : ℕ) (root : ℕ → F) (T : TwoAdicLaws r top root) where
  pub polynomials_found : {V : Type 0} (items : V → List F) (generator : F) (b k : ℕ) (m : Rows F) (vs ws : List V) → (generator ≡ r.zero → ⊥) → k + b ≤ top → height m ≡ 2 ^ (k + b)
      → ((n : ℕ) → height m ≡ 2 ^ n → EachOf m.width vs (λ j v. IsInterpolant r (coset_point r generator (root n)) (column r.zero m j) (items v))) → ws ≡ vs
      → AreColumnPolynomials (scheme r inv root generator top (record { log_blowup = b })) m k (map items ws)
  polynomials_found {V} items generator b k m vs ws nz fits rows found same =
      let d : CosetData F = record { shift = generator; log_size = k + b } in
      let p = point r root d in
      let E = found (k + b) rows in
      let apart : Apart (2 ^ (k + b)) p = points_apart r L inv W top root T d fits nz in
      let P : ℕ → Type 0 = λ n. Apart n p in
      let each : (j : ℕ) → j < m.width → IsInterpolant r p (column r.zero m j) (get_or (map items vs) j []) = λ j lt.
      let (v, q) = item_at vs j (omega (arith, lt, E.count)) in
      let here : get_or (map items vs) j [] ≡ items v = get_or_from_slice_get (map items vs) j (items v) [] (slice_get-map items vs j ∙ ap (option_map items) q) in
      subst (λ (f : List F). IsInterpolant r p (column r.zero m j) f) (sym here) (E.each j v q) in
      let all : AreColumnPolynomials (scheme r inv root generator top (record { log_blowup = b })) m k (map items vs) = record {
        count = length-map vs items ∙ E.count;
        each = each;
        only = λ j f lt i.
            let v = column r.zero m j in
            interpolant_unique r L inv W p v (get_or (map items vs) j []) f (subst P (sym (length-column r.zero m j ∙ rows)) apart) (each j lt) i;
      } in
      subst (λ (l : List V). AreColumnPolynomials (scheme r inv root generator top (record { log_blowup = b })) m k (map items l)) (sym same) all

-- what holds of the polynomial at hand, holds of the column's
pub by_polynomial : {F : Type 0} (s : Scheme F) (m : Rows F) (k : ℕ) (fs : List (List F)) (j : ℕ) (P : List F → Type 0) → AreColumnPolynomials s m k fs → j < m.width
    → P (get_or fs j []) ↔ ((f : List F) × IsInterpolant s.field.ring (point s.field.ring s.field.root (extended_domain s k)) (column s.field.ring.zero m j) f × P f)
by_polynomial s m k fs j P A lt = (λ p. (get_or fs j [], A.each j lt, p), λ h. let (f, i, q) = h in subst P (sym (A.only j f lt i)) q)

module _ {F E : Type 0} (s : Scheme F) (ring : Ring E) (embed : F → E) (m : Rows F) (k : ℕ) (fs : List (List F)) (A : AreColumnPolynomials s m k fs) where
  abbrev Low : ℕ → ℕ → Type 0
  Low bound j = DegreeBelow s.field.ring bound (get_or fs j [])

  low_same : (j : ℕ) → j < m.width → Low (2 ^ k) j ↔ HasLowDegree s ring embed m k j
  low_same j lt = by_polynomial s m k fs j (λ f. DegreeBelow s.field.ring (2 ^ k) f) A lt

  low_here : (n bound : ℕ) (a : Option ℕ) → n ≡ length fs → bound ≡ 2 ^ k → FirstFailing n (Low bound) a → FirstFailing m.width (Low (2 ^ k)) a
  low_here n bound a e f h = subst (λ b. FirstFailing m.width (Low b) a) f (subst (λ n. FirstFailing n (Low bound) a) (e ∙ A.count) h)

  pub no_high_degree : (round number n bound : ℕ) → n ≡ length fs → bound ≡ 2 ^ k → FirstFailing n (λ j. DegreeBelow s.field.ring bound (get_or fs j [])) None
      → NoneFails (in_turn m.width (degree_check s ring embed round number m k))
  no_high_degree round number n bound e f h =
      none_by (degree_check s ring embed round number m k) (Low (2 ^ k)) m.width
      (λ j b p. none_alone (check (Degree round number j) (HasLowDegree s ring embed m k j)) ((low_same j b).0 p)) (low_here n bound None e f h)

  pub high_degree : (round number n bound j : ℕ) → n ≡ length fs → bound ≡ 2 ^ k → FirstFailing n (λ j. DegreeBelow s.field.ring bound (get_or fs j [])) (Some j)
      → FirstFails (in_turn m.width (degree_check s ring embed round number m k)) (Degree round number j)
  high_degree round number n bound j e f h =
      let F = low_here n bound (Some j) e f h in
      first_by (degree_check s ring embed round number m k) (Low (2 ^ k)) m.width j (Degree round number j)
      (λ i b p. none_alone (check (Degree round number i) (HasLowDegree s ring embed m k i)) ((low_same i b).0 p))
      (λ l. first_here (check (Degree round number j) (HasLowDegree s ring embed m k j)) [] (Degree round number j) (λ t. l ((low_same j F.within).1 t)) refl) F

  module _ (round number at : ℕ) (p : PointClaim E) where
    abbrev Claimed : List E → ℕ → Type 0
    Claimed ys j = eval_poly ring (map embed (get_or fs j [])) p.point ≡ get_or ys j ring.zero

    value_same : (j : ℕ) → j < m.width → Claimed p.values j ↔ HasValue s ring embed m k j p.point (get_or p.values j ring.zero)
    value_same j lt = by_polynomial s m k fs j (λ f. eval_poly ring (map embed f) p.point ≡ get_or p.values j ring.zero) A lt

    value_here : (n : ℕ) (x : E) (ys : List E) (a : Option ℕ) → n ≡ length fs → x ≡ p.point → ys ≡ p.values
        → FirstFailing n (λ j. eval_poly ring (map embed (get_or fs j [])) x ≡ get_or ys j ring.zero) a → FirstFailing m.width (Claimed p.values) a
    value_here n x ys a e d f h =
        subst (λ l. FirstFailing m.width (Claimed l) a) f
        (subst (λ v. FirstFailing m.width (λ j. eval_poly ring (map embed (get_or fs j [])) v ≡ get_or ys j ring.zero) a) d
        (subst (λ n. FirstFailing n (λ j. eval_poly ring (map embed (get_or fs j [])) x ≡ get_or ys j ring.zero) a) (e ∙ A.count) h))

    pub no_wrong_value : (n : ℕ) (x : E) (ys : List E) → n ≡ length fs → x ≡ p.point → ys ≡ p.values
        → FirstFailing n (λ j. eval_poly ring (map embed (get_or fs j [])) x ≡ get_or ys j ring.zero) None → NoneFails (point_checks s ring embed round number m k at p)
    no_wrong_value n x ys e d f h =
        none_by (value_check s ring embed round number m k at p) (Claimed p.values) m.width
        (λ j b q. none_alone (check (Value round number at j) (HasValue s ring embed m k j p.point (get_or p.values j ring.zero))) ((value_same j b).0 q)) (value_here n x ys None e d f h)

    pub wrong_value : (n : ℕ) (x : E) (ys : List E) (j : ℕ) → n ≡ length fs → x ≡ p.point → ys ≡ p.values
        → FirstFailing n (λ j. eval_poly ring (map embed (get_or fs j [])) x ≡ get_or ys j ring.zero) (Some j)
        → FirstFails (point_checks s ring embed round number m k at p) (Value round number at j)
    wrong_value n x ys j e d f h =
        let F = value_here n x ys (Some j) e d f h in
        first_by (value_check s ring embed round number m k at p) (Claimed p.values) m.width j (Value round number at j)
        (λ i b q. none_alone (check (Value round number at i) (HasValue s ring embed m k i p.point (get_or p.values i ring.zero))) ((value_same i b).0 q))
        (λ l. first_here (check (Value round number at j) (HasValue s ring embed m k j p.point (get_or p.values j ring.zero))) [] (Value round number at j) (λ t. l ((value_same j F.within).1 t)) refl) F

-- widths by other words
pub widths_here : {E : Type 0} (points claimed : List (PointClaim E)) (w n : ℕ) → points ≡ claimed → n ≡ w → All (λ p. length p.values ≡ w) claimed → All (λ p. length p.values ≡ n) points
widths_here {E} points claimed w n e f h =
    let P : List (PointClaim E) → Type 0 = λ ps. All (λ p. length p.values ≡ n) ps in
    let Q : ℕ → Type 0 = λ n. All (λ p. length p.values ≡ n) claimed in
    subst P (sym e) (subst Q (sym f) h)

-- the test of dimensions, by its parts
pub dimensions_by : {F E : Type 0} (s : Scheme F) (ring : Ring E) (embed : F → E) (m : Rows F) (c : MatrixClaim E (CosetData F)) (told : Bool) (w : ℕ) (points : List (PointClaim E))
    → c.domain.log_size + s.log_blowup ≤ s.most → height m ≡ 2 ^ (c.domain.log_size + s.log_blowup) → w ≡ m.width → points ≡ c.points
    → IsTrue told ↔ All (λ p. length p.values ≡ w) points → IsTrue told ↔ HasDimensions s ring embed m c
dimensions_by {F} {E} s ring embed m c told w points fits rows e f h =
    let W : ℕ → Type 0 = λ w. IsTrue told ↔ All (λ p. length p.values ≡ w) points in
    let P : List (PointClaim E) → Type 0 = λ ps. IsTrue told ↔ All (λ p. length p.values ≡ m.width) ps in
    let same = subst P f (subst W e h) in
    (λ t. record { fits = fits; height_is = rows; widths_are = same.0 t }, λ d. same.1 d.widths_are)

module _ {F E : Type 0} (s : Scheme F) (ring : Ring E) (embed : F → E) where
  module _ (round number : ℕ) (m : Rows F) (c : MatrixClaim E (CosetData F)) where
    abbrev degrees : List (Check PlainError)
    degrees = in_turn m.width (degree_check s ring embed round number m c.domain.log_size)

    abbrev values : List (Check PlainError)
    values = of_items (point_checks s ring embed round number m c.domain.log_size) c.points

    abbrev head : Check PlainError
    head = check (Dimensions round number) (HasDimensions s ring embed m c)

    pub wrong_dimensions : (HasDimensions s ring embed m c → ⊥) → FirstFails (matrix_checks s ring embed round number (m, c)) (Dimensions round number)
    wrong_dimensions n = first_here head (degrees ++ values) (Dimensions round number) n refl

    pub after_dimensions : (e : PlainError) → HasDimensions s ring embed m c → FirstFails degrees e → FirstFails (matrix_checks s ring embed round number (m, c)) e
    after_dimensions e h f = refusal_later head (degrees ++ values) (Some e) h (first_stops degrees values e f)

    pub after_degrees : (points : List (PointClaim E)) (a : Option PlainError) → HasDimensions s ring embed m c → NoneFails degrees → points ≡ c.points
        → FirstRefusal (of_items (point_checks s ring embed round number m c.domain.log_size) points) a
        → FirstRefusal (matrix_checks s ring embed round number (m, c)) a
    after_degrees points a h n q f =
        let P : List (PointClaim E) → Type 0 = λ ps. FirstRefusal (of_items (point_checks s ring embed round number m c.domain.log_size) ps) a in
        refusal_later head (degrees ++ values) a h (refusal_after degrees values a n (subst P q f))

  module _ (round : ℕ) (c : CommitmentClaim E (PlainCommitmentData F) (CosetData F)) where
    abbrev parts : List (Check PlainError)
    parts = of_items (matrix_checks s ring embed round) (zip c.commitment.matrices c.matrices)

    abbrev shape : Check PlainError
    shape = check (RoundShape round) (length c.commitment.matrices ≡ length c.matrices)

    pub wrong_shape : (length c.commitment.matrices ≡ length c.matrices → ⊥) → FirstFails (round_checks s ring embed round c) (RoundShape round)
    wrong_shape n = first_here shape parts (RoundShape round) n refl

    pub after_shape : (ms : List (Rows F)) (a : Option PlainError) → ms ≡ c.commitment.matrices → length c.commitment.matrices ≡ length c.matrices
        → FirstRefusal (of_items (matrix_checks s ring embed round) (zip ms c.matrices)) a → FirstRefusal (round_checks s ring embed round c) a
    after_shape ms a q e f =
        let P : List (Rows F) → Type 0 = λ ms. FirstRefusal (of_items (matrix_checks s ring embed round) (zip ms c.matrices)) a in
        refusal_later shape parts a e (subst P q f)

  -- the first fault of the claim of a commitment, by the claim's parts
  pub along_claim : (round : ℕ) (commitment : PlainCommitmentData F) (items claims : List (MatrixClaim E (CosetData F))) (x : CommitmentClaim E (PlainCommitmentData F) (CosetData F)) (a b : Option PlainError)
      → claims ≡ items → record { commitment = commitment; matrices = items } ≡ x → a ≡ b
      → FirstRefusal (round_checks s ring embed round (record { commitment = commitment; matrices = claims })) a → FirstRefusal (round_checks s ring embed round x) b
  along_claim round commitment items claims x a b e q d f =
      let P : List (MatrixClaim E (CosetData F)) → Type 0 = λ l. FirstRefusal (round_checks s ring embed round (record { commitment = commitment; matrices = l })) a in
      let Q : CommitmentClaim E (PlainCommitmentData F) (CosetData F) → Type 0 = λ v. FirstRefusal (round_checks s ring embed round v) a in
      let R : Option PlainError → Type 0 = λ o. FirstRefusal (round_checks s ring embed round x) o in
      subst R d (subst Q q (subst P e f))
