-- Checks one after another, the checks of several things in turn, and that exactly one refusal is the first where a check fails.
use Rattle.std.proofs.Common.{◌≡◌, ℕ, zero, suc, ◌+◌, ◌<◌, ◌↔◌, List, [], ◌∷◌, ◌++◌, Option, None, Some, refl, sym, ◌∙◌, ap, subst, inl, inr, arith, add-one}
use Rattle.std.specs.Prelude.{slice_get, ◌⊎◌}
use Rattle.std.proofs.lemmas.Bool.{cases_lt}
use Rattle.p3_field.specs.Checks.{Check, check, NoneFails, FirstFails, FirstRefusal, in_turn, of_items, HasOneRefusal, AreSingle, IsFirstFailing, FirstFailing, number_check, numbers}

pub none_single : (R : Type 0) → AreSingle {R = R} []
unfolding AreSingle
none_single R = tt

-- lists of checks one after another
module _ {R : Type 0} where
  pub none_append : (xs ys : List (Check R)) → NoneFails xs → NoneFails ys → NoneFails (xs ++ ys)
  unfolding NoneFails
  none_append [] ys f g = g
  none_append (x ∷ xs) ys f g = (f.0, none_append xs ys f.1 g)

  pub none_before : (xs ys : List (Check R)) → NoneFails (xs ++ ys) → NoneFails xs
  unfolding NoneFails
  none_before [] ys h = tt
  none_before (x ∷ xs) ys h = (h.0, none_before xs ys h.1)

  pub none_after : (xs ys : List (Check R)) → NoneFails (xs ++ ys) → NoneFails ys
  unfolding NoneFails
  none_after [] ys h = h
  none_after (x ∷ xs) ys h = none_after xs ys h.1

  -- what comes after a failing check isn't looked at
  pub first_stops : (xs ys : List (Check R)) (e : R) → FirstFails xs e → FirstFails (xs ++ ys) e
  unfolding FirstFails
  first_stops [] ys e f = absurd f
  first_stops (x ∷ xs) ys e f = elim f [ inl t ↦ inl (t.0, first_stops xs ys e t.1) | inr t ↦ inr t ]

  -- where no check fails, those after these decide
  pub first_after : (xs ys : List (Check R)) (e : R) → NoneFails xs → FirstFails ys e → FirstFails (xs ++ ys) e
  unfolding NoneFails FirstFails
  first_after [] ys e f g = g
  first_after (x ∷ xs) ys e f g = inl (f.0, first_after xs ys e f.1 g)

  -- the first refusal of two lists is that of the first, or of the second where none of the first fails
  pub first_parted : (xs ys : List (Check R)) (e : R) → FirstFails (xs ++ ys) e → FirstFails xs e ⊎ (NoneFails xs × FirstFails ys e)
  unfolding NoneFails FirstFails
  first_parted [] ys e f = inr (tt, f)
  first_parted (x ∷ xs) ys e f = elim f [
    | inl t ↦ elim (first_parted xs ys e t.1) [ inl u ↦ inl (inl (t.0, u)) | inr u ↦ inr ((t.0, u.0), u.1) ]
    | inr t ↦ inl (inr t)
  ]

  pub refusal_after : (xs ys : List (Check R)) (answer : Option R) → NoneFails xs → FirstRefusal ys answer → FirstRefusal (xs ++ ys) answer
  refusal_after xs ys None f g = none_append xs ys f g
  refusal_after xs ys (Some e) f g = first_after xs ys e f g

  -- one check before others: it fails, or it holds
  pub first_here : (c : Check R) (cs : List (Check R)) (e : R) → (c.holds → ⊥) → c.refusal e → FirstFails (c ∷ cs) e
  unfolding FirstFails
  first_here c cs e n r = inr (n, r)

  pub refusal_later : (c : Check R) (cs : List (Check R)) (answer : Option R) → c.holds → FirstRefusal cs answer → FirstRefusal (c ∷ cs) answer
  unfolding NoneFails FirstFails
  refusal_later c cs None h f = (h, f)
  refusal_later c cs (Some e) h f = inl (h, f)

  pub none_alone : (c : Check R) → c.holds → NoneFails (c ∷ [])
  unfolding NoneFails
  none_alone c h = (h, tt)

  pub holds_alone : (c : Check R) → NoneFails (c ∷ []) → c.holds
  unfolding NoneFails
  holds_alone c h = h.0

  -- where none fails, there is no first
  pub none_first : (cs : List (Check R)) (e : R) → NoneFails cs → FirstFails cs e → ⊥
  unfolding NoneFails FirstFails
  none_first [] e n f = f
  none_first (c ∷ cs) e n f = elim f [ inl t ↦ none_first cs e n.1 t.1 | inr t ↦ t.0 n.0 ]

  -- and where each check has one refusal, there is one first refusal at most
  pub same_first : (cs : List (Check R)) (d e : R) → AreSingle cs → FirstFails cs d → FirstFails cs e → d ≡ e
  unfolding FirstFails AreSingle
  same_first [] d e s a b = absurd a
  same_first (c ∷ cs) d e s a b = elim a [
    | inl t ↦ elim b [
      | inl u ↦ same_first cs d e s.1 t.1 u.1
      | inr u ↦ absurd (u.0 t.0)
    ]
    | inr t ↦ elim b [
      | inl u ↦ absurd (t.0 u.0)
      | inr u ↦ s.0.same d e t.1 u.1
    ]
  ]

  -- And there is one where a check fails: it can't be that some check fails and none is the first.
  pub some_first : (cs : List (Check R)) → AreSingle cs → (NoneFails cs → ⊥) → ((e : R) → FirstFails cs e → ⊥) → ⊥
  unfolding NoneFails FirstFails AreSingle
  some_first [] s n f = n tt
  some_first (c ∷ cs) s n f =
      s.0.some
      (λ h. some_first cs s.1 (λ rest. n (h, rest)) (λ e g. f e (inl (h, g))))
      (λ e r. f e (inr (λ h. some_first cs s.1 (λ rest. n (h, rest)) (λ d g. f d (inl (h, g))), r)))

  pub same_refusal : (cs : List (Check R)) (a b : Option R) → AreSingle cs → FirstRefusal cs a → FirstRefusal cs b → a ≡ b
  same_refusal cs None None s f g = refl
  same_refusal cs None (Some e) s f g = absurd (none_first cs e f g)
  same_refusal cs (Some e) None s f g = absurd (none_first cs e g f)
  same_refusal cs (Some d) (Some e) s f g = ap Some (same_first cs d e s f g)

  pub single_append : (xs ys : List (Check R)) → AreSingle xs → AreSingle ys → AreSingle (xs ++ ys)
  unfolding AreSingle
  single_append [] ys f g = g
  single_append (x ∷ xs) ys f g = (f.0, single_append xs ys f.1 g)

  -- a check with one refusal, before others
  pub single_before : (c : Check R) (cs : List (Check R)) → HasOneRefusal c → AreSingle cs → AreSingle (c ∷ cs)
  unfolding AreSingle
  single_before c cs h s = (h, s)

  -- one that is refused with r
  pub check_single : (r : R) (P : Type 0) (cs : List (Check R)) → AreSingle cs → AreSingle (check r P ∷ cs)
  check_single r P cs s = single_before (check r P) cs (record { same = λ d e p q. p ∙ sym q; some = λ n none. none r refl }) s

  -- the checks of n things in turn: of none
  pub none_of_none : (f : ℕ → List (Check R)) → NoneFails (in_turn 0 f)
  unfolding in_turn NoneFails
  none_of_none f = tt

  -- of one thing more
  pub none_in_turn : (f : ℕ → List (Check R)) (i : ℕ) → NoneFails (in_turn i f) → NoneFails (f i) → NoneFails (in_turn (i + 1) f)
  unfolding in_turn
  none_in_turn f i h v = rw add-one (none_append (in_turn i f) (f i) h v)

  pub none_until : (f : ℕ → List (Check R)) (i n : ℕ) → i ≡ n → NoneFails (in_turn i f) → NoneFails (in_turn n f)
  none_until f i n e h = subst (λ m. NoneFails (in_turn m f)) e h

  -- none fails of any
  pub none_of_each : (f : ℕ → List (Check R)) (n : ℕ) → ((i : ℕ) → i < n → NoneFails (f i)) → NoneFails (in_turn n f)
  unfolding in_turn NoneFails
  none_of_each f zero h = tt
  none_of_each f (suc n) h = none_append (in_turn n f) (f n) (none_of_each f n (λ i b. h i (omega arith))) (h n (omega arith))

  pub none_at : (f : ℕ → List (Check R)) (n i : ℕ) → i < n → NoneFails (in_turn n f) → NoneFails (f i)
  unfolding in_turn
  none_at f zero i b h = absurd (omega arith)
  none_at f (suc n) i b h = elim (cases_lt i n) [
    | inl l ↦ none_at f n i l (none_before (in_turn n f) (f n) h)
    | inr q ↦ let e : n ≡ i = omega arith in subst (λ m. NoneFails (f m)) e (none_after (in_turn n f) (f n) h)
  ]

  -- some first don't fail, and the next is refused
  pub refused_in_turn : (f : ℕ → List (Check R)) (i n : ℕ) (e : R) → i < n → NoneFails (in_turn i f) → FirstFails (f i) e → FirstFails (in_turn n f) e
  unfolding in_turn
  refused_in_turn f i zero e b h v = absurd (omega arith)
  refused_in_turn f i (suc n) e b h v = elim (cases_lt i n) [
    | inl l ↦ first_stops (in_turn n f) (f n) e (refused_in_turn f i n e l h v)
    | inr q ↦ let s : i ≡ n = omega arith in subst (λ m. FirstFails (in_turn m f ++ f m) e) s (first_after (in_turn i f) (f i) e h v)
  ]

  pub single_in_turn : (f : ℕ → List (Check R)) (n : ℕ) → ((i : ℕ) → AreSingle (f i)) → AreSingle (in_turn n f)
  unfolding in_turn AreSingle
  single_in_turn f zero h = tt
  single_in_turn f (suc n) h = single_append (in_turn n f) (f n) (single_in_turn f n h) (h n)

  -- the checks of numbers, by a property that they test
  pub none_by : (f : ℕ → List (Check R)) (P : ℕ → Type 0) (n : ℕ) → ((i : ℕ) → i < n → P i → NoneFails (f i)) → FirstFailing n P None → NoneFails (in_turn n f)
  none_by f P n holds h = none_of_each f n (λ i b. holds i b (h i b))

  pub first_by : (f : ℕ → List (Check R)) (P : ℕ → Type 0) (n i : ℕ) (e : R) → ((j : ℕ) → j < n → P j → NoneFails (f j)) → ((P i → ⊥) → FirstFails (f i) e)
      → IsFirstFailing n P i → FirstFails (in_turn n f) e
  first_by f P n i e holds fails h =
      refused_in_turn f i n e h.within (none_of_each f i (λ j b. holds j (let w = h.within in omega (arith, w)) (h.earlier j b))) (fails h.fails)

-- the checks of a list's items
module _ {X R : Type 0} where
  pub none_of_items : (f : ℕ → X → List (Check R)) (xs : List X) → ((i : ℕ) (x : X) → slice_get xs i ≡ Some x → NoneFails (f i x)) → NoneFails (of_items f xs)
  unfolding of_items NoneFails
  none_of_items f [] h = tt
  none_of_items f (x ∷ xs) h =
      none_append (f zero x) (of_items (λ i. f (suc i)) xs) (h zero x refl) (none_of_items (λ i. f (suc i)) xs (λ i y q. h (suc i) y q))

  pub none_at_item : (f : ℕ → X → List (Check R)) (xs : List X) (i : ℕ) (x : X) → slice_get xs i ≡ Some x → NoneFails (of_items f xs) → NoneFails (f i x)
  unfolding of_items
  none_at_item f [] i x q h = absurd cc
  none_at_item f (y ∷ xs) zero x q h =
      let same : y ≡ x = cc in
      subst (λ z. NoneFails (f zero z)) same (none_before (f zero y) (of_items (λ j. f (suc j)) xs) h)
  none_at_item f (y ∷ xs) (suc i) x q h = none_at_item (λ j. f (suc j)) xs i x q (none_after (f zero y) (of_items (λ j. f (suc j)) xs) h)

  pub first_of_items : (f : ℕ → X → List (Check R)) (xs : List X) (i : ℕ) (x : X) (e : R) → slice_get xs i ≡ Some x
      → ((j : ℕ) (y : X) → j < i → slice_get xs j ≡ Some y → NoneFails (f j y)) → FirstFails (f i x) e → FirstFails (of_items f xs) e
  unfolding of_items
  first_of_items f [] i x e q h g = absurd cc
  first_of_items f (y ∷ xs) zero x e q h g =
      let same : x ≡ y = cc in
      first_stops (f zero y) (of_items (λ i. f (suc i)) xs) e (subst (λ z. FirstFails (f zero z) e) same g)
  first_of_items f (y ∷ xs) (suc i) x e q h g =
      first_after (f zero y) (of_items (λ i. f (suc i)) xs) e (h zero y (omega arith) refl)
      (first_of_items (λ i. f (suc i)) xs i x e q (λ j z b r. h (suc j) z (omega arith) r) g)

  pub single_of_items : (f : ℕ → X → List (Check R)) (xs : List X) → ((i : ℕ) (x : X) → AreSingle (f i x)) → AreSingle (of_items f xs)
  unfolding of_items AreSingle
  single_of_items f [] h = tt
  single_of_items f (x ∷ xs) h = single_append (f zero x) (of_items (λ i. f (suc i)) xs) (h zero x) (single_of_items (λ i. f (suc i)) xs (λ i y. h (suc i) y))

-- The first number for which a property fails is the first refusal of the numbers' checks.
pub none_of_numbers : (n : ℕ) (P : ℕ → Type 0) → NoneFails (numbers n P) ↔ FirstFailing n P None
none_of_numbers n P = (
  λ h i b. holds_alone (check i (P i)) (none_at (number_check P) n i b h),
  λ h. none_by (number_check P) P n (λ i b p. none_alone (check i (P i)) p) h,
)

-- the refusal of a number's check is the number
named : (P : ℕ → Type 0) (j i : ℕ) → FirstFails (number_check P j) i → (P j → ⊥) × (i ≡ j)
unfolding FirstFails
named P j i f = elim f [ inl t ↦ absurd t.1 | inr t ↦ t ]

found : (n : ℕ) (P : ℕ → Type 0) (i : ℕ) → FirstFails (numbers n P) i → IsFirstFailing n P i
unfolding in_turn FirstFails
found zero P i f = absurd f
found (suc n) P i f = elim (first_parted (numbers n P) (number_check P n) i f) [
  | inl t ↦ let g = found n P i t in record { within = let w = g.within in omega (arith, w); fails = g.fails; earlier = g.earlier }
  | inr t ↦
      let (lacks, at) = named P n i t.1 in
      let before = (none_of_numbers n P).0 t.0 in
      record {
        within = omega (arith, at);
        fails = subst (λ k. P k → ⊥) (sym at) lacks;
        earlier = λ j b. before j (omega (arith, at));
      }
]

pub first_of_numbers : (n : ℕ) (P : ℕ → Type 0) (i : ℕ) → FirstFails (numbers n P) i ↔ IsFirstFailing n P i
first_of_numbers n P i = (
  found n P i,
  λ h. first_by (number_check P) P n i i (λ j b p. none_alone (check j (P j)) p) (λ l. first_here (check i (P i)) [] i l refl) h,
)

-- the first number is one
pub same_failing : (n : ℕ) (P : ℕ → Type 0) (i j : ℕ) → IsFirstFailing n P i → IsFirstFailing n P j → i ≡ j
same_failing n P i j a b = elim (cases_lt i j) [
  | inl h ↦ absurd (a.fails (b.earlier i h))
  | inr h ↦ elim (cases_lt j i) [
    | inl k ↦ absurd (b.fails (a.earlier j k))
    | inr k ↦ omega arith
  ]
]
