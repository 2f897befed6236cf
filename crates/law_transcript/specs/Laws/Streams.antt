-- What is played tells the parts: each part of the script is read off, the last first.
use Rattle.std.proofs.Common.{◌≡◌, ℕ, zero, suc, ◌+◌, ◌<◌, Bool, true, false, List, [], ◌∷◌, ◌++◌, map, length, take, drop, get_or, All, Option, None, Some, refl, sym, ◌∙◌, ap, subst, arith}
use Rattle.std.specs.Prelude.{is_some}
use Rattle.std.proofs.Math.Seq.{take-append_seam, drop-append_seam}
use Rattle.std.proofs.lemmas.Bool.{false≢true}
use Rattle.std.proofs.lemmas.List.{length-append, length-map, map-append}
use Rattle.std.proofs.lemmas.List.Elements.{All-head, All-tail}
use Rattle.p3_field.specs.Ring.{Ring, of_nat}
use Rattle.p3_challenger.specs.Elements.{flat_value}
use Rattle.p3_challenger.specs.Script.{Elements, Extended, NoValue, Played}
use Rattle.p3_challenger.specs.declared.script.Interaction.{Interaction}
use Rattle.batch_transcript.specs.BatchScript.{BatchShapeData, Given, bindings_script, constraint_challenge_step, ground, is_positive, lookup_terminal_step, main_script, ood_script, opening_script, pair_script, permutation_script, preprocessed_commitment_step, preprocessed_script, public_values_step, quotient_script, randomization_commitment_step, script, script_to_lookup, script_to_ood, script_to_opening, sealed, with_value}
use Rattle.batch_transcript.specs.Fits.{FitsShape}
use Rattle.law_transcript.specs.Streams.{ArePlayedAlike, HaveSameParts, TellElements, played_elements}

-- lists whose last parts are as long as each other are equal part by part
pub split_last : {A : Type 0} (xs ys us vs : List A) → length ys ≡ length vs → xs ++ ys ≡ us ++ vs → (xs ≡ us) × (ys ≡ vs)
split_last xs ys us vs l e =
    let all : length xs + length ys ≡ length us + length vs = sym (length-append xs ys) ∙ ap length e ∙ length-append us vs in
    let first : length xs ≡ length us = omega (arith, all, l) in (
      sym (take-append_seam xs ys) ∙ (λ j. take (first j) (e j)) ∙ take-append_seam us vs,
      sym (drop-append_seam xs ys) ∙ (λ j. drop (first j) (e j)) ∙ drop-append_seam us vs,
    )

map_twice : {A B C : Type 0} (f : B → C) (g : A → B) (xs : List A) → map f (map g xs) ≡ map (λ x. f (g x)) xs
map_twice f g [] = refl
map_twice f g (x ∷ xs) = ap (λ l. f (g x) ∷ l) (map_twice f g xs)

-- equal images of a map that tells its arguments
same_items : {A B : Type 0} (f : A → B) (P : A → Type 0) → ((x y : A) → P x → P y → f x ≡ f y → x ≡ y) → (xs ys : List A) → All P xs → All P ys → map f xs ≡ map f ys → xs ≡ ys
same_items f P tell [] [] a b e = refl
same_items f P tell [] (y ∷ ys) a b e = absurd (let n : 0 ≡ suc (length (map f ys)) = ap length e in omega (arith, n))
same_items f P tell (x ∷ xs) [] a b e = absurd (let n : suc (length (map f xs)) ≡ 0 = ap length e in omega (arith, n))
same_items f P tell (x ∷ xs) (y ∷ ys) a b e =
    let heads = tell x y (All-head P x xs a) (All-head P y ys b) (ap (λ l. get_or l 0 (f x)) e) in
    let tails = same_items f P tell xs ys (All-tail P x xs a) (All-tail P y ys b) (ap (drop 1) e) in
    λ j. heads j ∷ tails j

same_map : {A B : Type 0} (f : A → B) → ((x y : A) → f x ≡ f y → x ≡ y) → (xs ys : List A) → map f xs ≡ map f ys → xs ≡ ys
same_map f tell xs ys e = same_items f (λ x. Unit {0}) (λ x y p q. tell x y) xs ys (λ k d b. tt) (λ k d b. tt) e

module _ {F E M : Type 0} (r : Ring E) (coefficients : E → List F) (opaque : M → List F) (most : ℕ) (tells : TellElements r coefficients opaque most) where
  abbrev elements_of : List (Played F E M) → List (List F)
  elements_of = played_elements coefficients opaque

  -- a commitment that is there in both or in neither
  same_sealed : (step : Interaction) (m n : Option M) → is_some m ≡ is_some n → elements_of (sealed step m) ≡ elements_of (sealed step n) → m ≡ n
  same_sealed step None None b e = refl
  same_sealed step None (Some n) b e = absurd (false≢true b)
  same_sealed step (Some m) None b e = absurd (false≢true (sym b))
  same_sealed step (Some m) (Some n) b e = ap Some (tells.commitments m n (ap (λ l. get_or l 0 (opaque m)) e))

  sealed_length : (step : Interaction) (m n : Option M) → is_some m ≡ is_some n → length (elements_of (sealed step m)) ≡ length (elements_of (sealed step n))
  sealed_length step None None b = refl
  sealed_length step None (Some n) b = absurd (false≢true b)
  sealed_length step (Some m) None b = absurd (false≢true (sym b))
  sealed_length step (Some m) (Some n) b = refl

  same_ground : (v w : Option F) → flat_value coefficients opaque (ground v) ≡ flat_value coefficients opaque (ground w) → v ≡ w
  same_ground None None e = refl
  same_ground None (Some w) e = absurd (let n : 0 ≡ 1 = ap length e in omega (arith, n))
  same_ground (Some v) None e = absurd (let n : 1 ≡ 0 = ap length e in omega (arith, n))
  same_ground (Some v) (Some w) e = ap Some (ap (λ l. get_or l 0 v) e)

  module _ (d : ℕ) where
    -- the values of each part of the script tell what it was made of, where the shape has the same steps for both
    same_bindings : (ms ns : List ℕ) → All (λ n. n < most) ms → All (λ n. n < most) ns → elements_of (bindings_script r d ms) ≡ elements_of (bindings_script r d ns) → ms ≡ ns
    unfolding bindings_script
    same_bindings ms ns a b e =
        same_items (λ n. coefficients (of_nat r n)) (λ n. n < most) (λ x y p q h. tells.numbers x y p q (tells.extension (of_nat r x) (of_nat r y) h)) ms ns a b
        (sym (map_twice _ _ ms) ∙ e ∙ map_twice _ _ ns)

    same_main : (m n : M) (us vs : List (List F)) → elements_of (main_script m us) ≡ elements_of (main_script n vs) → (m ≡ n) × (us ≡ vs)
    unfolding main_script
    same_main m n us vs e = (
      tells.commitments m n (ap (λ l. get_or l 0 []) e),
      same_map (λ v. v) (λ x y h. h) us vs (sym (map_twice _ _ us) ∙ ap (drop 1) e ∙ map_twice _ _ vs),
    )

    same_preprocessed : (m n : Option M) → is_some m ≡ is_some n → elements_of (preprocessed_script m) ≡ elements_of (preprocessed_script n) → m ≡ n
    unfolding preprocessed_script
    same_preprocessed m n b e = same_sealed preprocessed_commitment_step m n b e

    preprocessed_length : (m n : Option M) → is_some m ≡ is_some n → length (elements_of (preprocessed_script m)) ≡ length (elements_of (preprocessed_script n))
    unfolding preprocessed_script
    preprocessed_length m n b = sealed_length preprocessed_commitment_step m n b

    same_witness : (n bits : ℕ) (v w : Option F) → is_positive n ≡ true → elements_of (pair_script d n bits v) ≡ elements_of (pair_script d n bits w) → v ≡ w
    unfolding pair_script
    same_witness zero bits v w b e = absurd (false≢true b)
    same_witness (suc n) bits v w b e = same_ground v w (ap (λ l. get_or l 0 []) e)

    pair_length : (n bits : ℕ) (v w : Option F) → length (elements_of (pair_script d n bits v)) ≡ length (elements_of (pair_script d n bits w))
    unfolding pair_script
    pair_length zero bits v w = refl
    pair_length (suc n) bits v w = refl

    same_permutation : (m n : Option M) (us vs : List E) → is_some m ≡ is_some n → elements_of (permutation_script d m us) ≡ elements_of (permutation_script d n vs) → (m ≡ n) × (us ≡ vs)
    unfolding permutation_script
    same_permutation None None us vs b e =
        let parts = split_last (elements_of (map _ us)) _ (elements_of (map _ vs)) _ refl (sym (map-append _ (map _ us) _) ∙ e ∙ map-append _ (map _ vs) _) in
        (refl, same_map coefficients tells.extension us vs (sym (map_twice _ _ us) ∙ parts.0 ∙ map_twice _ _ vs))
    same_permutation None (Some n) us vs b e = absurd (false≢true b)
    same_permutation (Some m) None us vs b e = absurd (false≢true (sym b))
    same_permutation (Some m) (Some n) us vs b e =
        let rest = ap (drop 1) e in
        let parts = split_last (elements_of (map _ us)) _ (elements_of (map _ vs)) _ refl (sym (map-append _ (map _ us) _) ∙ rest ∙ map-append _ (map _ vs) _) in (
          ap Some (tells.commitments m n (ap (λ l. get_or l 0 []) e)),
          same_map coefficients tells.extension us vs (sym (map_twice _ _ us) ∙ parts.0 ∙ map_twice _ _ vs),
        )

    long : (us : List E) → length (elements_of (map (λ t. with_value (lookup_terminal_step d) (Extended t)) us ++ with_value (constraint_challenge_step d) NoValue ∷ [])) ≡ length us + 1
    long us =
        let f : E → Played F E M = λ t. with_value (lookup_terminal_step d) (Extended t) in
        length-map (map f us ++ with_value (constraint_challenge_step d) NoValue ∷ []) _
        ∙ length-append (map f us) (with_value (constraint_challenge_step d) NoValue ∷ []) ∙ ap (λ k. k + 1) (length-map us f)

    permutation_length : (m n : Option M) (us vs : List E) → is_some m ≡ is_some n → length us ≡ length vs
        → length (elements_of (permutation_script d m us)) ≡ length (elements_of (permutation_script d n vs))
    unfolding permutation_script
    permutation_length None None us vs b l = long us ∙ ap (λ k. k + 1) l ∙ sym (long vs)
    permutation_length None (Some n) us vs b l = absurd (false≢true b)
    permutation_length (Some m) None us vs b l = absurd (false≢true (sym b))
    permutation_length (Some m) (Some n) us vs b l = ap suc (long us ∙ ap (λ k. k + 1) l ∙ sym (long vs))

    same_quotient : (m n : M) (a b : Option M) → is_some a ≡ is_some b → elements_of (quotient_script m a) ≡ elements_of (quotient_script n b) → (m ≡ n) × (a ≡ b)
    unfolding quotient_script
    same_quotient m n a b there e = (
      tells.commitments m n (ap (λ l. get_or l 0 []) e),
      same_sealed randomization_commitment_step a b there (ap (drop 1) e),
    )

    quotient_length : (m n : M) (a b : Option M) → is_some a ≡ is_some b → length (elements_of (quotient_script m a)) ≡ length (elements_of (quotient_script n b))
    unfolding quotient_script
    quotient_length m n a b there = ap suc (sealed_length randomization_commitment_step a b there)

    same_ood : (bits : ℕ) (v w : F) → elements_of (ood_script d bits v) ≡ elements_of (ood_script d bits w) → v ≡ w
    unfolding ood_script
    same_ood bits v w e = ap (λ l. get_or (get_or l 0 []) 0 v) e

    ood_length : (bits : ℕ) (v w : F) → length (elements_of (ood_script d bits v)) ≡ length (elements_of (ood_script d bits w))
    unfolding ood_script
    ood_length bits v w = refl

    main_length : (m n : M) (us vs : List (List F)) → length us ≡ length vs → length (elements_of (main_script m us)) ≡ length (elements_of (main_script n vs))
    unfolding main_script
    main_length m n us vs l =
        let f : List F → Played F E M = λ v. with_value (public_values_step (length v)) (Elements v) in
        ap suc (length-map (map f us) _ ∙ length-map us f ∙ l ∙ sym (length-map vs f) ∙ sym (length-map (map f vs) _))

    module _ (s : BatchShapeData) (g h : Given F E M) (fits : FitsShape s g) (fits_too : FitsShape s h) (alike : ArePlayedAlike coefficients opaque r d s g h) where
      -- each part from the last on
      abbrev b0 : Given F E M → List (Played F E M)
      b0 x = bindings_script r d x.degree_bits

      abbrev m0 : Given F E M → List (Played F E M)
      m0 x = main_script x.main x.publics

      abbrev p0 : Given F E M → List (Played F E M)
      p0 x = preprocessed_script x.preprocessed

      abbrev w0 : Given F E M → List (Played F E M)
      w0 x = pair_script d s.num_lookup_instances s.lookup_pow_bits x.lookup_witness

      abbrev t0 : Given F E M → List (Played F E M)
      t0 x = permutation_script d x.permutation x.terminals

      abbrev q0 : Given F E M → List (Played F E M)
      q0 x = quotient_script x.quotient x.randomization

      abbrev z0 : Given F E M → List (Played F E M)
      z0 x = ood_script d s.ood_pow_bits x.ood_witness

      -- the elements of two parts one after the other
      two : (xs ys us vs : List (Played F E M)) → length (elements_of ys) ≡ length (elements_of vs) → elements_of (xs ++ ys) ≡ elements_of (us ++ vs)
          → (elements_of xs ≡ elements_of us) × (elements_of ys ≡ elements_of vs)
      two xs ys us vs l e = split_last (elements_of xs) (elements_of ys) (elements_of us) (elements_of vs) l (sym (map-append _ xs ys) ∙ e ∙ map-append _ us vs)

      to_opening : elements_of (script_to_opening r d s g) ≡ elements_of (script_to_opening r d s h)
      unfolding script
      to_opening = (two (script_to_opening r d s g) opening_script (script_to_opening r d s h) opening_script refl alike).0

      at_ood : (elements_of (script_to_ood r d s g) ≡ elements_of (script_to_ood r d s h)) × (elements_of (z0 g) ≡ elements_of (z0 h))
      at_ood = two (script_to_ood r d s g) (z0 g) (script_to_ood r d s h) (z0 h) (ood_length s.ood_pow_bits g.ood_witness h.ood_witness) to_opening

      at_quotient : (elements_of (script_to_lookup r d g ++ w0 g ++ t0 g) ≡ elements_of (script_to_lookup r d h ++ w0 h ++ t0 h)) × (elements_of (q0 g) ≡ elements_of (q0 h))
      at_quotient =
          two (script_to_lookup r d g ++ w0 g ++ t0 g) (q0 g) (script_to_lookup r d h ++ w0 h ++ t0 h) (q0 h)
          (quotient_length g.quotient h.quotient g.randomization h.randomization (fits.randomization ∙ sym fits_too.randomization)) at_ood.0

      at_permutation : (elements_of (script_to_lookup r d g ++ w0 g) ≡ elements_of (script_to_lookup r d h ++ w0 h)) × (elements_of (t0 g) ≡ elements_of (t0 h))
      at_permutation =
          two (script_to_lookup r d g ++ w0 g) (t0 g) (script_to_lookup r d h ++ w0 h) (t0 h)
          (permutation_length g.permutation h.permutation g.terminals h.terminals (fits.permutation ∙ sym fits_too.permutation) (fits.terminals ∙ sym fits_too.terminals)) at_quotient.0

      at_pair : (elements_of (script_to_lookup r d g) ≡ elements_of (script_to_lookup r d h)) × (elements_of (w0 g) ≡ elements_of (w0 h))
      at_pair = two (script_to_lookup r d g) (w0 g) (script_to_lookup r d h) (w0 h) (pair_length s.num_lookup_instances s.lookup_pow_bits g.lookup_witness h.lookup_witness) at_permutation.0

      at_preprocessed : (elements_of (b0 g ++ m0 g) ≡ elements_of (b0 h ++ m0 h)) × (elements_of (p0 g) ≡ elements_of (p0 h))
      at_preprocessed = two (b0 g ++ m0 g) (p0 g) (b0 h ++ m0 h) (p0 h) (preprocessed_length g.preprocessed h.preprocessed (fits.preprocessed ∙ sym fits_too.preprocessed)) at_pair.0

      many : length g.publics ≡ length h.publics
      many = sym (length-map g.publics length) ∙ ap length (fits.publics ∙ sym fits_too.publics) ∙ length-map h.publics length

      at_main : (elements_of (b0 g) ≡ elements_of (b0 h)) × (elements_of (m0 g) ≡ elements_of (m0 h))
      at_main = two (b0 g) (m0 g) (b0 h) (m0 h) (main_length g.main h.main g.publics h.publics many) at_preprocessed.0

      pub same_parts : All (λ n. n < most) g.degree_bits → All (λ n. n < most) h.degree_bits → HaveSameParts s g h
      same_parts few few_too =
          let main = same_main g.main h.main g.publics h.publics at_main.1 in
          let columns = same_permutation g.permutation h.permutation g.terminals h.terminals (fits.permutation ∙ sym fits_too.permutation) at_permutation.1 in
          let chunks = same_quotient g.quotient h.quotient g.randomization h.randomization (fits.randomization ∙ sym fits_too.randomization) at_quotient.1 in
          record {
            degree_bits = same_bindings g.degree_bits h.degree_bits few few_too at_main.0;
            main = main.0;
            publics = main.1;
            preprocessed = same_preprocessed g.preprocessed h.preprocessed (fits.preprocessed ∙ sym fits_too.preprocessed) at_preprocessed.1;
            lookup_witness = λ b. same_witness s.num_lookup_instances s.lookup_pow_bits g.lookup_witness h.lookup_witness b at_pair.1;
            permutation = columns.0;
            terminals = columns.1;
            quotient = chunks.0;
            randomization = chunks.1;
            ood_witness = same_ood s.ood_pow_bits g.ood_witness h.ood_witness at_ood.1;
          }
