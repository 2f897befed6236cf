-- What is printed along a script is what is drawn and tested along it.
use Rattle.std.proofs.Common.{◌≡◌, ℕ, ◌+◌, Bool, List, [], ◌∷◌, ◌++◌, map, refl, sym, ◌∙◌, ap, append_assoc}
use Rattle.std.proofs.lemmas.List.{append-nil, take_more, map-append}
use Rattle.std.proofs.Common.{◌<◌, take, length, get_or, Option, flat_map, zero, suc}
use Rattle.p3_field.specs.Ring.{Ring}
use Rattle.std.specs.Prelude.{IsTrue, ◌↔◌, true, false, codes}
use Rattle.p3_challenger.specs.Grind.{PassesGrinding, checked_state}
use Rattle.p3_challenger.specs.Laws.Scripts.{grinding-state, passes-checked, unchecked-fails}
use Rattle.p3_challenger.specs.Script.{NoValue, Elements}
use Rattle.batch_transcript.specs.BatchScript.{BatchShapeData, Draws, Given, bindings_script, draws, draws_of, ground, lookup_alpha_step, lookup_beta_step, lookup_pow_step, main_script, ood_script, opening_script, pair_script, permutation_script, preprocessed_commitment_step, preprocessed_script, quotient_script, script, sealed, seeded, with_value}
use Rattle.p3_challenger.specs.Script.{ChallengerOf, Played, Transcript, play, play_kind, begun, steps_of, passes, after_grinding, amount}
use Rattle.p3_challenger.specs.Laws.Scripts.{after_all, play-after}
use Rattle.p3_challenger.specs.declared.script.InteractionKind.{InteractionKind}
use Rattle.p3_challenger.specs.declared.script.InteractionKind.TheVariants.{Message, Public, Challenge, Pow, Protocol}
use Rattle.audit_script.specs.Steps.{Printing, drawn_after, line_of, lines_of, passed_after, print_kind, printed, script_text, spaced_numbers, step_line, test_word, transcript_of, unprinted, with_test}

module _ {S F E M : Type 0} (c : ChallengerOf S F E M) (numbers : E → List ℕ) where
  -- one script after another
  pub printed-append : (t : Printing S E) (ps qs : List (Played F E M)) → printed c numbers t (ps ++ qs) ≡ printed c numbers (printed c numbers t ps) qs
  unfolding printed
  printed-append t [] qs = refl
  printed-append t (p ∷ ps) qs = printed-append (print_kind c numbers p.step.kind t p) ps qs

  -- the lines of what was drawn, from here on
  abbrev pub lines_from : Printing S E → List (Played F E M) → List ℕ
  lines_from t ps =
      let u = play c (begun E t.state) ps in
      lines_of numbers t.index (steps_of ps) u.challenges u.passed

  -- the transcript is the script's fold
  drawn-kind : (k : InteractionKind) (t : Printing S E) (p : Played F E M) → transcript_of (print_kind c numbers k t p) ≡ play_kind c k (transcript_of t) p
  drawn-kind Message t p = refl
  drawn-kind Public t p = refl
  drawn-kind Challenge t p = refl
  drawn-kind Pow t p = refl
  drawn-kind Protocol t p = refl

  pub printed-drawn : (t : Printing S E) (ps : List (Played F E M)) → transcript_of (printed c numbers t ps) ≡ play c (transcript_of t) ps
  unfolding printed play
  printed-drawn t [] = refl
  printed-drawn t (p ∷ ps) = printed-drawn (print_kind c numbers p.step.kind t p) ps ∙ ap (λ u. play c u ps) (drawn-kind p.step.kind t p)

  -- the lines of a script that begins with a step of this kind
  abbrev kind_lines : InteractionKind → Printing S E → Played F E M → List (Played F E M) → List ℕ
  kind_lines k t p ps =
      let u = play c (play_kind c k (begun E t.state) p) ps in
      line_of numbers k t.index p.step.label u.challenges u.passed ++ lines_of numbers (t.index + 1) (steps_of ps) (drawn_after k u.challenges) (passed_after k u.passed)

  -- are its line and those of the others
  line-kind : (k : InteractionKind) (t : Printing S E) (p : Played F E M) (ps : List (Played F E M))
      → (print_kind c numbers k t p).text ++ lines_from (print_kind c numbers k t p) ps ≡ t.text ++ kind_lines k t p ps
  line-kind Message t p ps = append_assoc t.text (step_line t.index p.step.label []) (lines_from (print_kind c numbers Message t p) ps)
  line-kind Public t p ps = append_assoc t.text (step_line t.index p.step.label []) (lines_from (print_kind c numbers Public t p) ps)
  line-kind Challenge t p ps =
      let s = c.after_draw t.state in
      let d = c.draw t.state in
      let whole : play c (record { state = s; challenges = d ∷ []; passed = [] }) ps ≡ after_all c (record { state = s; challenges = d ∷ []; passed = [] }) (play c (begun E s) ps) =
      play-after c (record { state = s; challenges = d ∷ []; passed = [] }) (begun E s) ps in
      append_assoc t.text (step_line t.index p.step.label (spaced_numbers (numbers d))) (lines_from (print_kind c numbers Challenge t p) ps)
      ∙ sym (ap (λ u. t.text ++ (line_of numbers Challenge t.index p.step.label u.challenges u.passed ++ lines_of numbers (t.index + 1) (steps_of ps) (drawn_after Challenge u.challenges) (passed_after Challenge u.passed))) whole)
  line-kind Pow t p ps =
      let s = after_grinding c t.state (amount p.step.length) p.value in
      let b = passes c t.state (amount p.step.length) p.value in
      let whole : play c (record { state = s; challenges = []; passed = b ∷ [] }) ps ≡ after_all c (record { state = s; challenges = []; passed = b ∷ [] }) (play c (begun E s) ps) =
      play-after c (record { state = s; challenges = []; passed = b ∷ [] }) (begun E s) ps in
      append_assoc t.text (step_line t.index p.step.label (test_word b)) (lines_from (print_kind c numbers Pow t p) ps)
      ∙ sym (ap (λ u. t.text ++ (line_of numbers Pow t.index p.step.label u.challenges u.passed ++ lines_of numbers (t.index + 1) (steps_of ps) (drawn_after Pow u.challenges) (passed_after Pow u.passed))) whole)
  line-kind Protocol t p ps = append_assoc t.text (step_line t.index p.step.label []) (lines_from (print_kind c numbers Protocol t p) ps)

  -- The text is that of the challenges and the tests' answers of the script's fold.
  pub printed-text : (t : Printing S E) (ps : List (Played F E M)) → (printed c numbers t ps).text ≡ t.text ++ lines_from t ps
  unfolding printed play lines_of
  printed-text t [] = sym (append-nil t.text)
  printed-text t (p ∷ ps) = printed-text (print_kind c numbers p.step.kind t p) ps ∙ line-kind p.step.kind t p ps

  -- the steps of a list's items, of which one more is printed
  pub printed-more : {A : Type 0} (f : A → Played F E M) (xs : List A) (d : A) (i : ℕ) (t x y : Printing S E) → i < length xs
      → x ≡ printed c numbers t (map f (take i xs)) → y ≡ print_kind c numbers (f (get_or xs i d)).step.kind x (f (get_or xs i d))
      → y ≡ printed c numbers t (map f (take (i + 1) xs))
  unfolding printed
  printed-more f xs d i t x y b p q =
      let here = f (get_or xs i d) in
      q ∙ ap (λ z. print_kind c numbers here.step.kind z here) p
      ∙ sym (printed-append t (map f (take i xs)) (here ∷ []))
      ∙ ap (printed c numbers t) (sym (ap (map f) (take_more xs i d b) ∙ map-append f (take i xs) (get_or xs i d ∷ [])))

  -- one script and then another
  pub printed-chain : (ps qs : List (Played F E M)) (t x y : Printing S E) → x ≡ printed c numbers t ps → y ≡ printed c numbers x qs → y ≡ printed c numbers t (ps ++ qs)
  printed-chain ps qs t x y p q = q ∙ ap (λ z. printed c numbers z qs) p ∙ sym (printed-append t ps qs)

  -- the whole script, phase by phase
  pub printed-script : (r : Ring E) (d : ℕ) (s : BatchShapeData) (g : Given F E M) (t x1 x2 x3 x4 x5 x6 x7 x8 : Printing S E)
      → x1 ≡ printed c numbers t (bindings_script r d g.degree_bits)
      → x2 ≡ printed c numbers x1 (main_script g.main g.publics)
      → x3 ≡ printed c numbers x2 (sealed preprocessed_commitment_step g.preprocessed)
      → x4 ≡ printed c numbers x3 (pair_script d s.num_lookup_instances s.lookup_pow_bits g.lookup_witness)
      → x5 ≡ printed c numbers x4 (permutation_script d g.permutation g.terminals)
      → x6 ≡ printed c numbers x5 (quotient_script g.quotient g.randomization)
      → x7 ≡ printed c numbers x6 (ood_script d s.ood_pow_bits g.ood_witness)
      → x8 ≡ printed c numbers x7 opening_script
      → x8 ≡ printed c numbers t (script r d s g)
  unfolding script preprocessed_script
  printed-script r d s g t x1 x2 x3 x4 x5 x6 x7 x8 p1 p2 p3 p4 p5 p6 p7 p8 =
      let a = bindings_script r d g.degree_bits in
      let b = main_script g.main g.publics in
      let e = sealed preprocessed_commitment_step g.preprocessed in
      let f = pair_script d s.num_lookup_instances s.lookup_pow_bits g.lookup_witness in
      let h = permutation_script d g.permutation g.terminals in
      let k = quotient_script g.quotient g.randomization in
      let o = ood_script d s.ood_pow_bits g.ood_witness in
      printed-chain (a ++ b ++ e ++ f ++ h ++ k ++ o) opening_script t x7 x8
      (printed-chain (a ++ b ++ e ++ f ++ h ++ k) o t x6 x7
      (printed-chain (a ++ b ++ e ++ f ++ h) k t x5 x6
      (printed-chain (a ++ b ++ e ++ f) h t x4 x5
      (printed-chain (a ++ b ++ e) f t x3 x4
      (printed-chain (a ++ b) e t x2 x3
      (printed-chain a b t x1 x2 p1 p2) p3) p4) p5) p6) p7) p8

-- the coefficients of one value
pub flat_single : {A B : Type 0} (f : A → List B) (x : A) → flat_map f (x ∷ []) ≡ f x
flat_single f x = append-nil (f x)

-- the pair's script where instances have lookups
pub pair_script_cases : {F E M : Type 0} (d n bits : ℕ) (w : Option F) → (n ≡ 0 → ⊥)
    → pair_script {F = F} {E = E} {M = M} d n bits w
    ≡ with_value (lookup_pow_step bits) (ground w) ∷ with_value (lookup_alpha_step d) NoValue ∷ with_value (lookup_beta_step d) NoValue ∷ []
unfolding pair_script
pair_script_cases d zero bits w h = absurd (h refl)
pair_script_cases d (suc n) bits w h = refl

pub pair_script_none : {F E M : Type 0} (d n bits : ℕ) (w : Option F) → n ≡ 0 → pair_script {F = F} {E = E} {M = M} d n bits w ≡ []
unfolding pair_script
pair_script_none d zero bits w h = refl
pair_script_none d (suc n) bits w h = absurd cc

-- one step
pub printed-one : {S F E M : Type 0} (c : ChallengerOf S F E M) (numbers : E → List ℕ) (p : Played F E M) (x y : Printing S E) → y ≡ print_kind c numbers p.step.kind x p → y ≡ printed c numbers x (p ∷ [])
unfolding printed
printed-one c numbers p x y h = h

-- the test of a grinding value, by a call's answer
module _ {S F E M : Type 0} (c : ChallengerOf S F E M) (numbers : E → List ℕ) where
  test_is : (s : S) (bits : ℕ) (w : F) (b : Bool) → (IsTrue b ↔ PassesGrinding c.observe c.draw_bits s bits w) → b ≡ passes c s bits (Elements (w ∷ []))
  test_is s bits w true h = sym (passes-checked c s bits w (h.0 refl))
  test_is s bits w false h = sym (unchecked-fails c s bits w (λ p. let t = h.1 p in cc))

  -- the grinding value before the pair
  pub printed-pow : (bits : ℕ) (w : F) (b : Bool) (x y : Printing S E) → (IsTrue b ↔ PassesGrinding c.observe c.draw_bits x.state bits w)
      → y ≡ with_test x (codes "lookup_pow") b (checked_state c.observe c.after_bits x.state bits w)
      → y ≡ printed c numbers x (with_value (lookup_pow_step bits) (Elements (w ∷ [])) ∷ [])
  unfolding printed
  printed-pow bits w b x y t h =
      let e = test_is x.state bits w b t in
      let g = sym (grinding-state c x.state bits w) in
      h ∙ (λ i. with_test x (codes "lookup_pow") (e i) (g i))

  -- the text and the draws of a batch's script
  pub folded-text : (f : Ring F) (r : Ring E) (d : ℕ) (initial : S) (s : BatchShapeData) (g : Given F E M)
      → (printed c numbers (unprinted E (seeded c f d s initial)) (script r d s g)).text ≡ script_text c numbers f r d initial s g
  unfolding script_text
  folded-text f r d initial s g = printed-text c numbers (unprinted E (seeded c f d s initial)) (script r d s g)

  pub folded-draws : (f : Ring F) (r : Ring E) (d : ℕ) (initial : S) (s : BatchShapeData) (g : Given F E M)
      → draws_of r s.num_lookup_instances (transcript_of (printed c numbers (unprinted E (seeded c f d s initial)) (script r d s g))) ≡ draws c f r d initial s g
  unfolding draws
  folded-draws f r d initial s g = ap (draws_of r s.num_lookup_instances) (printed-drawn c numbers (unprinted E (seeded c f d s initial)) (script r d s g))

-- the draws where some instances have lookups
pub some_draws : {S E : Type 0} (r : Ring E) (n : ℕ) (t : Transcript S E) (d : Draws S E) → (n ≡ 0 → ⊥) → ((m : ℕ) → d ≡ draws_of r (suc m) t) → d ≡ draws_of r n t
some_draws r zero t d h e = absurd (h refl)
some_draws r (suc m) t d h e = e m
