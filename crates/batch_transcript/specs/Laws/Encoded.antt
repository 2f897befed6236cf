-- A separator's encoding gives back its version, its steps and its instance label.
use Rattle.std.proofs.Common.{◌≡◌, ℕ, zero, suc, ◌<◌, ◌^◌, List, [], ◌∷◌, ◌++◌, length, map, refl, ap, sym, ◌∙◌, Bool, true, false, replicate, arith, All, flat_map, append_assoc, get_or, codes}
use Rattle.std.specs.Int.{w64, from_be_bytes}
use Rattle.std.proofs.lemmas.Nat.{from_be_bytes-to_be_bytes_8}
use Rattle.std.proofs.lemmas.List.{append_cancel_left}
use Rattle.std.proofs.lemmas.List.Elements.{All-head, All-tail}
use Rattle.p3_challenger.specs.Script.{elements, amount}
use Rattle.p3_challenger.specs.Separator.{Separator, eight_bytes, length_prefixed, step_bytes, encoding, hierarchy_byte, kind_byte, value_byte, length_byte}
use Rattle.p3_challenger.specs.declared.script.Hierarchy.{Hierarchy}
use Rattle.p3_challenger.specs.declared.script.Hierarchy.TheVariants.{Atomic, Begin, End}
use Rattle.p3_challenger.specs.declared.script.InteractionKind.{InteractionKind}
use Rattle.p3_challenger.specs.declared.script.InteractionKind.TheVariants.{Message, Public, Challenge, Pow, Protocol}
use Rattle.p3_challenger.specs.declared.script.StepValue.{StepValue}
use Rattle.p3_challenger.specs.declared.script.StepValue.TheVariants.{Marker, Opaque, Algebra}
use Rattle.p3_challenger.specs.declared.script.Length.{Length}
use Rattle.p3_challenger.specs.declared.script.Length.TheVariants.{None as NoLength, Scalar, Fixed}
use Rattle.p3_challenger.specs.declared.script.Interaction.{Interaction}
use Rattle.transcript_version.specs.declared.TranscriptVersion.{TranscriptVersion}
use Rattle.transcript_version.specs.declared.TranscriptVersion.TheVariants.{V1, V2}
use Rattle.batch_transcript.specs.BatchScript.{BatchShapeData, pattern, separator, instance_label, version_byte, from_main, from_preprocessed, from_lookup, from_permutation, from_quotient, from_ood, from_opening, degree_bits_step, main_commitment_step, public_values_step, preprocessed_commitment_step, lookup_pow_step, lookup_alpha_step, lookup_beta_step, permutation_commitment_step, lookup_terminal_step, constraint_challenge_step, quotient_commitment_step, randomization_commitment_step, ood_pow_step, zeta_step, opening_step, permutation_steps, pair_steps, only_with}
use Rattle.batch_transcript.specs.Shapes.{FitsEightBytes}

-- two lists whose fronts have one length are equal part by part
pub parts-equal : {A : Type 0} (us vs xs ys : List A) → length us ≡ length vs → us ++ xs ≡ vs ++ ys → (us ≡ vs) × (xs ≡ ys)
parts-equal [] [] xs ys l e = (refl, e)
parts-equal [] (b ∷ vs) xs ys l e = cc
parts-equal (a ∷ us) [] xs ys l e = cc
parts-equal (a ∷ us) (b ∷ vs) xs ys l e =
    let n : length us ≡ length vs = cc in
    let h : a ≡ b = cc in
    let t : us ++ xs ≡ vs ++ ys = cc in
    let r = parts-equal us vs xs ys n t in
    (λ i. h i ∷ r.0 i, r.1)

-- a number's bytes are eight, and tell it
pub eight : (n : ℕ) → length (eight_bytes n) ≡ 8
unfolding eight_bytes
eight n = refl

pub bytes-tell : (m n : ℕ) → m < 2 ^ 64 → n < 2 ^ 64 → eight_bytes m ≡ eight_bytes n → m ≡ n
unfolding eight_bytes
bytes-tell m n hm hn e = sym (from_be_bytes-to_be_bytes_8 m hm) ∙ ap (from_be_bytes w64) e ∙ from_be_bytes-to_be_bytes_8 n hn

-- the eight bytes of two numbers begin two lists
pub eights : (m n : ℕ) (xs ys : List ℕ) → eight_bytes m ++ xs ≡ eight_bytes n ++ ys → (eight_bytes m ≡ eight_bytes n) × (xs ≡ ys)
eights m n xs ys e = parts-equal (eight_bytes m) (eight_bytes n) xs ys (eight m ∙ sym (eight n)) e

-- what a byte stands for
abbrev hierarchy_at : ℕ → Hierarchy
hierarchy_at zero = Atomic
hierarchy_at (suc zero) = Begin
hierarchy_at (suc (suc n)) = End

hierarchy-told : (h : Hierarchy) → hierarchy_at (hierarchy_byte h) ≡ h
hierarchy-told Atomic = refl
hierarchy-told Begin = refl
hierarchy-told End = refl

abbrev kind_at : ℕ → InteractionKind
kind_at zero = Message
kind_at (suc zero) = Public
kind_at (suc (suc zero)) = Challenge
kind_at (suc (suc (suc zero))) = Pow
kind_at (suc (suc (suc (suc n)))) = Protocol

kind-told : (k : InteractionKind) → kind_at (kind_byte k) ≡ k
kind-told Message = refl
kind-told Public = refl
kind-told Challenge = refl
kind-told Pow = refl
kind-told Protocol = refl

abbrev length_at : (byte number : ℕ) → Length
length_at zero n = NoLength
length_at (suc zero) n = Scalar
length_at (suc (suc b)) n = Fixed n

length-told : (l : Length) → length_at (length_byte l) (amount l) ≡ l
length-told NoLength = refl
length-told Scalar = refl
length-told (Fixed n) = refl

abbrev version_at : ℕ → TranscriptVersion
version_at zero = V1
version_at (suc zero) = V1
version_at (suc (suc n)) = V2

version-told : (v : TranscriptVersion) → version_at (version_byte v) ≡ v
version-told V1 = refl
version-told V2 = refl

pub version-tells : (v w : TranscriptVersion) → version_byte v ≡ version_byte w → v ≡ w
version-tells v w e = sym (version-told v) ∙ ap version_at e ∙ version-told w

-- the value of a batch's step, of its kind and its value's byte, with challenges of dimension d
abbrev value_at : (d : ℕ) → InteractionKind → ℕ → StepValue
value_at d Message (suc zero) = Opaque
value_at d Message b = Algebra d
value_at d Public b = Algebra 1
value_at d Challenge b = Algebra d
value_at d Pow b = Algebra 1
value_at d Protocol b = Marker

-- a step of a batch, whose bytes tell it
record IsTold (d : ℕ) (x : Interaction) : Type 0 where
  value : value_at d x.kind (value_byte x.value) ≡ x.value
  label : length x.label < 2 ^ 64
  amount : amount x.length < 2 ^ 64

spread : (a b c d e f r : List ℕ) → (a ++ b ++ (c ++ d) ++ e ++ f) ++ r ≡ a ++ (b ++ (c ++ (d ++ (e ++ (f ++ r)))))
spread a b c d e f r = simp append_assoc

step-spread : (x : Interaction) (r : List ℕ)
    → step_bytes x ++ r
    ≡ (hierarchy_byte x.hierarchy ∷ kind_byte x.kind ∷ value_byte x.value ∷ [])
    ++ (eight_bytes (elements x.value) ++ (eight_bytes (length x.label) ++ (x.label ++ (length_byte x.length ∷ [] ++ (eight_bytes (amount x.length) ++ r)))))
unfolding step_bytes length_prefixed
step-spread x r = spread (hierarchy_byte x.hierarchy ∷ kind_byte x.kind ∷ value_byte x.value ∷ []) (eight_bytes (elements x.value)) (eight_bytes (length x.label)) x.label
    (length_byte x.length ∷ []) (eight_bytes (amount x.length)) r

-- a step's bytes give it back, and what follows
step-tells : (d : ℕ) (x y : Interaction) (r q : List ℕ) → IsTold d x → IsTold d y → step_bytes x ++ r ≡ step_bytes y ++ q → (x ≡ y) × (r ≡ q)
step-tells d x y r q hx hy e =
    let f = sym (step-spread x r) ∙ e ∙ step-spread y q in
    let a = parts-equal (hierarchy_byte x.hierarchy ∷ kind_byte x.kind ∷ value_byte x.value ∷ []) (hierarchy_byte y.hierarchy ∷ kind_byte y.kind ∷ value_byte y.value ∷ []) _ _ refl f in
    let b = eights (elements x.value) (elements y.value) _ _ a.1 in
    let c = eights (length x.label) (length y.label) _ _ b.1 in
    let g = parts-equal x.label y.label _ _ (bytes-tell (length x.label) (length y.label) hx.label hy.label c.0) c.1 in
    let k = parts-equal (length_byte x.length ∷ []) (length_byte y.length ∷ []) _ _ refl g.1 in
    let m = eights (amount x.length) (amount y.length) r q k.1 in
    let n = bytes-tell (amount x.length) (amount y.length) hx.amount hy.amount m.0 in
    let hierarchy : x.hierarchy ≡ y.hierarchy = sym (hierarchy-told x.hierarchy) ∙ ap (λ l. hierarchy_at (get_or l 0 0)) a.0 ∙ hierarchy-told y.hierarchy in
    let kind : x.kind ≡ y.kind = sym (kind-told x.kind) ∙ ap (λ l. kind_at (get_or l 1 0)) a.0 ∙ kind-told y.kind in
    let value : x.value ≡ y.value = sym hx.value ∙ (λ i. value_at d (kind i) (get_or (a.0 i) 2 0)) ∙ hy.value in
    let len : x.length ≡ y.length = sym (length-told x.length) ∙ (λ i. length_at (get_or (k.0 i) 0 0) (n i)) ∙ length-told y.length in (
      λ i. record { hierarchy = hierarchy i; kind = kind i; value = value i; label = g.0 i; length = len i },
      m.1,
    )

-- steps of a batch, of which the last alone ends a bracket
abbrev Told : (d : ℕ) → List Interaction → Type 0
Told d [] = ⊥
Told d (x ∷ []) = IsTold d x × (x.hierarchy ≡ End)
Told d (x ∷ y ∷ ys) = IsTold d x × (x.hierarchy ≡ End → ⊥) × Told d (y ∷ ys)

-- such steps are given back, and what follows
steps-tell : (d : ℕ) (xs ys : List Interaction) (r q : List ℕ) → Told d xs → Told d ys → flat_map step_bytes xs ++ r ≡ flat_map step_bytes ys ++ q → (xs ≡ ys) × (r ≡ q)
steps-tell d [] ys r q hx hy e = absurd hx
steps-tell d (x ∷ xs) [] r q hx hy e = absurd hy
steps-tell d (x ∷ []) (y ∷ []) r q hx hy e =
    let f = sym (append_assoc (step_bytes x) [] r) ∙ e ∙ append_assoc (step_bytes y) [] q in
    let s = step-tells d x y r q hx.0 hy.0 f in
    (λ i. s.0 i ∷ [], s.1)
steps-tell d (x ∷ []) (y ∷ z ∷ ys) r q hx hy e =
    let f = sym (append_assoc (step_bytes x) [] r) ∙ e ∙ append_assoc (step_bytes y) (flat_map step_bytes (z ∷ ys)) q in
    let s = step-tells d x y r _ hx.0 hy.0 f in
    absurd (hy.1 (sym (ap (λ (u : Interaction). u.hierarchy) s.0) ∙ hx.1))
steps-tell d (x ∷ w ∷ xs) (y ∷ []) r q hx hy e =
    let f = sym (append_assoc (step_bytes x) (flat_map step_bytes (w ∷ xs)) r) ∙ e ∙ append_assoc (step_bytes y) [] q in
    let s = step-tells d x y _ q hx.0 hy.0 f in
    absurd (hx.1 (ap (λ (u : Interaction). u.hierarchy) s.0 ∙ hy.1))
steps-tell d (x ∷ w ∷ xs) (y ∷ z ∷ ys) r q hx hy e =
    let f = sym (append_assoc (step_bytes x) (flat_map step_bytes (w ∷ xs)) r) ∙ e ∙ append_assoc (step_bytes y) (flat_map step_bytes (z ∷ ys)) q in
    let s = step-tells d x y _ _ hx.0 hy.0 f in
    let t = steps-tell d (w ∷ xs) (z ∷ ys) r q hx.2 hy.2 s.1 in
    (λ i. s.0 i ∷ t.0 i, t.1)

not_end : Atomic ≡ End → ⊥
not_end e = cc

begin_not_end : Begin ≡ End → ⊥
begin_not_end e = cc

-- one more step in front
put : (d : ℕ) (x : Interaction) (rest : List Interaction) → IsTold d x → (x.hierarchy ≡ End → ⊥) → Told d rest → Told d (x ∷ rest)
put d x [] t n h = absurd h
put d x (y ∷ ys) t n h = (t, n, h)

module _ (d : ℕ) (rest : List Interaction) (h : Told d rest) where
  told-degree_bits : (xs : List ℕ) → Told d (map (λ _. degree_bits_step d) xs ++ rest)
  told-degree_bits [] = h
  told-degree_bits (x ∷ xs) = put d _ _ (record { value = refl; label = omega arith; amount = omega arith }) not_end (told-degree_bits xs)

  told-publics : (xs : List ℕ) → All (λ n. n < 2 ^ 64) xs → Told d (map public_values_step xs ++ rest)
  told-publics [] f = h
  told-publics (x ∷ xs) f =
      let P : ℕ → Type 0 = λ n. n < 2 ^ 64 in
      put d _ _ (record { value = refl; label = omega arith; amount = All-head P x xs f }) not_end (told-publics xs (All-tail P x xs f))

  told-terminals : (n : ℕ) → Told d (replicate n (lookup_terminal_step d) ++ rest)
  told-terminals zero = h
  told-terminals (suc n) = put d _ _ (record { value = refl; label = omega arith; amount = omega arith }) not_end (told-terminals n)

  told-permutation : (n : ℕ) → Told d (permutation_steps d n ++ rest)
  told-permutation zero = h
  told-permutation (suc n) = put d permutation_commitment_step (replicate (suc n) (lookup_terminal_step d) ++ rest) (record { value = refl; label = omega arith; amount = omega arith }) not_end (told-terminals (suc n))

  told-pair : (n bits : ℕ) → bits < 2 ^ 64 → Told d (pair_steps d n bits ++ rest)
  told-pair zero bits f = h
  told-pair (suc n) bits f =
      let beta : Told d (lookup_beta_step d ∷ rest) = put d (lookup_beta_step d) rest (record { value = refl; label = omega arith; amount = omega arith }) not_end h in
      let alpha : Told d (lookup_alpha_step d ∷ lookup_beta_step d ∷ rest) = put d (lookup_alpha_step d) (lookup_beta_step d ∷ rest) (record { value = refl; label = omega arith; amount = omega arith }) not_end beta in
      put d (lookup_pow_step bits) (lookup_alpha_step d ∷ lookup_beta_step d ∷ rest) (record { value = refl; label = omega arith; amount = f }) not_end alpha

  told-preprocessed : (b : Bool) → Told d (only_with b preprocessed_commitment_step ++ rest)
  told-preprocessed true = put d _ _ (record { value = refl; label = omega arith; amount = omega arith }) not_end h
  told-preprocessed false = h

  told-randomization : (b : Bool) → Told d (only_with b randomization_commitment_step ++ rest)
  told-randomization true = put d _ _ (record { value = refl; label = omega arith; amount = omega arith }) not_end h
  told-randomization false = h

told-pattern : (d : ℕ) (s : BatchShapeData) → FitsEightBytes s → Told d (pattern d s)
unfolding pattern from_main from_preprocessed from_lookup from_permutation from_quotient from_ood from_opening
told-pattern d s f =
    let opening : Told d (from_opening d s) = put d (opening_step Begin) (opening_step End ∷ []) (record { value = refl; label = omega arith; amount = omega arith }) begin_not_end ((record { value = refl; label = omega arith; amount = omega arith }), refl) in
    let zeta : Told d (zeta_step d ∷ from_opening d s) = put d (zeta_step d) (from_opening d s) (record { value = refl; label = omega arith; amount = omega arith }) not_end opening in
    let ood : Told d (from_ood d s) = put d (ood_pow_step s.ood_pow_bits) (zeta_step d ∷ from_opening d s) (record { value = refl; label = omega arith; amount = f.ood_bits }) not_end zeta in
    let random : Told d (only_with s.has_randomization_commitment randomization_commitment_step ++ from_ood d s) = told-randomization d (from_ood d s) ood s.has_randomization_commitment in
    let quotient : Told d (from_quotient d s) =
    put d quotient_commitment_step (only_with s.has_randomization_commitment randomization_commitment_step ++ from_ood d s) (record { value = refl; label = omega arith; amount = omega arith }) not_end random in
    let challenge : Told d (constraint_challenge_step d ∷ from_quotient d s) = put d (constraint_challenge_step d) (from_quotient d s) (record { value = refl; label = omega arith; amount = omega arith }) not_end quotient in
    let permutation : Told d (from_permutation d s) = told-permutation d (constraint_challenge_step d ∷ from_quotient d s) challenge s.num_lookup_instances in
    let lookup : Told d (from_lookup d s) = told-pair d (from_permutation d s) permutation s.num_lookup_instances s.lookup_pow_bits f.lookup_bits in
    let preprocessed : Told d (from_preprocessed d s) = told-preprocessed d (from_lookup d s) lookup s.has_preprocessed_commitment in
    let publics : Told d (map public_values_step s.public_value_counts ++ from_preprocessed d s) =
    told-publics d (from_preprocessed d s) preprocessed s.public_value_counts f.publics in
    let main : Told d (from_main d s) = put d main_commitment_step (map public_values_step s.public_value_counts ++ from_preprocessed d s) (record { value = refl; label = omega arith; amount = omega arith }) not_end publics in
    told-degree_bits d (from_main d s) main s.trace_widths

encoding-spread : (a b c d e f : List ℕ) → a ++ b ++ c ++ d ++ (e ++ f) ≡ a ++ (b ++ (c ++ (d ++ (e ++ f))))
encoding-spread a b c d e f = simp append_assoc

-- two shapes whose separators have one encoding have one version, one pattern and one instance label
pub encodings-tell : (d : ℕ) (s t : BatchShapeData) → FitsEightBytes s → FitsEightBytes t → encoding (separator d s) ≡ encoding (separator d t)
    → (s.version ≡ t.version) × (pattern d s ≡ pattern d t) × (instance_label s ≡ instance_label t)
unfolding encoding length_prefixed separator
encodings-tell d s t fs ft e =
    let name = length_prefixed (codes "p3-batch-stark") in
    let one = encoding-spread (version_byte s.version ∷ []) name (eight_bytes (length (pattern d s))) (flat_map step_bytes (pattern d s)) (eight_bytes (length (instance_label s))) (instance_label s) in
    let other = encoding-spread (version_byte t.version ∷ []) name (eight_bytes (length (pattern d t))) (flat_map step_bytes (pattern d t)) (eight_bytes (length (instance_label t))) (instance_label t) in
    let a = parts-equal (version_byte s.version ∷ []) (version_byte t.version ∷ []) _ _ refl (sym one ∙ e ∙ other) in
    let b = append_cancel_left name _ _ a.1 in
    let c = eights (length (pattern d s)) (length (pattern d t)) _ _ b in
    let g = steps-tell d (pattern d s) (pattern d t) _ _ (told-pattern d s fs) (told-pattern d t ft) c.1 in
    let l = eights (length (instance_label s)) (length (instance_label t)) _ _ g.1 in (
      version-tells s.version t.version (ap (λ x. get_or x 0 0) a.0),
      g.0,
      l.1,
    )
