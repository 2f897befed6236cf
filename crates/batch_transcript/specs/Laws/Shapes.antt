-- The encodings of separators tell shapes apart.
use Rattle.std.proofs.Common.{◌≡◌, ℕ, zero, suc, ◌<◌, ◌^◌, List, [], ◌∷◌, ◌++◌, length, map, refl, ap, sym, ◌∙◌, Bool, true, false, replicate, arith, All, flat_map, append_assoc, codes}
use Rattle.std.specs.Int.{w64, from_be_bytes}
use Rattle.std.proofs.lemmas.Nat.{from_be_bytes-to_be_bytes_8}
use Rattle.std.proofs.lemmas.List.{append_cancel_left, length-map}
use Rattle.std.proofs.lemmas.List.Elements.{All-head, All-tail}
use Rattle.p3_challenger.specs.Separator.{eight_bytes, encoding}
use Rattle.p3_challenger.specs.States.{steps_after_next, next_bits}
use Rattle.p3_challenger.specs.declared.script.Interaction.{Interaction}
use Rattle.transcript_version.specs.declared.TranscriptVersion.{TranscriptVersion}
use Rattle.transcript_version.specs.declared.TranscriptVersion.TheVariants.{V1, V2}
use Rattle.batch_transcript.specs.Shapes.{IsShape, FitsEightBytes, HasCounts, AreSame, TellsShapes}
use Rattle.batch_transcript.specs.Laws.Encoded.{parts-equal, eight, bytes-tell, encodings-tell}
use Rattle.batch_transcript.specs.BatchScript.{BatchShapeData, pattern, instance_label, separator, version_byte, counts_label, from_main, from_preprocessed, from_lookup, from_permutation, from_quotient, from_ood, from_opening, degree_bits_step, main_commitment_step, public_values_step, preprocessed_commitment_step, lookup_terminal_step, constraint_challenge_step, quotient_commitment_step, randomization_commitment_step, permutation_steps, pair_steps, only_with, is_positive, closing_steps}

pub numbers-tell : (ms ns xs ys : List ℕ) → length ms ≡ length ns → All (λ n. n < 2 ^ 64) ms → All (λ n. n < 2 ^ 64) ns
    → flat_map eight_bytes ms ++ xs ≡ flat_map eight_bytes ns ++ ys → (ms ≡ ns) × (xs ≡ ys)
numbers-tell [] [] xs ys l hm hn e = (refl, e)
numbers-tell [] (n ∷ ns) xs ys l hm hn e = cc
numbers-tell (m ∷ ms) [] xs ys l hm hn e = cc
numbers-tell (m ∷ ms) (n ∷ ns) xs ys l hm hn e =
    let P : ℕ → Type 0 = λ k. k < 2 ^ 64 in
    let len : length ms ≡ length ns = cc in
    let f : eight_bytes m ++ (flat_map eight_bytes ms ++ xs) ≡ eight_bytes n ++ (flat_map eight_bytes ns ++ ys) =
    sym (append_assoc (eight_bytes m) (flat_map eight_bytes ms) xs) ∙ e ∙ append_assoc (eight_bytes n) (flat_map eight_bytes ns) ys in
    let r = parts-equal (eight_bytes m) (eight_bytes n) (flat_map eight_bytes ms ++ xs) (flat_map eight_bytes ns ++ ys) (eight m ∙ sym (eight n)) f in
    let h = bytes-tell m n (All-head P m ms hm) (All-head P n ns hn) r.0 in
    let t = numbers-tell ms ns xs ys len (All-tail P m ms hm) (All-tail P n ns hn) r.1 in
    (λ i. h i ∷ t.0 i, t.1)

-- the length of the first step's label, by which steps are told apart
abbrev pub tag : List Interaction → ℕ
tag [] = 0
tag (s ∷ rest) = length s.label

with-inj : (x : Interaction) (b c : Bool) (R Q : List Interaction) → (tag R ≡ length x.label → ⊥) → (tag Q ≡ length x.label → ⊥)
    → only_with b x ++ R ≡ only_with c x ++ Q → (b ≡ c) × (R ≡ Q)
with-inj x true true R Q h k e = (refl, ap steps_after_next e)
with-inj x false false R Q h k e = (refl, e)
with-inj x true false R Q h k e = absurd (k (sym (ap tag e)))
with-inj x false true R Q h k e = absurd (h (ap tag e))

terminals-inj : (d n m : ℕ) (R Q : List Interaction)
    → replicate n (lookup_terminal_step d) ++ constraint_challenge_step d ∷ R ≡ replicate m (lookup_terminal_step d) ++ constraint_challenge_step d ∷ Q → (n ≡ m) × (R ≡ Q)
terminals-inj d zero zero R Q e = (refl, ap steps_after_next e)
terminals-inj d zero (suc m) R Q e = let t : 20 ≡ 15 = ap tag e in absurd (omega (arith, t))
terminals-inj d (suc n) zero R Q e = let t : 15 ≡ 20 = ap tag e in absurd (omega (arith, t))
terminals-inj d (suc n) (suc m) R Q e = let r = terminals-inj d n m R Q (ap steps_after_next e) in (ap suc r.0, r.1)

lookups-inj : (d n m b c : ℕ) (R Q : List Interaction)
    → pair_steps d n b ++ (permutation_steps d n ++ constraint_challenge_step d ∷ R) ≡ pair_steps d m c ++ (permutation_steps d m ++ constraint_challenge_step d ∷ Q)
    → (n ≡ m) × (is_positive n ≡ true → b ≡ c) × (R ≡ Q)
lookups-inj d zero zero b c R Q e = (refl, λ h. cc, ap steps_after_next e)
lookups-inj d zero (suc m) b c R Q e = let t : 20 ≡ 10 = ap tag e in absurd (omega (arith, t))
lookups-inj d (suc n) zero b c R Q e = let t : 10 ≡ 20 = ap tag e in absurd (omega (arith, t))
lookups-inj d (suc n) (suc m) b c R Q e =
    let r = terminals-inj d (suc n) (suc m) R Q (ap (λ l. steps_after_next (steps_after_next (steps_after_next (steps_after_next l)))) e) in
    (r.0, λ h. ap next_bits e, r.1)

publics-inj : (ms ns : List ℕ) → map public_values_step ms ≡ map public_values_step ns → ms ≡ ns
publics-inj [] [] e = refl
publics-inj [] (n ∷ ns) e = cc
publics-inj (m ∷ ms) [] e = cc
publics-inj (m ∷ ms) (n ∷ ns) e = let h : m ≡ n = ap next_bits e in let r = publics-inj ms ns (ap steps_after_next e) in λ i. h i ∷ r i

-- a version's numbers of lookups are told
counts-tell : (v w : TranscriptVersion) (n m k l : ℕ) (ms ns : List ℕ) → v ≡ w → n ≡ m → HasCounts v n k ms → HasCounts w m l ns
    → All (λ n. n < 2 ^ 64) ms → All (λ n. n < 2 ^ 64) ns → counts_label v ms ≡ counts_label w ns → ms ≡ ns
counts-tell V1 V1 n m k l ms ns e i hm hn fm fn c = hm ∙ sym hn
counts-tell V1 V2 n m k l ms ns e i hm hn fm fn c = let t : 1 ≡ 2 = ap version_byte e in absurd (omega (arith, t))
counts-tell V2 V1 n m k l ms ns e i hm hn fm fn c = let t : 2 ≡ 1 = ap version_byte e in absurd (omega (arith, t))
counts-tell V2 V2 n m k l ms ns e i hm hn fm fn c = (numbers-tell ms ns [] [] (hm.0 ∙ i ∙ sym hn.0) fm fn (ap (λ x. x ++ []) c)).0

label-spread : (a b c d : List ℕ) → a ++ b ++ c ++ d ≡ a ++ (b ++ (c ++ d))
label-spread a b c d = append_assoc (a ++ b) c d ∙ append_assoc a b (c ++ d)

-- of one version the label gives back both widths of each instance, and the numbers of lookups
pub label-tells : (s t : BatchShapeData) → IsShape s → FitsEightBytes s → IsShape t → FitsEightBytes t → s.version ≡ t.version → instance_label s ≡ instance_label t
    → (s.trace_widths ≡ t.trace_widths) × (s.preprocessed_widths ≡ t.preprocessed_widths) × (s.lookup_counts ≡ t.lookup_counts)
unfolding instance_label
label-tells s t hs fs ht ft v e =
    let f : eight_bytes (length s.trace_widths) ++ (flat_map eight_bytes s.trace_widths ++ (flat_map eight_bytes s.preprocessed_widths ++ counts_label s.version s.lookup_counts))
    ≡ eight_bytes (length t.trace_widths) ++ (flat_map eight_bytes t.trace_widths ++ (flat_map eight_bytes t.preprocessed_widths ++ counts_label t.version t.lookup_counts)) =
    sym (label-spread (eight_bytes (length s.trace_widths)) (flat_map eight_bytes s.trace_widths) (flat_map eight_bytes s.preprocessed_widths) (counts_label s.version s.lookup_counts))
    ∙ e ∙ label-spread (eight_bytes (length t.trace_widths)) (flat_map eight_bytes t.trace_widths) (flat_map eight_bytes t.preprocessed_widths) (counts_label t.version t.lookup_counts) in
    let r = parts-equal (eight_bytes (length s.trace_widths)) (eight_bytes (length t.trace_widths)) _ _ (eight (length s.trace_widths) ∙ sym (eight (length t.trace_widths))) f in
    let n = bytes-tell (length s.trace_widths) (length t.trace_widths) fs.instances ft.instances r.0 in
    let w = numbers-tell s.trace_widths t.trace_widths _ _ n fs.traces ft.traces r.1 in
    let l : length s.preprocessed_widths ≡ length t.preprocessed_widths = hs.preprocessed ∙ n ∙ sym ht.preprocessed in
    let p = numbers-tell s.preprocessed_widths t.preprocessed_widths _ _ l fs.preprocessed ft.preprocessed w.1 in (
      w.0,
      p.0,
      counts-tell s.version t.version (length s.trace_widths) (length t.trace_widths) s.num_lookup_instances t.num_lookup_instances s.lookup_counts t.lookup_counts
          v n hs.counts ht.counts fs.counts ft.counts p.1,
    )

-- no step of the lookups or after them is that of a preprocessed commitment
lookup-tag : (d n b : ℕ) (R : List Interaction) → tag (pair_steps d n b ++ (permutation_steps d n ++ constraint_challenge_step d ∷ R)) ≡ length preprocessed_commitment_step.label → ⊥
lookup-tag d zero b R e = let t : 20 ≡ 23 = e in omega (arith, t)
lookup-tag d (suc n) b R e = let t : 10 ≡ 23 = e in omega (arith, t)

-- equal version, pattern and label make equal shapes
pub shapes-tell : (d : ℕ) (s t : BatchShapeData) → IsShape s → FitsEightBytes s → IsShape t → FitsEightBytes t
    → s.version ≡ t.version → pattern d s ≡ pattern d t → instance_label s ≡ instance_label t → AreSame s t
unfolding pattern from_main from_preprocessed from_lookup from_permutation from_quotient from_ood from_opening
shapes-tell d s t hs fs ht ft v e l =
    let w = label-tells s t hs fs ht ft v l in
    let main : from_main d s ≡ from_main d t =
    append_cancel_left (map (λ _. degree_bits_step d) s.trace_widths) (from_main d s) (from_main d t) (e ∙ ap (λ x. map (λ _. degree_bits_step d) x ++ from_main d t) (sym w.0)) in
    let counts : length (map public_values_step s.public_value_counts) ≡ length (map public_values_step t.public_value_counts) =
    length-map s.public_value_counts public_values_step ∙ hs.publics ∙ ap length w.0 ∙ sym ht.publics ∙ sym (length-map t.public_value_counts public_values_step) in
    let p = parts-equal (map public_values_step s.public_value_counts) (map public_values_step t.public_value_counts) (from_preprocessed d s) (from_preprocessed d t) counts (ap steps_after_next main) in
    let q = with-inj preprocessed_commitment_step s.has_preprocessed_commitment t.has_preprocessed_commitment (from_lookup d s) (from_lookup d t)
    (lookup-tag d s.num_lookup_instances s.lookup_pow_bits (from_quotient d s)) (lookup-tag d t.num_lookup_instances t.lookup_pow_bits (from_quotient d t)) p.1 in
    let k = lookups-inj d s.num_lookup_instances t.num_lookup_instances s.lookup_pow_bits t.lookup_pow_bits (from_quotient d s) (from_quotient d t) q.1 in
    let z = with-inj randomization_commitment_step s.has_randomization_commitment t.has_randomization_commitment (from_ood d s) (from_ood d t)
    (λ h. let c : 7 ≡ 24 = h in omega (arith, c)) (λ h. let c : 7 ≡ 24 = h in omega (arith, c)) (ap steps_after_next k.2) in record {
      trace_widths = w.0;
      public_value_counts = publics-inj s.public_value_counts t.public_value_counts p.0;
      preprocessed_widths = w.1;
      preprocessed = q.0;
      lookups = k.0;
      lookup_bits = k.1;
      randomization = z.0;
      ood_bits = ap next_bits z.1;
      version = v;
      counts = w.2;
    }

same-pair : (d n b c : ℕ) → (is_positive n ≡ true → b ≡ c) → pair_steps d n b ≡ pair_steps d n c
same-pair d zero b c h = refl
same-pair d (suc n) b c h = ap (λ x. pair_steps d (suc n) x) (h refl)

-- the other way
pub same-pattern : (d : ℕ) (s t : BatchShapeData) → AreSame s t → pattern d s ≡ pattern d t
unfolding pattern from_main from_preprocessed from_lookup from_permutation from_quotient from_ood from_opening
same-pattern d s t h =
    let pair : pair_steps d s.num_lookup_instances s.lookup_pow_bits ≡ pair_steps d t.num_lookup_instances t.lookup_pow_bits =
    same-pair d s.num_lookup_instances s.lookup_pow_bits t.lookup_pow_bits h.lookup_bits ∙ ap (λ n. pair_steps d n t.lookup_pow_bits) h.lookups in
    λ i.
    map (λ _. degree_bits_step d) (h.trace_widths i)
    ++ main_commitment_step ∷ (map public_values_step (h.public_value_counts i) ++ (only_with (h.preprocessed i) preprocessed_commitment_step
    ++ (pair i ++ (permutation_steps d (h.lookups i) ++ constraint_challenge_step d ∷ quotient_commitment_step ∷ (only_with (h.randomization i) randomization_commitment_step
    ++ closing_steps d (h.ood_bits i))))))

pub same-label : (s t : BatchShapeData) → AreSame s t → instance_label s ≡ instance_label t
unfolding instance_label
same-label s t h = λ i. eight_bytes (length (h.trace_widths i)) ++ flat_map eight_bytes (h.trace_widths i) ++ flat_map eight_bytes (h.preprocessed_widths i)
    ++ counts_label (h.version i) (h.counts i)

pub same-separator : (d : ℕ) (s t : BatchShapeData) → AreSame s t → separator d s ≡ separator d t
unfolding separator
same-separator d s t h =
    let p = same-pattern d s t h in
    let l = same-label s t h in
    λ i. record { version = version_byte (h.version i); name = codes "p3-batch-stark"; steps = p i; instance = l i }

pub tells-shapes : (d : ℕ) (s : BatchShapeData) → TellsShapes d s
tells-shapes d s t hs fs ht ft = (
  λ e. let r = encodings-tell d s t fs ft e in shapes-tell d s t hs fs ht ft r.0 r.1 r.2,
  λ h. ap encoding (same-separator d s t h),
)
