-- The shape of the script of AIRs and common data, by the lists that a program makes.
use Rattle.std.proofs.Common.{◌≡◌, ℕ, ◌+◌, Bool, List, [], ◌∷◌, map, refl, sym, ◌∙◌, ap, cond}
use Rattle.std.specs.Prelude.{count_by, is_some}
use Rattle.std.proofs.lemmas.List.Sums.{sum_by-cons}
use Rattle.std.proofs.lemmas.Simd.{map-map}
use Rattle.air_core.specs.Shape.{Declaration, width_of}
use Rattle.air_core.specs.Tree.{Tree}
use Rattle.p3_lookup.specs.Written.{read_all}
use Rattle.transcript_version.specs.declared.TranscriptVersion.{TranscriptVersion}
use Rattle.batch_statement.specs.Statement.{AirTable, WrittenCommon, tables_of, statement_with}
use Rattle.batch_statement.specs.Words.{has_some}
use Rattle.verifier_draws.specs.Draws.{lookup_counts_in, script_shape}

count_by-map : {A B : Type 0} (p : B → Bool) (f : A → B) (xs : List A) → count_by p (map f xs) ≡ count_by (λ x. p (f x)) xs
count_by-map p f [] = refl
count_by-map {A} {B} p f (x ∷ xs) =
    let one : B → ℕ = λ y. cond (p y) 1 0 in
    sum_by-cons one (f x) (map f xs) ∙ ap (λ n. cond (p (f x)) 1 0 + n) (count_by-map p f xs) ∙ sym (sum_by-cons (λ (x : A). one (f x)) x xs)

-- what is read of each AIR's declaration is read of each table's
of_tables : {A F : Type 0} (declaration : A → Declaration F) (trees : A → List (Tree F)) (airs : List A) (read : Declaration F → ℕ) (ns : List ℕ)
    → ns ≡ map (λ a. read (declaration a)) airs → ns ≡ map (λ t. read t.declaration) (tables_of declaration trees airs)
of_tables {A} {F} declaration trees airs read ns e =
    let made : A → AirTable F = λ a. record { declaration = declaration a; trees = trees a } in
    e ∙ sym (map-map (λ (t : AirTable F). read t.declaration) made airs)

module _ {A F C : Type 0} (declaration : A → Declaration F) (trees : A → List (Tree F)) (airs : List A) (common : WrittenCommon F C) where
  pub shape_is : (version : TranscriptVersion) (zk : Bool) (lookup_bits ood_bits : ℕ) (widths counts preprocessed : List ℕ) (there : Bool) (n : ℕ) (lookups : List ℕ)
      → widths ≡ map (λ a. (declaration a).width) airs
      → counts ≡ map (λ a. (declaration a).public_values) airs
      → preprocessed ≡ map (λ a. width_of (declaration a).preprocessed) airs
      → there ≡ is_some common.preprocessed
      → n ≡ count_by (λ ls. has_some (read_all ls)) common.lookups
      → lookups ≡ lookup_counts_in version (map read_all common.lookups)
      → record {
        trace_widths = widths;
        public_value_counts = counts;
        preprocessed_widths = preprocessed;
        has_preprocessed_commitment = there;
        num_lookup_instances = n;
        lookup_pow_bits = lookup_bits;
        has_randomization_commitment = zk;
        ood_pow_bits = ood_bits;
        version = version;
        lookup_counts = lookups;
      } ≡ script_shape version zk lookup_bits ood_bits (statement_with (tables_of declaration trees airs) [] common)
  shape_is version zk lookup_bits ood_bits widths counts preprocessed there n lookups a b e h k l =
      let w = of_tables declaration trees airs (λ d. d.width) widths a in
      let p = of_tables declaration trees airs (λ d. d.public_values) counts b in
      let q = of_tables declaration trees airs (λ d. width_of d.preprocessed) preprocessed e in
      let m = k ∙ sym (count_by-map has_some (read_all {F = F}) common.lookups) in
      λ i. record {
        trace_widths = w i;
        public_value_counts = p i;
        preprocessed_widths = q i;
        has_preprocessed_commitment = h i;
        num_lookup_instances = m i;
        lookup_pow_bits = lookup_bits;
        has_randomization_commitment = zk;
        ood_pow_bits = ood_bits;
        version = version;
        lookup_counts = l i;
      }
