-- The transcript of a batch is one over base elements.
use Rattle.std.proofs.Common.{◌≡◌, ℕ, zero, suc, List, [], ◌∷◌, ◌++◌, length, map, Option, None, Some, refl, sym, ◌∙◌}
use Rattle.std.specs.Prelude.{All}
use Rattle.std.proofs.lemmas.List.Elements.{All-append, All-cons, All-nil}
use Rattle.p3_field.specs.Ring.{Ring}
use Rattle.p3_challenger.specs.Elements.{DrawsAt, ElementChallenger, IsOverElements}
use Rattle.p3_challenger.specs.Laws.Flat.{play-flat}
use Rattle.p3_challenger.specs.Script.{ChallengerOf, Elements, Extended, Played, begun, elements}
use Rattle.p3_challenger.specs.declared.script.Interaction.{Interaction}
use Rattle.p3_challenger.specs.declared.script.InteractionKind.{InteractionKind}
use Rattle.p3_challenger.specs.declared.script.InteractionKind.TheVariants.{Challenge, Message, Pow, Protocol, Public}
use Rattle.batch_transcript.specs.BatchScript.{Given, BatchShapeData, bindings_script, lookup_terminal_step, main_script, ood_script, opening_script, pair_script, permutation_commitment_step, permutation_script, preprocessed_commitment_step, preprocessed_script, public_values_step, quotient_script, randomization_commitment_step, script, script_to_lookup, script_to_ood, sealed, seeded, with_value}
use Rattle.law_transcript.specs.Elements.{PlaysByElements}

module _ {F E M : Type 0} (d : ℕ) where
  -- each challenge of these steps has dimension d
  record AllDraw (ps : List (Played F E M)) : Type 0 where
    all : All (DrawsAt d) ps

  none : AllDraw []
  none = record { all = All-nil (DrawsAt d) }

  more : (p : Played F E M) (ps : List (Played F E M)) → DrawsAt d p → AllDraw ps → AllDraw (p ∷ ps)
  more p ps one rest = record { all = All-cons (DrawsAt d) p ps one rest.all }

  both : {ps qs : List (Played F E M)} → AllDraw ps → AllDraw qs → AllDraw (ps ++ qs)
  both {ps} {qs} p q = record { all = All-append (DrawsAt d) ps qs p.all q.all }

  -- a step that is no challenge, before others
  other : (kind : InteractionKind) → (kind ≡ Challenge → ⊥) → {p : Played F E M} {ps : List (Played F E M)} → p.step.kind ≡ kind → AllDraw ps → AllDraw (p ∷ ps)
  other kind n {p} {ps} h rest = more p ps (λ e. absurd (n (sym h ∙ e))) rest

  message : {p : Played F E M} {ps : List (Played F E M)} → p.step.kind ≡ Message → AllDraw ps → AllDraw (p ∷ ps)
  message h rest = other Message (λ (e : Message ≡ Challenge). cc) h rest

  of_public : {p : Played F E M} {ps : List (Played F E M)} → p.step.kind ≡ Public → AllDraw ps → AllDraw (p ∷ ps)
  of_public h rest = other Public (λ (e : Public ≡ Challenge). cc) h rest

  of_pow : {p : Played F E M} {ps : List (Played F E M)} → p.step.kind ≡ Pow → AllDraw ps → AllDraw (p ∷ ps)
  of_pow h rest = other Pow (λ (e : Pow ≡ Challenge). cc) h rest

  bracket : {p : Played F E M} {ps : List (Played F E M)} → p.step.kind ≡ Protocol → AllDraw ps → AllDraw (p ∷ ps)
  bracket h rest = other Protocol (λ (e : Protocol ≡ Challenge). cc) h rest

  -- a challenge, before others
  challenge : {p : Played F E M} {ps : List (Played F E M)} → elements p.step.value ≡ d → AllDraw ps → AllDraw (p ∷ ps)
  challenge {p} {ps} h rest = more p ps (λ e. h) rest

  -- a commitment that may be absent
  commitment : (step : Interaction) → step.kind ≡ Message → (m : Option M) → AllDraw (sealed step m)
  commitment step h None = none
  commitment step h (Some m) = message h none

  bindings_draw : (r : Ring E) (degree_bits : List ℕ) → AllDraw (bindings_script r d degree_bits)
  unfolding bindings_script
  bindings_draw r [] = none
  bindings_draw r (n ∷ degree_bits) = message refl (bindings_draw r degree_bits)

  publics_draw : (publics : List (List F)) → AllDraw (map (λ v. with_value (public_values_step (length v)) (Elements v)) publics)
  publics_draw [] = none
  publics_draw (v ∷ publics) = of_public refl (publics_draw publics)

  main_draw : (m : M) (publics : List (List F)) → AllDraw (main_script m publics)
  unfolding main_script
  main_draw m publics = message refl (publics_draw publics)

  preprocessed_draw : (m : Option M) → AllDraw (preprocessed_script m)
  unfolding preprocessed_script
  preprocessed_draw m = commitment preprocessed_commitment_step refl m

  pair_draw : (n bits : ℕ) (w : Option F) → AllDraw (pair_script d n bits w)
  unfolding pair_script
  pair_draw zero bits w = none
  pair_draw (suc n) bits w = of_pow refl (challenge refl (challenge refl none))

  terminals_draw : (terminals : List E) → AllDraw (map (λ t. with_value (lookup_terminal_step d) (Extended t)) terminals)
  terminals_draw [] = none
  terminals_draw (t ∷ terminals) = message refl (terminals_draw terminals)

  permutation_draw : (m : Option M) (terminals : List E) → AllDraw (permutation_script d m terminals)
  unfolding permutation_script
  permutation_draw m terminals = both (both (commitment permutation_commitment_step refl m) (terminals_draw terminals)) (challenge refl none)

  quotient_draw : (q : M) (m : Option M) → AllDraw (quotient_script q m)
  unfolding quotient_script
  quotient_draw q m = message refl (commitment randomization_commitment_step refl m)

  ood_draw : (bits : ℕ) (w : F) → AllDraw (ood_script d bits w)
  unfolding ood_script
  ood_draw bits w = of_pow refl (challenge refl none)

  opening_draw : AllDraw opening_script
  unfolding opening_script
  opening_draw = bracket refl (bracket refl none)

  to_lookup_draw : (r : Ring E) (g : Given F E M) → AllDraw (script_to_lookup r d g)
  to_lookup_draw r g = both (both (bindings_draw r g.degree_bits) (main_draw g.main g.publics)) (preprocessed_draw g.preprocessed)

  to_ood_draw : (r : Ring E) (s : BatchShapeData) (g : Given F E M) → AllDraw (script_to_ood r d s g)
  to_ood_draw r s g =
      both (both (both (to_lookup_draw r g) (pair_draw s.num_lookup_instances s.lookup_pow_bits g.lookup_witness)) (permutation_draw g.permutation g.terminals))
      (quotient_draw g.quotient g.randomization)

  -- each challenge of a batch has the dimension of the challenges' field
  script_draws : (r : Ring E) (s : BatchShapeData) (g : Given F E M) → AllDraw (script r d s g)
  unfolding script
  script_draws r s g = both (both (to_ood_draw r s g) (ood_draw s.ood_pow_bits g.ood_witness)) opening_draw

module _ {S F E M : Type 0} (c : ChallengerOf S F E M) (b : ElementChallenger S F) (coefficients : E → List F) (opaque : M → List F) (f : Ring F) (r : Ring E) (d : ℕ) (initial : S) (s : BatchShapeData) (g : Given F E M) where
  pub plays_by_elements : IsOverElements c b coefficients opaque d → PlaysByElements c b coefficients opaque f r d initial s g
  plays_by_elements over = play-flat c b coefficients opaque d over (begun E (seeded c f d s initial)) (script r d s g) (script_draws d r s g).all
