-- The checks of the buses of a traced batch, by what the check of multiplicities answers.
use Rattle.std.proofs.Common.{◌≡◌, ℕ, ◌<◌, ◌≤◌, List, [], ◌∷◌, length, map, sym, ◌∙◌, ap, subst, arith}
use Rattle.std.proofs.lemmas.List.{length-map}
use Rattle.p3_field.specs.Checks.{Check, FirstFails, NoneFails, in_turn}
use Rattle.p3_field.specs.Laws.Checks.{first_by, first_here, none_alone, none_by}
use Rattle.air_core.specs.Shape.{Declaration}
use Rattle.air_core.specs.Tree.{Tree}
use Rattle.p3_lookup.specs.Bound.{HaveLoadsBelow, IsFirstOverload, bus_load, capped}
use Rattle.p3_lookup.specs.Bus.{batch_buses, bus_count}
use Rattle.p3_lookup.specs.Lookup.{LookupData}
use Rattle.p3_lookup.specs.Written.{Written, read_all}
use Rattle.p3_matrix.specs.Matrix.{height}
use Rattle.batch_config.specs.Setting.{Setting, masks}
use Rattle.batch_setup.specs.Setup.{Instance}
use Rattle.batch_statement.specs.Statement.{WrittenCommon}
use Rattle.law_honest.specs.HonestProof.{Prover}
use Rattle.verifier_shape.specs.ShapeChecks.{heights_of}
use Rattle.prover_answer.specs.Batch.{Batch, IsTracedAll, batch_of, table_count}
use Rattle.prover_answer.specs.Proving.{bound_part}
use Rattle.prover_answer.specs.declared.error.ProvingError.{ProvingError}
use Rattle.prover_answer.specs.declared.error.ProvingError.TheVariants.{MultiplicityBound}
use Rattle.prover_commits.specs.Laws.Instances.{counted, heights_are}

module _ {F R : Type 0} (named : ℕ → R) (order : ℕ) (lookups : List (List (LookupData F))) (heights : List ℕ) where
  abbrev bus_check : ℕ → Check R
  bus_check bus = record { refusal = λ e. (e ≡ named (capped bus)) × (order ≤ bus_load lookups heights bus); holds = bus_load lookups heights bus < order }

  abbrev bus_checks : List (Check R)
  bus_checks = in_turn (bus_count (batch_buses lookups)) (λ bus. bus_check bus ∷ [])

  none_overloaded : HaveLoadsBelow order lookups heights → NoneFails bus_checks
  none_overloaded h = none_by (λ bus. bus_check bus ∷ []) (λ bus. bus_load lookups heights bus < order) (bus_count (batch_buses lookups)) (λ b l q. none_alone (bus_check b) q) h

  first_overloaded : (bus : ℕ) → IsFirstOverload order lookups heights bus → FirstFails bus_checks (named bus)
  first_overloaded bus h =
      first_by (λ bus. bus_check bus ∷ []) (λ bus. bus_load lookups heights bus < order) (bus_count (batch_buses lookups)) h.number (named bus)
      (λ b l q. none_alone (bus_check b) q)
      (λ over. first_here (bus_check h.number) [] (named bus) over (ap named h.named, h.reaches))
      (record { within = h.within; fails = (λ l. let r = h.reaches in omega (arith, r, l)); earlier = h.before })

-- of a traced batch, where these are its lookups and its heights
module _ {S F E C A : Type 0} (R : Type 0) (c : Setting S F E C) (p : Prover F E C) (declaration : A → Declaration F) (trees : A → List (Tree F)) (instances : List (Instance A F)) (common : WrittenCommon F C)
    (B : IsTracedAll (batch_of c p declaration trees instances common)) (lookups : List (List (Written F))) (heights : List ℕ) (own : lookups ≡ common.lookups) (tall : heights ≡ map (λ i. height i.trace) instances) where
  abbrev batch : Batch S F E C
  batch = batch_of c p declaration trees instances common

  abbrev degree_bits : List ℕ
  degree_bits = batch.degree_bits

  pub listed : length heights ≡ length lookups
  listed =
      ap length tall
      ∙ (length-map instances (λ i. height i.trace)
      ∙ (sym (counted c p declaration trees instances common)
      ∙ (sym B.lists.lookups_long ∙ (length-map common.lookups read_all ∙ ap length (sym own)))))

  pub passes : HaveLoadsBelow c.order (map read_all lookups) heights → NoneFails (bound_part batch {R = R})
  passes h =
      none_overloaded {F = F} {R = ProvingError R} MultiplicityBound c.order (map read_all common.lookups) (heights_of (masks c) degree_bits (table_count batch))
      (subst (HaveLoadsBelow c.order (map read_all common.lookups)) (tall ∙ heights_are c p declaration trees instances common B)
      (subst (λ (ws : List (List (Written F))). HaveLoadsBelow c.order (map read_all ws) heights) own h))

  pub refused : (bus : ℕ) → IsFirstOverload c.order (map read_all lookups) heights bus → FirstFails (bound_part batch {R = R}) (MultiplicityBound bus)
  refused bus h =
      first_overloaded {F = F} {R = ProvingError R} MultiplicityBound c.order (map read_all common.lookups) (heights_of (masks c) degree_bits (table_count batch)) bus
      (subst (λ hs. IsFirstOverload c.order (map read_all common.lookups) hs bus) (tall ∙ heights_are c p declaration trees instances common B)
      (subst (λ (ws : List (List (Written F))). IsFirstOverload c.order (map read_all ws) heights bus) own h))
