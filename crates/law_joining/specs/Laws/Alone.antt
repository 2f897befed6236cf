-- Tables without lookups send nothing: they are balanced, and no bus carries anything.
use Rattle.std.proofs.Common.{◌≡◌, ℕ, zero, suc, ◌+◌, ◌<◌, Bool, List, [], ◌∷◌, ◌++◌, map, refl, sym, ◌∙◌, ap, subst, arith}
use Rattle.std.specs.Prelude.{All, flat_map}
use Rattle.p3_field.specs.Poly.{tabulate}
use Rattle.air_core.specs.Tree.{Bus, Tree}
use Rattle.p3_lookup.specs.Batch.{SendingTable, batch_lookups, senders, senders_from}
use Rattle.p3_lookup.specs.Bound.{HaveLoadsBelow}
use Rattle.p3_lookup.specs.Bus.{batch_buses, bus_count, bus_in, opened_below}
use Rattle.p3_lookup.specs.Lookup.{LookupData}
use Rattle.p3_lookup.specs.Messages.{Message, Sender, batch_messages, messages_from, net, table_messages}
use Rattle.batch_config.specs.Setting.{Setting}
use Rattle.law_valid.specs.Traced.{TracedTable, sender}
use Rattle.law_valid.specs.Valid.{AreBalanced}

after : {X : Type 0} (P : X → Type 0) (x : X) (xs : List X) → All P (x ∷ xs) → All P xs
after P x xs h i d l = h (suc i) d (omega (arith, l))

nothing : {X Y : Type 0} (xs : List X) → ◌≡◌ {A = List Y} (flat_map (λ _. []) xs) []
nothing [] = refl
nothing (x ∷ xs) = nothing xs

none_sent : {F : Type 0} (value : ℕ → Tree F → F) (bus : ℕ → ℕ) (rows : ℕ) (ls : List (LookupData F)) → ls ≡ [] → table_messages (record { lookups = ls; bus = bus; rows = rows; value = value }) ≡ []
none_sent {F} value bus rows ls e =
    ap (λ (l : List (LookupData F)). table_messages (record { lookups = l; bus = bus; rows = rows; value = value })) e ∙ nothing (tabulate rows (λ i. i))

none_from : {F : Type 0} (bus : ℕ → ℕ → ℕ) (k : ℕ) (xs : List (SendingTable F)) → All (λ x. x.lookups ≡ []) xs → flat_map table_messages (senders_from bus k xs) ≡ []
none_from bus k [] h = refl
none_from {F} bus k (x ∷ xs) h =
    λ j. none_sent x.value (bus k) x.rows x.lookups (h zero x (omega arith)) j ++ none_from bus (suc k) xs (after (λ (y : SendingTable F). y.lookups ≡ []) x xs h) j

module _ {S F E C : Type 0} (c : Setting S F E C) where
  sends_nothing : (tables : List (TracedTable F)) → All (λ t. t.lookups ≡ []) tables → All (λ x. x.lookups ≡ []) (map (sender c) tables)
  sends_nothing [] h i d l = absurd (omega (arith, l))
  sends_nothing (t ∷ ts) h zero d l = h zero t (omega arith)
  sends_nothing (t ∷ ts) h (suc i) d l = sends_nothing ts (after (λ (y : TracedTable F). y.lookups ≡ []) t ts h) i d (omega (arith, l))

  pub alone_balanced : (eq : F → F → Bool) (tables : List (TracedTable F)) → All (λ t. t.lookups ≡ []) tables → AreBalanced c eq tables
  alone_balanced eq tables h b t =
      let xs = map (sender c) tables in
      let none : batch_messages (senders xs) ≡ [] = none_from (bus_in (batch_lookups xs)) 0 xs (sends_nothing tables h) in
      ap (λ (ms : List (Message F)). net c.field.ring eq ms b t) none

no_buses : {F : Type 0} (lookups : List (List (LookupData F))) → All (λ ls. ls ≡ []) lookups → batch_buses lookups ≡ []
no_buses [] h = refl
no_buses {F} (ls ∷ lookups) h =
    λ j. map (λ (l : LookupData F). l.bus) (h zero ls (omega arith) j) ++ no_buses lookups (after (λ (l : List (LookupData F)). l ≡ []) ls lookups h) j

pub alone_bounded : {F : Type 0} (order : ℕ) (lookups : List (List (LookupData F))) (heights : List ℕ) → All (λ ls. ls ≡ []) lookups → HaveLoadsBelow order lookups heights
unfolding opened_below
alone_bounded order lookups heights h b l =
    let none : bus_count (batch_buses lookups) ≡ 0 = ap (λ (bs : List Bus). bus_count bs) (no_buses lookups h) in
    absurd (omega (arith, l, none))
