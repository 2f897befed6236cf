-- Unlucky lookup challenges: those for which sums of fractions say too little of what is sent (not in Plonky3).
use Rattle.std.specs.Prelude.{◌≡◌, ◌⊎◌, ℕ, Bool, List, map, Contains}
use Rattle.p3_field.specs.Ring.{Ring}
use Rattle.p3_lookup.specs.Challenge.{bus_base}
use Rattle.p3_lookup.specs.Messages.{Message, IsBalanced, message_denominator}
use Rattle.p3_lookup.specs.Term.{Term, fraction}
use Rattle.stark_balance.specs.Nets.{ArePaired, nets}

-- an entry's count over its denominator, where each bus has its base
abbrev pub net_term : {F E : Type 0} → Ring E → (F → E) → (ℕ → E) → E → Message F → Term E
net_term e embed base beta n = record { count = embed n.count; denominator = message_denominator e embed base beta n }

module _ {F E : Type 0} (f : Ring F) (eq : F → F → Bool) (e : Ring E) (inv : E → E) (embed : F → E) (base : ℕ → E) (beta : E) (ms : List (Message F)) where
  -- a message's denominator is zero
  abbrev pub HasZeroDenominator : Type 0
  HasZeroDenominator = (m : Message F) × Contains ms m × (message_denominator e embed base beta m ≡ e.zero)

  -- the sum of net over denominator
  abbrev pub net_sum : E
  net_sum = fraction e inv (map (net_term e embed base beta) (nets f eq ms))

  -- the sum is zero, although some net isn't
  pub record IsSumMisleading : Type 0 where
    pub vanishes : net_sum ≡ e.zero
    pub unbalanced : IsBalanced f eq ms → ⊥

  -- these bases and beta are unlucky
  abbrev pub AreBasesUnlucky : Type 0
  AreBasesUnlucky = HasZeroDenominator ⊎ IsSumMisleading

module _ {F E : Type 0} (f : Ring F) (eq : F → F → Bool) (e : Ring E) (inv : E → E) (embed : F → E) (width : ℕ) (ms : List (Message F)) where
  -- the pair of lookup challenges is unlucky, where the bases of buses go by this width
  abbrev pub IsPairUnlucky : (alpha beta : E) → Type 0
  IsPairUnlucky alpha beta = AreBasesUnlucky f eq e inv embed (bus_base e alpha beta width) beta ms

  -- beta makes the denominators of two different pairs of bus and tuple equal, with some alpha (and so with each)
  pub record DoPairsMeet (beta : E) : Type 0 where
    pub alpha : E
    pub first : Message F
    pub second : Message F
    pub first_in : Contains (nets f eq ms) first
    pub second_in : Contains (nets f eq ms) second
    pub differ : ArePaired first second → ⊥
    pub meets : message_denominator e embed (bus_base e alpha beta width) beta first ≡ message_denominator e embed (bus_base e alpha beta width) beta second
