-- Either one event comes, or there is an honest proof but for the proof of its openings.
use Rattle.std.proofs.Common.{◌≡◌, ◌⊎◌, ℕ, zero, suc, ◌^◌, ◌<◌, inl, inr, Bool, true, false, List, [], ◌∷◌, length, get_or, All, Option, None, Some, refl, sym, ◌∙◌, subst, arith}
use Rattle.std.proofs.lemmas.Bool.{cases_lt, false≢true}
use Rattle.std.proofs.lemmas.List.Elements.{All-cons, All-nil}
use Rattle.p3_field.specs.Ring.{Ring, of_nat}
use Rattle.p3_lookup.specs.Generated.{IsFirstZero, IsFirstZeroIn, IsFirstZeroOf}
use Rattle.p3_lookup.specs.Honest.{Argument, RowHasInverses, row_terms}
use Rattle.p3_lookup.specs.Term.{HasInverses, Term}
use Rattle.p3_challenger.specs.Grind.{IsLeast}
use Rattle.p3_challenger.specs.Script.{ChallengerOf}
use Rattle.p3_matrix.specs.Matrix.{Rows}
use Rattle.batch_transcript.specs.Grinding.{IsGround, IsPairGround, LacksPairGround, NonePasses, number_passes}
use Rattle.batch_config.specs.Setting.{Setting}
use Rattle.batch_statement.specs.Statement.{Statement}
use Rattle.law_valid.specs.Traced.{log_rows, traced_at}
use Rattle.law_honest.specs.HonestProof.{AreLogHeights, CanBeBuilt, FractionsAt, HasZeroDenominator, HaveFractions, IsBuilt, IsDenominatorZero, IsLookupGround, IsOodGround, LacksLookupGround, LacksOodGround, Prover, AreCanonical, argument_at, honest_proof, shape, state_at_ood, state_at_pair}
use Rattle.law_honest.specs.Laws.Ground.{denominator_event, lookup_event, one_lookup}

-- the first of n places where the one doesn't hold but the other
record IsFirstOf (P Q : ℕ → Type 0) (n : ℕ) : Type 0 where
  place : ℕ
  within : place < n
  before : (j : ℕ) → j < place → P j
  there : Q place

first_or_all : (P Q : ℕ → Type 0) → ((i : ℕ) → P i ⊎ Q i) → (n : ℕ) → ((i : ℕ) → i < n → P i) ⊎ IsFirstOf P Q n
first_or_all P Q decide zero = inl (λ i h. absurd (omega (arith, h)))
first_or_all P Q decide (suc n) = elim (first_or_all P Q decide n) [
  | inr f ↦ inr (record { place = f.place; within = (let w = f.within in omega (arith, w)); before = f.before; there = f.there })
  | inl all ↦ elim (decide n) [
    | inr q ↦ inr (record { place = n; within = omega arith; before = all; there = q })
    | inl p ↦ inl (λ i h. elim (cases_lt i n) [
      | inl less ↦ all i less
      | inr more ↦ let same : n ≡ i = omega (arith, more, h) in subst P same p
    ])
  ]
]

-- the least number below a bound that passes a test, or none does
passes_or_not : (test : ℕ → Bool) (i : ℕ) → (test i ≡ false) ⊎ (test i ≡ true)
passes_or_not test i = by (test i)
  where
    by : (b : Bool) → (b ≡ false) ⊎ (b ≡ true)
    by false = inl refl
    by true = inr refl

record HasLeast (test : ℕ → Bool) (n : ℕ) : Type 0 where
  number : ℕ
  below : number < n
  least : IsLeast (λ k. test k ≡ true) number

least_or_none : (test : ℕ → Bool) (n : ℕ) → ((k : ℕ) → k < n → test k ≡ false) ⊎ HasLeast test n
least_or_none test n = elim (first_or_all (λ k. test k ≡ false) (λ k. test k ≡ true) (passes_or_not test) n) [
  | inl none ↦ inl none
  | inr f ↦ inr (record { number = f.place; below = f.within; least = record { meets = f.there; none_below = λ m h passes. false≢true (sym (f.before m h) ∙ passes) } })
]

module _ {S F E M : Type 0} (c : ChallengerOf S F E M) (f : Ring F) (order : ℕ) (canonical : F → ℕ) (own : (n : ℕ) → n < order → canonical (of_nat f n) ≡ n) where
  -- a value is ground, or no number below the order passes
  ground_or_none : (s : S) (bits : ℕ) → NonePasses c f order s bits ⊎ ((w : F) × IsGround c f canonical s bits w)
  ground_or_none s bits = elim (least_or_none (number_passes c f s bits) order) [
    | inl none ↦ inl none
    | inr l ↦ inr (of_nat f l.number, subst (IsLeast (λ n. number_passes c f s bits n ≡ true)) (sym (own l.number l.below)) l.least)
  ]

  pair_or_none : (s : S) (n bits : ℕ) → LacksPairGround c f order s n bits ⊎ ((w : Option F) × IsPairGround c f canonical s n bits w)
  pair_or_none s zero bits = inr (None, tt)
  pair_or_none s (suc n) bits = elim (ground_or_none s bits) [
    | inl none ↦ inl none
    | inr g ↦ inr (Some g.0, g.1)
  ]

module _ {E : Type 0} (r : Ring E) (decide : (x y : E) → (x ≡ y) ⊎ (x ≡ y → ⊥)) where
  -- the first denominator that is zero, or none is
  later_zero : (t : Term E) (ts : List (Term E)) (j : ℕ) → (t.denominator ≡ r.zero → ⊥) → IsFirstZero r ts j → IsFirstZero r (t ∷ ts) (suc j)
  later_zero t ts j nonzero F = record { within = (let w = F.within in omega (arith, w)); zero = F.zero; before = before }
    where
      before : (k : ℕ) (d : Term E) → k < suc j → (get_or (t ∷ ts) k d).denominator ≡ r.zero → ⊥
      before zero d h z = nonzero z
      before (suc k) d h z = F.before k d (omega (arith, h)) z

  term_zero : (ts : List (Term E)) → HasInverses r ts ⊎ ((j : ℕ) × IsFirstZero r ts j)
  term_zero [] = inl (All-nil (λ t. t.denominator ≡ r.zero → ⊥))
  term_zero (t ∷ ts) = elim (decide t.denominator r.zero) [
    | inl z ↦ inr (zero, record { within = omega arith; zero = λ d. z; before = λ k d h. absurd (omega (arith, h)) })
    | inr nonzero ↦ elim (term_zero ts) [
      | inl all ↦ inl (All-cons (λ t. t.denominator ≡ r.zero → ⊥) t ts nonzero all)
      | inr q ↦ inr (suc q.0, later_zero t ts q.0 nonzero q.1)
    ]
  ]

  later_in : (ts : List (Term E)) (tss : List (List (Term E))) (lookup tuple : ℕ) → HasInverses r ts → IsFirstZeroIn r tss lookup tuple → IsFirstZeroIn r (ts ∷ tss) (suc lookup) tuple
  later_in ts tss lookup tuple all F = record { within = (let w = F.within in omega (arith, w)); first = F.first; before = before }
    where
      before : (k : ℕ) → k < suc lookup → HasInverses r (get_or (ts ∷ tss) k [])
      before zero h = all
      before (suc k) h = F.before k (omega (arith, h))

  row_zero : (tss : List (List (Term E))) → All (HasInverses r) tss ⊎ ((lookup : ℕ) × (tuple : ℕ) × IsFirstZeroIn r tss lookup tuple)
  row_zero [] = inl (All-nil (HasInverses r))
  row_zero (ts ∷ tss) = elim (term_zero ts) [
    | inr q ↦ inr (zero, q.0, record { within = omega arith; first = q.1; before = λ k h. absurd (omega (arith, h)) })
    | inl all ↦ elim (row_zero tss) [
      | inl more ↦ inl (All-cons (HasInverses r) ts tss all more)
      | inr q ↦ inr (suc q.0, q.1, later_in ts tss q.0 q.1 all q.2)
    ]
  ]

-- the first zero denominator of a table of n rows
record HasFirstZero {F E : Type 0} (a : Argument F E) (n : ℕ) : Type 0 where
  row : ℕ
  lookup : ℕ
  tuple : ℕ
  first : IsFirstZeroOf a n row lookup tuple

table_zero : {F E : Type 0} (a : Argument F E) (decide : (x y : E) → (x ≡ y) ⊎ (x ≡ y → ⊥)) (n : ℕ) → ((row : ℕ) → row < n → RowHasInverses a row) ⊎ HasFirstZero a n
table_zero a decide n = elim (first_or_all (RowHasInverses a) (λ row. (lookup : ℕ) × (tuple : ℕ) × IsFirstZeroIn a.ring (row_terms a row) lookup tuple) (λ row. row_zero a.ring decide (row_terms a row)) n) [
  | inl all ↦ inl all
  | inr f ↦ inr (record { row = f.place; lookup = f.there.0; tuple = f.there.1; first = record { within = f.within; first = f.there.2; before = f.before } })
]

module _ {S F E C : Type 0} (P : Type 0) (c : Setting S F E C) (p : Prover F E C) (s : Statement F C) (traces : List (Rows F)) (degree_bits : List ℕ)
    (own : (n : ℕ) → n < c.order → p.canonical (of_nat c.field.ring n) ≡ n) (decide : (x y : E) → (x ≡ y) ⊎ (x ≡ y → ⊥)) (heights : AreLogHeights c p s traces degree_bits) where
  built : (w : Option F) (z : F) → IsLookupGround c p s traces degree_bits w → HaveFractions c p s traces degree_bits w → IsOodGround c p s traces degree_bits w z → (opening : P)
      → IsBuilt c p s traces degree_bits (honest_proof c p s traces degree_bits w z opening)
  unfolding honest_proof
  built w z lookup fractions ood opening = record { heights = heights; lookup_ground = lookup; has_fractions = fractions; ood_ground = ood; proof_is = refl }

  last_part : (w : Option F) → IsLookupGround c p s traces degree_bits w → HaveFractions c p s traces degree_bits w → LacksOodGround c p s traces degree_bits ⊎ CanBeBuilt c p s traces degree_bits P
  last_part w lookup fractions = elim (ground_or_none c.challenger c.field.ring c.order p.canonical own (state_at_ood c p s traces degree_bits w) c.ood_bits) [
    | inl none ↦ inl (record { witness = w; is_ground = lookup; has_fractions = fractions; none = none })
    | inr g ↦ inr (w, g.0, built w g.0 lookup fractions g.1)
  ]

  middle_part : (w : Option F) → IsLookupGround c p s traces degree_bits w → HasZeroDenominator c p s traces degree_bits ⊎ (LacksOodGround c p s traces degree_bits ⊎ CanBeBuilt c p s traces degree_bits P)
  middle_part w lookup = elim (first_or_all (FractionsAt c p s traces degree_bits w) (λ i. HasFirstZero (argument_at c p s traces degree_bits w i) (2 ^ log_rows c (traced_at s traces degree_bits i)))
      (λ i. table_zero (argument_at c p s traces degree_bits w i) decide (2 ^ log_rows c (traced_at s traces degree_bits i))) (length s.tables)) [
        | inl all ↦ inr (last_part w lookup all)
        | inr f ↦ inl (f.place, f.there.row, record { witness = w; is_ground = lookup; within = f.within; before = f.before; lookup = f.there.lookup; tuple = f.there.tuple; first = f.there.first })
      ]

  -- an event comes, or there are grinding values with which a proof is built, whatever proves its openings
  pub outcome : LacksLookupGround c p s traces degree_bits ⊎ (HasZeroDenominator c p s traces degree_bits ⊎ (LacksOodGround c p s traces degree_bits ⊎ CanBeBuilt c p s traces degree_bits P))
  outcome = elim (pair_or_none c.challenger c.field.ring c.order p.canonical own (state_at_pair c p s traces degree_bits) (shape c p s traces degree_bits).num_lookup_instances c.lookup_bits) [
    | inl lacks ↦ inl lacks
    | inr g ↦ inr (middle_part g.0 g.1)
  ]

-- one event comes at most, at one place
module _ {S F E C : Type 0} (c : Setting S F E C) (p : Prover F E C) (s : Statement F C) (traces : List (Rows F)) (degree_bits : List ℕ) (K : AreCanonical c.field.ring c.order p.canonical) where
  -- the row of a zero denominator hasn't all its fractions
  zero_there : (i row : ℕ) (Z : IsDenominatorZero c p s traces degree_bits i row) → RowHasInverses (argument_at c p s traces degree_bits Z.witness i) row → ⊥
  zero_there i row Z here =
      let none : Term E = record { count = c.extension.ring.zero; denominator = c.extension.ring.zero } in
      here Z.lookup [] Z.first.first.within Z.tuple none Z.first.first.first.within (Z.first.first.first.zero none)

  -- so no other table and row before it is one
  not_before : (i row j other : ℕ) → IsDenominatorZero c p s traces degree_bits i row → IsDenominatorZero c p s traces degree_bits j other → i < j → ⊥
  not_before i row j other Z Y less =
      let e = one_lookup c p s traces degree_bits K Y.witness Z.witness Y.is_ground Z.is_ground in
      zero_there i row Z (subst (λ w. FractionsAt c p s traces degree_bits w i) e (Y.before i less) row Z.first.within)

  row_not_before : (i row j other : ℕ) → IsDenominatorZero c p s traces degree_bits i row → IsDenominatorZero c p s traces degree_bits j other → j ≡ i → row < other → ⊥
  row_not_before i row j other Z Y same less =
      let e = one_lookup c p s traces degree_bits K Y.witness Z.witness Y.is_ground Z.is_ground in
      zero_there i row Z
      (subst (λ w. RowHasInverses (argument_at c p s traces degree_bits w i) row) e (subst (λ k. RowHasInverses (argument_at c p s traces degree_bits Y.witness k) row) same (Y.first.before row less)))

  pub one_place : (i row j other : ℕ) → IsDenominatorZero c p s traces degree_bits i row → IsDenominatorZero c p s traces degree_bits j other → (i ≡ j) × (row ≡ other)
  one_place i row j other Z Y =
      let table : i ≡ j = elim (cases_lt i j) [
        | inl less ↦ absurd (not_before i row j other Z Y less)
        | inr more ↦ elim (cases_lt j i) [
          | inl less ↦ absurd (not_before j other i row Y Z less)
          | inr same ↦ omega (arith, more, same)
        ]
      ] in (
        table,
        elim (cases_lt row other) [
          | inl less ↦ absurd (row_not_before i row j other Z Y (sym table) less)
          | inr more ↦ elim (cases_lt other row) [
            | inl less ↦ absurd (row_not_before j other i row Y Z table less)
            | inr same ↦ omega (arith, more, same)
          ]
        ],
      )

  pub lookup_alone : LacksLookupGround c p s traces degree_bits → (HasZeroDenominator c p s traces degree_bits ⊎ LacksOodGround c p s traces degree_bits) → ⊥
  lookup_alone lacks other = elim other [
    | inl z ↦ lookup_event c p s traces degree_bits K z.2.witness lacks z.2.is_ground
    | inr o ↦ lookup_event c p s traces degree_bits K o.witness lacks o.is_ground
  ]

  pub zero_alone : HasZeroDenominator c p s traces degree_bits → LacksOodGround c p s traces degree_bits → ⊥
  zero_alone z o = denominator_event c p s traces degree_bits K z.0 z.1 o.witness z.2 o.is_ground o.has_fractions
