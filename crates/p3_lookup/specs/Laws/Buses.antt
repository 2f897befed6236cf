-- Two different lookups have one bus exactly where both name it.
use Rattle.std.proofs.Common.{◌≡◌, ◌≢◌, ℕ, zero, suc, ◌+◌, ◌<◌, ◌≤◌, inl, inr, true, false, cond, not, List, length, get_or, refl, sym, ◌∙◌, ap, subst, arith, add-one}
use Rattle.std.specs.Prelude.{◌==◌}
use Rattle.std.specs.List.{position_or_len}
use Rattle.std.specs.Cmp.Lexicographic.{bytes_decides}
use Rattle.std.proofs.lemmas.Bool.{cases_lt}
use Rattle.std.proofs.lemmas.List.Sums.{fails_before_first, passes_at_first}
use Rattle.std.proofs.lemmas.Bool.Decides.{eqb_tells}
use Rattle.air_core.specs.Tree.{Bus, local, global}
use Rattle.p3_lookup.specs.Bus.{is_named, opener_of, opener, opened_below, bus_number, bus_count, NameOneBus, SharesByName}

pub same_opens : (n : ℕ) → (n == n) ≡ true
same_opens n = elim (eqb_tells n n) [ inl p ↦ p.0 | inr p ↦ absurd (p.1 refl) ]

-- the count never falls, and rises after each lookup that opens a bus
more_opened : (bs : List Bus) (n : ℕ) → opened_below bs n ≤ opened_below bs (suc n)
unfolding opened_below
more_opened bs n = omega arith

pub opened_later : (bs : List Bus) (m n : ℕ) → m ≤ n → opened_below bs m ≤ opened_below bs n
opened_later bs m zero h = let e : m ≡ 0 = omega arith in let P : ℕ → Type 0 = λ k. opened_below bs k ≤ opened_below bs 0 in subst P (sym e) (omega arith)
opened_later bs m (suc n) h = elim (cases_lt m (suc n)) [
  | inl less ↦ omega (arith, opened_later bs m n (omega (arith, less)), more_opened bs n)
  | inr not ↦ let e : m ≡ suc n = omega (arith, h, not) in let P : ℕ → Type 0 = λ k. opened_below bs k ≤ opened_below bs (suc n) in subst P (sym e) (omega arith)
]

opens_next : (bs : List Bus) (n : ℕ) → opener bs n ≡ n → opened_below bs (suc n) ≡ opened_below bs n + 1
unfolding opened_below
opens_next bs n e =
    let b : (opener bs n == n) ≡ true = ap (λ k. k == n) e ∙ same_opens n in
    ap (λ c. opened_below bs n + cond c 1 0) b

opens_no_more : (bs : List Bus) (n : ℕ) → (opener bs n == n) ≡ false → opened_below bs (suc n) ≡ opened_below bs n
unfolding opened_below
opens_no_more bs n e = ap (λ c. opened_below bs n + cond c 1 0) e ∙ nothing (opened_below bs n)
  where
    nothing : (k : ℕ) → k + 0 ≡ k
    nothing k = omega arith

-- one bus more after a lookup that opens one, and as many after another
pub opens_one : (bs : List Bus) (n : ℕ) → opener bs n ≡ n → opened_below bs (n + 1) ≡ opened_below bs n + 1
opens_one bs n e = ap (opened_below bs) (add-one n) ∙ opens_next bs n e

pub opens_none : (bs : List Bus) (n : ℕ) → (opener bs n == n) ≡ false → opened_below bs (n + 1) ≡ opened_below bs n
opens_none bs n e = ap (opened_below bs) (add-one n) ∙ opens_no_more bs n e

-- two lookups that open buses open different ones
pub opened_apart : (bs : List Bus) (m n : ℕ) → opener bs m ≡ m → m < n → opened_below bs m < opened_below bs n
opened_apart bs m n e h = omega (arith, opens_next bs m e, opened_later bs (suc m) n (omega (arith, h)))

pub opened_once : (bs : List Bus) (m n : ℕ) → opener bs m ≡ m → opener bs n ≡ n → opened_below bs m ≡ opened_below bs n → m ≡ n
opened_once bs m n e d s = elim (cases_lt m n) [
  | inl less ↦ absurd (omega (arith, opened_apart bs m n e less, s))
  | inr ge ↦ elim (cases_lt n m) [
    | inl more ↦ absurd (omega (arith, opened_apart bs n m d more, s))
    | inr le ↦ omega (arith, ge, le)
  ]
]

named_itself : (name : List ℕ) (b : Bus) → b ≡ global name → is_named name b ≡ true
named_itself name b e = ap (is_named name) e ∙ (bytes_decides name name).1 refl

-- a bus with this name
named_only : (name : List ℕ) (b : Bus) → is_named name b ≡ true → b ≡ global name
named_only name local e = absurd (cc e)
named_only name (global other) e = ap global (sym ((bytes_decides name other).0 e))

-- the first lookup of a name that some lookup has
record IsFirst (bs : List Bus) (i : ℕ) (name : List ℕ) : Type 0 where
  within : position_or_len (is_named name) bs ≤ i
  named : get_or bs (position_or_len (is_named name) bs) local ≡ global name

first_named : (bs : List Bus) (i : ℕ) (name : List ℕ) → i < length bs → get_or bs i local ≡ global name → IsFirst bs i name
first_named bs i name h e = record { within = below; named = named_only name (get_or bs o local) (passes_at_first (is_named name) bs local inside) }
  where
    o : ℕ
    o = position_or_len (is_named name) bs

    below : o ≤ i
    below = elim (cases_lt i o) [
      | inl less ↦ absurd (cc (fails_before_first (is_named name) bs i local less, named_itself name (get_or bs i local) e))
      | inr ge ↦ ge
    ]

    inside : o < length bs
    inside = omega (arith, below, h)

-- the lookup that opens a bus opens it by itself
opens_itself : (bs : List Bus) (i : ℕ) (b : Bus) → i < length bs → get_or bs i local ≡ b → opener bs (opener_of bs i b) ≡ opener_of bs i b
opens_itself bs i local h e = ap (opener_of bs i) e
opens_itself bs i (global name) h e = ap (opener_of bs (position_or_len (is_named name) bs)) (first_named bs i name h e).named

opener_opens : (bs : List Bus) (i : ℕ) → i < length bs → opener bs (opener bs i) ≡ opener bs i
opener_opens bs i h = opens_itself bs i (get_or bs i local) h refl

opener_within : (bs : List Bus) (i : ℕ) (b : Bus) → i < length bs → get_or bs i local ≡ b → opener_of bs i b ≤ i
opener_within bs i local h e = omega arith
opener_within bs i (global name) h e = (first_named bs i name h e).within

-- the number of a lookup's bus is one of the batch
pub number_below : (bs : List Bus) (i : ℕ) → i < length bs → bus_number bs i < bus_count bs
number_below bs i h = opened_apart bs (opener bs i) (length bs) (opener_opens bs i h) (omega (arith, opener_within bs i (get_or bs i local) h refl, h))

-- what two lookups have whose buses one lookup opens
one_opener : (bs : List Bus) (i j : ℕ) (a b : Bus) → i < length bs → j < length bs → i ≢ j → get_or bs i local ≡ a → get_or bs j local ≡ b
    → opener_of bs i a ≡ opener_of bs j b → NameOneBus bs i j
one_opener bs i j local local h k n e d s = absurd (n s)
one_opener bs i j local (global name) h k n e d s =
    let P : ℕ → Type 0 = λ o. get_or bs o local ≡ global name in
    absurd (cc (subst P (sym s) (first_named bs j name k d).named, e))
one_opener bs i j (global name) local h k n e d s =
    let P : ℕ → Type 0 = λ o. get_or bs o local ≡ global name in
    absurd (cc (subst P s (first_named bs i name h e).named, d))
one_opener bs i j (global name) (global other) h k n e d s =
    let P : ℕ → Type 0 = λ o. get_or bs o local ≡ global name in
    let same : global name ≡ global other = sym (subst P s (first_named bs i name h e).named) ∙ (first_named bs j other k d).named in
    record { name = name; first = e; second = d ∙ sym same }

pub shares_by_name : (bs : List Bus) → SharesByName bs
shares_by_name bs i j h k n = (
  λ s. one_opener bs i j (get_or bs i local) (get_or bs j local) h k n refl refl (opened_once bs (opener bs i) (opener bs j) (opener_opens bs i h) (opener_opens bs j k) s),
  λ q. ap (opened_below bs) (ap (opener_of bs i) q.first ∙ ap (opener_of bs j) (sym q.second)),
)
