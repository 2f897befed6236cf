-- The words of a table after its kind tell the table, kind by kind.
use Rattle.std.proofs.Common.{◌≡◌, ℕ, zero, suc, ◌≤◌, List, [], ◌∷◌, refl, arith}
use Rattle.p3_field.specs.declared.baby_bear.BabyBear.{BabyBear}
use Rattle.tool_lines.specs.Counts.{PowersWithin}
use Rattle.tool_lines.specs.Texts.{Between, Grammar, ItemsWithin, Unlimited, element_numbers, items_numbers, list_numbers, one_number}
use Rattle.tool_lines.specs.Laws.Counts.{powers-grammar}
use Rattle.tool_lines.specs.Laws.Grammars.{SameTexts, ThenWithin, TwoWithin, element-grammar, items-grammar, number-grammar, numbers-own, pair_numbers, same-grammar, then-grammar, two-grammar, two_numbers, word-grammar}
use Rattle.law_tool_valid.specs.Job.{IsHashRow, IsJobTableWithin, JobTable, swap_of, wheel_of, take_of, give_of, hash_of}
use Rattle.tool_jobs.specs.Jobs.{given_numbers, row_numbers}

-- a table's kind, and its words after it
abbrev pub kind_of : JobTable BabyBear → ℕ
kind_of (swap_of k a b) = 1
kind_of (wheel_of k) = 2
kind_of (take_of words) = 3
kind_of (give_of pairs) = 4
kind_of (hash_of rows) = 5

abbrev pub body_numbers : JobTable BabyBear → List ℕ
body_numbers (swap_of k a b) = k ∷ a.value ∷ b.value ∷ []
body_numbers (wheel_of k) = k ∷ []
body_numbers (take_of words) = list_numbers element_numbers words
body_numbers (give_of pairs) = list_numbers given_numbers pairs
body_numbers (hash_of rows) = list_numbers row_numbers rows

-- a table of this kind, within its limits
abbrev pub KindWithin : ℕ → JobTable BabyBear → Type 0
KindWithin kind t = (kind_of t ≡ kind) × IsJobTableWithin t

-- a swap table is seen as the logarithm of its rows and its first row
abbrev pub SwapWithin : ℕ × (BabyBear × BabyBear) → Type 0
SwapWithin = ThenWithin (Between 0 10) TwoWithin

abbrev pub swap_numbers : ℕ × (BabyBear × BabyBear) → List ℕ
swap_numbers = pair_numbers one_number two_numbers

unfoldable pub same-swap : SameTexts SwapWithin swap_numbers (KindWithin 1) body_numbers
same-swap = record { to = to; to_fits = λ p h. (refl, h.0.1); to_numbers = λ p h. refl; whole = whole }
  where
    to : ℕ × (BabyBear × BabyBear) → JobTable BabyBear
    to p = swap_of p.0 p.1.0 p.1.1

    whole : (t : JobTable BabyBear) → KindWithin 1 t → (p : ℕ × (BabyBear × BabyBear)) × SwapWithin p × (swap_of p.0 p.1.0 p.1.1 ≡ t)
    whole (swap_of k a b) h = ((k, (a, b)), ((omega arith, h.1), (tt, tt)), refl)
    whole (wheel_of k) h = absurd (let e = h.0 in omega (arith, e))
    whole (take_of words) h = absurd (let e = h.0 in omega (arith, e))
    whole (give_of pairs) h = absurd (let e = h.0 in omega (arith, e))
    whole (hash_of rows) h = absurd (let e = h.0 in omega (arith, e))

pub log_rows-grammar : Grammar (Between 0 10) one_number
log_rows-grammar = number-grammar 0 10 (omega arith) (omega arith)

pub swap-grammar : Grammar (KindWithin 1) body_numbers
swap-grammar = same-grammar same-swap (then-grammar log_rows-grammar two-grammar)

-- a wheel is seen as the logarithm of its rows
unfoldable pub same-wheel : SameTexts (Between 1 10) one_number (KindWithin 2) body_numbers
same-wheel = record { to = wheel_of; to_fits = λ k h. (refl, h); to_numbers = λ k h. refl; whole = whole }
  where
    whole : (t : JobTable BabyBear) → KindWithin 2 t → (k : ℕ) × Between 1 10 k × (wheel_of k ≡ t)
    whole (swap_of k a b) h = absurd (let e = h.0 in omega (arith, e))
    whole (wheel_of k) h = (k, h.1, refl)
    whole (take_of words) h = absurd (let e = h.0 in omega (arith, e))
    whole (give_of pairs) h = absurd (let e = h.0 in omega (arith, e))
    whole (hash_of rows) h = absurd (let e = h.0 in omega (arith, e))

pub wheel-grammar : Grammar (KindWithin 2) body_numbers
wheel-grammar = same-grammar same-wheel (number-grammar 1 10 (omega arith) (omega arith))

-- a table that takes words is seen as these
unfoldable pub same-take : SameTexts (PowersWithin 1024 Unlimited) (list_numbers element_numbers) (KindWithin 3) body_numbers
same-take = record { to = take_of; to_fits = λ words h. (refl, h.0); to_numbers = λ words h. refl; whole = whole }
  where
    whole : (t : JobTable BabyBear) → KindWithin 3 t → (words : List BabyBear) × PowersWithin 1024 Unlimited words × (take_of words ≡ t)
    whole (swap_of k a b) h = absurd (let e = h.0 in omega (arith, e))
    whole (wheel_of k) h = absurd (let e = h.0 in omega (arith, e))
    whole (take_of words) h = (words, (h.1, λ i d l. tt), refl)
    whole (give_of pairs) h = absurd (let e = h.0 in omega (arith, e))
    whole (hash_of rows) h = absurd (let e = h.0 in omega (arith, e))

pub take-grammar : Grammar (KindWithin 3) body_numbers
take-grammar = same-grammar same-take (powers-grammar 1024 (omega arith) (omega arith) element-grammar)

-- a word, and how often it is given
abbrev pub GivenWithin : BabyBear × ℕ → Type 0
GivenWithin p = p.1 ≤ 1024

unfoldable pub same-given : SameTexts (ThenWithin Unlimited (Between 0 1024)) (pair_numbers element_numbers one_number) GivenWithin given_numbers
same-given = record { to = λ p. p; to_fits = λ p h. h.1.1; to_numbers = λ p h. refl; whole = λ p h. (p, (tt, (omega arith, h)), refl) }

pub times-grammar : Grammar (Between 0 1024) one_number
times-grammar = number-grammar 0 1024 (omega arith) (omega arith)

pub given-grammar : Grammar GivenWithin given_numbers
given-grammar = same-grammar same-given (then-grammar element-grammar times-grammar)

-- a table that gives words is seen as these with their counts
unfoldable pub same-give : SameTexts (PowersWithin 1024 GivenWithin) (list_numbers given_numbers) (KindWithin 4) body_numbers
same-give = record { to = give_of; to_fits = λ pairs h. (refl, (h.0.0, h.0.1, h.1)); to_numbers = λ pairs h. refl; whole = whole }
  where
    whole : (t : JobTable BabyBear) → KindWithin 4 t → (pairs : List (BabyBear × ℕ)) × PowersWithin 1024 GivenWithin pairs × (give_of pairs ≡ t)
    whole (swap_of k a b) h = absurd (let e = h.0 in omega (arith, e))
    whole (wheel_of k) h = absurd (let e = h.0 in omega (arith, e))
    whole (take_of words) h = absurd (let e = h.0 in omega (arith, e))
    whole (give_of pairs) h = (pairs, ((h.1.0, h.1.1), h.1.2), refl)
    whole (hash_of rows) h = absurd (let e = h.0 in omega (arith, e))

pub give-grammar : Grammar (KindWithin 4) body_numbers
give-grammar = same-grammar same-give (powers-grammar 1024 (omega arith) (omega arith) given-grammar)

-- a row of compressions is seen as 24 numbers of 32 bits
abbrev pub WordsWithin : List ℕ → Type 0
WordsWithin = ItemsWithin 24 (Between 0 4294967295)

unfoldable pub same-row : SameTexts WordsWithin (items_numbers one_number) IsHashRow row_numbers
same-row = record {
  to = λ row. row;
  to_fits = λ row h. (h.0, λ i d l. let w = (h.1 i d l).1 in omega (arith, w));
  to_numbers = λ row h. numbers-own row;
  whole = λ row h. (row, (h.0, λ i d l. let w = h.1 i d l in (omega arith, omega (arith, w))), refl);
}

pub row-grammar : Grammar IsHashRow row_numbers
row-grammar = same-grammar same-row (items-grammar 24 word-grammar)

-- a table of compressions is seen as its rows
unfoldable pub same-hash : SameTexts (PowersWithin 8 IsHashRow) (list_numbers row_numbers) (KindWithin 5) body_numbers
same-hash = record { to = hash_of; to_fits = λ rows h. (refl, (h.0.0, h.0.1, h.1)); to_numbers = λ rows h. refl; whole = whole }
  where
    whole : (t : JobTable BabyBear) → KindWithin 5 t → (rows : List (List ℕ)) × PowersWithin 8 IsHashRow rows × (hash_of rows ≡ t)
    whole (swap_of k a b) h = absurd (let e = h.0 in omega (arith, e))
    whole (wheel_of k) h = absurd (let e = h.0 in omega (arith, e))
    whole (take_of words) h = absurd (let e = h.0 in omega (arith, e))
    whole (give_of pairs) h = absurd (let e = h.0 in omega (arith, e))
    whole (hash_of rows) h = (rows, ((h.1.0, h.1.1), h.1.2), refl)

pub hash-grammar : Grammar (KindWithin 5) body_numbers
hash-grammar = same-grammar same-hash (powers-grammar 8 (omega arith) (omega arith) row-grammar)

-- the same of each kind
pub kind-grammar : (kind : ℕ) → Between 1 5 kind → Grammar (KindWithin kind) body_numbers
kind-grammar zero h = absurd (let l = h.0 in omega (arith, l))
kind-grammar (suc zero) h = swap-grammar
kind-grammar (suc (suc zero)) h = wheel-grammar
kind-grammar (suc (suc (suc zero))) h = take-grammar
kind-grammar (suc (suc (suc (suc zero)))) h = give-grammar
kind-grammar (suc (suc (suc (suc (suc zero))))) h = hash-grammar
kind-grammar (suc (suc (suc (suc (suc (suc n)))))) h = absurd (let l = h.1 in omega (arith, l))
