-- The numbers of a table's statement tell the statement.
use Rattle.std.specs.Prelude.{◌==◌, if◌then◌else◌}
use Rattle.std.proofs.Common.{◌≡◌, Bool, true, false, ℕ, zero, suc, ◌≤◌, List, [], ◌∷◌, length, All, refl, arith}
use Rattle.p3_field.specs.declared.baby_bear.BabyBear.{BabyBear}
use Rattle.tool_lines.specs.Texts.{Between, Grammar, ItemsWithin, Unlimited, element_numbers, items_numbers, one_number}
use Rattle.tool_lines.specs.Laws.Grammars.{PairWithin, ThenWithin, SameTexts, element-grammar, items-grammar, number-grammar, pair-grammar, pair_numbers, same-grammar, then-grammar}
use Rattle.tool_statement.specs.StatedTables.{TableWithin}
use Rattle.tool_statement.specs.declared.table.TableStatement.{TableStatement}
use Rattle.tool_statement.specs.declared.table.TableStatement.TheVariants.{Swap, Wheel, Take, Give, Hash}
use Rattle.tool_proof_files.specs.Files.{least_log_rows, most_log_rows, public_count, table_statement, statement_numbers}

-- a table is seen as its kind, the logarithm of its rows, and its public values
abbrev pub RowsWithin : ℕ → ℕ → Type 0
RowsWithin kind = Between (least_log_rows kind) (most_log_rows kind)

abbrev pub PublicValuesWithin : ℕ → List BabyBear → Type 0
PublicValuesWithin kind = ItemsWithin (public_count kind) Unlimited

abbrev pub RestWithin : ℕ → ℕ × List BabyBear → Type 0
RestWithin kind = ThenWithin (RowsWithin kind) (PublicValuesWithin kind)

abbrev pub rest_numbers : ℕ × List BabyBear → List ℕ
rest_numbers = pair_numbers one_number (items_numbers element_numbers)

abbrev pub SeenWithin : ℕ × (ℕ × List BabyBear) → Type 0
SeenWithin = PairWithin (Between 1 5) RestWithin

abbrev pub seen_numbers : ℕ × (ℕ × List BabyBear) → List ℕ
seen_numbers = pair_numbers one_number rest_numbers

pub no_values : (P : BabyBear → Type 0) → All P []
no_values P k d h = absurd (omega (arith, h))

abbrev pub to : ℕ × (ℕ × List BabyBear) → TableStatement
to p = table_statement p.0 p.1.0 p.1.1

pub fits : (kind k : ℕ) (xs : List BabyBear) → SeenWithin (kind, (k, xs)) → TableWithin (table_statement kind k xs)
fits zero k xs h = absurd (let l = h.0.0 in omega (arith, l))
fits (suc zero) k xs h = h.1.0.1
fits (suc (suc zero)) k xs h = h.1.0
fits (suc (suc (suc zero))) k xs h = h.1.0.1
fits (suc (suc (suc (suc zero)))) k xs h = h.1.0.1
fits (suc (suc (suc (suc (suc zero))))) k xs h = h.1.0.1
fits (suc (suc (suc (suc (suc (suc n)))))) k xs h = absurd (let l = h.0.1 in omega (arith, l))

pub three : (k : ℕ) (xs : List BabyBear) → length xs ≡ 3 → statement_numbers (table_statement 1 k xs) ≡ 1 ∷ k ∷ items_numbers element_numbers xs
three k [] e = absurd (omega (arith, e))
three k (x ∷ []) e = absurd (omega (arith, e))
three k (x ∷ y ∷ []) e = absurd (omega (arith, e))
three k (x ∷ y ∷ z ∷ []) e = refl
three k (x ∷ y ∷ z ∷ w ∷ ws) e = absurd (omega (arith, e))

pub none : (kind k : ℕ) (xs : List BabyBear) → length xs ≡ 0 → kind ∷ k ∷ [] ≡ kind ∷ k ∷ items_numbers element_numbers xs
none kind k [] e = refl
none kind k (x ∷ xs) e = absurd (omega (arith, e))

pub words : (kind k : ℕ) (xs : List BabyBear) → SeenWithin (kind, (k, xs)) → statement_numbers (table_statement kind k xs) ≡ seen_numbers (kind, (k, xs))
words zero k xs h = absurd (let l = h.0.0 in omega (arith, l))
words (suc zero) k xs h = three k xs h.1.1.0
words (suc (suc zero)) k xs h = none 2 k xs h.1.1.0
words (suc (suc (suc zero))) k xs h = none 3 k xs h.1.1.0
words (suc (suc (suc (suc zero)))) k xs h = none 4 k xs h.1.1.0
words (suc (suc (suc (suc (suc zero))))) k xs h = none 5 k xs h.1.1.0
words (suc (suc (suc (suc (suc (suc n)))))) k xs h = absurd (let l = h.0.1 in omega (arith, l))

pub whole : (t : TableStatement) → TableWithin t → (p : ℕ × (ℕ × List BabyBear)) × SeenWithin p × (to p ≡ t)
whole (Swap k a b x) h = ((1, (k, a ∷ b ∷ x ∷ [])), ((omega arith, omega arith), ((omega arith, h), (refl, λ i d l. tt))), refl)
whole (Wheel k) h = ((2, (k, [])), ((omega arith, omega arith), (h, (refl, no_values Unlimited))), refl)
whole (Take k) h = ((3, (k, [])), ((omega arith, omega arith), ((omega arith, h), (refl, no_values Unlimited))), refl)
whole (Give k) h = ((4, (k, [])), ((omega arith, omega arith), ((omega arith, h), (refl, no_values Unlimited))), refl)
whole (Hash k) h = ((5, (k, [])), ((omega arith, omega arith), ((omega arith, h), (refl, no_values Unlimited))), refl)

unfoldable pub same-table : SameTexts SeenWithin seen_numbers TableWithin statement_numbers
same-table = record {
  to = to;
  to_fits = λ p h. fits p.0 p.1.0 p.1.1 h;
  to_numbers = λ p h. words p.0 p.1.0 p.1.1 h;
  whole = whole;
}

-- the least logarithm of a kind isn't above the greatest, which is a number of 32 bits
least_of : (b : Bool) → (if b then 1 else 0) ≤ 1
least_of true = omega arith
least_of false = omega arith

most_of : (b : Bool) → let n : ℕ = if b then 3 else 10 in (3 ≤ n) × (n ≤ 10)
most_of true = (omega arith, omega arith)
most_of false = (omega arith, omega arith)

pub ordered_rows : (kind : ℕ) → least_log_rows kind ≤ most_log_rows kind
ordered_rows kind =
    let low = least_of (kind == 2) in
    let high = (most_of (kind == 5)).0 in
    omega (arith, low, high)

pub few_rows : (kind : ℕ) → most_log_rows kind ≤ 10
few_rows kind = (most_of (kind == 5)).1

pub kind-grammar : Grammar (Between 1 5) one_number
kind-grammar = number-grammar 1 5 (omega arith) (omega arith)

pub rows-grammar : (kind : ℕ) → Grammar (RowsWithin kind) one_number
rows-grammar kind = let few = few_rows kind in number-grammar (least_log_rows kind) (most_log_rows kind) (ordered_rows kind) (omega (arith, few))

pub values-grammar : (kind : ℕ) → Grammar (PublicValuesWithin kind) (items_numbers element_numbers)
values-grammar kind = items-grammar (public_count kind) element-grammar

pub rest-grammar : (kind : ℕ) → Grammar (RestWithin kind) rest_numbers
rest-grammar kind = then-grammar (rows-grammar kind) (values-grammar kind)

pub table-grammar : Grammar TableWithin statement_numbers
table-grammar = same-grammar same-table (pair-grammar RestWithin kind-grammar (λ kind h. rest-grammar kind))
