-- How long texts are, at most: a line of at most 21 bytes for each number, and so many numbers for a list of items.
use Rattle.std.proofs.Common.{ℕ, ◌+◌, ◌*◌, ◌^◌, ◌<◌, ◌≤◌, List, [], ◌∷◌, length, arith, length-append}
use Rattle.std.specs.Prelude.{All, decimal, flat_map}
use Rattle.std.proofs.Math.Nat.{mul-le-mul_right}
use Rattle.std.proofs.lemmas.Fmt.{length-decimal-le}
use Rattle.std.proofs.lemmas.List.Elements.{All-head, All-tail}
use Rattle.tool_lines.specs.Texts.{Small, items_numbers, line_text, list_numbers}

-- numbers of at most 64 bits have at most 20 digits
pub text_short : (ns : List ℕ) → Small ns → length (line_text ns) ≤ 21 * length ns
text_short [] h = omega arith
text_short (n ∷ ns) h =
    let small = All-head (λ m. m < 2 ^ 64) n ns h in
    let digits = length-decimal-le 20 n (omega arith) (omega (arith, small)) small in
    let rest = text_short ns (All-tail (λ m. m < 2 ^ 64) n ns h) in
    omega (arith, digits, rest, length-append (decimal n) (10 ∷ line_text ns))

-- of items that have at most so many numbers:
module _ {A : Type 0} (words : A → List ℕ) (most : ℕ) where
  abbrev HasFew : A → Type 0
  HasFew x = length (words x) ≤ most

  pub items_few : (xs : List A) → All (λ x. length (words x) ≤ most) xs → length (items_numbers words xs) ≤ length xs * most
  items_few [] h = omega arith
  items_few (x ∷ xs) h =
      let first = All-head HasFew x xs h in
      let rest = items_few xs (All-tail HasFew x xs h) in
      omega (arith, first, rest, length-append (words x) (flat_map words xs))

  -- a list of at most so many
  pub list_few : (count : ℕ) (xs : List A) → length xs ≤ count → All (λ x. length (words x) ≤ most) xs → length (list_numbers words xs) ≤ count * most + 1
  list_few count xs few h = let items = items_few xs h in omega (arith, items, mul-le-mul_right most few)
