-- Lines of numbers: they tell the numbers, and how many there are.
use Rattle.std.proofs.Common.{◌≡◌, ℕ, suc, ◌+◌, ◌-◌, ◌^◌, ◌<◌, List, [], ◌∷◌, ◌++◌, length, take, refl, sym, ◌∙◌, ap, arith}
use Rattle.std.specs.Prelude.{decimal, count_by, ◌==◌, cond, Bool, false}
use Rattle.std.specs.Int.{IsInRange}
use Rattle.std.specs.Str.Parse.{AllDigits}
use Rattle.std.proofs.lemmas.Grind.{common_steps}
use Rattle.std.proofs.lemmas.List.{get_or_append_left, take_at}
use Rattle.std.proofs.lemmas.List.Recursion.{is_count_by}
use Rattle.std.proofs.lemmas.Fmt.{decimal_is_IsNumeral}
use Rattle.std.proofs.lemmas.Str.Parse.{digit_from_value}
use Rattle.tool_lines.specs.Texts.{line_text, Small}

pub small-front : (xs ys : List ℕ) → Small (xs ++ ys) → Small xs
small-front xs ys h k d q = rw (← get_or_append_left xs ys d k q) (h k d (grind (arith, common_steps)))

-- lines have as many ends as numbers
line_ends : List ℕ → ℕ
line_ends [] = 0
line_ends (b ∷ bs) = cond (b == 10) (1 + line_ends bs) (line_ends bs)

no-ends : (ds ys : List ℕ) → AllDigits 10 ds → line_ends (ds ++ ys) ≡ line_ends ys
unfolding line_ends
no-ends [] ys h = refl
no-ends (d ∷ ds) ys h =
    let r : IsInRange 48 57 d = digit_from_value d h.0 in
    let other : (d == 10) ≡ false = grind (arith, common_steps, r) in
    ap (λ (b : Bool). cond b (1 + line_ends (ds ++ ys)) (line_ends (ds ++ ys))) other ∙ no-ends ds ys h.1

all-ends : (ns : List ℕ) → Small ns → line_ends (line_text ns) ≡ length ns
unfolding line_ends
all-ends [] h = refl
all-ends (n ∷ ns) h =
    let small : n < 2 ^ 64 = h 0 n (omega arith) in
    let e : line_ends (decimal n ++ 10 ∷ line_text ns) ≡ 1 + line_ends (line_text ns) = no-ends (decimal n) (10 ∷ line_text ns) (decimal_is_IsNumeral n small).0.1 in
    let r : line_ends (line_text ns) ≡ length ns = all-ends ns (λ k d q. h (suc k) d (omega arith)) in
    omega (arith, e, r)

pub line-count : (ns : List ℕ) → Small ns → count_by (λ b. b == 10) (line_text ns) ≡ length ns
unfolding line_ends
line-count ns h = sym (is_count_by line_ends (λ b. b == 10) refl (λ x xs. refl) (line_text ns)) ∙ all-ends ns h

-- the lines that were read, by the length of the rest
pub count-read : (bytes rest ns : List ℕ) → bytes ≡ line_text ns ++ rest → Small ns
    → count_by (λ b. b == 10) (take (length bytes - length rest) bytes) ≡ length ns
count-read bytes rest ns e h =
    let n : length bytes - length rest ≡ length (line_text ns) = grind (arith, common_steps, e) in
    let t : take (length bytes - length rest) bytes ≡ line_text ns = rw n (rw e (take_at (line_text ns) rest (length (line_text ns)) refl)) in
    rw t (line-count ns h)
