-- The first line of a text, digit by digit.
use Rattle.std.proofs.Common.{◌≡◌, ◌≢◌, ℕ, ◌+◌, ◌-◌, ◌*◌, ◌^◌, ◌<◌, ◌≤◌, List, ◌∷◌, ◌++◌, length, take, drop, get_or, refl, sym, ◌∙◌, ap, arith, Bool, true, false, add-one}
use Rattle.std.specs.Prelude.{decimal}
use Rattle.std.specs.Char.{digit_value, is_ascii_digit}
use Rattle.std.specs.Int.{IsInRange}
use Rattle.std.specs.Str.Parse.{digits_value, AllDigits}
use Rattle.std.proofs.lemmas.Grind.{common_steps}
use Rattle.std.proofs.lemmas.Fmt.{decimal_digit, decimal-digits_value, first_decimal}
use Rattle.std.proofs.lemmas.Int.Digits.{digits_more, digits_value_more}
use Rattle.std.proofs.lemmas.Str.{digit_value_digit}
use Rattle.std.proofs.lemmas.Str.Parse.{digit_at, digits_value-take-le, IsNumeralModel}
use Rattle.std.proofs.lemmas.List.{take-append-drop}
use Rattle.std.proofs.Math.Seq.{drop-cons}
use Rattle.tool_lines.specs.Laws.Lines.{first-line, before-end}

-- no number's line begins with LF
pub not-empty : (bytes rest : List ℕ) (n : ℕ) → n < 2 ^ 64 → get_or bytes 0 0 ≡ 10 → bytes ≡ decimal n ++ 10 ∷ rest → ⊥
not-empty bytes rest n small end e =
    let line = first-line bytes rest n small e in
    let r : IsInRange 48 57 (get_or bytes 0 0) = line.digit 0 line.nonempty in
    omega (arith, r, end)

-- after digits stands a digit or the line's end
pub not-digit : (bytes rest : List ℕ) (n i : ℕ) → n < 2 ^ 64 → AllDigits 10 (take i bytes) → i < length bytes
    → get_or bytes i 0 ≢ 10 → (IsInRange 48 57 (get_or bytes i 0) → ⊥) → bytes ≡ decimal n ++ 10 ∷ rest → ⊥
not-digit bytes rest n i small digits room other bad e =
    let line = first-line bytes rest n small e in
    let k : i ≤ length (decimal n) = before-end bytes n i line digits (omega arith) in
    let inside : i < length (decimal n) → ⊥ = λ h. bad (line.digit i h) in
    let here : i ≡ length (decimal n) → ⊥ = λ h. other (rw h line.last) in
    grind (arith, inside, here)

-- a zero stands alone
pub not-zero : (bytes rest : List ℕ) (n : ℕ) → n < 2 ^ 64 → AllDigits 10 (take 1 bytes) → 1 < length bytes
    → get_or bytes 1 0 ≢ 10 → digits_value 10 (take 1 bytes) ≡ 0 → bytes ≡ decimal n ++ 10 ∷ rest → ⊥
not-zero bytes rest n small digits room other zero e =
    let line = first-line bytes rest n small e in
    let k : 1 ≤ length (decimal n) = line.nonempty in
    let here : 1 ≡ length (decimal n) → ⊥ = λ h. other (rw h line.last) in
    let r : IsInRange 48 57 (get_or bytes 0 0) = line.digit 0 line.nonempty in
    let value : digits_value 10 (take 1 bytes) ≡ digits_value 10 (take 0 bytes) * 10 + digit_value (get_or bytes 0 0)
    = digits_value_more 10 bytes 0 (omega arith) in
    let digit : digit_value (get_or bytes 0 0) + 48 ≡ get_or bytes 0 0 = digit_value_digit (get_or bytes 0 0) r in
    let same : get_or bytes 0 0 ≡ get_or (decimal n) 0 0 = line.same 0 line.nonempty in
    let none : n ≡ 0 → ⊥ = λ h. here (rw h (sym (ap (λ (v : List ℕ). length v) (decimal_digit 0 (omega arith))))) in
    let first : 0 < n → 48 < get_or (decimal n) 0 0 = λ h. first_decimal n h small in
    let some : 0 < n = grind (arith, none) in
    let above : 48 < get_or (decimal n) 0 0 = first some in
    omega (arith, above, same, value, digit, zero)

-- a number that is too large already
pub not-large : (bytes rest : List ℕ) (n i most : ℕ) → n < 2 ^ 64 → n ≤ most → AllDigits 10 (take i bytes) → i ≤ length bytes
    → most < digits_value 10 (take i bytes) → bytes ≡ decimal n ++ 10 ∷ rest → ⊥
not-large bytes rest n i most small fits digits room large e =
    let line = first-line bytes rest n small e in
    let k : i ≤ length (decimal n) = before-end bytes n i line digits room in
    let front : take i (decimal n) ≡ take i bytes = rw (← line.front) (grind (arith, common_steps)) in
    let less : digits_value 10 (take i (decimal n)) ≤ digits_value 10 (decimal n) = digits_value-take-le 10 (decimal n) i (omega arith) in
    let same : digits_value 10 (take i (decimal n)) ≡ digits_value 10 (take i bytes) = ap (λ (v : List ℕ). digits_value 10 v) front in
    omega (arith, less, same, large, fits, line.value)

-- a text that ends in a line
pub not-cut : (bytes rest : List ℕ) (n : ℕ) → n < 2 ^ 64 → AllDigits 10 bytes → bytes ≡ decimal n ++ 10 ∷ rest → ⊥
not-cut bytes rest n small digits e =
    let line = first-line bytes rest n small e in
    let r : IsInRange 48 57 (get_or bytes (length (decimal n)) 0) = digit_at bytes (length (decimal n)) digits line.room in
    omega (arith, r, line.last)

own : IsNumeralModel (λ ds. AllDigits 10 ds) (digits_value 10)
own = record { to = λ ds p. p; from = λ ds p. p; same = λ ds p. refl }

-- digits and the line's end
pub is-line : (bytes : List ℕ) (i : ℕ) → AllDigits 10 (take i bytes) → 0 < i → i < length bytes → get_or bytes i 0 ≡ 10
    → (get_or bytes 0 0 ≡ 48 → i ≤ 1) → digits_value 10 (take i bytes) < 2 ^ 64
    → bytes ≡ decimal (digits_value 10 (take i bytes)) ++ 10 ∷ drop (i + 1) bytes
is-line bytes i digits some room end zero small =
    let len : length (take i bytes) ≡ i = grind (arith, common_steps) in
    let first : get_or (take i bytes) 0 0 ≡ get_or bytes 0 0 = grind (arith, common_steps) in
    let text : decimal (digits_value 10 (take i bytes)) ≡ take i bytes
    = decimal-digits_value own (take i bytes) digits (grind (arith, len))
    (λ z. let one : i ≤ 1 = zero (sym first ∙ z) in omega (arith, one, len, some)) small in
    let back : drop i bytes ≡ 10 ∷ drop (i + 1) bytes = rw (drop-cons bytes i 0 room) (rw end (rw add-one refl)) in
    let whole : take i bytes ++ drop i bytes ≡ bytes = take-append-drop i bytes in
    rw text (rw (← back) (sym whole))

-- one more digit
pub more-digits : (bytes : List ℕ) (i value : ℕ) → i < length bytes → AllDigits 10 (take i bytes) → value ≡ digits_value 10 (take i bytes)
    → IsInRange 48 57 (get_or bytes i 0)
    → AllDigits 10 (take (i + 1) bytes) × (10 * value + (get_or bytes i 0 - 48) ≡ digits_value 10 (take (i + 1) bytes))
more-digits bytes i value room digits same r =
    let d : digit_value (get_or bytes i 0) + 48 ≡ get_or bytes i 0 = digit_value_digit (get_or bytes i 0) r in
    let m : digits_value 10 (take (i + 1) bytes) ≡ digits_value 10 (take i bytes) * 10 + digit_value (get_or bytes i 0)
    = digits_value_more 10 bytes i room in
    (digits_more 10 bytes i room digits (omega (arith, d, r)), omega (arith, d, m, same, r))

-- what the test of a digit says
pub is-digit : (c : ℕ) (b : Bool) → b ≡ is_ascii_digit c → b ≡ true → IsInRange 48 57 c
is-digit c b e t = grind (arith, common_steps, e, t)

pub no-digit : (c : ℕ) (b : Bool) → b ≡ is_ascii_digit c → b ≡ false → IsInRange 48 57 c → ⊥
no-digit c b e t r = grind (arith, common_steps, e, t, r)

pub ruleset lines = (not-empty, not-digit, not-zero, not-large, not-cut)
