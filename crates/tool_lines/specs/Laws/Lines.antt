-- Lines of numbers tell the numbers.
use Rattle.std.proofs.Common.{◌≡◌, ℕ, suc, ◌+◌, ◌^◌, ◌<◌, ◌≤◌, List, [], ◌∷◌, ◌++◌, length, take, drop, get_or, refl, sym, ◌∙◌, ap, arith, append_assoc}
use Rattle.std.specs.Prelude.{decimal}
use Rattle.std.specs.Int.{IsInRange}
use Rattle.std.specs.Str.Parse.{digits_value, AllDigits}
use Rattle.std.proofs.lemmas.Grind.{common_steps}
use Rattle.std.proofs.lemmas.Fmt.{decimal_injective, decimal_is_IsNumeral}
use Rattle.std.proofs.lemmas.Str.Parse.{digit_at}
use Rattle.std.proofs.lemmas.List.{take_at}
use Rattle.std.proofs.Math.Seq.{get_or-append_seam}
use Rattle.std.proofs.Math.ListN.{get_or-append}
use Rattle.tool_lines.specs.Texts.{line_text, Small}

-- what a text tells of its first line, where that is a number's
pub record FirstLine (bytes : List ℕ) (n : ℕ) : Type 0 where
  pub room : length (decimal n) < length bytes
  pub last : get_or bytes (length (decimal n)) 0 ≡ 10
  pub digit : (i : ℕ) → i < length (decimal n) → IsInRange 48 57 (get_or bytes i 0)
  pub same : (i : ℕ) → i < length (decimal n) → get_or bytes i 0 ≡ get_or (decimal n) i 0
  pub front : take (length (decimal n)) bytes ≡ decimal n
  pub nonempty : 0 < length (decimal n)
  pub value : digits_value 10 (decimal n) ≡ n

pub first-line : (bytes rest : List ℕ) (n : ℕ) → n < 2 ^ 64 → bytes ≡ decimal n ++ 10 ∷ rest → FirstLine bytes n
first-line bytes rest n small e =
    let d = decimal_is_IsNumeral n small in
    let same : (i : ℕ) → i < length (decimal n) → get_or bytes i 0 ≡ get_or (decimal n) i 0
    = λ i k. rw e (get_or-append (decimal n) (10 ∷ rest) 0 i k) in
    record {
      room = rw e (grind (arith, common_steps));
      last = rw e (get_or-append_seam (decimal n) 10 rest 0);
      digit = λ i k. rw (same i k) (digit_at (decimal n) i d.0.1 k);
      same = same;
      front = rw e (take_at (decimal n) (10 ∷ rest) (length (decimal n)) refl);
      nonempty = d.0.0;
      value = d.1;
    }

-- digits stand before the line's end
pub before-end : (bytes : List ℕ) (n i : ℕ) → FirstLine bytes n → AllDigits 10 (take i bytes) → i ≤ length bytes → i ≤ length (decimal n)
before-end bytes n i line digits room =
    let k = length (decimal n) in
    let bad : k < i → ⊥ = λ past.
    let r : IsInRange 48 57 (get_or (take i bytes) k 0) = digit_at (take i bytes) k digits (grind (arith, common_steps)) in
    let same : get_or (take i bytes) k 0 ≡ get_or bytes k 0 = grind (arith, common_steps) in
    let last : get_or bytes k 0 ≡ 10 = line.last in
    omega (arith, r, same, last) in
    grind (arith, bad)

pub line_text-append : (xs ys : List ℕ) → line_text (xs ++ ys) ≡ line_text xs ++ line_text ys
line_text-append [] ys = refl
line_text-append (x ∷ xs) ys = rw (line_text-append xs ys) (sym (append_assoc (decimal x) (10 ∷ line_text xs) (line_text ys)))

-- the first line of a text tells its number
pub same-line : (m n : ℕ) (x y : List ℕ) → m < 2 ^ 64 → n < 2 ^ 64 → decimal m ++ 10 ∷ x ≡ decimal n ++ 10 ∷ y → (m ≡ n) × (x ≡ y)
same-line m n x y m-small n-small e =
    let bytes = decimal m ++ 10 ∷ x in
    let a : FirstLine bytes m = first-line bytes x m m-small refl in
    let b : FirstLine bytes n = first-line bytes y n n-small e in
    let a-digits : AllDigits 10 (take (length (decimal m)) bytes) = rw a.front (decimal_is_IsNumeral m m-small).0.1 in
    let b-digits : AllDigits 10 (take (length (decimal n)) bytes) = rw b.front (decimal_is_IsNumeral n n-small).0.1 in
    let less : length (decimal m) ≤ length (decimal n) = before-end bytes n (length (decimal m)) b a-digits (omega (arith, a.room)) in
    let more : length (decimal n) ≤ length (decimal m) = before-end bytes m (length (decimal n)) a b-digits (omega (arith, b.room)) in
    let len : length (decimal m) ≡ length (decimal n) = omega (arith, less, more) in
    let text : decimal m ≡ decimal n = sym a.front ∙ (ap (λ (k : ℕ). take k bytes) len ∙ b.front) in
    let left : drop (length (decimal m) + 1) (decimal m ++ 10 ∷ x) ≡ x = grind (arith, common_steps) in
    let right : drop (length (decimal n) + 1) (decimal n ++ 10 ∷ y) ≡ y = grind (arith, common_steps) in (
      decimal_injective m n m-small n-small text,
      sym left ∙ (ap (λ (k : ℕ). drop (k + 1) bytes) len ∙ (ap (λ (l : List ℕ). drop (length (decimal n) + 1) l) e ∙ right)),
    )

-- of two fronts of one text the shorter is the front of the longer
pub record Longer (xs ys : List ℕ) (a b : List ℕ) : Type 0 where
  pub more : List ℕ
  pub numbers : ys ≡ xs ++ more
  pub text : a ≡ line_text more ++ b

pub lines-tell : (xs ys a b : List ℕ) → Small xs → Small ys → length xs ≤ length ys → line_text xs ++ a ≡ line_text ys ++ b → Longer xs ys a b
lines-tell [] ys a b p q l e = record { more = ys; numbers = refl; text = e }
lines-tell (x ∷ xs) [] a b p q l e = absurd (omega arith)
lines-tell (x ∷ xs) (y ∷ ys) a b p q l e =
    let f : decimal x ++ 10 ∷ (line_text xs ++ a) ≡ decimal y ++ 10 ∷ (line_text ys ++ b)
    = sym (append_assoc (decimal x) (10 ∷ line_text xs) a) ∙ (e ∙ append_assoc (decimal y) (10 ∷ line_text ys) b) in
    let s = same-line x y (line_text xs ++ a) (line_text ys ++ b) (p 0 x (omega arith)) (q 0 y (omega arith)) f in
    let r = lines-tell xs ys a b (λ k d h. p (suc k) d (omega arith)) (λ k d h. q (suc k) d (omega arith)) (omega arith) s.1 in
    record { more = r.more; numbers = ap (λ (l : List ℕ). y ∷ l) r.numbers ∙ ap (λ (k : ℕ). k ∷ (xs ++ r.more)) (sym s.0); text = r.text }

-- lines after lines
pub lines-more : (xs ys old mid new : List ℕ) → old ≡ line_text xs ++ mid → mid ≡ line_text ys ++ new → old ≡ line_text (xs ++ ys) ++ new
lines-more xs ys old mid new e f =
    e ∙ (ap (λ (v : List ℕ). line_text xs ++ v) f ∙ rw (line_text-append xs ys) (sym (append_assoc (line_text xs) (line_text ys) new)))
