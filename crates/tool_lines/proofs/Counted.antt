-- How the reading stops of a list whose number of items is a power of two.
use Rattle.std.proofs.Common.{◌≡◌, ℕ, suc, ◌<◌, ◌≤◌, ◌^◌, List, [], ◌∷◌, ◌++◌, length, refl, sym, ◌∙◌, ap, subst, arith, append_assoc, Result, Ok, Err}
use Rattle.std.specs.Int.{IsPowerOfTwo}
use Rattle.std.specs.Prelude.{decimal}
use Rattle.std.proofs.lemmas.Nat.{pow_pos}
use Rattle.tool_lines.specs.Counts.{IsCount, PowersWithin}
use Rattle.tool_lines.specs.Texts.{Between, Grammar, ItemsWithin, Reads, ReadsKnown, ReadsOne, Stops, items_numbers, line_text, list_numbers, one_number}
use Rattle.tool_lines.specs.Laws.Counts.{count-grammar, one-counts, same-powers}
use Rattle.tool_lines.specs.Laws.Grammars.{head-same, items-grammar}
use Rattle.tool_lines.specs.Laws.Lines.{same-line}
use Rattle.tool_lines.specs.Laws.Stops.{pair-first, pair-reads, pair-second, same-reads, same-stops}
use Rattle.tool_lines.specs.declared.texts.ItemError.{ItemError}

-- one number has no numbers before it
front-none : (m n : ℕ) (front missing : List ℕ) → m ∷ [] ≡ front ++ n ∷ missing → front ≡ []
front-none m n [] missing e = refl
front-none m n (x ∷ []) missing e = absurd (let t : 1 ≡ suc (suc (length missing)) = ap (λ (l : List ℕ). length l) e in omega (arith, t))
front-none m n (x ∷ y ∷ front) missing e =
    absurd (let t : 1 ≡ suc (suc (length (front ++ n ∷ missing))) = ap (λ (l : List ℕ). length l) e in omega (arith, t))

-- where no number of a range is next, what is left is what was there, and no line is one of the range
pub unread : {old new : List ℕ} {least most : ℕ} → Stops (Between least most) one_number old new
    → (n : ℕ) (rest : List ℕ) → old ≡ decimal n ++ 10 ∷ rest → Between least most n → ⊥
unread {old} {new} {least} {most} s n rest e h =
    let none = front-none s.some s.next s.read s.missing s.begins in
    let same : old ≡ new = subst (λ (l : List ℕ). old ≡ line_text l ++ new) none s.text in
    s.stuck n rest (sym same ∙ e) n h [] [] (subst (λ (l : List ℕ). n ∷ [] ≡ l ++ n ∷ []) (sym none) refl)

-- a power of two isn't below 1
above : (n : ℕ) → IsPowerOfTwo n → 1 ≤ n
above n p = let e = p.1 in let q : 0 < 2 ^ p.0 = pow_pos p.0 in omega (arith, e, q)

-- no line of a power of two is next
none-next : (most : ℕ) (bytes : List ℕ) → 1 ≤ most → ((n : ℕ) (rest : List ℕ) → bytes ≡ decimal n ++ 10 ∷ rest → IsCount most n → ⊥)
    → Stops (IsCount most) one_number bytes bytes
none-next most bytes room none = record {
  read = [];
  text = refl;
  some = 1;
  some_fits = one-counts most room;
  next = 1;
  missing = [];
  begins = refl;
  stuck = λ n rest e v fits x y same. none n rest e (subst (λ (k : ℕ). IsCount most k) (head-same v n x y same) fits);
}

pub count-missing : {old new : List ℕ} (most : ℕ) → 1 ≤ most → Stops (Between 1 most) one_number old new → Stops (IsCount most) one_number old old
count-missing {old} most room s = none-next most old room (λ n rest e h. unread s n rest e (above n h.0, h.1))

pub count-refused : {old rest : List ℕ} {n : ℕ} (most : ℕ) → 1 ≤ most → most < 2 ^ 64 → Reads (Between 1 most) one_number old rest n → (IsPowerOfTwo n → ⊥)
    → Stops (IsCount most) one_number old old
count-refused {old} {rest} {n} most room small r other = none-next most old room (λ m after e h.
    let few = h.1 in
    let high = r.fits.1 in
    let same = same-line n m rest after (omega (arith, high, small)) (omega (arith, few, small)) (sym (append_assoc (decimal n) (10 ∷ []) rest) ∙ (sym r.text ∙ e)) in
    other (subst IsPowerOfTwo (sym same.0) h.0))

-- the number that was seen to be next is read
pub count-again : (most : ℕ) (old rest new : List ℕ) (n : ℕ) (result : Result ℕ ItemError) → Reads (IsCount most) one_number old rest n
    → ReadsKnown (Between n n) one_number old new result → ReadsKnown (IsCount most) one_number old new result
count-again most old rest new n (Ok v) r k =
    let low = k.fits.0 in
    let high = k.fits.1 in
    record { fits = subst (IsCount most) (let e : n ≡ v = omega (arith, low, high) in e) r.fits; text = k.text }
count-again most old rest new n (Err x) r k = absurd (unread k.1 n rest (r.text ∙ append_assoc (decimal n) (10 ∷ []) rest) (omega arith, omega arith))

-- a list whose count can't be read
pub powers-count : {A : Type 0} {within : A → Type 0} {words : A → List ℕ} {old new : List ℕ} (most : ℕ) → Grammar within words
    → Stops (IsCount most) one_number old new → Stops (PowersWithin most within) (list_numbers words) old new
powers-count {A} {within} {words} most g s =
    same-stops (same-powers most within words) (pair-first (λ n. ItemsWithin n within) (λ n _. items-grammar n g) s)

-- a list whose count was read
pub powers-after : {V A : Type 0} (most : ℕ) → 1 ≤ most → most < 2 ^ 64 → (data_of : V → List A) (within : A → Type 0) (words : A → List ℕ) (old mid new : List ℕ) (count : ℕ)
    (r : Result V ItemError) → Reads (IsCount most) one_number old mid count → ReadsOne data_of (ItemsWithin count within) (items_numbers words) mid new r
    → ReadsOne data_of (PowersWithin most within) (list_numbers words) old new r
unfolding same-powers
powers-after most room few data_of within words old mid new count (Ok v) n s = same-reads (same-powers most within words) (pair-reads (λ k. ItemsWithin k within) n s)
powers-after most room few data_of within words old mid new count (Err e) n s = λ m.
    same-stops (same-powers most within words) (pair-second (λ k. ItemsWithin k within) (count-grammar most room few) n (s m))
