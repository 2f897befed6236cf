-- How the reading of parts that the reader knows stops.
use Rattle.std.proofs.Common.{◌≡◌, ℕ, ◌+◌, ◌<◌, List, [], ◌∷◌, ◌++◌, length, take, drop, get_or, sym, ◌∙◌, ap, arith, append_assoc, add-one, drop-cons, Result, Ok, Err}
use Rattle.std.proofs.lemmas.List.{append_cancel_left, take-append-drop, take_more}
use Rattle.tool_lines.specs.Texts.{line_text, Reads, Stops, Between, Unlimited, one_number, Small, ReadsOne, ItemsWithin, items_numbers}
use Rattle.tool_lines.specs.Fixed.{fixed_numbers, headed_numbers}
use Rattle.tool_lines.specs.Laws.FixedParts.{fixed-grammar, same-headed}
use Rattle.tool_lines.specs.declared.texts.ItemError.{ItemError}
use Rattle.tool_lines.specs.Laws.Lines.{lines-more}
use Rattle.tool_lines.specs.Laws.Stops.{same-stops, then-second}
use Rattle.tool_lines.proofs.Stops.{front-none}

-- fixed numbers by the first ones, the one at a place, and those after it
split-at : (numbers : List ℕ) (i : ℕ) → i < length numbers → numbers ≡ take i numbers ++ get_or numbers i 0 ∷ drop (i + 1) numbers
split-at numbers i room =
    sym (take-append-drop i numbers) ∙ ap (λ (l : List ℕ). take i numbers ++ l) (rw add-one (drop-cons numbers i 0 room))

-- one of the fixed numbers can't be read
pub fixed-stops : (numbers : List ℕ) (i : ℕ) (old mid new : List ℕ) → i < length numbers → old ≡ line_text (take i numbers) ++ mid
    → Stops (Between (get_or numbers i 0) (get_or numbers i 0)) one_number mid new → Stops {A = Unit {0}} Unlimited (fixed_numbers numbers) old new
fixed-stops numbers i old mid new room text s =
    let n = get_or numbers i 0 in
    let none : s.read ≡ [] = front-none s.some s.next s.read s.missing s.begins in
    let split = split-at numbers i room in
    record {
      read = take i numbers;
      text = text ∙ ap (λ (l : List ℕ). line_text (take i numbers) ++ l) (s.text ∙ ap (λ (l : List ℕ). line_text l ++ new) none);
      some = tt;
      some_fits = tt;
      next = n;
      missing = drop (i + 1) numbers;
      begins = split;
      stuck = λ m rest h v fits x y same.
          let front : take i numbers ++ (n ∷ (drop (i + 1) numbers ++ x)) ≡ take i numbers ++ (m ∷ y)
          = sym (append_assoc (take i numbers) (n ∷ drop (i + 1) numbers) x) ∙ (ap (λ (l : List ℕ). l ++ x) (sym split) ∙ same) in
          let tail = append_cancel_left (take i numbers) (n ∷ (drop (i + 1) numbers ++ x)) (m ∷ y) front in
          s.stuck m rest h n (omega arith, omega arith) (drop (i + 1) numbers ++ x) y (tail ∙ ap (λ (l : List ℕ). l ++ m ∷ y) (sym none));
    }

-- one more of the fixed numbers
pub fixed-grows : (numbers : List ℕ) (i n : ℕ) (old mid new : List ℕ) → i < length numbers → old ≡ line_text (take i numbers) ++ mid
    → Reads (Between (get_or numbers i 0) (get_or numbers i 0)) one_number mid new n → old ≡ line_text (take (i + 1) numbers) ++ new
fixed-grows numbers i n old mid new room text r =
    let same : n ≡ get_or numbers i 0 = omega (arith, r.fits) in
    let line : mid ≡ line_text (get_or numbers i 0 ∷ []) ++ new = r.text ∙ ap (λ (k : ℕ). line_text (k ∷ []) ++ new) same in
    lines-more (take i numbers) (get_or numbers i 0 ∷ []) old mid new text line ∙ ap (λ (l : List ℕ). line_text l ++ new) (sym (take_more numbers i 0 room))

-- fixed numbers were read, and then a list of known length
pub headed-read : {V A : Type 0} (data_of : V → List A) (within : A → Type 0) (words : A → List ℕ) (head : List ℕ) (count : ℕ) (old mid new : List ℕ) (r : Result V ItemError)
    → Small head → Reads {A = Unit {0}} Unlimited (fixed_numbers head) old mid tt → ReadsOne data_of (ItemsWithin count within) (items_numbers words) mid new r
    → ReadsOne data_of (ItemsWithin count within) (headed_numbers head words) old new r
headed-read data_of within words head count old mid new (Ok v) small h r = record { fits = r.fits; text = lines-more head (items_numbers words (data_of v)) old mid new h.text r.text }
headed-read data_of within words head count old mid new (Err e) small h r =
    λ m. same-stops (same-headed head count within words) (then-second (fixed-grammar head small) h (r m))
