-- Bytes taken and given in pieces.
use Rattle.std.proofs.Common.{◌≡◌, ℕ, ◌+◌, ◌<◌, ◌≤◌, List, [], ◌++◌, length, take, drop, sym, subst, arith, min, Option, Result, Ok, Err, Vec, Global, length-append, length-drop}
use Rattle.std.specs.Prelude.{IsErrAnd}
use Rattle.std.specs.Io.KnownBytes.{Consumes, Appends}
use Rattle.std.proofs.KnownBytes.{Consumes-nil, Consumes-trans, Consumes-kept, Appends-nil, Appends-trans, Appends-kept}
use Rattle.std.proofs.lemmas.Grind.{common_steps}
use Rattle.std.proofs.lemmas.List.{nil_from_length, take-append-drop, drop-drop}
use Rattle.std.proofs.Math.Seq.{take-add}
use Rattle.tool_bytes.specs.declared.ends.InputError.{InputError}
use Rattle.tool_bytes.specs.declared.ends.InputError.TheVariants.{ReadFault, TooLarge, OutOfMemory}
use Rattle.tool_bytes.specs.Whole.{ReadsWhole}

-- bytes that could not be kept
pub unkept : (most : ℕ) (old new : Option (List ℕ)) (taken : List ℕ) (r : Result (Vec ℕ Global) InputError)
    → Consumes old new taken → length taken ≤ most + 1 → IsErrAnd r (λ e. e ≡ OutOfMemory) → ReadsWhole most old new r
unkept most old new taken (Ok v) h l e = absurd e
unkept most old new taken (Err ReadFault) h l e = cc
unkept most old new taken (Err TooLarge) h l e = cc
unkept most old new taken (Err OutOfMemory) h l e = record { taken = taken; consumed = h; answer = l }

-- what steps over pieces do to known bytes
pub ruleset steps = (Consumes-nil, Appends-nil, Consumes-trans, Appends-trans, Consumes-kept, Appends-kept, take-add)

-- one more write off the front of what is left of a text
pub write-step : (text rest : List ℕ) (a b c : Option (List ℕ)) (x n : ℕ) → x ≤ length text → rest ≡ drop x text
    → Appends a b (take x text) → n ≤ length rest → Appends b c (take n rest)
    → (y : ℕ) × (y ≤ length text) × (drop n rest ≡ drop y text) × Appends a c (take y text)
write-step text rest a b c x n fits is h room k =
    let e : take (x + n) text ≡ take x text ++ take n rest = grind (arith, take-add x n text) in (
      x + n,
      grind (arith, common_steps),
      grind (arith, common_steps),
      subst (λ (v : List ℕ). Appends a c v) (sym e) (Appends-trans a b c _ _ h k),
    )

-- a read from memory
pub memory-read : (bytes buf front : List ℕ) (at n : ℕ) → at ≤ length bytes
    → n ≡ min (length (drop at bytes)) (length buf) → front ≡ take n (drop at bytes)
    → (drop at bytes ≡ take n (front ++ drop n buf) ++ drop (at + n) bytes)
    × (n ≡ 0 → 0 < length (front ++ drop n buf) → drop (at + n) bytes ≡ [])
memory-read bytes buf front at n within is front-is =
    let few : n ≤ length (drop at bytes) = omega arith in
    let len : length front ≡ n = grind (arith, common_steps) in
    let here : take n (front ++ drop n buf) ≡ front = grind (arith, common_steps) in
    let whole : take n (drop at bytes) ++ drop n (drop at bytes) ≡ drop at bytes = take-append-drop n (drop at bytes) in
    let rest : drop n (drop at bytes) ≡ drop (at + n) bytes = drop-drop n at bytes in (
      rw here (rw front-is (rw (← rest) (sym whole))),
      λ z some. nil_from_length (drop (at + n) bytes) (grind (arith, common_steps, length-append front (drop n buf), length-drop n buf)),
    )
