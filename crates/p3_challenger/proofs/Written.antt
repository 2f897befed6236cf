-- A message of 36 bytes that is written in two parts.
use Rattle.std.proofs.Common.{◌≡◌, ℕ, ◌++◌, List, [], length, take, drop, arith, ◌∙◌}
use Rattle.std.proofs.lemmas.List.{take_all, take-append-le, drop_all, length-append, length-drop, append-nil}
use borrow.Rule.Slice.PartMut.{put_mid, post_of}

-- the last four bytes are replaced
pub written : (first rest last : List ℕ) → length first ≡ 32 → length rest ≡ 4 → put_mid 32 4 (first ++ rest) last ≡ first ++ last
written first rest last p q =
    let whole = first ++ rest in
    let front : take 32 whole ≡ first = take-append-le 32 first rest (omega (arith, p)) ∙ take_all 32 first (omega (arith, p)) in
    let long = length-append first rest in
    let left = length-drop 32 whole in
    let nothing : post_of 32 4 whole ≡ [] = drop_all 4 (drop 32 whole) (omega (arith, p, q, long, left)) in
    cc (front, nothing, append-nil last)
