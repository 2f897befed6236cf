-- The width of a batch's widest tuple, lookup by lookup.
use Rattle.std.proofs.Common.{◌≡◌, ℕ, List, [], ◌∷◌, ◌++◌, length, map, refl, sym, ◌∙◌, ap, Vec}
use Rattle.std.specs.Prelude.{max, flat_map}
use Rattle.std.specs.List.{fold}
use Rattle.std.proofs.lemmas.List.{length-map}
use Rattle.air_core.specs.Tree.{Tree}
use Rattle.p3_lookup.specs.Bus.{widest_of, widest}
use Rattle.p3_lookup.specs.Written.{Written, read, read_all}

-- tuples by their lengths, whatever their trees are read from
pub widest-folds : {T F A : Type 0} (tree : T → Tree F) (w : ℕ) (vs : List (Vec T A)) → fold (λ w t. max w (length t.items)) w vs ≡ widest_of w (map (map tree) (map (λ v. v.items) vs))
widest-folds tree w [] = refl
widest-folds tree w (v ∷ vs) =
    ap (λ n. fold (λ w t. max w (length t.items)) (max w n) vs) (sym (length-map v.items tree))
    ∙ widest-folds tree (max w (length (map tree v.items))) vs

widest-append : {F : Type 0} (w : ℕ) (xs ys : List (List (Tree F))) → widest_of w (xs ++ ys) ≡ widest_of (widest_of w xs) ys
widest-append w [] ys = refl
widest-append w (x ∷ xs) ys = widest-append (max w (length x)) xs ys

abbrev pub with_lookups : {F : Type 0} → ℕ → List (Written F) → ℕ
with_lookups w ls = fold (λ w l. widest_of w (read l).tuples) w ls

lookups-widest : {F : Type 0} (w : ℕ) (ls : List (Written F)) → with_lookups w ls ≡ widest_of w (flat_map (λ l. l.tuples) (read_all ls))
lookups-widest w [] = refl
lookups-widest w (l ∷ ls) =
    lookups-widest (widest_of w (read l).tuples) ls ∙ sym (widest-append w (read l).tuples (flat_map (λ l. l.tuples) (read_all ls)))

batch-widest : {F : Type 0} (w : ℕ) (ws : List (List (Written F))) → fold (λ w ls. with_lookups w ls) w ws ≡ widest_of w (flat_map (flat_map (λ l. l.tuples)) (map read_all ws))
batch-widest w [] = refl
batch-widest w (ls ∷ ws) =
    ap (λ v. fold (λ w ls. with_lookups w ls) v ws) (lookups-widest w ls)
    ∙ batch-widest (widest_of w (flat_map (λ l. l.tuples) (read_all ls))) ws
    ∙ sym (widest-append w (flat_map (λ l. l.tuples) (read_all ls)) (flat_map (flat_map (λ l. l.tuples)) (map read_all ws)))

pub folds-widest : {F : Type 0} (ws : List (List (Written F))) → fold (λ w ls. with_lookups w ls) 1 ws ≡ widest (map read_all ws)
folds-widest ws = batch-widest 1 ws
