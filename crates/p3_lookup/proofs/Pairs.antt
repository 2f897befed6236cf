-- Tuples with their counts, by place.
use Rattle.std.proofs.Common.{◌≡◌, ℕ, zero, suc, ◌<◌, List, [], ◌∷◌, length, get_or, refl, sym, ap, arith}
use Rattle.p3_field.specs.Ring.{Ring}
use Rattle.air_core.specs.declared.cells.Count.{Count}
use Rattle.air_core.specs.Tree.{Tree}
use Rattle.p3_lookup.specs.Lookup.{Sent, map_sent, pair_up}
use Rattle.p3_lookup.specs.Term.{Term, term}
use Rattle.p3_lookup.specs.Honest.{terms_of}
use Rattle.p3_lookup.proofs.Turns.{mapped_item}

pub pair_length : {F : Type 0} (T : List (List (Tree F))) (C : List (Count (Tree F))) → length C ≡ length T → length (pair_up T C) ≡ length T
pair_length [] C e = refl
pair_length (t ∷ ts) [] e = absurd (omega (arith, e))
pair_length (t ∷ ts) (c ∷ cs) e = ap suc (pair_length ts cs (omega (arith, e)))

pub pair_item : {F : Type 0} (T : List (List (Tree F))) (C : List (Count (Tree F))) (i : ℕ) (t : List (Tree F)) (c : Count (Tree F)) (d : Sent (Tree F))
    → length C ≡ length T → i < length T → get_or T i t ≡ t → get_or C i c ≡ c → get_or (pair_up T C) i d ≡ record { tuple = t; count = c.value }
pair_item [] C i t c d e h p q = absurd (omega (arith, h))
pair_item (u ∷ us) [] i t c d e h p q = absurd (omega (arith, e))
pair_item (u ∷ us) (k ∷ ks) zero t c d e h p q = cc (p, q)
pair_item (u ∷ us) (k ∷ ks) (suc i) t c d e h p q = pair_item us ks i t c d (omega (arith, e)) (omega (arith, h)) p q

-- the term at a place
pub term_item : {F E : Type 0} (r : Ring E) (base beta : E) (v : Tree F → E) (T : List (List (Tree F))) (C : List (Count (Tree F))) (i : ℕ) (t : List (Tree F)) (c : Count (Tree F)) (d : Term E)
    → length C ≡ length T → i < length T → get_or T i t ≡ t → get_or C i c ≡ c
    → get_or (terms_of r base beta v (pair_up T C)) i d ≡ term r base beta (map_sent v (record { tuple = t; count = c.value }))
term_item {F = F} r base beta v T C i t c d e h p q =
    let s : Sent (Tree F) = record { tuple = t; count = c.value } in
    let long : i < length (pair_up T C) = omega (arith, h, pair_length T C e) in
    mapped_item (λ u. term r base beta (map_sent v u)) (pair_up T C) i s d long (sym (pair_item T C i t c s e h p q))
