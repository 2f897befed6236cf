-- The heights that are allowed at a width, as the reader has them.
use Rattle.std.proofs.Common.{◌≡◌, ℕ, List, subst}
use Rattle.tool_lines.specs.Texts.{Between, Reads, Stops, one_number}
use Rattle.tool_proof_text.specs.Matrices.{least_height, most_height}
use Rattle.tool_proof_text.specs.Laws.Matrices.{HeightWithin}

pub height-reads : (w least most : ℕ) (old new : List ℕ) (h : ℕ) → least ≡ least_height w → most ≡ most_height w → Reads (Between least most) one_number old new h
    → Reads (HeightWithin w) one_number old new h
height-reads w least most old new h e f r =
    subst (λ (m : ℕ). Reads (Between (least_height w) m) one_number old new h) f (subst (λ (l : ℕ). Reads (Between l most) one_number old new h) e r)

pub height-stops : (w least most : ℕ) (old new : List ℕ) → least ≡ least_height w → most ≡ most_height w → Stops (Between least most) one_number old new
    → Stops (HeightWithin w) one_number old new
height-stops w least most old new e f s =
    subst (λ (m : ℕ). Stops (Between (least_height w) m) one_number old new) f (subst (λ (l : ℕ). Stops (Between l most) one_number old new) e s)
