use Rattle.std.proofs.Common.{arith}
use Rattle.std.proofs.lemmas.Nat.{pow_pos}
use Rattle.tool_shaped.proofs.Turns.{sum_moved}
use Rattle.tool_shaped.proofs.room.has_room.Goals as goal

pub own_log_chunks-requires : goal.own_log_chunks-requires
own_log_chunks-requires g c = let p = pow_pos c.requires.0 in let e = c.requires.1 in omega (arith, e, p)

pub returns : goal.returns
returns g c =
    let same = sum_moved _ _ _ _ _ _ c.log_of_rows-log_rows.ensures c.in_ok-chunks.ensures c.TWO_ADICITY.ensures in
    let told = c.is_sum_within.ensures in
    ((λ h. same.0 (told.0 h)), λ h. told.1 (same.1 h))
