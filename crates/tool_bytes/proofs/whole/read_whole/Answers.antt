use Rattle.std.proofs.Common.{take, ◌++◌, ◌≤◌, length, arith}
use Rattle.std.proofs.KnownBytes.{Consumes-trans}
use Rattle.std.proofs.lemmas.Grind.{common_steps}
use Rattle.tool_bytes.proofs.Bytes.{unkept}
use Rattle.tool_bytes.proofs.whole.read_whole.Goals as goal

pub returns-in_err-extend_from_slice-in-Ok-clause-bytes :
    goal.returns-in_err-extend_from_slice-in-Ok-clause-bytes
returns-in_err-extend_from_slice-in-Ok-clause-bytes g c =
    let taken = c.loop-piece.bytes.items ++ take c.in-Ok.n c.read.new.buf in
    let few : length taken ≤ 67108865 = grind (arith, common_steps) in
    unkept _ _ _ taken _ (Consumes-trans _ _ _ _ _ c.loop-piece.invariant.taken c.in-Ok.ensures.bytes.0) few c.from_residual.ensures.1
