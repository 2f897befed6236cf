use Rattle.std.proofs.Common.{List, ℕ, ◌∙◌, sym, subst, arith}
use Rattle.std.specs.Int.{IsPowerOfTwo}
use Rattle.tool_lines.specs.Texts.{Stops, one_number}
use Rattle.tool_lines.proofs.Counted.{count-missing, count-refused}
use Rattle.tool_lines.specs.Counts.{IsCount}
use Rattle.tool_lines.proofs.counts.next_count.Goals as goal

pub returns-else-is_power_of_two : goal.returns-else-is_power_of_two
returns-else-is_power_of_two c =
    let other : IsPowerOfTwo c.in-Ok.count → ⊥ = λ p. let e = sym c.if-is_power_of_two.false ∙ c.is_power_of_two.ensures.1 p in cc in
    let room = c.requires in
    let small = c.ranges.most in
    subst (λ (l : List ℕ). Stops (IsCount c.args.most) one_number l l) (c.new-ahead.ensures ∙ c.rest.ensures)
    (count-refused c.args.most room (omega (arith, small)) c.in-Ok.ensures other)

pub returns-in-Err : goal.returns-in-Err
returns-in-Err c = subst (λ (l : List ℕ). Stops (IsCount c.args.most) one_number l l) (c.new-ahead.ensures ∙ c.rest.ensures) (count-missing c.args.most c.requires c.in-Err.ensures.1)
