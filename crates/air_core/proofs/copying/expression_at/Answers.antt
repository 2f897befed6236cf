use Rattle.std.proofs.Common.{List, length, ap, rules}
use Rattle.std.specs.Ordering.{nat_cmp}
use Rattle.std.specs.BTreeMap.{get}
use Rattle.air_core.specs.Laws.Copying.{copied-none, copies-few}
use Rattle.air_core.specs.declared.node.Node.{Node}
use Rattle.air_core.proofs.copying.expression_at.Goals as goal

pub copy_at-requires-clause-copied : goal.copy_at-requires-clause-copied
copy_at-requires-clause-copied g c =
    rw c.new-copies.ensures.items (copied-none c.args.nodes.now (get nat_cmp c.new-places.result) (λ i. rw c.new-places.ensures.empty (search rules)))

pub returns-clause-few : goal.returns-clause-few
returns-clause-few g c =
    rw c.new.ensures
    (copies-few c.args.nodes.now c.new-copies.result.items c.copy_at.new.copies.items (get nat_cmp c.new-places.result) (get nat_cmp c.copy_at.new.places) c.args.place _
    (ap (λ (l : List (Node g.row.F.Denot)). length l) c.new-copies.ensures.items) (λ i. rw c.new-places.ensures.empty (search rules)) c.in_ok-copy_at.ensures)
