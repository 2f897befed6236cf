use Rattle.std.proofs.Common.{◌≡◌, ◌++◌, [], get_or, subst, refl}
use Rattle.std.specs.Option.{option_map}
use Rattle.std.specs.Prelude.{OnOk}
use Rattle.air_core.specs.RowCheck.{Row}
use Rattle.air_core.specs.Check.{table_traces}
use Rattle.air_core.specs.Laws.RowOf.{row_is}
use Rattle.p3_lookup.specs.Messages.{messages_from}
use Rattle.p3_lookup.specs.Written.{read_all}
use Rattle.stark_balance.specs.Sender.{sent_in_row}
use Rattle.stark_balance.proofs.messages.push_row.Goals as goal

pub returns : goal.returns
returns g c =
    let f = g.F.RingCore.ring in
    let ls = read_all c.args.lookups.now in
    let table = table_traces c.args.main.now (option_map (λ m. m.now) c.args.preprocessed) [] c.args.public_values.now in
    let row = row_is f.zero table c.args.row c.height-height.result c.row.result.now c.row-2.result.now c.preprocessed_at.result.now c.preprocessed_at-2.result.now []
    c.height-height.ensures.result c.row.ensures.values c.row-2.ensures.values c.preprocessed_at.ensures.values c.preprocessed_at-2.ensures.values refl in
    subst (λ (w : Row g.row.F.Denot g.row.F.Denot). OnOk c.push_lookups.result (c.push_lookups.new.messages.items
    ≡ c.args.messages.now.items ++ messages_from (sent_in_row f w) (λ n. get_or c.args.buses.now n 0) 0 ls))
    row c.push_lookups.ensures
