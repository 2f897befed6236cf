use Rattle.std.proofs.Common.{◌≡◌}
use Rattle.std.specs.Prelude.{flat_map}
use Rattle.std.specs.Option.{option_map}
use Rattle.p3_field.specs.Poly.{tabulate}
use Rattle.p3_lookup.specs.Messages.{messages_from}
use Rattle.p3_lookup.specs.Written.{read_all}
use Rattle.stark_balance.specs.Sender.{sender_over}
use Rattle.stark_balance.proofs.messages.table_messages.Given as goal

abbrev pub invariant-loop-row : goal.invariant-loop-row
invariant-loop-row g l =
    let s = sender_over g.F.RingCore.ring l.main (option_map (λ m. m.now) l.preprocessed) l.public_values (read_all l.lookups) l.buses in
    l.messages.items ≡ flat_map (λ i. messages_from (s.value i) s.bus 0 s.lookups) (tabulate l.row (λ i. i))
