use Rattle.std.proofs.Common.{◌≡◌, ℕ, ◌++◌, List, [], ◌∷◌, ◌∙◌, ap}
use Rattle.std.specs.Option.{option_map}
use Rattle.std.specs.Prelude.{flat_map}
use Rattle.std.proofs.lemmas.List.{flat_map_more}
use Rattle.p3_field.specs.Laws.Tabulate.{tabulate_more}
use Rattle.p3_field.specs.Poly.{tabulate}
use Rattle.p3_lookup.specs.Messages.{Message, messages_from}
use Rattle.p3_lookup.specs.Written.{read_all}
use Rattle.stark_balance.specs.Sender.{sender_over}
use Rattle.stark_balance.proofs.messages.table_messages.Goals as goal

pub loop-row-preserved : goal.loop-row-preserved
loop-row-preserved g c =
    let s = sender_over g.F.RingCore.ring c.args.main.now (option_map (λ m. m.now) c.args.preprocessed) c.args.public_values.now (read_all c.args.lookups.now) c.args.buses.now in
    let row : ℕ → List (Message g.row.F.Denot) = λ i. messages_from (s.value i) s.bus 0 s.lookups in
    let i = c.loop-row.row in
    let rows = tabulate i (λ j. j) in
    let more : flat_map row rows ++ row i ≡ flat_map row (rows ++ i ∷ []) = flat_map_more row [] rows i in
    c.in_ok-push_row.ensures ∙ ap (λ (l : List (Message g.row.F.Denot)). l ++ row i) c.loop-row.invariant ∙ more ∙ ap (flat_map row) (tabulate_more i (λ j. j))
