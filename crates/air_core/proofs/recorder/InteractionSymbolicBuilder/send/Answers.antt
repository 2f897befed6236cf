use Rattle.std.proofs.Common.{[], ◌∷◌, sym, subst}
use Rattle.std.specs.Prelude.{string_bytes}
use Rattle.std.specs.Option.{option_map}
use Rattle.std.proofs.lemmas.Result.{IfOk-weaker}
use Rattle.air_core.specs.Recording.{Recording, HasAppended, bus_of}
use Rattle.air_core.specs.Laws.Recording.{appends-send}
use Rattle.air_core.proofs.recorder.InteractionSymbolicBuilder.send.Goals as goal

pub returns-clause-appends : goal.returns-clause-appends
returns-clause-appends g c fs vs h k =
    let old = c.args.self.now in
    let P : Recording g.row.F.Denot → Type 0 = λ r. HasAppended old r [] (record { bus = bus_of (option_map string_bytes c.args.bus); fields = fs; counts = vs } ∷ []) in
    IfOk-weaker _ _ _
    (λ _ e. subst P (sym e) (appends-send old (option_map string_bytes c.args.bus) c.args.fields.now c.args.counts.now fs vs h k))
    c.keep.ensures.sent
