use Rattle.std.proofs.Common.{◌≡◌, ℕ, ◌<◌, List, None, map, take, get_or, sym, ◌∙◌, ap, subst}
use Rattle.std.specs.Prelude.{Option}
use Rattle.air_core.specs.Shape.{Declaration, width_of}
use Rattle.air_core.specs.Laws.Reads.{not_true}
use Rattle.batch_statement.specs.declared.preprocessed.PreprocessedInstanceMeta.{PreprocessedInstanceMeta}
use Rattle.batch_statement.specs.Statement.{PreprocessedTracesData, HasEntryOf, IsPlaced, with_entry}
use Rattle.batch_statement.proofs.entries.traces_fit.Goals as goal

-- what tests of two lists say of the traces' own
along : {X Y : Type 0} (P : X → Y → Type 0) (x y : X) (u v : Y) → x ≡ y → u ≡ v → P x u → P y v
along P x y u v e d p = subst (P y) d (subst (λ z. P z u) e p)

back : {X Y : Type 0} (P : X → Y → Type 0) (x y : X) (u v : Y) → x ≡ y → u ≡ v → P y v → P x u
back P x y u v e d p = subst (P x) (sym d) (subst (λ z. P z v) (sym e) p)

pub returns-then-not-have_entries : goal.returns-then-not-have_entries
returns-then-not-have_entries g c =
    let P : List (Option PreprocessedInstanceMeta) → Type 0 = λ es. (k : ℕ) → k < c.args.n → (d : Declaration g.row.F.Denot) → HasEntryOf (width_of (get_or (map g.A.BaseAir.declaration c.args.airs.now) k d).preprocessed) (get_or es k None) in
    let own = c.deref-3.ensures.value ∙ ap (λ (t : PreprocessedTracesData g.row.Com.Denot). t.instances) c.traces.view_is in (
      (λ h. absurd (not_true h)),
      λ h. sym c.if-not-have_entries.true ∙ c.have_entries.ensures.1 (subst P (sym own) h.entries),
    )

pub returns-then-not-are_placed : goal.returns-then-not-are_placed
returns-then-not-are_placed g c =
    let P : List ℕ → List (Option PreprocessedInstanceMeta) → Type 0 = λ ls es. (k : ℕ) → k < c.args.n → IsPlaced ls k (get_or es k None) in
    let own = c.deref-5.ensures.value ∙ ap (λ (t : PreprocessedTracesData g.row.Com.Denot). t.instances) c.traces.view_is in
    let listed = c.deref-4.ensures.value ∙ ap (λ (t : PreprocessedTracesData g.row.Com.Denot). t.matrix_to_instance) c.traces.view_is in (
      (λ h. absurd (not_true h)),
      λ h. sym c.if-not-are_placed.true ∙ c.are_placed.ensures.1 (back P _ _ _ _ listed own h.places),
    )

pub returns : goal.returns
returns g c =
    let P : List (Option PreprocessedInstanceMeta) → Type 0 = λ es. (k : ℕ) → k < c.args.n → (d : Declaration g.row.F.Denot) → HasEntryOf (width_of (get_or (map g.A.BaseAir.declaration c.args.airs.now) k d).preprocessed) (get_or es k None) in
    let Q : List ℕ → List (Option PreprocessedInstanceMeta) → Type 0 = λ ls es. (k : ℕ) → k < c.args.n → IsPlaced ls k (get_or es k None) in
    let R : List ℕ → List (Option PreprocessedInstanceMeta) → Type 0 = λ ls es. ls ≡ with_entry 0 (take c.args.n es) in
    let view = c.traces.view_is in
    let instances = ap (λ (t : PreprocessedTracesData g.row.Com.Denot). t.instances) view in
    let matrices = ap (λ (t : PreprocessedTracesData g.row.Com.Denot). t.matrix_to_instance) view in
    let entries = subst P (c.deref-3.ensures.value ∙ instances) (c.have_entries.ensures.0 c.if-not-have_entries.false) in
    let places = along Q _ _ _ _ (c.deref-4.ensures.value ∙ matrices) (c.deref-5.ensures.value ∙ instances) (c.are_placed.ensures.0 c.if-not-are_placed.false) in (
      (λ h. record { entries = entries; listed = along R _ _ _ _ (c.deref.ensures.value ∙ matrices) (c.deref-2.ensures.value ∙ instances) (c.in_ok-listed.ensures.0 h); places = places }),
      λ h. c.in_ok-listed.ensures.1 (back R _ _ _ _ (c.deref.ensures.value ∙ matrices) (c.deref-2.ensures.value ∙ instances) h.listed),
    )
