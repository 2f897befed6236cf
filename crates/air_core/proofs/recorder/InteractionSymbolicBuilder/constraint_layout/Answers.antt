use Rattle.std.proofs.Common.{◌++◌, ℕ, true, false, sym, subst}
use Rattle.air_core.specs.Layout.{HasEachOnce}
use Rattle.air_core.specs.Recording.{indices_from}
use Rattle.air_core.specs.Laws.Recording.{indices-below, indices_from-both}
use Rattle.air_core.specs.Laws.Places.{lists_once, their_places}
use Rattle.air_core.proofs.recorder.InteractionSymbolicBuilder.constraint_layout.Goals as goal

pub returns-clause-total : goal.returns-clause-total
returns-clause-total g c =
    rw (c.in_ok-base_indices.ensures, c.in_ok-ext_indices.ensures, c.deref.ensures.value, c.deref-2.ensures.value, ← c.self.view_is)
    (indices_from-both 0 0 c.self.inside.asserted.items)

pub returns-clause-once : goal.returns-clause-once
returns-clause-once g c =
    let xs = c.self.inside.asserted.items in
    let P : ℕ → Type 0 = λ n. HasEachOnce n (indices_from false 0 xs ++ indices_from true 0 xs) in
    rw (c.in_ok-base_indices.ensures, c.in_ok-ext_indices.ensures, c.deref.ensures.value, c.deref-2.ensures.value)
    (subst P (sym (indices_from-both 0 0 xs)) (lists_once xs))

pub returns-clause-base_places : goal.returns-clause-base_places
returns-clause-base_places g c =
    rw (c.in_ok-base_indices.ensures, c.deref.ensures.value, ← c.self.view_is) (their_places false c.self.inside.asserted.items)

pub returns-clause-extension_places : goal.returns-clause-extension_places
returns-clause-extension_places g c =
    rw (c.in_ok-ext_indices.ensures, c.deref-2.ensures.value, ← c.self.view_is) (their_places true c.self.inside.asserted.items)

pub returns-clause-base_below : goal.returns-clause-base_below
returns-clause-base_below g c =
    rw (c.in_ok-base_indices.ensures, c.deref.ensures.value, ← c.self.view_is) (indices-below false c.self.inside.asserted.items)

pub returns-clause-extension_below : goal.returns-clause-extension_below
returns-clause-extension_below g c =
    rw (c.in_ok-ext_indices.ensures, c.deref-2.ensures.value, ← c.self.view_is) (indices-below true c.self.inside.asserted.items)
