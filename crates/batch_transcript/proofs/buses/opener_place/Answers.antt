use Rattle.std.proofs.Common.{◌≡◌, ℕ, List, string_bytes, Some, None, ap, sym, subst}
use Rattle.std.specs.Prelude.{bytes_eq}
use Rattle.std.specs.BTreeMap.{get_by_text}
use Rattle.std.specs.Map.{update}
use Rattle.std.specs.Option.{unwrap_or}
use Rattle.std.proofs.lemmas.Map.Text.{btree_map_updates_text}
use Rattle.std.proofs.lemmas.Result.{IfOk-at_ok}
use Rattle.p3_lookup.specs.Written.{bus_of_kind}
use Rattle.batch_transcript.specs.Buses.{OpensBy}
use Rattle.batch_transcript.proofs.Numbered.{update-same}
use Rattle.batch_transcript.proofs.buses.opener_place.Goals as goal

-- the name has a place
pub returns-in-Some : goal.returns-in-Some
returns-in-Some c =
    let f = get_by_text c.args.openers.now in
    let name = string_bytes c.in-Global.name in
    let o = c.in-Some.opener.now in
    let found : f name ≡ Some o = sym (subst (λ bs. Some o ≡ f bs) c.as_str.ensures.value c.in-Some.ensures.value) in
    subst (λ k. OpensBy f (bus_of_kind k) c.args.place o f) (sym c.in-Global.is) (sym (ap (λ r. unwrap_or r c.args.place) found), update-same f name (Some o) found)

-- the name gets its place
pub returns-in_ok-insert-in-Global : goal.returns-in_ok-insert-in-Global
returns-in_ok-insert-in-Global c =
    let f = get_by_text c.args.openers.now in
    let after = get_by_text c.insert.new.self in
    let name = string_bytes c.in-Global.name in
    let i = c.args.place in
    let none : f name ≡ None = sym (subst (λ bs. None ≡ f bs) c.as_str.ensures.value c.in_default.ensures.value) in
    let key = c.in_ok-key-in-Global.key in
    let text = IfOk-at_ok (λ s. string_bytes s ≡ c.as_str-in-Global.result.now) c.in_ok-key-in-Global.was c.from_str.ensures.ok in
    let sets = btree_map_updates_text (string_bytes key) c.args.openers.now c.insert.new.self _ c.in_ok-insert-in-Global.ensures.updates in
    let named = subst (λ bs. string_bytes key ≡ bs) c.as_str-in-Global.ensures.value text in
    subst (λ k. OpensBy f (bus_of_kind k) i i after) (sym c.in-Global.is)
    (sym (ap (λ r. unwrap_or r i) none), subst (λ bs. (q : List ℕ) → after q ≡ update bytes_eq f bs (Some i) q) named sets)
