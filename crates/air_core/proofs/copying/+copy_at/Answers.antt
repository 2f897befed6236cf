use Rattle.std.proofs.Common.{[], sym, refl, append-nil, rules}
use Rattle.std.specs.Ordering.{nat_cmp}
use Rattle.std.specs.BTreeMap.{get}
use Rattle.air_core.specs.declared.node.Node.TheVariants.{Constant, Base, Extension}
use Rattle.air_core.specs.Laws.Symbolic.{node_is}
use Rattle.air_core.specs.Laws.Copying.{copies-here, copies-both, copies-added, copies-sum, copies-difference, copies-product}
use Rattle.air_core.proofs.copying.+copy_at.Goals as goal

pub returns-in-Some : goal.returns-in-Some
returns-in-Some g t c =
    copies-here c.args.nodes.now c.args.copies.now.items (get nat_cmp c.args.places.now) c.args.place _ c.requires.copied (sym c.in-Some.ensures.value)

pub returns-in-Constant : goal.returns-in-Constant
returns-in-Constant g t c =
    let here = node_is c.args.nodes.now c.args.place _ _ c.requires.ordered c.requires.within c.in-Constant.is in
    let added = c.add_copy.ensures in
    copies-added c.add_copy.result c.args.nodes.now c.args.copies.now.items c.args.copies.now.items c.add_copy.new.copies.items
    (get nat_cmp c.args.places.now) (get nat_cmp c.args.places.now) (get nat_cmp c.add_copy.new.places) c.args.place (Constant c.in-Constant.x) []
    c.requires.copied (sym (append-nil _)) tt (sym here) (sym c.in_default.ensures.value) (λ i l. refl) (λ n l. refl) added.last added.copies added.here added.others

pub returns-in-Base : goal.returns-in-Base
returns-in-Base g t c =
    let here = node_is c.args.nodes.now c.args.place _ _ c.requires.ordered c.requires.within c.in-Base.is in
    let added = c.add_copy-in-Base.ensures in
    copies-added c.add_copy-in-Base.result c.args.nodes.now c.args.copies.now.items c.args.copies.now.items c.add_copy-in-Base.new.copies.items
    (get nat_cmp c.args.places.now) (get nat_cmp c.args.places.now) (get nat_cmp c.add_copy-in-Base.new.places) c.args.place (Base c.in-Base.c) []
    c.requires.copied (sym (append-nil _)) tt (sym here) (sym c.in_default.ensures.value) (λ i l. refl) (λ n l. refl) added.last added.copies added.here added.others

pub returns-in-Extension : goal.returns-in-Extension
returns-in-Extension g t c =
    let here = node_is c.args.nodes.now c.args.place _ _ c.requires.ordered c.requires.within c.in-Extension.is in
    let added = c.add_copy-in-Extension.ensures in
    copies-added c.add_copy-in-Extension.result c.args.nodes.now c.args.copies.now.items c.args.copies.now.items c.add_copy-in-Extension.new.copies.items
    (get nat_cmp c.args.places.now) (get nat_cmp c.args.places.now) (get nat_cmp c.add_copy-in-Extension.new.places) c.args.place (Extension c.in-Extension.c) []
    c.requires.copied (sym (append-nil _)) tt (sym here) (sym c.in_default.ensures.value) (λ i l. refl) (λ n l. refl) added.last added.copies added.here added.others

pub copy_at-requires : goal.copy_at-requires
copy_at-requires g t c κs within =
    let here = node_is c.args.nodes.now c.args.place _ _ c.requires.ordered c.requires.within c.in-Sum.is in
    let earlier = here.0 in
    search rules

pub copy_at-requires-in-Sum : goal.copy_at-requires-in-Sum
copy_at-requires-in-Sum g t c κs within =
    let here = node_is c.args.nodes.now c.args.place _ _ c.requires.ordered c.requires.within c.in-Sum.is in
    let earlier = here.1 in
    let copied = c.in_ok-left-in-Sum.ensures.copied in
    search rules

pub returns-in_ok-right-in-Sum : goal.returns-in_ok-right-in-Sum
returns-in_ok-right-in-Sum g t c =
    let here = node_is c.args.nodes.now c.args.place _ _ c.requires.ordered c.requires.within c.in-Sum.is in
    let added = c.add_copy-in-Sum.ensures in
    let both = copies-both _ _ _ _ (get nat_cmp c.args.places.now) (get nat_cmp c.copy_at.new.places) (get nat_cmp c.copy_at-in-Sum.new.places) _ _ _ _ c.in_ok-left-in-Sum.ensures c.in_ok-right-in-Sum.ensures in
    copies-sum c.add_copy-in-Sum.result c.args.nodes.now c.args.copies.now.items c.copy_at-in-Sum.new.copies.items c.add_copy-in-Sum.new.copies.items
    (get nat_cmp c.args.places.now) (get nat_cmp c.copy_at-in-Sum.new.places) (get nat_cmp c.add_copy-in-Sum.new.places) c.args.place c.in-Sum.x c.in-Sum.y _ _
    both here (sym c.in_default.ensures.value) added.last added.copies added.here added.others

pub copy_at-requires-in-Difference : goal.copy_at-requires-in-Difference
copy_at-requires-in-Difference g t c κs within =
    let here = node_is c.args.nodes.now c.args.place _ _ c.requires.ordered c.requires.within c.in-Difference.is in
    let earlier = here.0 in
    search rules

pub copy_at-requires-in-Difference-2 : goal.copy_at-requires-in-Difference-2
copy_at-requires-in-Difference-2 g t c κs within =
    let here = node_is c.args.nodes.now c.args.place _ _ c.requires.ordered c.requires.within c.in-Difference.is in
    let earlier = here.1 in
    let copied = c.in_ok-left-in-Difference.ensures.copied in
    search rules

pub returns-in_ok-right-in-Difference : goal.returns-in_ok-right-in-Difference
returns-in_ok-right-in-Difference g t c =
    let here = node_is c.args.nodes.now c.args.place _ _ c.requires.ordered c.requires.within c.in-Difference.is in
    let added = c.add_copy-in-Difference.ensures in
    let both = copies-both _ _ _ _ (get nat_cmp c.args.places.now) (get nat_cmp c.copy_at-in-Difference.new.places) (get nat_cmp c.copy_at-in-Difference-2.new.places) _ _ _ _ c.in_ok-left-in-Difference.ensures c.in_ok-right-in-Difference.ensures in
    copies-difference c.add_copy-in-Difference.result c.args.nodes.now c.args.copies.now.items c.copy_at-in-Difference-2.new.copies.items c.add_copy-in-Difference.new.copies.items
    (get nat_cmp c.args.places.now) (get nat_cmp c.copy_at-in-Difference-2.new.places) (get nat_cmp c.add_copy-in-Difference.new.places) c.args.place c.in-Difference.x c.in-Difference.y _ _
    both here (sym c.in_default.ensures.value) added.last added.copies added.here added.others

pub copy_at-requires-in-Product : goal.copy_at-requires-in-Product
copy_at-requires-in-Product g t c κs within =
    let here = node_is c.args.nodes.now c.args.place _ _ c.requires.ordered c.requires.within c.in-Product.is in
    let earlier = here.0 in
    search rules

pub copy_at-requires-in-Product-2 : goal.copy_at-requires-in-Product-2
copy_at-requires-in-Product-2 g t c κs within =
    let here = node_is c.args.nodes.now c.args.place _ _ c.requires.ordered c.requires.within c.in-Product.is in
    let earlier = here.1 in
    let copied = c.in_ok-left-in-Product.ensures.copied in
    search rules

pub returns-in_ok-right-in-Product : goal.returns-in_ok-right-in-Product
returns-in_ok-right-in-Product g t c =
    let here = node_is c.args.nodes.now c.args.place _ _ c.requires.ordered c.requires.within c.in-Product.is in
    let added = c.add_copy-in-Product.ensures in
    let both = copies-both _ _ _ _ (get nat_cmp c.args.places.now) (get nat_cmp c.copy_at-in-Product.new.places) (get nat_cmp c.copy_at-in-Product-2.new.places) _ _ _ _ c.in_ok-left-in-Product.ensures c.in_ok-right-in-Product.ensures in
    copies-product c.add_copy-in-Product.result c.args.nodes.now c.args.copies.now.items c.copy_at-in-Product-2.new.copies.items c.add_copy-in-Product.new.copies.items
    (get nat_cmp c.args.places.now) (get nat_cmp c.copy_at-in-Product-2.new.places) (get nat_cmp c.add_copy-in-Product.new.places) c.args.place c.in-Product.x c.in-Product.y _ _
    both here (sym c.in_default.ensures.value) added.last added.copies added.here added.others
