use Rattle.std.proofs.Common.{◌≡◌, List, [], ◌∷◌, ◌++◌, map, refl, sym, ◌∙◌, ap, subst}
use Rattle.std.specs.List.{flat_map}
use Rattle.p3_lookup.specs.Bus.{HaveOneWidth}
use Rattle.p3_lookup.specs.Lookup.{LookupData, lookups_of}
use Rattle.p3_lookup.specs.Written.{Written, read_all}
use Rattle.batch_statement.proofs.air_widths.airs_have_one_width.Goals as goal

-- lists that are given along a map, put together
joined : {X Y : Type 0} (f : X → List Y) (xs : List X) → flat_map (λ ys. ys) (map f xs) ≡ flat_map f xs
joined f [] = refl
joined f (x ∷ xs) = ap (λ ys. f x ++ ys) (joined f xs)

pub returns : goal.returns
returns g c =
    let whole : flat_map (λ (ls : List (LookupData g.row.F.Denot)). ls) (map read_all c.deref.result.now) ≡ flat_map (λ (ls : List (LookupData g.row.F.Denot)). ls) (map read_all c.in_ok-tables.tables.items) =
    ap (λ (l : List (List (Written g.row.F.Denot))). flat_map (λ (ls : List (LookupData g.row.F.Denot)). ls) (map read_all l)) c.deref.ensures.value in
    let same : flat_map (λ (ls : List (LookupData g.row.F.Denot)). ls) (map read_all c.deref.result.now) ≡ flat_map (λ a. lookups_of (g.A.Air.interactions a)) c.args.airs.now =
    whole ∙ (ap (λ (l : List (List (LookupData g.row.F.Denot))). flat_map (λ ls. ls) l) c.in_ok-tables.ensures ∙ joined (λ a. lookups_of (g.A.Air.interactions a)) c.args.airs.now) in
    let told = c.have_one_width.ensures in
    ((λ h. subst HaveOneWidth same (told.0 h)), λ h. told.1 (subst HaveOneWidth (sym same) h))
