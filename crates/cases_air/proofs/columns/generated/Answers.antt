use Rattle.std.proofs.Common.{ℕ, ◌<◌, refl, subst, sym, lit<}
use Rattle.cases_air.proofs.Taken.{all_taken}
use Rattle.cases_air.proofs.columns.generated.Goals as goal

pub generate_permutation-requires-clause-lookups : goal.generate_permutation-requires-clause-lookups
generate_permutation-requires-clause-lookups c =
    let P : ℕ → Type 0 = λ n. 0 < n in
    all_taken _ (record { column = subst P (sym c.requires.column) (lit< tt); next = refl }) c.args.lookups.now c.requires.taken
