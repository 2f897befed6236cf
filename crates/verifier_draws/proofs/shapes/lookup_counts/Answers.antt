use Rattle.std.proofs.Common.{◌≡◌, ℕ, List, map, length, IfOk, sym, subst}
use Rattle.std.proofs.lemmas.Simd.{map-map}
use Rattle.p3_lookup.specs.Written.{read_all}
use Rattle.transcript_version.specs.declared.TranscriptVersion.{TranscriptVersion}
use Rattle.verifier_draws.specs.Draws.{lookup_counts_in}
use Rattle.verifier_draws.proofs.shapes.lookup_counts.Goals as goal

pub returns-in-V2 : goal.returns-in-V2
returns-in-V2 g c =
    let lookups = c.args.lookups.now in
    subst (λ (version : TranscriptVersion). IfOk c.numbers_of_lookups.result (λ v. v.items ≡ lookup_counts_in version (map read_all lookups))) (sym c.in-V2.is)
    (subst (λ (ns : List ℕ). IfOk c.numbers_of_lookups.result (λ v. v.items ≡ ns)) (sym (map-map length read_all lookups)) c.numbers_of_lookups.ensures)
