use Rattle.std.proofs.Common.{◌≡◌, ℕ, ◌^◌, inl, inr, sym, ◌∙◌, ap, arith}
use Rattle.std.proofs.lemmas.Option.{MatchOption-at_some}
use Rattle.p3_matrix.specs.Laws.Powers.{power_cancel}
use Rattle.commit_core.specs.Laws.Options.{match_some}
use Rattle.plain_pcs.proofs.committing.coset_of_height.Goals as goal

same_log : (h n k l : ℕ) → h ≡ n → h ≡ 2 ^ k → n ≡ 2 ^ l → l ≡ k
same_log h n k l e p q = power_cancel l k (sym q ∙ (sym e ∙ p))

pub log2_strict_usize-requires : goal.log2_strict_usize-requires
log2_strict_usize-requires g c = (c.requires.0, c.height.ensures.result ∙ c.requires.2)

pub unwrap-requires : goal.unwrap-requires
unwrap-requires g c =
    let log = same_log _ c.height.result c.requires.0 c.log2_strict_usize.result (sym c.height.ensures.result) c.requires.2 c.log2_strict_usize.ensures in
    match_some c.new.result _ _
    (λ p. elim p [
      | inl over ↦ omega (arith, over, c.requires.1, log)
      | inr zero ↦ g.met.F.FieldCore.generator_not_zero (sym c.GENERATOR.ensures ∙ zero)
    ])
    c.new.ensures

pub returns-clause-shift : goal.returns-clause-shift
returns-clause-shift g c =
    let q = MatchOption-at_some _ _ c.unwrap.result c.unwrap.ensures c.new.ensures in
    q.0 ∙ c.GENERATOR.ensures

pub returns-clause-size : goal.returns-clause-size
returns-clause-size g c =
    let q = MatchOption-at_some _ _ c.unwrap.result c.unwrap.ensures c.new.ensures in
    sym c.height.ensures.result ∙ (c.log2_strict_usize.ensures ∙ ap (λ k. 2 ^ k) (sym q.1))
