use Rattle.std.proofs.Common.{inl, inr, refl, arith}
use Rattle.p3_field.specs.Laws.Extended.{hom_differs}
use Rattle.p3_field.specs.Laws.TwoAdic.{decide_by}
use Rattle.stark_balance.specs.Laws.Alphas.{few_unlucky_alphas}
use Rattle.stark_balance.specs.Laws.Betas.{few_meetings}
use Rattle.stark_balance.proofs.meanings.few_lookup_pairs_are_unlucky.Goals as goal

pub returns-clause-betas : goal.returns-clause-betas
returns-clause-betas g c width messages T xs apart meet =
    let dec = decide_by g.EF.PartialEq.eq g.met.EF.FieldCore.eq_same g.met.EF.FieldCore.same_eq in
    let dec_below = decide_by g.F.PartialEq.eq g.met.F.FieldCore.eq_same g.met.F.FieldCore.same_eq in
    few_meetings g.F.RingCore.ring g.met.F.RingCore.ring_laws g.EF.RingCore.ring g.met.EF.RingCore.ring_laws g.EF.FieldCore.inv g.met.EF.FieldCore.field_laws dec
    g.EF.ExtensionField.embed g.met.EF.ExtensionField.embed_laws width
    (λ x y w. elim (dec_below x y) [
      | inl s ↦ s
      | inr d ↦ absurd (hom_differs g.F.RingCore.ring g.met.F.RingCore.ring_laws g.EF.RingCore.ring g.met.EF.RingCore.ring_laws g.EF.ExtensionField.embed g.met.EF.ExtensionField.embed_laws
          g.F.FieldCore.inv g.met.F.FieldCore.field_laws g.met.EF.FieldCore.field_laws.one_differs x y d w)
    ])
    g.F.PartialEq.eq g.met.F.FieldCore.eq_same g.met.F.FieldCore.same_eq messages T xs apart meet

pub returns-clause-alphas : goal.returns-clause-alphas
returns-clause-alphas g c width messages beta meet some xs apart unlucky =
    let dec = decide_by g.EF.PartialEq.eq g.met.EF.FieldCore.eq_same g.met.EF.FieldCore.same_eq in
    let dec_below = decide_by g.F.PartialEq.eq g.met.F.FieldCore.eq_same g.met.F.FieldCore.same_eq in
    few_unlucky_alphas g.F.RingCore.ring g.EF.RingCore.ring g.met.EF.RingCore.ring_laws g.EF.FieldCore.inv g.met.EF.FieldCore.field_laws dec
    g.EF.ExtensionField.embed width beta g.met.F.RingCore.ring_laws g.F.PartialEq.eq g.met.F.FieldCore.eq_same g.met.F.FieldCore.same_eq dec_below
    (λ x y w. elim (dec_below x y) [
      | inl s ↦ s
      | inr d ↦ absurd (hom_differs g.F.RingCore.ring g.met.F.RingCore.ring_laws g.EF.RingCore.ring g.met.EF.RingCore.ring_laws g.EF.ExtensionField.embed g.met.EF.ExtensionField.embed_laws
          g.F.FieldCore.inv g.met.F.FieldCore.field_laws g.met.EF.FieldCore.field_laws.one_differs x y d w)
    ])
    g.met.EF.ExtensionField.embed_laws.keeps_zero messages meet some xs apart unlucky

pub returns-clause-balanced : goal.returns-clause-balanced
returns-clause-balanced g c width messages balanced alpha beta unlucky = elim unlucky [ inl z ↦ z | inr m ↦ absurd (m.unbalanced balanced) ]

pub returns-clause-none : goal.returns-clause-none
returns-clause-none g c width alpha beta unlucky = elim unlucky [ inl z ↦ let none = z.1.1 in absurd (omega (arith, none)) | inr m ↦ absurd (m.unbalanced (λ b t. refl)) ]
