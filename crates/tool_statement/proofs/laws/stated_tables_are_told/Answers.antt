use Rattle.std.proofs.Common.{◌≡◌, true, false, ◌&&◌, nat_eq, ap}
use Rattle.std.proofs.lemmas.Bool.{and_from, and_parts, eq-eqb, eqb-true}
use Rattle.p3_field.specs.Laws.BabyBearField.{baby_bear_same_eq}
use Rattle.p3_field.specs.declared.baby_bear.BabyBear.{BabyBear}
use Rattle.tool_statement.specs.declared.table.TableStatement.{TableStatement}
use Rattle.tool_statement.specs.declared.table.TableStatement.TheVariants.{Swap, Wheel, Take, Give, Hash}
use Rattle.tool_statement.proofs.laws.stated_tables_are_told.Goals as goal

apart : {s t : TableStatement} → (s ≡ t → ⊥) → (false ≡ true → s ≡ t) × (s ≡ t → false ≡ true)
apart n = (λ h. absurd (cc h), λ e. absurd (n e))

value_same : (x y : BabyBear) → x ≡ y → nat_eq x.value y.value ≡ true
value_same x y e = eq-eqb x.value y.value (ap (λ (w : BabyBear). w.value) e)

pub returns-clause-equality : goal.returns-clause-equality
returns-clause-equality c (Swap k a b x) (Swap l d e y) = (
  λ h.
      let p = and_parts (nat_eq k l) (nat_eq a.value d.value && (nat_eq b.value e.value && nat_eq x.value y.value)) h in
      let q = and_parts (nat_eq a.value d.value) (nat_eq b.value e.value && nat_eq x.value y.value) p.1 in
      let r = and_parts (nat_eq b.value e.value) (nat_eq x.value y.value) q.1 in
      λ i. Swap (eqb-true k l p.0 i) (baby_bear_same_eq a d q.0 i) (baby_bear_same_eq b e r.0 i) (baby_bear_same_eq x y r.1 i),
  λ h.
      and_from (nat_eq k l) (nat_eq a.value d.value && (nat_eq b.value e.value && nat_eq x.value y.value)) (eq-eqb k l (cc h))
      (and_from (nat_eq a.value d.value) (nat_eq b.value e.value && nat_eq x.value y.value) (value_same a d (cc h))
      (and_from (nat_eq b.value e.value) (nat_eq x.value y.value) (value_same b e (cc h)) (value_same x y (cc h)))),
)
returns-clause-equality c (Swap k a b x) (Wheel l) = apart (λ h. cc h)
returns-clause-equality c (Swap k a b x) (Take l) = apart (λ h. cc h)
returns-clause-equality c (Swap k a b x) (Give l) = apart (λ h. cc h)
returns-clause-equality c (Swap k a b x) (Hash l) = apart (λ h. cc h)
returns-clause-equality c (Wheel k) (Swap l d e y) = apart (λ h. cc h)
returns-clause-equality c (Wheel k) (Wheel l) = (λ h i. Wheel (eqb-true k l h i), λ h. eq-eqb k l (cc h))
returns-clause-equality c (Wheel k) (Take l) = apart (λ h. cc h)
returns-clause-equality c (Wheel k) (Give l) = apart (λ h. cc h)
returns-clause-equality c (Wheel k) (Hash l) = apart (λ h. cc h)
returns-clause-equality c (Take k) (Swap l d e y) = apart (λ h. cc h)
returns-clause-equality c (Take k) (Wheel l) = apart (λ h. cc h)
returns-clause-equality c (Take k) (Take l) = (λ h i. Take (eqb-true k l h i), λ h. eq-eqb k l (cc h))
returns-clause-equality c (Take k) (Give l) = apart (λ h. cc h)
returns-clause-equality c (Take k) (Hash l) = apart (λ h. cc h)
returns-clause-equality c (Give k) (Swap l d e y) = apart (λ h. cc h)
returns-clause-equality c (Give k) (Wheel l) = apart (λ h. cc h)
returns-clause-equality c (Give k) (Take l) = apart (λ h. cc h)
returns-clause-equality c (Give k) (Give l) = (λ h i. Give (eqb-true k l h i), λ h. eq-eqb k l (cc h))
returns-clause-equality c (Give k) (Hash l) = apart (λ h. cc h)
returns-clause-equality c (Hash k) (Swap l d e y) = apart (λ h. cc h)
returns-clause-equality c (Hash k) (Wheel l) = apart (λ h. cc h)
returns-clause-equality c (Hash k) (Take l) = apart (λ h. cc h)
returns-clause-equality c (Hash k) (Give l) = apart (λ h. cc h)
returns-clause-equality c (Hash k) (Hash l) = (λ h i. Hash (eqb-true k l h i), λ h. eq-eqb k l (cc h))
