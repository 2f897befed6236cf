use Rattle.std.proofs.Common.{◌≡◌, true, false, ◌&&◌, nat_eq}
use Rattle.std.proofs.lemmas.Bool.{and_from, and_parts, eq-eqb, eqb-true}
use Rattle.commit_core.specs.declared.periodic.PeriodicColumnShapeError.{PeriodicColumnShapeError}
use Rattle.commit_core.specs.declared.periodic.PeriodicColumnShapeError.TheVariants.{LengthNotPowerOfTwo, LengthNotDividingHeight}
use Rattle.commit_core.proofs.told.shape_errors_are_told.Goals as goal

apart : {d e : PeriodicColumnShapeError} → (d ≡ e → ⊥) → (false ≡ true → d ≡ e) × (d ≡ e → false ≡ true)
apart n = (λ h. absurd (cc h), λ e. absurd (n e))

pub returns-clause-equality : goal.returns-clause-equality
returns-clause-equality c (LengthNotPowerOfTwo i k) (LengthNotPowerOfTwo j l) = (
  λ h. let p = and_parts (nat_eq i j) (nat_eq k l) h in λ t. LengthNotPowerOfTwo (eqb-true i j p.0 t) (eqb-true k l p.1 t),
  λ h. and_from (nat_eq i j) (nat_eq k l) (eq-eqb i j (cc h)) (eq-eqb k l (cc h)),
)
returns-clause-equality c (LengthNotPowerOfTwo i k) (LengthNotDividingHeight j l m) = apart (λ h. cc h)
returns-clause-equality c (LengthNotDividingHeight i k m) (LengthNotPowerOfTwo j l) = apart (λ h. cc h)
returns-clause-equality c (LengthNotDividingHeight i k m) (LengthNotDividingHeight j l n) = (
  λ h.
      let p = and_parts (nat_eq i j) (nat_eq k l && nat_eq m n) h in
      let q = and_parts (nat_eq k l) (nat_eq m n) p.1 in
      λ t. LengthNotDividingHeight (eqb-true i j p.0 t) (eqb-true k l q.0 t) (eqb-true m n q.1 t),
  λ h.
      and_from (nat_eq i j) (nat_eq k l && nat_eq m n) (eq-eqb i j (cc h))
      (and_from (nat_eq k l) (nat_eq m n) (eq-eqb k l (cc h)) (eq-eqb m n (cc h))),
)
