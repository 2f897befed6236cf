-- Points on the rows of tables.
use Rattle.std.proofs.Common.{◌≡◌, ◌↔◌, ℕ, ◌+◌, ◌<◌, ◌≤◌, ◌⊎◌, inl, inr, Bool, true, false, IsTrue, not, List, length, get_or, map, refl, sym, ◌∙◌, ap, subst, arith}
use Rattle.std.specs.Prelude.{All}
use Rattle.std.proofs.lemmas.Bool.{cases_lt}
use Rattle.std.proofs.lemmas.List.{get_or-map, get_or_default}
use Rattle.p3_field.specs.BabyBear.{baby_bear_inv, baby_bear_ring}
use Rattle.p3_field.specs.Domain.{CosetData, vanishing_polynomial, subgroup}
use Rattle.p3_field.specs.Laws.BabyBearField.{baby_bear_field_laws}
use Rattle.p3_field.specs.Laws.BabyBearLaws.{same_baby_bear}
use Rattle.p3_field.specs.Poly.{eval_poly}
use Rattle.p3_field.specs.Quartic.{of_baby_bear_value, quartic_ring}
use Rattle.p3_field.specs.declared.baby_bear.BabyBear.{BabyBear}
use Rattle.p3_field.specs.declared.quartic.QuarticExtension.{QuarticExtension}
use Rattle.verifier_identity.specs.Identity.{IsInDomain}
use Rattle.transcript_version.specs.declared.TranscriptVersion.TheVariants.{V1}
use Rattle.tool_statement.specs.Config.{tool_setting}
use Rattle.tool_statement.specs.StatedTables.{log_height_of, log_heights_of}
use Rattle.tool_statement.specs.declared.table.TableStatement.{TableStatement}
use Rattle.tool_prover.specs.Outside.{AvoidsRows}

-- the number one is one of the field
pub number_one : (x : BabyBear) → x.value ≡ 1 → x ≡ baby_bear_ring.one
unfolding baby_bear_ring
number_one x e = same_baby_bear x baby_bear_ring.one e

-- subgroups of up to 2^10 elements are there
pub small_subgroup : (log : ℕ) (one : BabyBear) → one ≡ baby_bear_ring.one → log ≤ 10 → (27 < log) ⊎ (one ≡ baby_bear_ring.zero) → ⊥
small_subgroup log one e low absent = elim absent [
  | inl large ↦ omega (arith, large, low)
  | inr none ↦ baby_bear_field_laws.one_differs (sym e ∙ none)
]

-- the point is on a subgroup's rows where the value of its vanishing polynomial is zero
abbrev ValueOf : CosetData BabyBear → QuarticExtension → QuarticExtension → Type 0
ValueOf d x y = y ≡ eval_poly quartic_ring (map of_baby_bear_value (vanishing_polynomial baby_bear_ring baby_bear_inv d)) x

in_subgroup : (d : CosetData BabyBear) (k : ℕ) (x y : QuarticExtension) → d.shift ≡ baby_bear_ring.one → d.log_size ≡ k → ValueOf d x y
    → IsInDomain (tool_setting V1).field (tool_setting V1).extension (subgroup (tool_setting V1).field.ring k) x ↔ (y ≡ quartic_ring.zero)
unfolding tool_setting
in_subgroup d k x y shift size e =
    let same : d ≡ subgroup baby_bear_ring k = λ i. record { shift = shift i; log_size = size i } in
    let f : y ≡ eval_poly quartic_ring (map of_baby_bear_value (vanishing_polynomial baby_bear_ring baby_bear_inv (subgroup baby_bear_ring k))) x = e ∙ ap (λ c. eval_poly quartic_ring (map of_baby_bear_value (vanishing_polynomial baby_bear_ring baby_bear_inv c)) x) same in
    (λ h. f ∙ h, λ h. sym f ∙ h)

-- a test that is denied
false_is : (b : Bool) → IsTrue (not b) → IsTrue b → ⊥
false_is true h k = cc
false_is false h k = cc

not_true : (b : Bool) → (IsTrue b → ⊥) → IsTrue (not b)
not_true true h = absurd (h refl)
not_true false h = refl

pub avoided : (d : CosetData BabyBear) (k : ℕ) (x y : QuarticExtension) (zero : Bool) → d.shift ≡ baby_bear_ring.one → d.log_size ≡ k → ValueOf d x y → IsTrue zero ↔ (y ≡ quartic_ring.zero) → IsTrue (not zero) ↔ AvoidsRows x k
avoided d k x y zero shift size e z =
    let within = in_subgroup d k x y shift size e in
    (λ h w. false_is zero h (z.1 (within.0 w)), λ h. not_true zero (λ t. h (within.1 (z.0 t))))

-- the logarithm of a table's height, in its place
pub height_there : (tables : List TableStatement) (i : ℕ) (t : TableStatement) (k : ℕ) → i < length tables → t ≡ get_or tables i t → k ≡ log_height_of t → get_or (log_heights_of tables) i 0 ≡ k
height_there tables i t k h at e = get_or-map log_height_of tables i t 0 h ∙ (ap log_height_of (sym at) ∙ sym e)

-- a table whose rows the point is on
pub on_some : (x : QuarticExtension) (hs : List ℕ) (i k : ℕ) → i < length hs → get_or hs i 0 ≡ k → (AvoidsRows x k → IsTrue false) → IsTrue false ↔ All (AvoidsRows x) hs
on_some x hs i k h at b = (λ f. absurd (let g : false ≡ true = f in cc), λ all. b (subst (AvoidsRows x) at (all i 0 h)))

-- no table before this one, nor this one
pub one_further : (x : QuarticExtension) (hs : List ℕ) (i k : ℕ) → get_or hs i 0 ≡ k → AvoidsRows x k → ((j : ℕ) → j < i → AvoidsRows x (get_or hs j 0)) → (j : ℕ) → j < i + 1 → AvoidsRows x (get_or hs j 0)
one_further x hs i k at here before j h = elim (cases_lt j i) [
  | inl less ↦ before j less
  | inr more ↦ (let same : i ≡ j = omega (arith, h, more) in subst (λ m. AvoidsRows x (get_or hs m 0)) same (subst (AvoidsRows x) (sym at) here))
]

-- no table at all
pub on_none : (x : QuarticExtension) (hs : List ℕ) (n : ℕ) → length hs ≤ n → ((j : ℕ) → j < n → AvoidsRows x (get_or hs j 0)) → IsTrue true ↔ All (AvoidsRows x) hs
on_none x hs n long before =
    let all : All (AvoidsRows x) hs = λ i d l.
    let same : get_or hs i 0 ≡ get_or hs i d = get_or_default hs i 0 d l in
    subst (AvoidsRows x) same (before i (omega (arith, l, long))) in
    (λ t. all, λ h. refl)
