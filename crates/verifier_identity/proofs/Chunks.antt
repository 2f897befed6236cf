-- The domains of a quotient's chunks share no point.
use Rattle.std.proofs.Common.{◌≡◌, ℕ, ◌+◌, ◌-◌, ◌*◌, ◌^◌, ◌<◌, ◌≤◌, Some, length, refl, sym, ◌∙◌, ap, subst, arith}
use Rattle.std.specs.Prelude.{slice_get}
use Rattle.std.proofs.lemmas.Nat.{pow-add}
use Rattle.std.proofs.lemmas.Option.{get_or_from_slice_get, slice_get_within}
use Rattle.p3_field.specs.Domain.{CosetData, point, subgroup}
use Rattle.p3_field.specs.Field.{TwoAdic, FieldLaws, TwoAdicLaws}
use Rattle.p3_field.specs.Laws.Algebra.{one_mul}
use Rattle.p3_field.specs.Laws.Tabulate.{get_or-tabulate, length-tabulate}
use Rattle.p3_field.specs.Poly.{tabulate}
use Rattle.p3_field.specs.Ring.{RingLaws}
use Rattle.commit_core.specs.Space.{EachOf, IsPart}
use Rattle.p3_uni_stark.specs.Laws.Parts.{parts_all_disjoint}
use Rattle.p3_uni_stark.specs.Recombine.{AllDisjoint}
use Rattle.batch_config.specs.Domains.{chunks_over, offered}

-- the item of a table at a place
item_is : {X : Type 0} (n : ℕ) (t : ℕ → X) (i : ℕ) (x : X) → slice_get (tabulate n t) i ≡ Some x → t i ≡ x
item_is n t i x e =
    let within = slice_get_within (tabulate n t) i x e in
    let low : i < n = omega (arith, within, length-tabulate n t) in
    sym (get_or-tabulate n t i x low) ∙ get_or_from_slice_get (tabulate n t) i x x e

parts_size : (m k : ℕ) → k ≤ m → 2 ^ (m - k) * 2 ^ k ≡ 2 ^ m
parts_size m k h =
    let a = m - k in
    let s : a + k ≡ m = omega (arith, h) in
    sym (pow-add 2 a k) ∙ ap (λ j. 2 ^ j) s

module _ {F : Type 0} (f : TwoAdic F) (masks bits chunks : ℕ) where
  pub chunks_count : length (chunks_over f.ring f.root f.generator masks bits chunks) ≡ 2 ^ (chunks + masks)
  chunks_count =
      let whole = offered f.ring f.generator (subgroup f.ring bits) chunks in
      length-tabulate (2 ^ (chunks + masks)) (λ i. record { shift = point f.ring f.root whole i; log_size = whole.log_size - (chunks + masks) })

  chunks_parts : masks ≤ bits
      → EachOf (2 ^ (chunks + masks)) (chunks_over f.ring f.root f.generator masks bits chunks) (IsPart f.ring f.root (offered f.ring f.generator (subgroup f.ring bits) chunks) (2 ^ (chunks + masks)))
  chunks_parts low =
      let whole : CosetData F = offered f.ring f.generator (subgroup f.ring bits) chunks in
      let part : ℕ → CosetData F = λ i. record { shift = point f.ring f.root whole i; log_size = whole.log_size - (chunks + masks) } in
      let size = parts_size (bits + chunks) (chunks + masks) (omega (arith, low)) in
      record {
        count = chunks_count;
        each = λ i x at. subst (IsPart f.ring f.root whole (2 ^ (chunks + masks)) i) (item_is (2 ^ (chunks + masks)) part i x at) (record { shift_is = refl; size_is = size });
      }

  pub chunks_disjoint : (L : RingLaws f.ring) (W : FieldLaws f.ring f.inv) (top : ℕ) (T : TwoAdicLaws f.ring top f.root) → (f.generator ≡ f.ring.zero → ⊥) → masks ≤ bits → bits + chunks ≤ top
      → AllDisjoint f (chunks_over f.ring f.root f.generator masks bits chunks)
  chunks_disjoint L W top T unit low fits =
      parts_all_disjoint f L W top T (offered f.ring f.generator (subgroup f.ring bits) chunks) (λ z. unit (sym (one_mul f.ring L f.generator) ∙ z)) fits
      (2 ^ (chunks + masks)) (chunks_over f.ring f.root f.generator masks bits chunks) (chunks_parts low)
