-- The domain that is offered for a quotient, and its parts, as data.
use Rattle.std.proofs.Common.{◌≡◌, ℕ, ◌+◌, ◌-◌, ◌^◌, ◌≤◌, List, get_or, ◌∙◌, ap, arith}
use Rattle.std.proofs.lemmas.Nat.{pow-add}
use Rattle.std.proofs.lemmas.Option.{slice_get-get_or}
use Rattle.p3_field.specs.Ring.{Ring}
use Rattle.p3_field.specs.Domain.{CosetData, point}
use Rattle.p3_field.specs.Laws.Tabulate.{tabulate_items, tabulate_same}
use Rattle.p3_matrix.specs.Laws.Powers.{power_cancel, power_le_cancel}
use Rattle.commit_core.specs.Space.{EachOf, IsPart, IsOffered}
use Rattle.batch_config.specs.Domains.{offered, parts_of}

-- a part of a domain that is split in 2^k
part_is : {F : Type 0} (r : Ring F) (root : ℕ → F) (d : CosetData F) (k i : ℕ) (e : CosetData F) → IsPart r root d (2 ^ k) i e
    → e ≡ record { shift = point r root d i; log_size = d.log_size - k }
part_is r root d k i e p =
    let s : 2 ^ (e.log_size + k) ≡ 2 ^ d.log_size = pow-add 2 e.log_size k ∙ p.size_is in
    let n = power_cancel (e.log_size + k) d.log_size s in
    let m : e.log_size ≡ d.log_size - k = omega arith in
    λ j. record { shift = p.shift_is j; log_size = m j }

-- all of them, as a list
parts_are : {F : Type 0} (r : Ring F) (root : ℕ → F) (d : CosetData F) (k : ℕ) (es : List (CosetData F)) → EachOf (2 ^ k) es (IsPart r root d (2 ^ k))
    → es ≡ parts_of r root d k
parts_are r root d k es e =
    let z = record d { log_size = 0 } in
    tabulate_items z es (2 ^ k) e.count
    ∙ tabulate_same (2 ^ k) (λ i. get_or es i z) (λ i. record { shift = point r root d i; log_size = d.log_size - k })
    (λ i b. part_is r root d k i (get_or es i z) (e.each i (get_or es i z) (slice_get-get_or es i z (omega (arith, e.count)))))

-- the domain that is offered with 2^(log + k) points
offered_is : {F : Type 0} (r : Ring F) (generator : F) (d : CosetData F) (k : ℕ) (e : CosetData F) → IsOffered r generator d (2 ^ (d.log_size + k)) e → e ≡ offered r generator d k
offered_is r generator d k e o =
    let low : d.log_size + k ≤ e.log_size = power_le_cancel (d.log_size + k) e.log_size o.enough in
    let high : e.log_size ≤ d.log_size + k = o.least (d.log_size + k) (omega arith) in
    let m : e.log_size ≡ d.log_size + k = omega arith in
    λ j. record { shift = o.shift_is j; log_size = m j }

-- its parts
pub offered_parts : {F : Type 0} (r : Ring F) (root : ℕ → F) (generator : F) (d : CosetData F) (k l : ℕ) (es : List (CosetData F))
    → (e : CosetData F) × IsOffered r generator d (2 ^ (d.log_size + k)) e × EachOf (2 ^ l) es (IsPart r root e (2 ^ l)) → es ≡ parts_of r root (offered r generator d k) l
offered_parts r root generator d k l es p = parts_are r root p.0 l es p.2 ∙ ap (λ e. parts_of r root e l) (offered_is r generator d k p.0 p.1)
