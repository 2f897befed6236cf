-- The domains of a batch's quotients, by tables.
use Rattle.std.proofs.Common.{◌≡◌, ℕ, ◌+◌, ◌^◌, ◌<◌, ◌≤◌, List, [], length, get_or, sym, ◌∙◌, ap, subst}
use Rattle.p3_field.specs.Domain.{CosetData}
use Rattle.p3_field.specs.Field.{TwoAdic, FieldLaws, TwoAdicLaws}
use Rattle.p3_field.specs.Laws.Tabulate.{get_or-tabulate, length-tabulate}
use Rattle.p3_field.specs.Poly.{tabulate}
use Rattle.p3_field.specs.Ring.{RingLaws}
use Rattle.p3_uni_stark.specs.Recombine.{AllDisjoint}
use Rattle.batch_config.specs.Domains.{chunks_over}
use Rattle.verifier_identity.proofs.Chunks.{chunks_count, chunks_disjoint}

module _ {F : Type 0} (f : TwoAdic F) (masks n : ℕ) (bits chunks : ℕ → ℕ) (domains : List (List (CosetData F)))
    (are : domains ≡ tabulate n (λ i. chunks_over f.ring f.root f.generator masks (bits i) (chunks i))) where
  pub domains_number : length domains ≡ n
  domains_number = ap length are ∙ length-tabulate n (λ i. chunks_over f.ring f.root f.generator masks (bits i) (chunks i))

  domains_here : (i : ℕ) → i < n → get_or domains i [] ≡ chunks_over f.ring f.root f.generator masks (bits i) (chunks i)
  domains_here i l = ap (λ ds. get_or ds i []) are ∙ get_or-tabulate n (λ i. chunks_over f.ring f.root f.generator masks (bits i) (chunks i)) i [] l

  -- how many domains a table has
  pub domains_count : (i : ℕ) → i < n → length (get_or domains i []) ≡ 2 ^ (chunks i + masks)
  domains_count i l = ap length (domains_here i l) ∙ chunks_count f masks (bits i) (chunks i)

  -- they share no point
  pub domains_disjoint : (L : RingLaws f.ring) (W : FieldLaws f.ring f.inv) (top : ℕ) (T : TwoAdicLaws f.ring top f.root) → (f.generator ≡ f.ring.zero → ⊥) → (i : ℕ) → i < n → masks ≤ bits i → bits i + chunks i ≤ top
      → AllDisjoint f (get_or domains i [])
  domains_disjoint L W top T unit i l low fits = subst (AllDisjoint f) (sym (domains_here i l)) (chunks_disjoint f masks (bits i) (chunks i) L W top T unit low fits)
