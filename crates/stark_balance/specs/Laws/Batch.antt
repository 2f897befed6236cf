-- Where the constraints of the lookups of a batch vanish and its terminals sum to zero, nothing is left over, or the challenges are unlucky.
use Rattle.std.proofs.Common.{◌≡◌, ℕ, zero, suc, ◌+◌, ◌*◌, ◌<◌, ◌⊎◌, inl, inr, Bool, true, List, [], ◌∷◌, length, get_or, refl, sym, ◌∙◌, ap, subst, arith}
use Rattle.std.specs.Prelude.{All, flat_map, Option, None, option_to_list}
use Rattle.p3_field.specs.Ring.{Ring, RingLaws}
use Rattle.p3_field.specs.Field.{FieldLaws, RingHom}
use Rattle.p3_field.specs.Poly.{tabulate}
use Rattle.p3_field.specs.Laws.Sums.{total_same, total_zero}
use Rattle.p3_lookup.specs.Lookup.{LookupData}
use Rattle.p3_lookup.specs.Term.{sum_of}
use Rattle.p3_lookup.specs.Honest.{row_fractions, running_sum}
use Rattle.p3_lookup.specs.Messages.{Message, Sender, HasBases, messages_from, table_messages, batch_messages, message_denominator, argument_of}
use Rattle.p3_lookup.specs.Laws.Messages.{weights, weights_append, row_weights, rows_weights}
use Rattle.p3_lookup.specs.Laws.Terms.{sum_append}
use Rattle.stark_balance.specs.Batch.{IsVanishingTable, VanishingBatchBalances}
use Rattle.stark_balance.specs.Laws.Sums.{some_or_none, balanced_or_unlucky, table_inverses, IsInvertible}
use Rattle.stark_balance.specs.Laws.Vanishing.{split_all, vanishing_sum}

-- the sum of all fractions of a table is that over its messages, whatever list has the bases of its buses
module _ {F E : Type 0} (e : Ring E) (L : RingLaws e) (inv : E → E) (embed : F → E) (base : ℕ → E) (beta : E) where
  pub terminal_weights : (s : Sender F) (challenges : List E) → HasBases e.zero base beta s.bus (length s.lookups) challenges
      → running_sum (argument_of e inv embed challenges s) s.rows ≡ weights e L inv embed base beta (table_messages s)
  terminal_weights s challenges B =
      let ms = λ (i : ℕ). messages_from (s.value i) s.bus 0 s.lookups in
      total_same e L s.rows (λ i. sum_of e (row_fractions (argument_of e inv embed challenges s) i)) (λ i. weights e L inv embed base beta (ms i))
      (λ i lt. row_weights e L inv embed base beta challenges (s.value i) s.bus 0 s.lookups (λ k h. at k h))
      ∙ rows_weights e L inv embed base beta s.rows (λ i. i) ms
    where
      at : (k : ℕ) → k < length s.lookups → (get_or challenges (2 * (0 + k)) e.zero ≡ base (s.bus (0 + k))) × (get_or challenges (2 * (0 + k) + 1) e.zero ≡ beta)
      at k h =
          let q : k ≡ 0 + k = omega arith in
          let P : ℕ → Type 0 = λ j. (get_or challenges (2 * j) e.zero ≡ base (s.bus j)) × (get_or challenges (2 * j + 1) e.zero ≡ beta) in
          subst P q (B.bases k h, B.betas k h)

  -- a table without lookups sends nothing
  no_messages : (s : Sender F) → length s.lookups ≡ 0 → weights e L inv embed base beta (table_messages s) ≡ e.zero
  no_messages s h = of s.lookups h
    where
      of : (ls : List (LookupData F)) → length ls ≡ 0 → weights e L inv embed base beta (flat_map (λ i. messages_from (s.value i) s.bus 0 ls) (tabulate s.rows (λ i. i))) ≡ e.zero
      of [] h = sym (rows_weights e L inv embed base beta s.rows (λ i. i) (λ i. [])) ∙ total_zero e L s.rows (λ i. e.zero) (λ i lt. refl)
      of (l ∷ ls) h = absurd (omega (arith, h))

module _ {F E : Type 0} (f : Ring F) (fL : RingLaws f) (eq : F → F → Bool) (eq_same : (x y : F) → eq x y ≡ true → x ≡ y) (same_eq : (x : F) → eq x x ≡ true) (dec_below : (x y : F) → (x ≡ y) ⊎ (x ≡ y → ⊥))
    (e : Ring E) (L : RingLaws e) (inv : E → E) (W : FieldLaws e inv) (dec : (x y : E) → (x ≡ y) ⊎ (x ≡ y → ⊥)) (embed : F → E) (H : RingHom f e embed) (base : ℕ → E) (beta : E) where
  -- the terminal of one table
  table_sum : (s : Sender F) (terminal : Option E) → IsVanishingTable f e inv embed base beta s terminal → All (IsInvertible e inv embed base beta) (table_messages s)
      → sum_of e (option_to_list terminal) ≡ weights e L inv embed base beta (table_messages s)
  table_sum s terminal T d = of (length s.lookups) refl
    where
      of : (n : ℕ) → length s.lookups ≡ n → sum_of e (option_to_list terminal) ≡ weights e L inv embed base beta (table_messages s)
      of zero h = ap (λ t. sum_of e (option_to_list t)) (T.without h) ∙ sym (no_messages e L inv embed base beta s h)
      of (suc n) h =
          let some : 0 < length s.lookups = omega (arith, h) in
          let w = T.with_lookups some in
          let p = argument_of e inv embed T.challenges s in
          ap (λ t. sum_of e (option_to_list t)) w.3
          ∙ L.add_zero w.0
          ∙ vanishing_sum f embed p L W H s.rows w.0 w.1 w.2 T.some_rows some w.4 (table_inverses e inv embed base beta s T.challenges T.bases d)
          ∙ terminal_weights e L inv embed base beta s T.challenges T.bases

  batch_sum : (ss : List (Sender F)) (terminals : List (Option E)) → length terminals ≡ length ss
      → ((k : ℕ) (d : Sender F) → k < length ss → IsVanishingTable f e inv embed base beta (get_or ss k d) (get_or terminals k None))
      → All (IsInvertible e inv embed base beta) (batch_messages ss) → sum_of e (flat_map option_to_list terminals) ≡ weights e L inv embed base beta (batch_messages ss)
  batch_sum [] [] l T d = refl
  batch_sum [] (t ∷ ts) l T d = absurd (omega (arith, l))
  batch_sum (s ∷ ss) [] l T d = absurd (omega (arith, l))
  batch_sum (s ∷ ss) (t ∷ ts) l T d =
      let p = split_all (IsInvertible e inv embed base beta) (table_messages s) (batch_messages ss) d in
      sum_append e L (option_to_list t) (flat_map option_to_list ts)
      ∙ ap (λ x. e.add x (sum_of e (flat_map option_to_list ts))) (table_sum s t (T 0 s (omega arith)) p.0)
      ∙ ap (e.add (weights e L inv embed base beta (table_messages s))) (batch_sum ss ts (omega (arith, l)) (λ k d lt. T (suc k) d (omega (arith, lt))) p.1)
      ∙ sym (weights_append e L inv embed base beta (table_messages s) (batch_messages ss))

  pub balance_unless_unlucky : (ss : List (Sender F)) (terminals : List (Option E)) → VanishingBatchBalances f e inv embed base beta eq ss terminals
  balance_unless_unlucky ss terminals l T z =
      elim (some_or_none (λ (m : Message F). message_denominator e embed base beta m ≡ e.zero) (λ m. dec (message_denominator e embed base beta m) e.zero) (batch_messages ss)) [
        | inl s ↦ inr (inl s)
        | inr d ↦ balanced_or_unlucky f fL eq eq_same same_eq e L inv embed H base beta dec_below (batch_messages ss) (sym (batch_sum ss terminals l T d) ∙ z)
      ]
