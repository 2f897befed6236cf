-- What is left over of what tables send, as a sum over tables and rows.
use Rattle.std.proofs.Common.{◌≡◌, ℕ, zero, suc, Bool, cond, List, [], ◌∷◌, ◌++◌, map, refl, ◌∙◌, ap}
use Rattle.std.specs.List.{flat_map}
use Rattle.std.proofs.lemmas.List.{map-append}
use Rattle.p3_field.specs.Poly.{tabulate, total}
use Rattle.p3_field.specs.Ring.{Ring, RingLaws}
use Rattle.p3_lookup.specs.Laws.Terms.{sum_append}
use Rattle.p3_lookup.specs.Messages.{Message, Sender, is_of, messages_from, net, table_messages}
use Rattle.p3_lookup.specs.Term.{sum_of}

module _ {F : Type 0} (r : Ring F) (L : RingLaws r) (eq : F → F → Bool) (bus : ℕ) (tuple : List F) where
  abbrev left : List (Message F) → F
  left ms = net r eq ms bus tuple

  -- of the messages of one table and of others
  pub net_append : (xs ys : List (Message F)) → net r eq (xs ++ ys) bus tuple ≡ r.add (net r eq xs bus tuple) (net r eq ys bus tuple)
  net_append xs ys =
      let part = λ (m : Message F). cond (is_of eq bus tuple m) m.count r.zero in
      ap (sum_of r) (map-append part xs ys) ∙ sum_append r L (map part xs) (map part ys)

  rows_net : (ms : ℕ → List (Message F)) (n : ℕ) (row : ℕ → ℕ) → left (flat_map ms (tabulate n row)) ≡ total r n (λ i. left (ms (row i)))
  rows_net ms zero row = refl
  rows_net ms (suc n) row =
      net_append (ms (row zero)) (flat_map ms (tabulate n (λ i. row (suc i)))) ∙ ap (r.add (left (ms (row zero)))) (rows_net ms n (λ i. row (suc i)))

  -- of a table's messages, over its rows
  pub table_net : (s : Sender F) → net r eq (table_messages s) bus tuple ≡ total r s.rows (λ i. net r eq (messages_from (s.value i) s.bus 0 s.lookups) bus tuple)
  table_net s = rows_net (λ i. messages_from (s.value i) s.bus 0 s.lookups) s.rows (λ i. i)
