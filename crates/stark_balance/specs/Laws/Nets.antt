-- Nets: what they are, and that they leave each sum over the messages as it is.
use Rattle.std.proofs.Common.{◌≡◌, ℕ, zero, suc, ◌<◌, ◌⊎◌, inl, inr, Bool, true, false, cond, List, [], ◌∷◌, length, get_or, map, refl, sym, ◌∙◌, ap, subst, arith}
use Rattle.std.specs.Prelude.{◌&&◌, nat_eq, All, Contains}
use Rattle.std.specs.Cmp.Lexicographic.{pointwise}
use Rattle.std.proofs.lemmas.List.Elements.{All-nil, All-cons, All-head, All-tail, All-contains_itself}
use Rattle.p3_field.specs.Ring.{Ring, RingLaws}
use Rattle.p3_field.specs.Laws.Algebra.{zero_add}
use Rattle.p3_field.specs.Laws.Solver.{expressions, var, solve}
use Rattle.p3_lookup.specs.Messages.{Message, IsBalanced, is_of, net}
use Rattle.p3_lookup.specs.Term.{sum_of}
use Rattle.std.specs.declared.cmp.Ordering.{Ordering}
use Rattle.std.specs.declared.cmp.Ordering.TheVariants.{Less, Equal, Greater}
use Rattle.stark_balance.specs.Nets.{ArePaired, are_paired, placed, with_message, nets_onto, nets_by, as_sent, nets, AreNets}
use Rattle.stark_balance.specs.Laws.Pairs.{is_of_is, is_of_own, paired_is, paired_passes}

abbrev swap_left : {A : Type 0} → Ring A → A → A → A → A
swap_left r x y z = r.add (r.add x y) z

abbrev swap_right : {A : Type 0} → Ring A → A → A → A → A
swap_right r x y z = r.add (r.add x z) y

swap : {A : Type 0} (r : Ring A) (L : RingLaws r) (x y z : A) → swap_left r x y z ≡ swap_right r x y z
swap r L x y z = solve r L (x ∷ y ∷ z ∷ []) (swap_left expressions (var 0) (var 1) (var 2)) (swap_right expressions (var 0) (var 1) (var 2)) refl

module _ {F : Type 0} (f : Ring F) (compare : Message F → Message F → Ordering) (alike : (m n : Message F) → compare m n ≡ Equal → ArePaired m n) where
  -- an entry with the message's count added
  abbrev counted : Message F → Message F → Message F
  counted n m = record n { count = f.add n.count m.count }

  pub with_at : (o : Ordering) (n m : Message F) (ns : List (Message F)) → compare m n ≡ o → with_message f compare (n ∷ ns) m ≡ placed f o n ns m (with_message f compare ns m)
  with_at o n m ns h = ap (λ x. placed f x n ns m (with_message f compare ns m)) h

  -- Sums that go by bus and tuple, where a count's share is additive

  module _ {E : Type 0} (e : Ring E) (L : RingLaws e) (share : ℕ → List F → F → E) (additive : (b : ℕ) (t : List F) (x y : F) → share b t (f.add x y) ≡ e.add (share b t x) (share b t y)) where
    abbrev pub shares : List (Message F) → E
    shares ms = sum_of e (map (λ m. share m.bus m.tuple m.count) ms)

    with_shares : (ns : List (Message F)) (m : Message F) → shares (with_message f compare ns m) ≡ e.add (shares ns) (share m.bus m.tuple m.count)
    with_shares [] m = L.add_comm (share m.bus m.tuple m.count) e.zero
    with_shares (n ∷ ns) m = by (with_shares ns m) (compare m n) refl
      where
        by : shares (with_message f compare ns m) ≡ e.add (shares ns) (share m.bus m.tuple m.count) → (o : Ordering) → compare m n ≡ o
            → shares (with_message f compare (n ∷ ns) m) ≡ e.add (shares (n ∷ ns)) (share m.bus m.tuple m.count)
        by rest Less h = ap shares (with_at Less n m ns h) ∙ L.add_comm (share m.bus m.tuple m.count) (shares (n ∷ ns))
        by rest Equal h =
            let p = alike m n h in
            let x = share n.bus n.tuple n.count in
            let y = share n.bus n.tuple m.count in
            let same : y ≡ share m.bus m.tuple m.count = ap (λ b. share b n.tuple m.count) (sym p.0) ∙ ap (λ t. share m.bus t m.count) (sym p.1) in
            ap shares (with_at Equal n m ns h)
            ∙ ap (λ s. e.add s (shares ns)) (additive n.bus n.tuple n.count m.count)
            ∙ swap e L x y (shares ns)
            ∙ ap (e.add (e.add x (shares ns))) same
        by rest Greater h =
            ap shares (with_at Greater n m ns h)
            ∙ ap (e.add (share n.bus n.tuple n.count)) rest
            ∙ sym (L.add_assoc (share n.bus n.tuple n.count) (shares ns) (share m.bus m.tuple m.count))

    onto_shares : (ns ms : List (Message F)) → shares (nets_onto f compare ns ms) ≡ e.add (shares ns) (shares ms)
    onto_shares ns [] = sym (L.add_zero (shares ns))
    onto_shares ns (m ∷ ms) =
        onto_shares (with_message f compare ns m) ms
        ∙ ap (λ s. e.add s (shares ms)) (with_shares ns m)
        ∙ L.add_assoc (shares ns) (share m.bus m.tuple m.count) (shares ms)

    pub shares_by : (ms : List (Message F)) → shares (nets_by f compare ms) ≡ shares ms
    shares_by ms = onto_shares [] ms ∙ zero_add e L (shares ms)

  -- Facts that go by bus and tuple

  module _ (P : ℕ → List F → Type 0) where
    abbrev pub AllPairs : List (Message F) → Type 0
    AllPairs ms = All (λ m. P m.bus m.tuple) ms

    pub with_pairs : (ns : List (Message F)) (m : Message F) → AllPairs ns → P m.bus m.tuple → AllPairs (with_message f compare ns m)
    with_pairs [] m h p = All-cons (λ m. P m.bus m.tuple) m [] p (All-nil (λ m. P m.bus m.tuple))
    with_pairs (n ∷ ns) m h p = by (with_pairs ns m (All-tail (λ m. P m.bus m.tuple) n ns h) p) (compare m n) refl
      where
        Q : Message F → Type 0
        Q m = P m.bus m.tuple

        by : AllPairs (with_message f compare ns m) → (o : Ordering) → compare m n ≡ o → AllPairs (with_message f compare (n ∷ ns) m)
        by rest Less w = subst AllPairs (sym (with_at Less n m ns w)) (All-cons Q m (n ∷ ns) p h)
        by rest Equal w = subst AllPairs (sym (with_at Equal n m ns w)) (All-cons Q (counted n m) ns (All-head Q n ns h) (All-tail Q n ns h))
        by rest Greater w = subst AllPairs (sym (with_at Greater n m ns w)) (All-cons Q n (with_message f compare ns m) (All-head Q n ns h) rest)

    onto_pairs : (ns ms : List (Message F)) → AllPairs ns → AllPairs ms → AllPairs (nets_onto f compare ns ms)
    onto_pairs ns [] h g = h
    onto_pairs ns (m ∷ ms) h g =
        let Q : Message F → Type 0 = λ m. P m.bus m.tuple in
        onto_pairs (with_message f compare ns m) ms (with_pairs ns m h (All-head Q m ms g)) (All-tail Q m ms g)

    pub pairs_by : (ms : List (Message F)) → AllPairs ms → AllPairs (nets_by f compare ms)
    pairs_by ms h = onto_pairs [] ms (All-nil (λ m. P m.bus m.tuple)) h

  -- Each message has an entry

  abbrev Has : List (Message F) → ℕ → List F → Type 0
  Has [] b t = ⊥
  Has (n ∷ ns) b t = ((b ≡ n.bus) × (t ≡ n.tuple)) ⊎ Has ns b t

  with_own : (ns : List (Message F)) (m : Message F) → Has (with_message f compare ns m) m.bus m.tuple
  with_own [] m = inl (refl, refl)
  with_own (n ∷ ns) m = by (with_own ns m) (compare m n) refl
    where
      by : Has (with_message f compare ns m) m.bus m.tuple → (o : Ordering) → compare m n ≡ o → Has (with_message f compare (n ∷ ns) m) m.bus m.tuple
      by rest Less h = subst (λ l. Has l m.bus m.tuple) (sym (with_at Less n m ns h)) (inl (refl, refl))
      by rest Equal h = subst (λ l. Has l m.bus m.tuple) (sym (with_at Equal n m ns h)) (inl (alike m n h))
      by rest Greater h = subst (λ l. Has l m.bus m.tuple) (sym (with_at Greater n m ns h)) (inr rest)

  with_has : (ns : List (Message F)) (m : Message F) (b : ℕ) (t : List F) → Has ns b t → Has (with_message f compare ns m) b t
  with_has [] m b t h = absurd h
  with_has (n ∷ ns) m b t h = by (λ g. with_has ns m b t g) (compare m n) refl h
    where
      by : (Has ns b t → Has (with_message f compare ns m) b t) → (o : Ordering) → compare m n ≡ o → Has (n ∷ ns) b t → Has (with_message f compare (n ∷ ns) m) b t
      by rest Less w g = subst (λ l. Has l b t) (sym (with_at Less n m ns w)) (inr g)
      by rest Equal w g = subst (λ l. Has l b t) (sym (with_at Equal n m ns w)) g
      by rest Greater w (inl g) = subst (λ l. Has l b t) (sym (with_at Greater n m ns w)) (inl g)
      by rest Greater w (inr g) = subst (λ l. Has l b t) (sym (with_at Greater n m ns w)) (inr (rest g))

  onto_has : (ns ms : List (Message F)) (b : ℕ) (t : List F) → Has ns b t → Has (nets_onto f compare ns ms) b t
  onto_has ns [] b t h = h
  onto_has ns (m ∷ ms) b t h = onto_has (with_message f compare ns m) ms b t (with_has ns m b t h)

  onto_whole : (ns ms : List (Message F)) → All (λ m. Has (nets_onto f compare ns ms) m.bus m.tuple) ms
  onto_whole ns [] = All-nil (λ m. Has ns m.bus m.tuple)
  onto_whole ns (m ∷ ms) =
      All-cons (λ x. Has (nets_onto f compare ns (m ∷ ms)) x.bus x.tuple) m ms
      (onto_has (with_message f compare ns m) ms m.bus m.tuple (with_own ns m))
      (onto_whole (with_message f compare ns m) ms)

  has_contains : (ns : List (Message F)) (m : Message F) → Has ns m.bus m.tuple → (n : Message F) × Contains ns n × ArePaired m n
  has_contains [] m h = absurd h
  has_contains (n ∷ ns) m (inl p) = (n, (zero, omega arith, refl), p)
  has_contains (n ∷ ns) m (inr h) = let r = has_contains ns m h in (r.0, (suc r.1.0, omega (arith, r.1.1), r.1.2), r.2)

  pub whole_by : (ms : List (Message F)) → All (λ m. (n : Message F) × Contains (nets_by f compare ms) n × ArePaired m n) ms
  whole_by ms k d lt = has_contains (nets_by f compare ms) (get_or ms k d) (onto_whole [] ms k d lt)

  -- each entry has a message
  pub sent_by : (ms : List (Message F)) → All (λ n. (m : Message F) × Contains ms m × ArePaired m n) (nets_by f compare ms)
  sent_by ms = pairs_by (λ b t. (m : Message F) × Contains ms m × ((m.bus ≡ b) × (m.tuple ≡ t))) ms (λ k d lt. (get_or ms k d, All-contains_itself ms k d lt, (refl, refl)))

-- Entries of different bus or tuple

abbrev pub IsApartFrom : {F : Type 0} → Message F → List (Message F) → Type 0
IsApartFrom n ns = All (λ x. ArePaired n x → ⊥) ns

abbrev pub AllApart : {F : Type 0} → List (Message F) → Type 0
AllApart [] = Unit {0}
AllApart (n ∷ ns) = IsApartFrom n ns × AllApart ns

pub apart_at : {F : Type 0} (ns : List (Message F)) → AllApart ns → (i j : ℕ) (d : Message F) → i < j → j < length ns → ArePaired (get_or ns i d) (get_or ns j d) → ⊥
apart_at [] a i j d h lt p = omega (arith, lt)
apart_at (n ∷ ns) a i zero d h lt p = omega (arith, h)
apart_at (n ∷ ns) a zero (suc j) d h lt p = a.0 j d (omega (arith, lt)) p
apart_at (n ∷ ns) a (suc i) (suc j) d h lt p = apart_at ns a.1 i j d (omega (arith, h)) (omega (arith, lt)) p

module _ {F : Type 0} (f : Ring F) (eq : F → F → Bool) (eq_same : (x y : F) → eq x y ≡ true → x ≡ y) (same_eq : (x : F) → eq x x ≡ true) where
  -- The sums of the counts of entries that differ

  module _ (fL : RingLaws f) where
    part_added : (c : Bool) (x y : F) → cond c (f.add x y) f.zero ≡ f.add (cond c x f.zero) (cond c y f.zero)
    part_added true x y = refl
    part_added false x y = sym (fL.add_zero f.zero)

    module _ (compare : Message F → Message F → Ordering) (alike : (m n : Message F) → compare m n ≡ Equal → ArePaired m n) where
      -- they are those of the messages
      pub net_by : (ms : List (Message F)) (b : ℕ) (t : List F) → net f eq (nets_by f compare ms) b t ≡ net f eq ms b t
      net_by ms b t = shares_by f compare alike f fL (λ c u x. cond (nat_eq c b && pointwise eq u t) x f.zero) (λ c u x y. part_added (nat_eq c b && pointwise eq u t) x y) ms

    net_none : (ns : List (Message F)) (b : ℕ) (t : List F) → All (λ x. (b ≡ x.bus) × (t ≡ x.tuple) → ⊥) ns → net f eq ns b t ≡ f.zero
    net_none [] b t h = refl
    net_none (n ∷ ns) b t h = by (net_none ns b t (All-tail (λ x. (b ≡ x.bus) × (t ≡ x.tuple) → ⊥) n ns h)) (is_of eq b t n) refl
      where
        Q : Message F → Type 0
        Q x = (b ≡ x.bus) × (t ≡ x.tuple) → ⊥

        by : net f eq ns b t ≡ f.zero → (c : Bool) → is_of eq b t n ≡ c → net f eq (n ∷ ns) b t ≡ f.zero
        by rest true w = let p = is_of_is eq eq_same same_eq b t n w in absurd (All-head Q n ns h (sym p.0, sym p.1))
        by rest false w = ap (λ c. f.add (cond c n.count f.zero) (net f eq ns b t)) w ∙ zero_add f fL (net f eq ns b t) ∙ rest

    -- where the entries differ, each one's count is the net of its bus and tuple
    own_net : (ns : List (Message F)) → AllApart ns → All (λ n. n.count ≡ net f eq ns n.bus n.tuple) ns
    own_net [] a = All-nil (λ n. n.count ≡ net f eq [] n.bus n.tuple)
    own_net (n ∷ ns) a =
        All-cons (λ x. x.count ≡ net f eq (n ∷ ns) x.bus x.tuple) n ns
        (sym (ap (λ c. f.add (cond c n.count f.zero) (net f eq ns n.bus n.tuple)) (is_of_own eq eq_same same_eq n)
        ∙ ap (f.add n.count) (net_none ns n.bus n.tuple a.0) ∙ fL.add_zero n.count))
        (λ k d lt. let x = get_or ns k d in own_net ns a.1 k d lt ∙ sym (elsewhere x (a.0 k d lt) (is_of eq x.bus x.tuple n) refl))
      where
        elsewhere : (x : Message F) → (ArePaired n x → ⊥) → (c : Bool) → is_of eq x.bus x.tuple n ≡ c → net f eq (n ∷ ns) x.bus x.tuple ≡ net f eq ns x.bus x.tuple
        elsewhere x p true w = absurd (p (is_of_is eq eq_same same_eq x.bus x.tuple n w))
        elsewhere x p false w = ap (λ c. f.add (cond c n.count f.zero) (net f eq ns x.bus x.tuple)) w ∙ zero_add f fL (net f eq ns x.bus x.tuple)

    -- what is so made is what it should be, where its entries differ
    pub nets_are_by : (compare : Message F → Message F → Ordering) → ((m n : Message F) → compare m n ≡ Equal → ArePaired m n) → (ms : List (Message F)) → AllApart (nets_by f compare ms) → AreNets f eq ms (nets_by f compare ms)
    nets_are_by compare alike ms a = record {
      counts = λ k d lt. let n = get_or (nets_by f compare ms) k d in own_net (nets_by f compare ms) a k d lt ∙ net_by compare alike ms n.bus n.tuple;
      apart = apart_at (nets_by f compare ms) a;
      sent = sent_by f compare alike ms;
      whole = whole_by f compare alike ms;
    }

  -- In the order in which they are first sent

  sent_alike : (m n : Message F) → as_sent eq m n ≡ Equal → ArePaired m n
  sent_alike m n h = by (are_paired eq m n) refl
    where
      by : (b : Bool) → are_paired eq m n ≡ b → ArePaired m n
      by true w = paired_is eq eq_same same_eq m n w
      by false w = let q : Greater ≡ Equal = sym (ap (λ b. cond b Equal Greater) w) ∙ h in absurd (cc q)

  not_paired : (m n : Message F) → are_paired eq m n ≡ false → ArePaired n m → ⊥
  not_paired m n h p = absurd (cc (paired_passes eq eq_same same_eq m n (sym p.0, sym p.1), h))

  with_apart : (ns : List (Message F)) (m : Message F) → AllApart ns → AllApart (with_message f (as_sent eq) ns m)
  with_apart [] m a = (All-nil (λ x. ArePaired m x → ⊥), tt)
  with_apart (n ∷ ns) m a = by (with_apart ns m a.1) (are_paired eq m n) refl
    where
      by : AllApart (with_message f (as_sent eq) ns m) → (b : Bool) → are_paired eq m n ≡ b → AllApart (with_message f (as_sent eq) (n ∷ ns) m)
      by rest true h = subst AllApart (sym (with_at f (as_sent eq) sent_alike Equal n m ns (ap (λ b. cond b Equal Greater) h))) a
      by rest false h =
          subst AllApart (sym (with_at f (as_sent eq) sent_alike Greater n m ns (ap (λ b. cond b Equal Greater) h)))
          (with_pairs f (as_sent eq) sent_alike (λ b t. (n.bus ≡ b) × (n.tuple ≡ t) → ⊥) ns m a.0 (not_paired m n h), rest)

  onto_apart : (ns ms : List (Message F)) → AllApart ns → AllApart (nets_onto f (as_sent eq) ns ms)
  onto_apart ns [] a = a
  onto_apart ns (m ∷ ms) a = onto_apart (with_message f (as_sent eq) ns m) ms (with_apart ns m a)

  pub nets_apart : (ms : List (Message F)) → AllApart (nets f eq ms)
  nets_apart ms = onto_apart [] ms tt

  pub nets_share : {E : Type 0} (e : Ring E) (L : RingLaws e) (share : ℕ → List F → F → E) → ((b : ℕ) (t : List F) (x y : F) → share b t (f.add x y) ≡ e.add (share b t x) (share b t y)) → (ms : List (Message F))
      → sum_of e (map (λ m. share m.bus m.tuple m.count) (nets f eq ms)) ≡ sum_of e (map (λ m. share m.bus m.tuple m.count) ms)
  nets_share e L share additive ms = shares_by f (as_sent eq) sent_alike e L share additive ms

  pub nets_whole : (ms : List (Message F)) → All (λ m. (n : Message F) × Contains (nets f eq ms) n × ArePaired m n) ms
  nets_whole ms = whole_by f (as_sent eq) sent_alike ms

  pub nets_sent : (ms : List (Message F)) → All (λ n. (m : Message F) × Contains ms m × ArePaired m n) (nets f eq ms)
  nets_sent ms = sent_by f (as_sent eq) sent_alike ms

  module _ (fL : RingLaws f) where
    pub nets_are : (ms : List (Message F)) → AreNets f eq ms (nets f eq ms)
    nets_are ms = nets_are_by fL (as_sent eq) sent_alike ms (nets_apart ms)

    zero_counts : (ns : List (Message F)) (b : ℕ) (t : List F) → All (λ n. n.count ≡ f.zero) ns → net f eq ns b t ≡ f.zero
    zero_counts [] b t h = refl
    zero_counts (n ∷ ns) b t h =
        let Q : Message F → Type 0 = λ x. x.count ≡ f.zero in
        none (is_of eq b t n) (All-head Q n ns h)
        ∙ zero_counts ns b t (All-tail Q n ns h)
      where
        none : (c : Bool) → n.count ≡ f.zero → f.add (cond c n.count f.zero) (net f eq ns b t) ≡ net f eq ns b t
        none true z = ap (λ x. f.add x (net f eq ns b t)) z ∙ zero_add f fL (net f eq ns b t)
        none false z = zero_add f fL (net f eq ns b t)

    -- nothing is left over exactly where each entry's count is zero
    pub balanced_by_counts : (ms : List (Message F)) → All (λ n. n.count ≡ f.zero) (nets f eq ms) → IsBalanced f eq ms
    balanced_by_counts ms h b t = sym (net_by fL (as_sent eq) sent_alike ms b t) ∙ zero_counts (nets f eq ms) b t h

    pub counts_by_balance : (ms : List (Message F)) → IsBalanced f eq ms → All (λ n. n.count ≡ f.zero) (nets f eq ms)
    counts_by_balance ms h k d lt = let n = get_or (nets f eq ms) k d in (nets_are ms).counts k d lt ∙ h n.bus n.tuple
