-- Where nothing is left over on any bus, the sum over all messages of count over denominator is zero: it is the sum
-- over the distinct pairs of bus and tuple of net over denominator.
use Rattle.std.proofs.Common.{◌≡◌, ℕ, zero, suc, ◌≤◌, Bool, true, false, cond, not, List, [], ◌∷◌, length, map, refl, sym, ◌∙◌, ap, subst, arith}
use Rattle.std.specs.Prelude.{filter}
use Rattle.p3_field.specs.Ring.{Ring, RingLaws}
use Rattle.p3_field.specs.Field.{RingHom}
use Rattle.p3_field.specs.Laws.Algebra.{zero_add, zero_mul}
use Rattle.p3_field.specs.Laws.Solver.{expressions, var, solve}
use Rattle.p3_lookup.specs.Term.{sum_of}

fewer : {X : Type 0} (b : Bool) (x : X) (ys : List X) (n : ℕ) → length ys ≤ n → length (cond b (x ∷ ys) ys) ≤ suc n
fewer true x ys n h = omega (arith, h)
fewer false x ys n h = omega (arith, h)

length_filter_le : {X : Type 0} (p : X → Bool) (xs : List X) → length (filter p xs) ≤ length xs
length_filter_le p [] = omega arith
length_filter_le p (x ∷ xs) = fewer (p x) x (filter p xs) (length xs) (length_filter_le p xs)

abbrev gain_left : {A : Type 0} → Ring A → A → A → A → A → A
gain_left r c g n s = r.add (r.mul c g) (r.add (r.mul n g) s)

abbrev gain_right : {A : Type 0} → Ring A → A → A → A → A → A
gain_right r c g n s = r.add (r.mul (r.add c n) g) s

abbrev swap_left : {A : Type 0} → Ring A → A → A → A → A
swap_left r x y s = r.add x (r.add y s)

abbrev swap_right : {A : Type 0} → Ring A → A → A → A → A
swap_right r x y s = r.add y (r.add x s)

-- things with a key and a weight, where `keeps_shape` tells whether two keys are one
module _ {K M F E : Type 0} (f : Ring F) (fL : RingLaws f) (e : Ring E) (L : RingLaws e) (embed : F → E) (H : RingHom f e embed)
    (same : K → K → Bool) (sound : (a b : K) → same a b ≡ true → a ≡ b) (whole : (a : K) → same a a ≡ true)
    (key : M → K) (count : M → F) (g : K → E) where
  -- the weights of the key k
  abbrev pub key_net : List M → K → F
  key_net ms k = sum_of f (map (λ m. cond (same (key m) k) (count m) f.zero) ms)

  abbrev pub weighed : List M → E
  weighed ms = sum_of e (map (λ m. e.mul (embed (count m)) (g (key m))) ms)

  abbrev others : K → List M → List M
  others k ms = filter (λ m. not (same (key m) k)) ms

  gain : (c x n s : E) → gain_left e c x n s ≡ gain_right e c x n s
  gain c x n s = solve e L (c ∷ x ∷ n ∷ s ∷ []) (gain_left expressions (var 0) (var 1) (var 2) (var 3)) (gain_right expressions (var 0) (var 1) (var 2) (var 3)) refl

  swap : (x y s : E) → swap_left e x y s ≡ swap_right e x y s
  swap x y s = solve e L (x ∷ y ∷ s ∷ []) (swap_left expressions (var 0) (var 1) (var 2)) (swap_right expressions (var 0) (var 1) (var 2)) refl

  -- a key that is k's isn't that of another
  not_same : (i j k : K) → same i k ≡ true → same j k ≡ false → (b : Bool) → same i j ≡ b → same i j ≡ false
  not_same i j k h d true e =
      let P : K → Type 0 = λ x. same x k ≡ true in
      let here : same j k ≡ true = subst P (sound i j e) h in
      absurd (cc (here, d))
  not_same i j k h d false e = e

  -- one more item, with its key or not
  net_here : (k : K) (m : M) (ms : List M) → same (key m) k ≡ true → key_net (m ∷ ms) k ≡ f.add (count m) (key_net ms k)
  net_here k m ms h = ap (λ b. f.add (cond b (count m) f.zero) (key_net ms k)) h

  net_elsewhere : (k : K) (m : M) (ms : List M) → same (key m) k ≡ false → key_net (m ∷ ms) k ≡ key_net ms k
  net_elsewhere k m ms h = ap (λ b. f.add (cond b (count m) f.zero) (key_net ms k)) h ∙ zero_add f fL (key_net ms k)

  others_here : (k : K) (m : M) (ms : List M) → same (key m) k ≡ true → others k (m ∷ ms) ≡ others k ms
  others_here k m ms h = ap (λ b. cond (not b) (m ∷ others k ms) (others k ms)) h

  others_elsewhere : (k : K) (m : M) (ms : List M) → same (key m) k ≡ false → others k (m ∷ ms) ≡ m ∷ others k ms
  others_elsewhere k m ms h = ap (λ b. cond (not b) (m ∷ others k ms) (others k ms)) h

  -- the sum is that of the key k, and that of the others
  abbrev Splits : K → List M → Type 0
  Splits k ms = weighed ms ≡ e.add (e.mul (embed (key_net ms k)) (g k)) (weighed (others k ms))

  split_one : (k : K) (m : M) (ms : List M) (b : Bool) → same (key m) k ≡ b → Splits k ms → Splits k (m ∷ ms)
  split_one k m ms true h rest =
      let c = embed (count m) in
      let n = embed (key_net ms k) in
      let at : e.mul c (g (key m)) ≡ e.mul c (g k) = ap (λ x. e.mul c (g x)) (sound (key m) k h) in
      let sum : embed (key_net (m ∷ ms) k) ≡ e.add c n = ap embed (net_here k m ms h) ∙ H.keeps_add (count m) (key_net ms k) in
      let left : weighed (others k (m ∷ ms)) ≡ weighed (others k ms) = ap weighed (others_here k m ms h) in
      cc (at, sum, left, rest, gain c (g k) n (weighed (others k ms)))
  split_one k m ms false h rest =
      let w = e.mul (embed (count m)) (g (key m)) in
      let n = e.mul (embed (key_net ms k)) (g k) in
      let sum : embed (key_net (m ∷ ms) k) ≡ embed (key_net ms k) = ap embed (net_elsewhere k m ms h) in
      let left : weighed (others k (m ∷ ms)) ≡ e.add w (weighed (others k ms)) = ap weighed (others_elsewhere k m ms h) in
      cc (sum, left, rest, swap w n (weighed (others k ms)))

  split : (k : K) (ms : List M) → Splits k ms
  split k [] = sym (ap (λ x. e.add x e.zero) (ap (λ x. e.mul x (g k)) H.keeps_zero ∙ zero_mul e L (g k)) ∙ L.add_zero e.zero)
  split k (m ∷ ms) = split_one k m ms (same (key m) k) refl (split k ms)

  -- the others have nothing of the key
  net_gone_one : (k : K) (m : M) (ms : List M) (b : Bool) → same (key m) k ≡ b → key_net (others k ms) k ≡ f.zero → key_net (others k (m ∷ ms)) k ≡ f.zero
  net_gone_one k m ms true h rest = ap (λ l. key_net l k) (others_here k m ms h) ∙ rest
  net_gone_one k m ms false h rest = ap (λ l. key_net l k) (others_elsewhere k m ms h) ∙ net_elsewhere k m (others k ms) h ∙ rest

  net_gone : (k : K) (ms : List M) → key_net (others k ms) k ≡ f.zero
  net_gone k [] = refl
  net_gone k (m ∷ ms) = net_gone_one k m ms (same (key m) k) refl (net_gone k ms)

  -- and as much of each other key as before
  net_stays_one : (k j : K) → same j k ≡ false → (m : M) (ms : List M) (b : Bool) → same (key m) k ≡ b → key_net (others k ms) j ≡ key_net ms j → key_net (others k (m ∷ ms)) j ≡ key_net (m ∷ ms) j
  net_stays_one k j d m ms true h rest =
      let apart : same (key m) j ≡ false = not_same (key m) j k h d (same (key m) j) refl in
      ap (λ l. key_net l j) (others_here k m ms h) ∙ rest ∙ sym (net_elsewhere j m ms apart)
  net_stays_one k j d m ms false h rest =
      ap (λ l. key_net l j) (others_elsewhere k m ms h) ∙ ap (f.add (cond (same (key m) j) (count m) f.zero)) rest

  net_stays : (k j : K) → same j k ≡ false → (ms : List M) → key_net (others k ms) j ≡ key_net ms j
  net_stays k j d [] = refl
  net_stays k j d (m ∷ ms) = net_stays_one k j d m ms (same (key m) k) refl (net_stays k j d ms)

  balanced_others : (k : K) (ms : List M) → ((j : K) → key_net ms j ≡ f.zero) → (j : K) → key_net (others k ms) j ≡ f.zero
  balanced_others k ms h j = by_test (same j k) refl
    where
      by_test : (b : Bool) → same j k ≡ b → key_net (others k ms) j ≡ f.zero
      by_test true e = let P : K → Type 0 = λ x. key_net (others k ms) x ≡ f.zero in subst P (sym (sound j k e)) (net_gone k ms)
      by_test false e = net_stays k j e ms ∙ h j

  -- where the net of each key is zero, so is the whole sum
  balanced_within : (n : ℕ) (ms : List M) → length ms ≤ n → ((k : K) → key_net ms k ≡ f.zero) → weighed ms ≡ e.zero
  balanced_within n [] lt h = refl
  balanced_within zero (m ∷ ms) lt h = absurd (omega (arith, lt))
  balanced_within (suc n) (m ∷ ms) lt h =
      let k = key m in
      let fewer : length (others k (m ∷ ms)) ≤ n = omega (arith, lt, ap length (others_here k m ms (whole k)), length_filter_le (λ x. not (same (key x) k)) ms) in
      split k (m ∷ ms)
      ∙ ap (λ x. e.add (e.mul (embed x) (g k)) (weighed (others k (m ∷ ms)))) (h k)
      ∙ ap (λ x. e.add (e.mul x (g k)) (weighed (others k (m ∷ ms)))) H.keeps_zero
      ∙ ap (λ x. e.add x (weighed (others k (m ∷ ms)))) (zero_mul e L (g k))
      ∙ zero_add e L (weighed (others k (m ∷ ms)))
      ∙ balanced_within n (others k (m ∷ ms)) fewer (balanced_others k (m ∷ ms) h)

  pub balanced : (ms : List M) → ((k : K) → key_net ms k ≡ f.zero) → weighed ms ≡ e.zero
  balanced ms h = balanced_within (length ms) ms (omega arith) h
