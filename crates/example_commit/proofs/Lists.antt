-- Lists side by side, item by item.
use Rattle.std.proofs.Common.{◌≡◌, ℕ, zero, suc, ◌+◌, ◌<◌, ◌≤◌, List, [], ◌∷◌, ◌++◌, Some, length, get_or, map, take, refl, subst, sym, ◌∙◌, ap, arith}
use Rattle.std.specs.Prelude.{slice_get, zip, All, option_map}
use Rattle.std.proofs.lemmas.List.{map_more, length-map, length_push, take_all}
use Rattle.std.proofs.lemmas.Option.{slice_get_within, slice_get-get_or, get_or_from_slice_get, slice_get-map, slice_get_read}
use Rattle.commit_core.specs.Space.{EachOf}
use Rattle.commit_core.specs.Periodic.{EachFrom}
use Rattle.commit_core.specs.Laws.Each.{one_more}
use Rattle.commit_core.specs.Laws.Pairs.{length-zip, slice_get-zip}

-- a place in a list has an item, and one
pub item_at : {X : Type 0} (xs : List X) (k : ℕ) → k < length xs → (x : X) × (slice_get xs k ≡ Some x)
item_at [] k h = absurd (omega arith)
item_at (x ∷ xs) zero h = (x, refl)
item_at (x ∷ xs) (suc k) h = item_at xs k (omega arith)

pub same_item : {X : Type 0} (xs : List X) (i : ℕ) (x y : X) → slice_get xs i ≡ Some x → slice_get xs i ≡ Some y → x ≡ y
same_item xs i x y e f = sym (get_or_from_slice_get xs i x x e) ∙ get_or_from_slice_get xs i y x f

-- what each item has at its place
pub all_items : {X : Type 0} (P : X → Type 0) (xs : List X) → ((k : ℕ) (x : X) → slice_get xs k ≡ Some x → P x) → All P xs
all_items P xs f k d h = f k (get_or xs k d) (slice_get-get_or xs k d h)

pub item_has : {X : Type 0} (P : X → Type 0) (xs : List X) (k : ℕ) (x : X) → All P xs → slice_get xs k ≡ Some x → P x
item_has P xs k x a e = subst P (get_or_from_slice_get xs k x x e) (a k x (slice_get_within xs k x e))

-- an item of a list that was mapped
pub map_item : {X Y : Type 0} (f : X → Y) (xs : List X) (i : ℕ) (x : X) → slice_get xs i ≡ Some x → slice_get (map f xs) i ≡ Some (f x)
map_item f xs i x e = slice_get-map f xs i ∙ ap (option_map f) e

pub mapped_item : {X Y : Type 0} (f : X → Y) (xs : List X) (i : ℕ) (y : Y) → slice_get (map f xs) i ≡ Some y → (x : X) × (slice_get xs i ≡ Some x) × (y ≡ f x)
mapped_item f [] i y e = cc
mapped_item f (x ∷ xs) zero y e = (x, refl, cc)
mapped_item f (x ∷ xs) (suc i) y e = mapped_item f xs i y e

-- items at the same place are a pair at this place
pub zip_item : {X Y : Type 0} (xs : List X) (ys : List Y) (k : ℕ) (x : X) (y : Y) → slice_get xs k ≡ Some x → slice_get ys k ≡ Some y → slice_get (zip xs ys) k ≡ Some (x, y)
zip_item [] ys k x y a b = cc
zip_item (v ∷ xs) [] k x y a b = cc
zip_item (v ∷ xs) (w ∷ ys) zero x y a b = cc
zip_item (v ∷ xs) (w ∷ ys) (suc k) x y a b = zip_item xs ys k x y a b

-- an item of two lists that were mapped side by side
pub paired_item : {X Y Z : Type 0} (f : X × Y → Z) (xs : List X) (ys : List Y) (i : ℕ) (z : Z) → slice_get (map f (zip xs ys)) i ≡ Some z
    → (p : X × Y) × (slice_get xs i ≡ Some p.0) × (slice_get ys i ≡ Some p.1) × (z ≡ f p)
paired_item f xs ys i z q =
    let (p, a, b) = mapped_item f (zip xs ys) i z q in
    let (c, d) = slice_get-zip xs ys i p a in
    (p, c, d, b)

-- two lists side by side, and two more that were mapped side by side
pub each_paired : {A B X Y Z : Type 0} (f : X × Y → Z) (us : List A) (bs : List B) (xs : List X) (ys : List Y) (R : A × B → Z → Type 0) → length bs ≡ length us → length xs ≡ length us → length ys ≡ length us
    → ((i : ℕ) (a : A) (b : B) (x : X) (y : Y) → slice_get us i ≡ Some a → slice_get bs i ≡ Some b → slice_get xs i ≡ Some x → slice_get ys i ≡ Some y → R (a, b) (f (x, y)))
    → EachFrom (zip us bs) (map f (zip xs ys)) R
each_paired f us bs xs ys R m n o step = record {
  count = length-map (zip xs ys) f ∙ (length-zip xs ys (omega arith) ∙ (o ∙ (sym m ∙ sym (length-zip us bs (omega arith)))));
  each = λ i z q p e.
      let (v, a, b, c) = paired_item f xs ys i z q in
      let (g, h) = slice_get-zip us bs i p e in
      subst (R p) (sym c) (step i p.0 p.1 v.0 v.1 g h a b);
}

-- the same, of one list
pub each_from_paired : {A X Y Z : Type 0} (f : X × Y → Z) (us : List A) (xs : List X) (ys : List Y) (R : A → Z → Type 0) → length xs ≡ length us → length ys ≡ length us
    → ((i : ℕ) (a : A) (x : X) (y : Y) → slice_get us i ≡ Some a → slice_get xs i ≡ Some x → slice_get ys i ≡ Some y → R a (f (x, y)))
    → EachFrom us (map f (zip xs ys)) R
each_from_paired f us xs ys R n o step = record {
  count = length-map (zip xs ys) f ∙ (length-zip xs ys (omega arith) ∙ o);
  each = λ i z q a e.
      let (v, g, h, c) = paired_item f xs ys i z q in
      subst (R a) (sym c) (step i a v.0 v.1 e g h);
}

pub each_map : {X Y : Type 0} (f : X → Y) (xs : List X) (R : X → Y → Type 0) → ((x : X) → R x (f x)) → EachFrom xs (map f xs) R
each_map f xs R step = record {
  count = length-map xs f;
  each = λ i y q x e.
      let (v, a, b) = mapped_item f xs i y q in
      let same : v ≡ x = same_item xs i v x a e in
      subst (R x) (sym (b ∙ ap f same)) (step x);
}

-- where each two items have a third, there is a list of these
chosen_more : {X Y Z : Type 0} (S : X → Y → Z → Type 0) (v : X) (w : Y) (u : Z) (xs : List X) (ys : List Y) (zs : List Z) → S v w u
    → ((i : ℕ) (x : X) (y : Y) (z : Z) → slice_get xs i ≡ Some x → slice_get ys i ≡ Some y → slice_get zs i ≡ Some z → S x y z)
    → (i : ℕ) (x : X) (y : Y) (z : Z) → slice_get (v ∷ xs) i ≡ Some x → slice_get (w ∷ ys) i ≡ Some y → slice_get (u ∷ zs) i ≡ Some z → S x y z
chosen_more S v w u xs ys zs s f zero x y z a b c =
    let d : v ≡ x = cc in
    let e : w ≡ y = cc in
    let g : u ≡ z = cc in
    subst (λ k. S x y k) g (subst (λ k. S x k u) e (subst (λ k. S k w u) d s))
chosen_more S v w u xs ys zs s f (suc i) x y z a b c = f i x y z a b c

pub chosen : {X Y Z : Type 0} (S : X → Y → Z → Type 0) (xs : List X) (ys : List Y) → EachFrom xs ys (λ x y. (z : Z) × S x y z)
    → (zs : List Z) × (length zs ≡ length xs) × ((i : ℕ) (x : X) (y : Y) (z : Z) → slice_get xs i ≡ Some x → slice_get ys i ≡ Some y → slice_get zs i ≡ Some z → S x y z)
chosen S [] [] E = ([], refl, λ i x y z a b c. cc)
chosen S [] (y ∷ ys) E = absurd (let n = E.count in omega arith)
chosen S (x ∷ xs) [] E = absurd (let n = E.count in omega arith)
chosen {Z = Z} S (x ∷ xs) (y ∷ ys) E =
    let rest : EachFrom xs ys (λ x y. (z : Z) × S x y z) = record { count = let n = E.count in omega arith; each = λ i w q v h. E.each (suc i) w q v h } in
    let (zs, n, f) = chosen S xs ys rest in
    let (z, s) = E.each zero y refl x refl in
    (z ∷ zs, ap suc n, chosen_more S x y z xs ys zs s f)

-- one item more, of one that is made from the next of xs
pub each_yielded : {X Y : Type 0} (R : X → Y → Type 0) (xs done : List X) (x : X) (ys zs : List Y) (y : Y) → length done < length xs → x ≡ get_or xs (length done) x
    → EachOf (length done) ys (λ i y. (v : X) → slice_get xs i ≡ Some v → R v y) → R x y → zs ≡ ys ++ y ∷ [] → EachOf (length (done ++ x ∷ [])) zs (λ i y. (v : X) → slice_get xs i ≡ Some v → R v y)
each_yielded {X} {Y} R xs done x ys zs y h at E p e =
    subst (λ (k : ℕ). EachOf k zs (λ i y. (v : X) → slice_get xs i ≡ Some v → R v y)) (sym (length_push done x))
    (one_more (length done) ys zs y (λ i y. (v : X) → slice_get xs i ≡ Some v → R v y) E
    (λ v q. subst (λ (u : X). R u y) (at ∙ get_or_from_slice_get xs (length done) v x q) p) e)

-- what is read at a place
pub read : {X : Type 0} (xs : List X) (i : ℕ) (x : X) → i < length xs → x ≡ get_or xs i x → slice_get xs i ≡ Some x
read xs i x h e = slice_get_read xs (length xs) i x refl h e

-- one item more, that is made from the next
pub next_item : {X Y : Type 0} (f : X → Y) (ws zs : List Y) (w : Y) (xs : List X) (i : ℕ) (x : X) → ws ≡ map f (take i xs) → zs ≡ ws ++ w ∷ [] → slice_get xs i ≡ Some x → w ≡ f x → zs ≡ map f (take (i + 1) xs)
next_item f ws zs w xs i x e q h v =
    let here : get_or xs i x ≡ x = get_or_from_slice_get xs i x x h in
    q ∙ (ap (λ l. l ++ w ∷ []) e ∙ (ap (λ y. map f (take i xs) ++ y ∷ []) (v ∙ ap f (sym here)) ∙ sym (map_more f xs i x (slice_get_within xs i x h))))

-- that is made from the next of two lists
pub next_pair : {X Y Z : Type 0} (f : X × Y → Z) (ws zs : List Z) (w : Z) (xs : List X) (ys : List Y) (i : ℕ) (x : X) (y : Y) → ws ≡ map f (take i (zip xs ys)) → zs ≡ ws ++ w ∷ [] → slice_get xs i ≡ Some x → slice_get ys i ≡ Some y → w ≡ f (x, y)
    → zs ≡ map f (take (i + 1) (zip xs ys))
next_pair f ws zs w xs ys i x y e q a b v = next_item f ws zs w (zip xs ys) i (x, y) e q (zip_item xs ys i x y a b) v

pub all_pairs : {X Y Z : Type 0} (f : X × Y → Z) (ws : List Z) (xs : List X) (ys : List Y) (i : ℕ) → length ys ≤ length xs → length ys ≤ i → ws ≡ map f (take i (zip xs ys)) → ws ≡ map f (zip xs ys)
all_pairs f ws xs ys i h l e = e ∙ ap (map f) (take_all i (zip xs ys) (let n = length-zip xs ys h in omega (arith, n, l)))

pub each_done : {X Y : Type 0} (R : X → Y → Type 0) (xs : List X) (n : ℕ) (ys : List Y) → n ≡ length xs → EachOf n ys (λ i y. (v : X) → slice_get xs i ≡ Some v → R v y) → EachFrom xs ys R
each_done R xs n ys e E = record { count = E.count ∙ e; each = E.each }
