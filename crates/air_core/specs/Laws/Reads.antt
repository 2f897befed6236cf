-- What the tests of cells and the degrees made of them say of a tree.
use Rattle.std.proofs.Common.{◌≡◌, ℕ, zero, suc, ◌<◌, Bool, true, false, cond, List, [], ◌∷◌, map, refl, sym, ◌∙◌, subst, arith}
use Rattle.std.proofs.lemmas.List.{length-map}
use Rattle.std.proofs.lemmas.List.Elements.{All-cons, All-head, All-tail}
use Rattle.std.specs.Prelude.{All, IsTrue, not, nat_lt, nat_eq, max, ◌&&◌, ◌||◌, ◌↔◌}
use Rattle.std.proofs.lemmas.Bool.Decides.{nat_tests}
use Rattle.air_core.specs.declared.cells.Cell.{Cell}
use Rattle.air_core.specs.declared.cells.Cell.TheVariants.{Main, Preprocessed, Periodic, Public, FirstRow, LastRow, Transition}
use Rattle.air_core.specs.declared.cells.ExtCell.{ExtCell}
use Rattle.air_core.specs.declared.cells.ExtCell.TheVariants.{Permutation, Challenge, Terminal}
use Rattle.air_core.specs.Tree.{Tree, constant, cell, ext_cell, sum, difference, product}
use Rattle.air_core.specs.Shape.{Shape, Declares, DeclaresExt, Declaration, declared_shape, IsSendable, ReadsIn, ReadsDeclared, ReadsSendable, IsInteraction}
use Rattle.air_core.specs.declared.cells.Count.{Count}
use Rattle.air_core.specs.declared.node.Node.{Node}
use Rattle.air_core.specs.Symbolic.{tree_at}
use Rattle.air_core.specs.Placed.{Placed}
use Rattle.air_core.specs.Recording.{count_at, interaction_at, PlacedBelow}
use Rattle.air_core.specs.Degree.{capped_sum, degree}
use Rattle.air_core.specs.Reads.{declares, is_sendable, strangeness}

pub not_true : IsTrue false → ⊥
not_true e = cc

both : (a b : Bool) → IsTrue (a && b) ↔ (IsTrue a × IsTrue b)
both true true = ((λ h. (refl, refl)), λ h. refl)
both true false = ((λ h. absurd (not_true h)), λ h. h.1)
both false b = ((λ h. absurd (not_true h)), λ h. h.0)

below : (n m : ℕ) → IsTrue (nat_lt n m) ↔ (n < m)
below n m = ((λ h. grind (arith, nat_tests, h)), λ h. grind (arith, nat_tests, h))

if_next : (next t : Bool) → IsTrue (not next || t) ↔ (next ≡ true → IsTrue t)
if_next true t = ((λ h e. h), λ h. h refl)
if_next false t = ((λ h e. absurd (not_true e)), λ h. refl)

column_may : (n m : ℕ) (next t : Bool) → IsTrue (nat_lt n m && (not next || t)) ↔ ((n < m) × (next ≡ true → IsTrue t))
column_may n m next t = let e = both (nat_lt n m) (not next || t) in (
  (λ h. ((below n m).0 (e.0 h).0, (if_next next t).0 (e.0 h).1)),
  λ h. e.1 ((below n m).1 h.0, (if_next next t).1 h.1),
)

pub declares-means : (s : Shape) (c : Cell) → IsTrue (declares s c) ↔ Declares s c
declares-means s (Main next n) = column_may n s.main next (s.main_next n)
declares-means s (Preprocessed next n) = column_may n s.preprocessed next (s.preprocessed_next n)
declares-means s (Periodic n) = below n s.periodic
declares-means s (Public n) = below n s.public
declares-means s FirstRow = ((λ h. tt), λ h. refl)
declares-means s LastRow = ((λ h. tt), λ h. refl)
declares-means s Transition = ((λ h. tt), λ h. refl)

sendable-means : (c : Cell) → IsTrue (is_sendable c) ↔ IsSendable c
sendable-means (Main next n) = ((λ h. tt), λ h. refl)
sendable-means (Preprocessed next n) = ((λ h. tt), λ h. refl)
sendable-means (Periodic n) = (not_true, λ h. absurd h)
sendable-means (Public n) = ((λ h. tt), λ h. refl)
sendable-means FirstRow = (not_true, λ h. absurd h)
sendable-means LastRow = (not_true, λ h. absurd h)
sendable-means Transition = (not_true, λ h. absurd h)

flag : (b : Bool) → (cond b zero (suc zero) ≡ zero) ↔ IsTrue b
flag true = ((λ h. refl), λ h. refl)
flag false = ((λ h. absurd (omega (arith, h))), λ h. absurd (not_true h))

declared_zero : (s : Shape) (c : Cell) → (strangeness false s c ≡ 0) ↔ Declares s c
declared_zero s c = let e = flag (declares s c && true) in let f = both (declares s c) true in let d = declares-means s c in
    ((λ h. d.0 (f.0 (e.0 h)).0), λ h. e.1 (f.1 (d.1 h, refl)))

sendable_zero : (s : Shape) (c : Cell) → (strangeness true s c ≡ 0) ↔ (Declares s c × IsSendable c)
sendable_zero s c =
    let e = flag (declares s c && is_sendable c) in
    let f = both (declares s c) (is_sendable c) in
    let d = declares-means s c in
    let k = sendable-means c in
    ((λ h. (d.0 (f.0 (e.0 h)).0, k.0 (f.0 (e.0 h)).1)), λ h. e.1 (f.1 (d.1 h.0, k.1 h.1)))

in_max : (m n : ℕ) (A B : Type 0) → (m ≡ 0) ↔ A → (n ≡ 0) ↔ B → (max m n ≡ 0) ↔ (A × B)
in_max m n A B a b = ((λ h. (a.0 (omega (arith, h)), b.0 (omega (arith, h)))), λ h. let p = a.1 h.0 in let q = b.1 h.1 in omega (arith, p, q))

in_sum : (m n : ℕ) (A B : Type 0) → (m ≡ 0) ↔ A → (n ≡ 0) ↔ B → (capped_sum m n ≡ 0) ↔ (A × B)
in_sum m n A B a b = ((λ h. (a.0 (omega (arith, h)), b.0 (omega (arith, h)))), λ h. let p = a.1 h.0 in let q = b.1 h.1 in omega (arith, p, q))

module _ {F : Type 0} (f : Cell → ℕ) (g : ExtCell → ℕ) (P : Cell → Type 0) (Q : ExtCell → Type 0) (base : (c : Cell) → (f c ≡ 0) ↔ P c) (extension : (c : ExtCell) → (g c ≡ 0) ↔ Q c) where
  -- a tree has degree zero exactly where the cells that it reads have
  pub degree_zero : (t : Tree F) → (degree f g t ≡ 0) ↔ ReadsIn P Q t
  degree_zero (constant x) = ((λ h. tt), λ h. refl)
  degree_zero (cell c) = base c
  degree_zero (ext_cell c) = extension c
  degree_zero (sum x y) = in_max (degree f g x) (degree f g y) (ReadsIn P Q x) (ReadsIn P Q y) (degree_zero x) (degree_zero y)
  degree_zero (difference x y) = in_max (degree f g x) (degree f g y) (ReadsIn P Q x) (ReadsIn P Q y) (degree_zero x) (degree_zero y)
  degree_zero (product x y) = in_sum (degree f g x) (degree f g y) (ReadsIn P Q x) (ReadsIn P Q y) (degree_zero x) (degree_zero y)

-- no cell of the extension is declared by an AIR
none_declared : {F : Type 0} (d : Declaration F) (c : ExtCell) → (suc zero ≡ zero) ↔ DeclaresExt (declared_shape d) c
none_declared d (Permutation next n) = ((λ h. absurd (omega (arith, h))), λ h. absurd (omega (arith, h)))
none_declared d (Challenge n) = ((λ h. absurd (omega (arith, h))), λ h. absurd (omega (arith, h)))
none_declared d Terminal = ((λ h. absurd (omega (arith, h))), λ h. absurd (omega (arith, h)))

pub reads_declared : {F : Type 0} (d : Declaration F) (t : Tree F) → (degree (strangeness false (declared_shape d)) (λ _. 1) t ≡ 0) ↔ ReadsDeclared (declared_shape d) t
reads_declared d t = let s = declared_shape d in degree_zero (strangeness false s) (λ _. 1) (Declares s) (DeclaresExt s) (declared_zero s) (none_declared d) t

pub reads_sendable : {F : Type 0} (s : Shape) (t : Tree F) → (degree (strangeness true s) (λ _. 1) t ≡ 0) ↔ ReadsSendable s t
reads_sendable s t = degree_zero (strangeness true s) (λ _. 1) (λ c. Declares s c × IsSendable c) (λ _. ⊥) (sendable_zero s) (λ c. ((λ h. absurd (omega (arith, h))), λ h. absurd h)) t

below_places : {F : Type 0} (s : Shape) (ns : List (Node F)) (cs : List (Count ℕ)) → All (ReadsSendable s) (map (λ c. tree_at ns c.value) cs) ↔ All (λ c. ReadsSendable s c.value) (map (count_at ns) cs)
below_places s ns [] = ((λ h k d l. absurd (omega (arith, l))), λ h k d l. absurd (omega (arith, l)))
below_places s ns (c ∷ cs) = let rest = below_places s ns cs in (
  (λ h. All-cons (λ v. ReadsSendable s v.value) (count_at ns c) (map (count_at ns) cs)
      (All-head (ReadsSendable s) (tree_at ns c.value) (map (λ v. tree_at ns v.value) cs) h)
      (rest.0 (All-tail (ReadsSendable s) (tree_at ns c.value) (map (λ v. tree_at ns v.value) cs) h))),
  λ h. All-cons (ReadsSendable s) (tree_at ns c.value) (map (λ v. tree_at ns v.value) cs)
      (All-head (λ v. ReadsSendable s v.value) (count_at ns c) (map (count_at ns) cs) h)
      (rest.1 (All-tail (λ v. ReadsSendable s v.value) (count_at ns c) (map (count_at ns) cs) h)),
)

-- the interaction at these places reads what it may exactly where its fields and its counts do
pub interaction_reads : {F : Type 0} (s : Shape) (ns : List (Node F)) (n : ℕ) (p : Placed) → PlacedBelow n p → (fs cs : List (Tree F)) → fs ≡ map (tree_at ns) p.fields
    → cs ≡ map (λ c. tree_at ns c.value) p.counts → (All (ReadsSendable s) fs × All (ReadsSendable s) cs) ↔ IsInteraction s (interaction_at ns p)
interaction_reads {F = F} s ns n p below fs cs e f =
    let P : List (Tree F) → Type 0 = λ ts. All (ReadsSendable s) ts in
    let counts = below_places s ns p.counts in (
      (λ h. record {
        fields = subst P e h.0;
        counts = counts.0 (subst P f h.1);
        counted = omega (arith, below.counted, length-map p.counts (count_at ns));
        whole = rw (length-map p.counts (count_at ns), length-map p.fields (tree_at ns)) below.whole;
      }),
      λ h. (subst P (sym e) h.fields, subst P (sym f) (counts.1 h.counts)),
    )

-- the test of a degree that is zero exactly where R holds
pub is_zero : (n m : ℕ) (R : Type 0) → n ≡ m → (m ≡ 0) ↔ R → IsTrue (nat_eq n 0) ↔ R
is_zero n m R e h = ((λ t. h.0 (sym e ∙ from_test n t)), λ r. to_test n (e ∙ h.1 r))
  where
    from_test : (n : ℕ) → IsTrue (nat_eq n 0) → n ≡ 0
    from_test n t = grind (arith, nat_tests, t)

    to_test : (n : ℕ) → n ≡ 0 → IsTrue (nat_eq n 0)
    to_test n e = grind (arith, nat_tests, e)
