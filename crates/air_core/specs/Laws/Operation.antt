-- An operation's value is its tree's, where trees are read by a ring's operations.
use Rattle.std.proofs.Common.{◌≡◌, sym, ◌∙◌, ap}
use Rattle.p3_field.specs.Ring.{Ring, RingLaws, sub}
use Rattle.p3_field.specs.Field.{RingHom}
use Rattle.p3_field.specs.Laws.Extended.{hom_neg}
use Rattle.air_core.specs.Tree.{Tree, Reading, eval_tree}
use Rattle.air_core.specs.Operation.{Operation, plus, minus, times, tree_by, value_by}

-- the reading has the ring's operations
pub record ReadsBy {F E : Type 0} (s : Ring E) (rd : Reading F E) : Type 0 where
  pub adds : (x y : E) → rd.add x y ≡ s.add x y
  pub subs : (x y : E) → rd.sub x y ≡ sub s x y
  pub muls : (x y : E) → rd.mul x y ≡ s.mul x y

pub value_by-tree : {F E : Type 0} (s : Ring E) (rd : Reading F E) → ReadsBy s rd → (op : Operation) (x y e : E) (t u : Tree F)
    → x ≡ eval_tree rd t → y ≡ eval_tree rd u → e ≡ value_by s op x y → e ≡ eval_tree rd (tree_by op t u)
value_by-tree s rd R plus x y e t u h k q = q ∙ ((λ i. s.add (h i) (k i)) ∙ sym (R.adds (eval_tree rd t) (eval_tree rd u)))
value_by-tree s rd R minus x y e t u h k q = q ∙ ((λ i. sub s (h i) (k i)) ∙ sym (R.subs (eval_tree rd t) (eval_tree rd u)))
value_by-tree s rd R times x y e t u h k q = q ∙ ((λ i. s.mul (h i) (k i)) ∙ sym (R.muls (eval_tree rd t) (eval_tree rd u)))

module _ {A B : Type 0} (r : Ring A) (L : RingLaws r) (s : Ring B) (M : RingLaws s) (f : A → B) (H : RingHom r s f) where
  -- a map of rings keeps operations
  pub hom-value_by : (op : Operation) (x y : A) → f (value_by r op x y) ≡ value_by s op (f x) (f y)
  hom-value_by plus x y = H.keeps_add x y
  hom-value_by minus x y = H.keeps_add x (r.neg y) ∙ ap (s.add (f x)) (hom_neg r L s M f H y)
  hom-value_by times x y = H.keeps_mul x y

  -- the same of values of the base whose images are the trees' values
  pub embedded-value_by : {F : Type 0} (rd : Reading F B) → ReadsBy s rd → (op : Operation) (x y e : A) (t u : Tree F)
      → f x ≡ eval_tree rd t → f y ≡ eval_tree rd u → e ≡ value_by r op x y → f e ≡ eval_tree rd (tree_by op t u)
  embedded-value_by rd R op x y e t u h k q = value_by-tree s rd R op (f x) (f y) (f e) t u h k (ap f q ∙ hom-value_by op x y)
