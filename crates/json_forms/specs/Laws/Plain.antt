-- Trees with no floats, that nest to at most a depth: what is written of them is their compact text, and is read back.
use Rattle.std.specs.Prelude.{◌≡◌, ℕ, suc, ◌≤◌, max, List, [], ◌∷◌, Bool, false, ◌||◌, Option, None, Some, refl}
use Rattle.std.proofs.Common.{arith}
use Rattle.p3_field.specs.declared.baby_bear.BabyBear.{BabyBear}
use Rattle.p3_field.specs.declared.quartic.QuarticExtension.{QuarticExtension}
use Rattle.serde_json.specs.Data.{Data, string, object, Items, Members, no_members, member, depth, items_depth, members_depth}
use Rattle.serde_json.specs.Written.{has_float, items_have_float, members_have_float}
use Rattle.json_forms.specs.Trees.{number_tree, items_tree, list_tree, option_tree, element_tree, extension_tree}

pub record IsPlain (most : ℕ) (d : Data) : Type 0 where
  pub exact : has_float d ≡ false
  pub shallow : depth d ≤ most

record ArePlain (most : ℕ) (ds : Items) : Type 0 where
  exact : items_have_float ds ≡ false
  shallow : items_depth ds ≤ most

pub record MembersPlain (most : ℕ) (ms : Members) : Type 0 where
  pub exact : members_have_float ms ≡ false
  pub shallow : members_depth ms ≤ most

or-false : (a b : Bool) → a ≡ false → b ≡ false → (a || b) ≡ false
or-false a b p q = rw (p, q) refl

max-most : (a b most : ℕ) → a ≤ most → b ≤ most → max a b ≤ most
max-most a b most p q = omega (arith, p, q)

pub plain-number : (most n : ℕ) → IsPlain most (number_tree n)
plain-number most n = record { exact = refl; shallow = omega arith }

pub plain-word : (most : ℕ) (s : List ℕ) → IsPlain most (string s)
plain-word most s = record { exact = refl; shallow = omega arith }

plain-items : {A : Type 0} (tree : A → Data) (most : ℕ) → ((x : A) → IsPlain most (tree x)) → (xs : List A) → ArePlain most (items_tree tree xs)
plain-items tree most each [] = record { exact = refl; shallow = omega arith }
plain-items tree most each (x ∷ xs) =
    let one = each x in
    let rest = plain-items tree most each xs in
    record {
      exact = or-false (has_float (tree x)) (items_have_float (items_tree tree xs)) one.exact rest.exact;
      shallow = max-most (depth (tree x)) (items_depth (items_tree tree xs)) most one.shallow rest.shallow;
    }

pub plain-list : {A : Type 0} (tree : A → Data) (most : ℕ) → ((x : A) → IsPlain most (tree x)) → (xs : List A) → IsPlain (suc most) (list_tree tree xs)
plain-list tree most each xs =
    let items = plain-items tree most each xs in
    let shallow = items.shallow in
    record { exact = items.exact; shallow = omega (arith, shallow) }

pub plain-option : {A : Type 0} (tree : A → Data) (most : ℕ) → ((x : A) → IsPlain most (tree x)) → (o : Option A) → IsPlain most (option_tree tree o)
plain-option tree most each None = record { exact = refl; shallow = omega arith }
plain-option tree most each (Some x) = each x

pub plain-element : (most : ℕ) (x : BabyBear) → IsPlain most (element_tree x)
plain-element most x = plain-number most x.value

pub plain-extension : (most : ℕ) (x : QuarticExtension) → IsPlain (suc most) (extension_tree x)
plain-extension most x = plain-list element_tree most (plain-element most) (x.c0 ∷ x.c1 ∷ x.c2 ∷ x.c3 ∷ [])

pub plain-last : (most : ℕ) → MembersPlain most no_members
plain-last most = record { exact = refl; shallow = omega arith }

pub plain-member : (key : List ℕ) {most : ℕ} {d : Data} {ms : Members} → IsPlain most d → MembersPlain most ms → MembersPlain most (member key d ms)
plain-member key {most} {d} {ms} one rest = record {
  exact = or-false (has_float d) (members_have_float ms) one.exact rest.exact;
  shallow = max-most (depth d) (members_depth ms) most one.shallow rest.shallow;
}

pub plain-object : {most : ℕ} {ms : Members} → MembersPlain most ms → IsPlain (suc most) (object ms)
plain-object {most} {ms} p =
    let shallow = p.shallow in
    record { exact = p.exact; shallow = omega (arith, shallow) }
