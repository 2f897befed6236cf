-- The form of stated tables.
use Rattle.std.specs.Prelude.{◌≡◌, ℕ, List, codes, Bool, true, false, Option, None, Some, option_map, if◌then◌else◌, refl}
use Rattle.std.proofs.Common.{ap, arith, subst, ◌∙◌}
use Rattle.p3_field.specs.declared.baby_bear.BabyBear.{BabyBear}
use Rattle.tool_lines.specs.Texts.{Between, Unlimited}
use Rattle.tool_statement.specs.StatedTables.{TableWithin}
use Rattle.tool_statement.specs.declared.table.TableStatement.{TableStatement}
use Rattle.tool_statement.specs.declared.table.TableStatement.TheVariants.{Swap, Wheel, Take, Give, Hash}
use Rattle.serde_json.specs.Data.{Data}
use Rattle.json_forms.specs.Trees.{number_tree, element_tree}
use Rattle.json_forms.specs.Readings.{TreeForm}
use Rattle.json_forms.specs.Laws.Forms.{and_then-inside, map-inside, BothWithin, SameTrees, same-form, member-form, then-form, object-form, object_tree, then_members, member_of, number-form, element-form}
use Rattle.json_forms.specs.Laws.More.{word-form, word_tree}
use Rattle.json_proof_files.specs.TableTrees.{plain_table_tree, table_tree, plain_table_reading, swap_reading, kind_of, kind_reading, table_reading}

-- a table with no public values is seen as the logarithm of its rows and its kind
same-plain : (kind : List ℕ) (least most : ℕ)
    → SameTrees (BothWithin (Between least most) Unlimited) (object_tree (then_members (member_of (codes "k") number_tree) (member_of (codes "kind") (word_tree kind)))) (Between least most) (plain_table_tree kind)
same-plain kind least most = record { to = λ p. p.0; to_fits = λ p fits. fits.0; to_tree = λ p fits. refl; whole = λ k fits. ((k, tt), (fits, tt), refl) }

pub plain-form : (kind : List ℕ) (least most : ℕ) → TreeForm (Between least most) (plain_table_tree kind) (plain_table_reading kind least most)
unfolding same-plain
plain-form kind least most = same-form (same-plain kind least most) (object-form (then-form (member-form (codes "k") (number-form least most)) (member-form (codes "kind") (word-form kind))))

-- the limits of swap tables
abbrev pub IsSwap : TableStatement → Type 0
IsSwap (Swap k a b x) = Between 0 10 k
IsSwap other = ⊥

abbrev pub SwapParts : Type 0
SwapParts = BabyBear × (BabyBear × (ℕ × (Unit {0} × BabyBear)))

abbrev pub SwapPartsWithin : SwapParts → Type 0
SwapPartsWithin = BothWithin Unlimited (BothWithin Unlimited (BothWithin (Between 0 10) (BothWithin Unlimited Unlimited)))

abbrev pub swap_parts_tree : SwapParts → Data
swap_parts_tree =
    object_tree (then_members (member_of (codes "a") element_tree) (then_members (member_of (codes "b") element_tree) (then_members (member_of (codes "k") number_tree)
    (then_members (member_of (codes "kind") (word_tree (codes "swap"))) (member_of (codes "x") element_tree)))))

swap-whole : (t : TableStatement) → IsSwap t → (p : SwapParts) × SwapPartsWithin p × (Swap p.1.1.0 p.0 p.1.0 p.1.1.1.1 ≡ t)
swap-whole (Swap k a b x) fits = ((a, (b, (k, (tt, x)))), (tt, (tt, (fits, (tt, tt)))), refl)
swap-whole (Wheel k) fits = absurd fits
swap-whole (Take k) fits = absurd fits
swap-whole (Give k) fits = absurd fits
swap-whole (Hash k) fits = absurd fits

same-swap : SameTrees SwapPartsWithin swap_parts_tree IsSwap table_tree
same-swap = record { to = λ p. Swap p.1.1.0 p.0 p.1.0 p.1.1.1.1; to_fits = λ p fits. fits.1.1.0; to_tree = λ p fits. refl; whole = swap-whole }

pub swap-form : TreeForm IsSwap table_tree swap_reading
unfolding same-swap
swap-form = same-form same-swap
    (object-form (then-form (member-form (codes "a") element-form) (then-form (member-form (codes "b") element-form) (then-form (member-form (codes "k") (number-form 0 10))
    (then-form (member-form (codes "kind") (word-form (codes "swap"))) (member-form (codes "x") element-form))))))

back : (t : TableStatement) → TableWithin t → table_reading (table_tree t) ≡ Some t
back (Swap k a b x) fits = swap-form.back (Swap k a b x) (omega arith, fits)
back (Wheel k) fits = ap (option_map Wheel) ((plain-form (codes "wheel") 1 10).back k fits)
back (Take k) fits = ap (option_map Take) ((plain-form (codes "take") 0 10).back k (omega arith, fits))
back (Give k) fits = ap (option_map Give) ((plain-form (codes "give") 0 10).back k (omega arith, fits))
back (Hash k) fits = ap (option_map Hash) ((plain-form (codes "hash") 0 3).back k (omega arith, fits))

swap-within : (t : TableStatement) → IsSwap t → TableWithin t
swap-within (Swap k a b x) fits = fits.1
swap-within (Wheel k) fits = absurd fits
swap-within (Take k) fits = absurd fits
swap-within (Give k) fits = absurd fits
swap-within (Hash k) fits = absurd fits

-- a tree that is read as a table has the table's tree
abbrev pub IsRead : Data → Option TableStatement → Type 0
IsRead d o = (t : TableStatement) → o ≡ Some t → TableWithin t × (table_tree t ≡ d)

swap-read : (d : Data) → IsRead d (swap_reading d)
swap-read d t e = let h = swap-form.forth d t e in (swap-within t h.0, h.1)

plain-read : (of : ℕ → TableStatement) (kind : List ℕ) (least most : ℕ) → ((k : ℕ) → Between least most k → TableWithin (of k))
    → ((k : ℕ) → table_tree (of k) ≡ plain_table_tree kind k) → (d : Data) → IsRead d (option_map of (plain_table_reading kind least most d))
plain-read of kind least most fits same d t e =
    let inner = map-inside of (plain_table_reading kind least most d) t e in
    let h = (plain-form kind least most).forth d inner.0 inner.1 in
    subst (λ (u : TableStatement). TableWithin u × (table_tree u ≡ d)) inner.2 (fits inner.0 h.0, same inner.0 ∙ h.1)

either-read : (d : Data) (b : Bool) (first second : Option TableStatement) → IsRead d first → IsRead d second → IsRead d (if b then first else second)
either-read d true first second f g t e = f t e
either-read d false first second f g t e = g t e

none-read : (d : Data) → IsRead d None
none-read d t e = absurd (cc)

kind-read : (kind : List ℕ) (d : Data) → IsRead d (kind_reading kind d)
kind-read kind d =
    either-read d _ _ _ (swap-read d)
    (either-read d _ _ _ (plain-read Wheel (codes "wheel") 1 10 (λ k h. h) (λ k. refl) d)
    (either-read d _ _ _ (plain-read Take (codes "take") 0 10 (λ k h. h.1) (λ k. refl) d)
    (either-read d _ _ _ (plain-read Give (codes "give") 0 10 (λ k h. h.1) (λ k. refl) d)
    (either-read d _ _ _ (plain-read Hash (codes "hash") 0 3 (λ k h. h.1) (λ k. refl) d) (none-read d)))))

forth : (d : Data) (t : TableStatement) → table_reading d ≡ Some t → TableWithin t × (table_tree t ≡ d)
forth d t e =
    let named = and_then-inside (λ kind. kind_reading kind d) (kind_of d) t e in
    kind-read named.0 d t named.2

pub table-form : TreeForm TableWithin table_tree table_reading
table-form = record { back = back; forth = forth }
