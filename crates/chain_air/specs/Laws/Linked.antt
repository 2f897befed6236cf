-- The constraints are zero at the rows of a table exactly where those of compressions are and the rows are linked.
use Rattle.std.proofs.Common.{◌≡◌, ℕ, zero, suc, ◌+◌, ◌*◌, ◌<◌, ◌≤◌, ◌++◌, ◌⊎◌, inl, inr, List, get_or, true, false, sym, ◌∙◌, ap, arith}
use Rattle.std.specs.Prelude.{All, ◌↔◌}
use Rattle.std.proofs.lemmas.Bool.{cases_eq}
use Rattle.std.proofs.lemmas.List.Elements.{All-append}
use Rattle.p3_field.specs.Ring.{Ring, RingLaws, sub}
use Rattle.p3_field.specs.Field.{RingHom}
use Rattle.p3_field.specs.Laws.Algebra.{mul_zero, zero_mul}
use Rattle.p3_field.specs.Laws.Roots.{NoZeroDivisors, sub_zero, sub_self}
use Rattle.air_core.specs.declared.cells.Cell.{Cell}
use Rattle.air_core.specs.declared.cells.Cell.TheVariants.{Main, Public, FirstRow, LastRow, Transition}
use Rattle.air_core.specs.declared.cells.ExtCell.{ExtCell}
use Rattle.air_core.specs.Maps.{AgreeOn, reading_over}
use Rattle.air_core.specs.RowCheck.{cell_value, ext_cell_value}
use Rattle.air_core.specs.Tree.{Tree, Reading, eval_tree}
use Rattle.air_core.specs.Laws.Lists.{all_left, all_right, all_of_joined, all_joined, all_of_tabulate, all_tabulate}
use Rattle.air_core.specs.Laws.Maps.{hom_keeps, value_along}
use Rattle.blake3_prime.specs.Trees.{from_column, packed_limbs, blake3_trees}
use Rattle.blake3_prime.specs.Laws.Reads.{reads_all}
use Rattle.law_committed.specs.BaseRows.{ReadRows}
use Rattle.chain_air.specs.Trees.{link_tree, link_trees, limb_tree, public_word_trees, edge_trees, linking_trees, chain_trees}
use Rattle.chain_air.specs.Meanings.{lone_row, limb_value, IsCompressionRow, AreLinked}
use Rattle.chain_air.specs.Laws.Declared.{reads_limb}

module _ {F E : Type 0} (f : Ring F) (e : Ring E) (embed : F → E) (Lf : RingLaws f) (Le : RingLaws e) (H : RingHom f e embed) (known : (y z : F) → embed y ≡ embed z → y ≡ z)
    (whole : NoZeroDivisors e) (n : ℕ) (some : 0 < n) (rows : ℕ → List F) (publics : List F) (at : ℕ → Cell → E) (at_ext : ℕ → ExtCell → E) (R : ReadRows f e embed n rows publics at) where
  abbrev below : ℕ → Reading F F
  below j = reading_over f (λ x. x) (cell_value f (lone_row (rows j))) (ext_cell_value f.zero (lone_row (rows j)))

  abbrev pub above : ℕ → Reading F E
  above j = reading_over e embed (at j) (at_ext j)

  abbrev Zero : ℕ → Tree F → Type 0
  Zero j t = eval_tree (above j) t ≡ e.zero

  abbrev Agree : ℕ → Tree F → Type 0
  Agree j t = AgreeOn (below j) (above j) embed t

  goes_up : (j : ℕ) (t : Tree F) → Agree j t → embed (eval_tree (below j) t) ≡ eval_tree (above j) t
  goes_up j t same =
      value_along (below j) (above j) embed
      (hom_keeps f Lf e Le embed H (λ x. x) (cell_value f (lone_row (rows j))) (at j) (ext_cell_value f.zero (lone_row (rows j))) (at_ext j)) t same

  compressions_agree : (j : ℕ) → j < n → All (Agree j) (blake3_trees f)
  compressions_agree j lt =
      reads_all f (λ c. embed (cell_value f (lone_row (rows j)) c) ≡ at j c) (λ c. embed (ext_cell_value f.zero (lone_row (rows j)) c) ≡ at_ext j c) (λ k b. sym (R.here j k lt))

  limb_agrees : (j column k : ℕ) → j < n → column + 32 ≤ 9168 → k < 2 → embed (limb_value f (rows j) column k) ≡ eval_tree (above j) (packed_limbs f (from_column column) k)
  limb_agrees j column k lt h lk =
      goes_up j (packed_limbs f (from_column column) k)
      (reads_limb f (λ c. embed (cell_value f (lone_row (rows j)) c) ≡ at j c) (λ c. embed (ext_cell_value f.zero (lone_row (rows j)) c) ≡ at_ext j c) (λ k b. sym (R.here j k lt)) column k h lk)

  -- an equation under a selector
  equal_there : (s x y : E) → (s ≡ e.zero → ⊥) → e.mul s (sub e x y) ≡ e.zero → x ≡ y
  equal_there s x y nz w = sub_zero e Le x y (whole s (sub e x y) nz w)

  zero_there : (s x y : E) → (s ≡ e.zero) ⊎ (x ≡ y) → e.mul s (sub e x y) ≡ e.zero
  zero_there s x y (inl w) = ap (λ u. e.mul u (sub e x y)) w ∙ zero_mul e Le (sub e x y)
  zero_there s x y (inr w) = ap (e.mul s) (sub_self e Le x y w) ∙ mul_zero e Le s

  -- part by part
  record Parts (j : ℕ) : Type 0 where
    compressions : All (Zero j) (blake3_trees f)
    links : All (Zero j) link_trees
    first : All (Zero j) (edge_trees f FirstRow 512 0)
    last : All (Zero j) (edge_trees f LastRow 8656 16)

  parts : (j : ℕ) → All (Zero j) (chain_trees f) ↔ Parts j
  unfolding chain_trees linking_trees
  parts j =
      let a = blake3_trees f in
      let b = link_trees in
      let c = edge_trees f FirstRow 512 0 in
      let d = edge_trees f LastRow 8656 16 in (
        λ v.
            let u = all_right (Zero j) a (b ++ c ++ d) v in
            let w = all_left (Zero j) (b ++ c) d u in record {
              compressions = all_left (Zero j) a (b ++ c ++ d) v;
              links = all_left (Zero j) b c w;
              first = all_right (Zero j) b c w;
              last = all_right (Zero j) (b ++ c) d u;
            },
        λ p. All-append (Zero j) a (b ++ c ++ d) p.compressions (All-append (Zero j) (b ++ c) d (All-append (Zero j) b c p.links p.first) p.last),
      )

  of_edge : (j : ℕ) (selector : Cell) (column public : ℕ) → All (Zero j) (edge_trees f selector column public) → (w k : ℕ) → w < 8 → k < 2
      → Zero j (limb_tree f selector (column + 32 * w) (public + 2 * w) k)
  unfolding edge_trees public_word_trees
  of_edge j selector column public v w k lw lk =
      all_of_tabulate (Zero j) 2 (limb_tree f selector (column + 32 * w) (public + 2 * w))
      (all_of_joined (Zero j) 8 (λ w. public_word_trees f selector (column + 32 * w) (public + 2 * w)) v w lw) k lk

  all_edge : (j : ℕ) (selector : Cell) (column public : ℕ) → ((w k : ℕ) → w < 8 → k < 2 → Zero j (limb_tree f selector (column + 32 * w) (public + 2 * w) k))
      → All (Zero j) (edge_trees f selector column public)
  unfolding edge_trees public_word_trees
  all_edge j selector column public h =
      all_joined (Zero j) 8 (λ w. public_word_trees f selector (column + 32 * w) (public + 2 * w)) (λ w lw.
      all_tabulate (Zero j) 2 (limb_tree f selector (column + 32 * w) (public + 2 * w)) (λ k lk. h w k lw lk))

  of_links : (j : ℕ) → All (Zero j) link_trees → (i : ℕ) → i < 256 → Zero j (link_tree i)
  unfolding link_trees
  of_links j v i lt = all_of_tabulate (Zero j) 256 link_tree v i lt

  all_links : (j : ℕ) → ((i : ℕ) → i < 256 → Zero j (link_tree i)) → All (Zero j) link_trees
  unfolding link_trees
  all_links j h = all_tabulate (Zero j) 256 link_tree h

  -- the limbs of a word and the public values, where the selector selects
  limb_is : (j : ℕ) (selector : Cell) (column public k : ℕ) → j < n → column + 32 ≤ 9168 → k < 2 → (at j selector ≡ e.zero → ⊥) → Zero j (limb_tree f selector column public k)
      → limb_value f (rows j) column k ≡ get_or publics (public + k) f.zero
  limb_is j selector column public k lt h lk nz w =
      known (limb_value f (rows j) column k) (get_or publics (public + k) f.zero)
      (limb_agrees j column k lt h lk
      ∙ (equal_there (at j selector) (eval_tree (above j) (packed_limbs f (from_column column) k)) (at j (Public (public + k))) nz w ∙ R.public j (public + k) lt))

  limb_zero : (j : ℕ) (selector : Cell) (column public k : ℕ) → j < n → column + 32 ≤ 9168 → k < 2
      → (at j selector ≡ e.zero) ⊎ (limb_value f (rows j) column k ≡ get_or publics (public + k) f.zero) → Zero j (limb_tree f selector column public k)
  limb_zero j selector column public k lt h lk w =
      zero_there (at j selector) (eval_tree (above j) (packed_limbs f (from_column column) k)) (at j (Public (public + k))) (elim w [
        | inl z ↦ inl z
        | inr same ↦ inr (sym (limb_agrees j column k lt h lk) ∙ (ap embed same ∙ sym (R.public j (public + k) lt)))
      ])

  -- the constraints are zero where the rows are linked compressions, and nowhere else
  pub linked_means : ((j : ℕ) → j < n → All (Zero j) (chain_trees f)) ↔ (((j : ℕ) → j < n → IsCompressionRow f (rows j)) × AreLinked f n rows publics)
  linked_means = (
    λ v.
        let p : (j : ℕ) → j < n → Parts j = λ j lt. (parts j).0 (v j lt) in (
          λ j lt k d l.
              let t = get_or (blake3_trees f) k d in
              known (eval_tree (below j) t) f.zero (goes_up j t (compressions_agree j lt k d l) ∙ ((p j lt).compressions k d l ∙ sym H.keeps_zero)),
          record {
            links = λ j i lt li.
                let here : j < n = omega (arith, lt) in
                known (get_or (rows (suc j)) (512 + i) f.zero) (get_or (rows j) (8656 + i) f.zero)
                (sym (R.next j (512 + i) lt)
                ∙ (equal_there (at j Transition) (at j (Main true (512 + i))) (at j (Main false (8656 + i))) (R.transition j lt) (of_links j (p j here).links i li)
                ∙ R.here j (8656 + i) here));
            first = λ w k lw lk.
                let e : 0 + 2 * w + k ≡ 2 * w + k = omega arith in
                limb_is 0 FirstRow (512 + 32 * w) (0 + 2 * w) k some (omega (arith, lw)) lk R.first (of_edge 0 FirstRow 512 0 (p 0 some).first w k lw lk)
                ∙ ap (λ m. get_or publics m f.zero) e;
            last = λ j w k e lw lk.
                let here : j < n = omega (arith, e) in
                limb_is j LastRow (8656 + 32 * w) (16 + 2 * w) k here (omega (arith, lw)) lk (R.last j e) (of_edge j LastRow 8656 16 (p j here).last w k lw lk);
          },
        ),
    λ h j lt.
        let A = h.1 in
        (parts j).1 (record {
          compressions = λ k d l.
              let t = get_or (blake3_trees f) k d in
              sym (goes_up j t (compressions_agree j lt k d l)) ∙ (ap embed (h.0 j lt k d l) ∙ H.keeps_zero);
          links = all_links j (λ i li.
              zero_there (at j Transition) (at j (Main true (512 + i))) (at j (Main false (8656 + i))) (elim (cases_eq (suc j) n) [
                | inl e ↦ inl (R.transition_elsewhere j e)
                | inr d ↦
                    let more : suc j < n = omega (arith, d, lt) in
                    inr (R.next j (512 + i) more ∙ (ap embed (A.links j i more li) ∙ sym (R.here j (8656 + i) lt)))
              ]));
          first = first_zero j lt A;
          last = all_edge j LastRow 8656 16 (λ w k lw lk.
              limb_zero j LastRow (8656 + 32 * w) (16 + 2 * w) k lt (omega (arith, lw)) lk (elim (cases_eq (suc j) n) [
                | inl e ↦ inr (A.last j w k e lw lk)
                | inr d ↦ inl (R.last_elsewhere j (omega (arith, d, lt)))
              ]));
        }),
  )
    where
      first_zero : (j : ℕ) → j < n → AreLinked f n rows publics → All (Zero j) (edge_trees f FirstRow 512 0)
      first_zero zero lt A = all_edge zero FirstRow 512 0 (λ w k lw lk. limb_zero zero FirstRow (512 + 32 * w) (0 + 2 * w) k lt (omega (arith, lw)) lk
          (let e : 2 * w + k ≡ 0 + 2 * w + k = omega arith in inr (A.first w k lw lk ∙ ap (λ m. get_or publics m f.zero) e)))
      first_zero (suc j) lt A =
          all_edge (suc j) FirstRow 512 0 (λ w k lw lk. limb_zero (suc j) FirstRow (512 + 32 * w) (0 + 2 * w) k lt (omega (arith, lw)) lk (inl (R.first_elsewhere j lt)))
