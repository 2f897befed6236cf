-- The quotient that an honest prover commits to: its values on a domain apart from the rows, in chunks. After Plonky3's
-- p3-batch-stark (quotient_values) and p3-commit (split_evals).
use Rattle.std.specs.Prelude.{◌≡◌, ℕ, ◌+◌, ◌*◌, ◌^◌, ◌≤◌, List, get_or, map}
use Rattle.p3_field.specs.Field.{TwoAdic, Extension}
use Rattle.p3_field.specs.Poly.{tabulate, eval_poly}
use Rattle.p3_field.specs.Ring.{pow}
use Rattle.p3_field.specs.Domain.{CosetData, point, vanishing_polynomial}
use Rattle.p3_field.specs.Laws.Binomials.{quotient_by_binomial}
use Rattle.commit_core.specs.Space.{AreDisjoint}
use Rattle.air_core.specs.Tree.{Tree, eval_tree}
use Rattle.p3_uni_stark.specs.Fold.{fold}
use Rattle.p3_uni_stark.specs.FoldPolynomials.{fold_poly}
use Rattle.law_committed.specs.Committed.{CommittedTable, reading, row_count_of, trace_domain}
use Rattle.law_committed.specs.Identity.{CommittedQuotient}
use Rattle.law_committed.specs.Polynomials.{tree_poly}
use Rattle.law_committed.specs.Traces.{interpolant}

module _ {F E : Type 0} (f : TwoAdic F) (e : Extension F E) (t : CommittedTable F E) where
  -- the fold by alpha of the trees' polynomials
  abbrev pub folded_poly : List (Tree F) → E → List E
  folded_poly trees alpha = fold_poly e.ring alpha (map (tree_poly f e t) trees)

  -- its quotient by the polynomial that vanishes on the rows
  abbrev pub fold_quotient : List (Tree F) → E → List E
  fold_quotient trees alpha = quotient_by_binomial e.ring (row_count_of t) (pow e.ring (e.embed f.ring.one) (row_count_of t)) (folded_poly trees alpha)

  module _ (shift : F) (log_chunks : ℕ) where
    -- the quotient domain: the coset of this shift with 2^log_chunks times as many points as there are rows
    abbrev pub quotient_domain : CosetData F
    quotient_domain = record { shift = shift; log_size = t.log_height + log_chunks }

    -- it is there, and has no point in common with the rows
    pub record IsQuotientDomain (top : ℕ) : Type 0 where
      pub fits : t.log_height + log_chunks ≤ top
      pub shift_not_zero : shift ≡ f.ring.zero → ⊥
      pub apart : AreDisjoint (row_count_of t) (point f.ring f.root (trace_domain f e t)) (2 ^ (t.log_height + log_chunks)) (point f.ring f.root quotient_domain)

    -- chunk i's part of it: the points i, i + C, i + 2 C, .. for C chunks
    abbrev pub chunk_domain : ℕ → CosetData F
    chunk_domain i = record { shift = point f.ring f.root quotient_domain i; log_size = t.log_height }

    module _ (trees : List (Tree F)) (alpha : E) where
      -- the quotient's value at a point u below: the fold by alpha of the trees' values there, over the vanishing polynomial's value
      unfoldable pub quotient_value : F → E
      quotient_value u = e.ring.mul (fold e.ring alpha (map (eval_tree (reading f e t (e.embed u))) trees))
          (e.embed (f.inv (eval_poly f.ring (vanishing_polynomial f.ring f.inv (trace_domain f e t)) u)))

      -- coefficient k of row j of chunk i, which is row i + C j of the quotient
      abbrev pub chunk_cell : ℕ → ℕ → ℕ → F
      chunk_cell i k j = get_or (e.coefficients (quotient_value (point f.ring f.root quotient_domain (i + 2 ^ log_chunks * j)))) k f.ring.zero

      -- chunk i's polynomials: for each coefficient the interpolant on the chunk's domain
      unfoldable pub honest_chunk : ℕ → List (List F)
      honest_chunk i = tabulate e.dimension (λ k. interpolant f (chunk_domain i) (tabulate (row_count_of t) (chunk_cell i k)))

      -- the quotient of these chunks
      abbrev pub honest_quotient : CommittedQuotient F
      honest_quotient = record { domains = tabulate (2 ^ log_chunks) chunk_domain; chunks = tabulate (2 ^ log_chunks) honest_chunk }
