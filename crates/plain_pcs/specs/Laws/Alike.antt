-- Requests for the same points of the same commitments are refused alike, and so are extensions of the same matrices.
use Rattle.std.proofs.Common.{◌≡◌, ℕ, ◌<◌, List, Some, length, sym, ◌∙◌, ap, subst, arith}
use Rattle.std.specs.Prelude.{slice_get}
use Rattle.std.proofs.lemmas.Option.{slice_get_within}
use Rattle.p3_field.specs.Domain.{CosetData}
use Rattle.p3_matrix.specs.Matrix.{Rows}
use Rattle.commit_core.specs.Claims.{Request}
use Rattle.commit_core.specs.Commitments.{AreExtensions, IsAskedAlike, AreAskedAlike}
use Rattle.plain_pcs.specs.Scheme.{Scheme}
use Rattle.plain_pcs.specs.Extension.{Extends}
use Rattle.plain_pcs.specs.Holding.{AreHolding}
use Rattle.plain_pcs.specs.Refusals.{HasSubgroupHeight, ExtensionsFault, OpenFault}
use Rattle.plain_pcs.specs.Laws.Listed.{item_at, lacking, earlier_has, first_lacking}
use Rattle.plain_pcs.specs.declared.error.PlainProverError.{PlainProverError}
use Rattle.plain_pcs.specs.declared.error.PlainProverError.TheVariants.{Commit, Open}

module _ {F : Type 0} (s : Scheme F) where
  module _ {E : Type 0} where
    abbrev HasLists : Request (List (CosetData F × Rows F)) E → Type 0
    HasLists r = length r.points ≡ length r.prover_data

    -- prover data that belongs to one commitment is of as many matrices
    lists_alike : (r q : Request (List (CosetData F × Rows F)) E) → IsAskedAlike (AreHolding s) r q → HasLists r → HasLists q
    lists_alike r q a h = ap length (sym a.points_are) ∙ (h ∙ (a.held_is.count ∙ sym a.kept_is.count))

    lists_back : (r q : Request (List (CosetData F × Rows F)) E) → IsAskedAlike (AreHolding s) r q → HasLists q → HasLists r
    lists_back r q a h = ap length a.points_are ∙ (h ∙ (a.kept_is.count ∙ sym a.held_is.count))

    pub opened_alike : (rs qs : List (Request (List (CosetData F × Rows F)) E)) (e : PlainProverError) → AreAskedAlike (AreHolding s) rs qs → OpenFault rs e → OpenFault qs e
    opened_alike rs qs (Commit i) a f = absurd f
    opened_alike rs qs (Open i) a f =
        let (r, at, lacks) = lacking HasLists rs i f in
        let (q, here) = item_at qs i (let n : length qs ≡ length rs = a.count in let b : i < length rs = f.within in omega (arith, n, b)) in
        first_lacking HasLists qs i q here (λ h. lacks (lists_back r q (a.each i q here r at) h))
        (λ j y b there.
        let (x, found) = item_at rs j (let w : i < length rs = f.within in omega (arith, b, w)) in
        lists_alike x y (a.each j y there x found) (earlier_has HasLists rs i j x f b found))

  pub extended_alike : (es : List (CosetData F × Rows F)) (ls ks : List (Rows F)) (e : PlainProverError) → AreExtensions (Extends s) es ls → AreExtensions (Extends s) es ks
      → ExtensionsFault s ls e → ExtensionsFault s ks e
  extended_alike es ls ks (Open i) a b f = absurd f
  extended_alike es ls ks (Commit i) a b f =
      let Fits : Rows F → Type 0 = HasSubgroupHeight s.most in
      let (l, at, lacks) = lacking Fits ls i f in
      let (k, here) = item_at ks i (let n : length ls ≡ length es = a.count in let m : length ks ≡ length es = b.count in let w : i < length ls = f.within in omega (arith, n, m, w)) in
      first_lacking Fits ks i k here (λ h. lacks (subst Fits (sym (same i l k at here)) h))
      (λ j y c there.
      let (x, found) = item_at ls j (let w : i < length ls = f.within in omega (arith, c, w)) in
      subst Fits (same j x y found there) (earlier_has Fits ls i j x f c found))
    where
      -- a matrix has one extension
      same : (j : ℕ) (x y : Rows F) → slice_get ls j ≡ Some x → slice_get ks j ≡ Some y → x ≡ y
      same j x y p q =
          let (d, r) = item_at es j (let n : length ls ≡ length es = a.count in let w : j < length ls = slice_get_within ls j x p in omega (arith, n, w)) in
          (a.each j x p d r).extension_is ∙ sym (b.each j y q d r).extension_is
