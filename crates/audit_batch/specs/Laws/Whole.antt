-- The parts of a batch's checks, named one after another.
use Rattle.std.proofs.Common.{List, [], ◌∷◌, ◌++◌, refl, sym, subst, inl, inr}
use Rattle.std.proofs.lemmas.List.{append-nil}
use Rattle.p3_field.specs.Checks.{NoneFails}
use Rattle.audit_batch.specs.Asked.{Asked, always, only, checks_in, AreNamed}
use Rattle.audit_batch.specs.Named.{AreNamedAfter}
use Rattle.audit_batch.specs.Opened.{AreClaimsNamed, AreOpened, domains_of_all, identities_of_all, metadata_of_all}
use Rattle.audit_batch.specs.Parts.{Parts, IsPlayed, all_asked, claims_asked, claims_list, draws_asked, shape_asked, shape_list}
use Rattle.audit_batch.specs.Laws.Naming.{after_append, after_unasked, after_where}
use Rattle.audit_batch.specs.Laws.Parts.{in_claims, in_shape}

module _ {R : Type 0} where
  -- no check fails
  named_nothing : (qs : List (Asked R)) → NoneFails (checks_in qs) → AreNamed qs []
  unfolding AreNamed checks_in NoneFails
  named_nothing [] h = refl
  named_nothing (q ∷ qs) h = inl (λ c. h.0, named_nothing qs h.1)

  pub after_nothing : (qs : List (Asked R)) (a : List R) → NoneFails (checks_in qs) → AreNamedAfter a qs a
  after_nothing qs a h = ([], named_nothing qs h, sym (append-nil a))

  -- to an empty list
  pub from_nothing : (qs : List (Asked R)) (es : List R) → AreNamedAfter [] qs es → AreNamed qs es
  from_nothing qs es h = subst (AreNamed qs) (sym h.2) h.1

module _ {R : Type 0} (p : Parts R) where
  -- the condition of what comes after the claims
  abbrev AreClaimed : Type 0
  AreClaimed = IsPlayed p × NoneFails (claims_list p)

  abbrev opens_asked : List (Asked R)
  opens_asked = only AreClaimed (always p.opens)

  abbrev identities_asked : List (Asked R)
  identities_asked = only AreClaimed (identities_of_all p)

  -- all parts
  join : (a b d e f g h : List R) → AreNamedAfter a (shape_asked p.shape) b → AreNamedAfter b (draws_asked p) d → AreNamedAfter d (claims_asked p) e → AreNamedAfter e opens_asked f
      → AreNamedAfter f identities_asked g → AreNamedAfter g (always p.terminals) h → AreNamedAfter a (all_asked p) h
  unfolding all_asked
  join a b d e f g h s w c o i t =
      after_append (shape_asked p.shape ++ draws_asked p ++ (claims_asked p ++ opens_asked) ++ identities_asked) (always p.terminals) a g h
      (after_append (shape_asked p.shape ++ draws_asked p ++ (claims_asked p ++ opens_asked)) identities_asked a f g
      (after_append (shape_asked p.shape ++ draws_asked p) (claims_asked p ++ opens_asked) a d f (after_append (shape_asked p.shape) (draws_asked p) a b d s w)
      (after_append (claims_asked p) opens_asked d e f c o)) i) t

  draws_named : (a b d : List R) → AreNamedAfter a (only (NoneFails (shape_list p.shape)) p.lookup_grinding) b → AreNamedAfter b (only (IsPlayed p) (always p.ood_grinding)) d
      → AreNamedAfter a (draws_asked p) d
  unfolding draws_asked
  draws_named a b d l o = after_append (only (NoneFails (shape_list p.shape)) p.lookup_grinding) (only (IsPlayed p) (always p.ood_grinding)) a b d l o

  -- the claims, where the shape is right
  claims_named : (a b d : List R) → NoneFails (shape_list p.shape) → AreNamedAfter a (domains_of_all p) b → AreNamedAfter b (metadata_of_all p) d → AreNamedAfter a (claims_asked p) d
  unfolding claims_asked
  claims_named a b d s l m =
      let Shape = NoneFails (shape_list p.shape) in
      after_append (only Shape (domains_of_all p)) (only Shape (metadata_of_all p)) a b d (after_where Shape (domains_of_all p) a b s l) (after_where Shape (metadata_of_all p) b d s m)

  -- and where it isn't
  claims_unasked : (a : List R) → (NoneFails (shape_list p.shape) → ⊥) → AreNamedAfter a (claims_asked p) a
  unfolding claims_asked
  claims_unasked a n =
      let Shape = NoneFails (shape_list p.shape) in
      after_append (only Shape (domains_of_all p)) (only Shape (metadata_of_all p)) a a a (after_unasked Shape (domains_of_all p) a n) (after_unasked Shape (metadata_of_all p) a n)

  -- no claim fails
  claims_unnamed : (a : List R) → NoneFails (claims_list p) → AreNamedAfter a (claims_asked p) a
  claims_unnamed a c = after_nothing (claims_asked p) a (subst NoneFails (sym (in_claims p)) c)

  shape_unnamed : (a : List R) → NoneFails (shape_list p.shape) → AreNamedAfter a (shape_asked p.shape) a
  shape_unnamed a s = after_nothing (shape_asked p.shape) a (subst NoneFails (sym (in_shape p.shape)) s)

  -- Where the shape isn't right, its part and the terminals alone are asked.
  pub shape_fails : (a b d : List R) → (NoneFails (shape_list p.shape) → ⊥) → AreNamedAfter a (shape_asked p.shape) b → AreNamedAfter b (always p.terminals) d → AreNamedAfter a (all_asked p) d
  shape_fails a b d n s t =
      let Shape = NoneFails (shape_list p.shape) in
      join a b b b b b d s (draws_named b b b (after_unasked Shape p.lookup_grinding b n) (after_unasked (IsPlayed p) (always p.ood_grinding) b (λ h. n h.0))) (claims_unasked b n)
      (after_unasked AreClaimed (always p.opens) b (λ h. n h.0.0)) (after_unasked AreClaimed (identities_of_all p) b (λ h. n h.0.0)) t

  -- Where it is right, and the value that the script needs is missing:
  module _ (s : NoneFails (shape_list p.shape)) where
    pub witness_missing : (a b d e : List R) → (p.has_witness → ⊥) → AreNamedAfter a p.lookup_grinding b → AreClaimsNamed p b d → AreNamedAfter d (always p.terminals) e
        → AreNamedAfter a (all_asked p) e
    witness_missing a b d e n l x t =
        join a a b d d d e (shape_unnamed a s)
        (draws_named a b b (after_where (NoneFails (shape_list p.shape)) p.lookup_grinding a b s l) (after_unasked (IsPlayed p) (always p.ood_grinding) b (λ h. n h.1)))
        (claims_named b x.0 d s x.1 x.2) (after_unasked AreClaimed (always p.opens) d (λ h. n h.0.1)) (after_unasked AreClaimed (identities_of_all p) d (λ h. n h.0.1)) t

    -- Where it is there, the script is played.
    module _ (w : p.has_witness) where
      both_drawn : (a b d : List R) → AreNamedAfter a p.lookup_grinding b → AreNamedAfter b (always p.ood_grinding) d → AreNamedAfter a (draws_asked p) d
      both_drawn a b d l o =
          draws_named a b d (after_where (NoneFails (shape_list p.shape)) p.lookup_grinding a b s l) (after_where (IsPlayed p) (always p.ood_grinding) b d (s, w) o)

      -- where a claim fails, the backend and the identities aren't asked
      claims_fail : (a b d e f : List R) → (NoneFails (claims_list p) → ⊥) → AreNamedAfter a p.lookup_grinding b → AreNamedAfter b (always p.ood_grinding) d → AreClaimsNamed p d e
          → AreNamedAfter e (always p.terminals) f → AreNamedAfter a (all_asked p) f
      claims_fail a b d e f n l o x t =
          join a a d e e e f (shape_unnamed a s) (both_drawn a b d l o) (claims_named d x.0 e s x.1 x.2) (after_unasked AreClaimed (always p.opens) e (λ h. n h.1))
          (after_unasked AreClaimed (identities_of_all p) e (λ h. n h.1)) t

      claims_hold : (a b d e f g : List R) → NoneFails (claims_list p) → AreNamedAfter a p.lookup_grinding b → AreNamedAfter b (always p.ood_grinding) d
          → AreNamedAfter d (always p.opens) e → AreNamedAfter e (identities_of_all p) f → AreNamedAfter f (always p.terminals) g → AreNamedAfter a (all_asked p) g
      claims_hold a b d e f g c l o x y t =
          join a a d d e f g (shape_unnamed a s) (both_drawn a b d l o) (claims_unnamed d c) (after_where AreClaimed (always p.opens) d e ((s, w), c) x)
          (after_where AreClaimed (identities_of_all p) e f ((s, w), c) y) t

      pub script_played : (a b d e f : List R) → AreNamedAfter a p.lookup_grinding b → AreNamedAfter b (always p.ood_grinding) d → AreOpened p d e → AreNamedAfter e (always p.terminals) f
          → AreNamedAfter a (all_asked p) f
      script_played a b d e f l o x t = elim x [
        | inl u ↦ claims_fail a b d e f u.0 l o u.1 t
        | inr u ↦ let m = u.1 in claims_hold a b d m.0 e f u.0 l o m.1 m.2 t
      ]
