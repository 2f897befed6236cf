-- Where each check is asked if none before it fails, nothing is named exactly where no check fails, and what is named first is the refusal of the first
-- check that fails. And there is one list of what is named.
use Rattle.std.proofs.Common.{◌≡◌, ℕ, zero, suc, List, [], ◌∷◌, ◌++◌, refl, sym, ◌∙◌, ap, subst, inl, inr}
use Rattle.p3_field.specs.Checks.{Check, NoneFails, FirstFails, in_turn, AreSingle}
use Rattle.audit_batch.specs.Asked.{Asked, always, only, in_order, of_each, checks_in, AreNamed, AreAskedInTurn}

module _ {R : Type 0} where
  -- nothing is named: no check fails
  pub none_if_unnamed : (H : Type 0) (qs : List (Asked R)) → AreAskedInTurn H qs → H → AreNamed qs [] → NoneFails (checks_in qs)
  unfolding AreAskedInTurn AreNamed checks_in NoneFails
  none_if_unnamed H [] t h n = tt
  none_if_unnamed H (q ∷ qs) t h n = elim n [
    | inl u ↦ let holds = u.0 (t.0 h) in (holds, none_if_unnamed (H × q.check.holds) qs t.1 (h, holds) u.1)
    | inr u ↦ let same = u.2.4 in absurd cc
  ]

  -- no check fails: nothing is named
  pub unnamed_if_none : (qs : List (Asked R)) (es : List R) → NoneFails (checks_in qs) → AreNamed qs es → es ≡ []
  unfolding AreNamed checks_in NoneFails
  unnamed_if_none [] es h n = n
  unnamed_if_none (q ∷ qs) es h n = elim n [
    | inl u ↦ unnamed_if_none qs es h.1 u.1
    | inr u ↦ absurd (u.1 h.0)
  ]

  -- what is named first is the refusal of the first check that fails
  pub first_is_named : (H : Type 0) (qs : List (Asked R)) (e : R) (es : List R) → AreAskedInTurn H qs → H → AreNamed qs (e ∷ es) → FirstFails (checks_in qs) e
  unfolding AreAskedInTurn AreNamed checks_in FirstFails
  first_is_named H [] e es t h n = absurd cc
  first_is_named H (q ∷ qs) e es t h n = elim n [
    | inl u ↦ let holds = u.0 (t.0 h) in inl (holds, first_is_named (H × q.check.holds) qs e es t.1 (h, holds) u.1)
    | inr u ↦ let same = u.2.4 in let here : u.2.0 ≡ e = cc in inr (u.1, subst q.check.refusal here u.2.2)
  ]

  -- there is one list
  pub same_named : (qs : List (Asked R)) (xs ys : List R) → AreSingle (checks_in qs) → AreNamed qs xs → AreNamed qs ys → xs ≡ ys
  unfolding AreNamed checks_in AreSingle
  same_named [] xs ys s m n = m ∙ sym n
  same_named (q ∷ qs) xs ys s m n = elim m [
    | inl t ↦ elim n [
      | inl u ↦ same_named qs xs ys s.1 t.1 u.1
      | inr u ↦ absurd (u.1 (t.0 u.0))
    ]
    | inr t ↦ elim n [
      | inl u ↦ absurd (t.1 (u.0 t.0))
      | inr u ↦
          let head : t.2.0 ≡ u.2.0 = s.0.same t.2.0 u.2.0 t.2.2 u.2.2 in
          let rest : t.2.1 ≡ u.2.1 = same_named qs t.2.1 u.2.1 s.1 t.2.3 u.2.3 in
          let one = t.2.4 in let two = u.2.4 in
          one ∙ (λ i. head i ∷ rest i) ∙ sym two
    ]
  ]

  -- the condition may be stronger
  pub turn_weaken : (H G : Type 0) (qs : List (Asked R)) → (G → H) → AreAskedInTurn H qs → AreAskedInTurn G qs
  unfolding AreAskedInTurn
  turn_weaken H G [] f t = tt
  turn_weaken H G (q ∷ qs) f t = (λ g. t.0 (f g), turn_weaken (H × q.check.holds) (G × q.check.holds) qs (λ p. (f p.0, p.1)) t.1)

  -- two lists of checks
  pub turn_append : (H : Type 0) (qs rs : List (Asked R)) → AreAskedInTurn H qs → AreAskedInTurn (H × NoneFails (checks_in qs)) rs → AreAskedInTurn H (qs ++ rs)
  unfolding AreAskedInTurn checks_in NoneFails
  turn_append H [] rs t u = turn_weaken (H × Unit {0}) H rs (λ h. (h, tt)) u
  turn_append H (q ∷ qs) rs t u = (
    t.0,
    turn_append (H × q.check.holds) qs rs t.1
        (turn_weaken (H × (q.check.holds × NoneFails (checks_in qs))) ((H × q.check.holds) × NoneFails (checks_in qs)) rs (λ p. (p.0.0, (p.0.1, p.1))) u),
  )

  pub turn_always : (H : Type 0) (cs : List (Check R)) → AreAskedInTurn H (always cs)
  unfolding AreAskedInTurn always
  turn_always H [] = tt
  turn_always H (c ∷ cs) = (λ h. tt, turn_always (H × c.holds) cs)

  pub turn_only : (H P : Type 0) (qs : List (Asked R)) → (H → P) → AreAskedInTurn H qs → AreAskedInTurn H (only P qs)
  unfolding AreAskedInTurn only
  turn_only H P [] f t = tt
  turn_only H P (q ∷ qs) f t = (λ h. (f h, t.0 h), turn_only (H × q.check.holds) P qs (λ p. f p.0) t.1)

  pub turn_in_order : (H : Type 0) (cs : List (Check R)) → AreAskedInTurn H (in_order cs)
  unfolding AreAskedInTurn in_order
  turn_in_order H [] = tt
  turn_in_order H (c ∷ cs) = (λ h. tt, turn_only (H × c.holds) c.holds (in_order cs) (λ p. p.1) (turn_in_order (H × c.holds) cs))

  pub turn_of_each : (H : Type 0) (n : ℕ) (f : ℕ → List (Asked R)) → ((i : ℕ) → AreAskedInTurn H (f i)) → AreAskedInTurn H (of_each n f)
  unfolding AreAskedInTurn of_each
  turn_of_each H zero f t = tt
  turn_of_each H (suc n) f t =
      turn_append H (of_each n f) (f n) (turn_of_each H n f t) (turn_weaken H (H × NoneFails (checks_in (of_each n f))) (f n) (λ p. p.0) (t n))

  -- the checks in these lists
  pub in_append : (qs rs : List (Asked R)) → checks_in (qs ++ rs) ≡ checks_in qs ++ checks_in rs
  unfolding checks_in
  in_append [] rs = refl
  in_append (q ∷ qs) rs = ap (λ cs. q.check ∷ cs) (in_append qs rs)

  pub in_always : (cs : List (Check R)) → checks_in (always cs) ≡ cs
  unfolding checks_in always
  in_always [] = refl
  in_always (c ∷ cs) = ap (λ ds. c ∷ ds) (in_always cs)

  pub in_only : (P : Type 0) (qs : List (Asked R)) → checks_in (only P qs) ≡ checks_in qs
  unfolding checks_in only
  in_only P [] = refl
  in_only P (q ∷ qs) = ap (λ cs. q.check ∷ cs) (in_only P qs)

  pub in_in_order : (cs : List (Check R)) → checks_in (in_order cs) ≡ cs
  unfolding checks_in in_order
  in_in_order [] = refl
  in_in_order (c ∷ cs) = ap (λ ds. c ∷ ds) (in_only c.holds (in_order cs) ∙ in_in_order cs)

  pub in_of_each : (n : ℕ) (f : ℕ → List (Asked R)) (g : ℕ → List (Check R)) → ((i : ℕ) → checks_in (f i) ≡ g i) → checks_in (of_each n f) ≡ in_turn n g
  unfolding checks_in of_each in_turn
  in_of_each zero f g h = refl
  in_of_each (suc n) f g h =
      let before = in_of_each n f g h in
      let here = h n in
      in_append (of_each n f) (f n) ∙ (λ i. before i ++ here i)
