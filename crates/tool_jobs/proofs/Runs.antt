-- One pass over rows whose numbers ascend finds the least that is taken in another number than it is given.
use Rattle.std.proofs.Common.{◌≡◌, ℕ, ◌+◌, ◌*◌, ◌<◌, ◌≤◌, ◌==◌, cond, List, length, take, drop, get_or, refl, sym, ◌∙◌, ap, subst, arith, inl, inr}
use Rattle.std.specs.Prelude.{sum_by, All}
use Rattle.std.specs.List.Sorted.{IsNonDecreasingBy}
use Rattle.std.proofs.lemmas.Bool.{cases_order, eq-eqb, ne_eqb}
use Rattle.std.proofs.lemmas.List.{get_or-drop, get_or_default, length-drop}
use Rattle.std.proofs.lemmas.List.Sums.{sum_by-le, sum_by-take-drop, sum_by_more}
use Rattle.tool_jobs.specs.Tallies.{IsFirstUnequal, given_in, taken_in, tally_times}
use Rattle.tool_jobs.specs.declared.balance.Tally.{Tally}

pub hit : (a v n : ℕ) → a ≡ v → cond (a == v) n 0 ≡ n
hit a v n e = ap (λ b. cond b n 0) (eq-eqb a v e)

pub miss : (a v n : ℕ) → (a ≡ v → ⊥) → cond (a == v) n 0 ≡ 0
miss a v n e = ap (λ b. cond b n 0) (ne_eqb a v e)

-- rows of other numbers add nothing
pub none : (often : Tally → ℕ) (v : ℕ) (rows : List Tally) → All (λ t. t.number ≡ v → ⊥) rows → tally_times often v rows ≡ 0
none often v rows other =
    let f : Tally → ℕ = λ t. cond (t.number == v) (often t) 0 in
    let small : sum_by f rows ≤ length rows * 0 = sum_by-le f 0 rows (λ k d h. let e : f (get_or rows k d) ≡ 0 = miss (get_or rows k d).number v (often (get_or rows k d)) (other k d h) in omega (arith, e)) in
    omega (arith, small)

module _ (rows : List Tally) where
  -- what a row adds
  pub grown : (often : Tally → ℕ) (v i : ℕ) (t : Tally) → i < length rows → t ≡ get_or rows i t → tally_times often v (take (i + 1) rows) ≡ tally_times often v (take i rows) + cond (t.number == v) (often t) 0
  grown often v i t room is =
      let f : Tally → ℕ = λ x. cond (x.number == v) (often x) 0 in
      sum_by_more f rows i t room ∙ ap (λ (x : Tally). tally_times often v (take i rows) + f x) (sym is)

  -- later rows that have other numbers add nothing
  pub rest-none : (often : Tally → ℕ) (v i : ℕ) → ((k : ℕ) (d : Tally) → i ≤ k → k < length rows → (get_or rows k d).number ≡ v → ⊥) → tally_times often v rows ≡ tally_times often v (take i rows)
  rest-none often v i other =
      let f : Tally → ℕ = λ t. cond (t.number == v) (often t) 0 in
      let whole : sum_by f (take i rows) + sum_by f (drop i rows) ≡ sum_by f rows = sum_by-take-drop f rows i in
      let after : tally_times often v (drop i rows) ≡ 0 = none often v (drop i rows) (λ k d h.
      let room : i + k < length rows = omega (arith, h, length-drop i rows) in
      subst (λ (t : Tally). t.number ≡ v → ⊥) (sym (get_or-drop i rows k d)) (other (i + k) d (omega arith) room)) in
      omega (arith, whole, after)

  -- Of the first i rows: the greatest number with its sums; lesser numbers are taken as often as given, greater ones aren't there; and
  -- no later number is less.
  pub record Seen (i number taken given : ℕ) : Type 0 where
    pub taken_is : taken ≡ taken_in number (take i rows)
    pub given_is : given ≡ given_in number (take i rows)
    pub below : (v : ℕ) → v < number → taken_in v (take i rows) ≡ given_in v (take i rows)
    pub none_taken : (v : ℕ) → number < v → taken_in v (take i rows) ≡ 0
    pub none_given : (v : ℕ) → number < v → given_in v (take i rows) ≡ 0
    pub after : (k : ℕ) (d : Tally) → i ≤ k → k < length rows → number ≤ (get_or rows k d).number
    pub few_taken : taken ≤ 65535 * i
    pub few_given : given ≤ 65535 * i

  pub seen-as : {i number taken given number' taken' given' : ℕ} → number' ≡ number → taken' ≡ taken → given' ≡ given → Seen i number taken given → Seen i number' taken' given'
  seen-as {i} {number} {taken} {given} {number'} {taken'} {given'} p q r s =
      subst (λ n. Seen i n taken' given') (sym p) (subst (λ n. Seen i number n given') (sym q) (subst (λ n. Seen i number taken n) (sym r) s))

  -- where the sums are equal, all of these rows' numbers are balanced
  equal_at : {i number taken given : ℕ} → Seen i number taken given → taken ≡ given → (v : ℕ) → taken_in v (take i rows) ≡ given_in v (take i rows)
  equal_at {i} {number} {taken} {given} s e v = elim (cases_order v number) [
    | inl same ↦ let a = s.taken_is in let b = s.given_is in subst (λ n. taken_in n (take i rows) ≡ given_in n (take i rows)) (sym same) (sym a ∙ (e ∙ b))
    | inr other ↦ elim other [
      | inl less ↦ s.below v less
      | inr more ↦ s.none_taken v more ∙ sym (s.none_given v more)
    ]
  ]

  -- the first i rows tell of these numbers in all rows: the least that isn't balanced, where the sums aren't equal
  unequal_at : {i number taken given : ℕ} → Seen i number taken given → (taken ≡ given → ⊥) → ((k : ℕ) (d : Tally) → i ≤ k → k < length rows → number < (get_or rows k d).number) → IsFirstUnequal rows number
  unequal_at {i} {number} {taken} {given} s other far =
      let whole : (often : Tally → ℕ) (v : ℕ) → v ≤ number → tally_times often v rows ≡ tally_times often v (take i rows) =
      λ often v low. rest-none often v i (λ k d h l e. let f = far k d h l in omega (arith, low, f, e)) in
      record {
        unequal = λ e. let a = s.taken_is in let b = s.given_is in
            other (a ∙ (sym (whole (λ t. t.taken) number (omega arith)) ∙ (e ∙ (whole (λ t. t.given) number (omega arith) ∙ sym b))));
        least = λ v h. whole (λ t. t.taken) v (omega (arith, h)) ∙ (s.below v h ∙ sym (whole (λ t. t.given) v (omega (arith, h))));
      }

  -- after the last row
  pub end-equal : {i number taken given : ℕ} → Seen i number taken given → length rows ≤ i → taken ≡ given → (v : ℕ) → taken_in v rows ≡ given_in v rows
  end-equal {i} s past e v =
      let whole : (often : Tally → ℕ) → tally_times often v rows ≡ tally_times often v (take i rows) = λ often. rest-none often v i (λ k d h l same. omega (arith, past, h, l)) in
      whole (λ t. t.taken) ∙ (equal_at s e v ∙ sym (whole (λ t. t.given)))

  pub end-unequal : {i number taken given : ℕ} → Seen i number taken given → length rows ≤ i → (taken ≡ given → ⊥) → IsFirstUnequal rows number
  end-unequal s past other = unequal_at s other (λ k d h l. absurd (omega (arith, past, h, l)))

  pub seen-none : Seen 0 0 0 0
  seen-none = record {
    taken_is = refl;
    given_is = refl;
    below = λ v h. absurd (omega (arith, h));
    none_taken = λ v h. refl;
    none_given = λ v h. refl;
    after = λ k d h l. omega arith;
    few_taken = omega arith;
    few_given = omega arith;
  }

  module _ (ascends : IsNonDecreasingBy (λ t. t.number) rows) (i number taken given : ℕ) (t : Tally) (room : i < length rows) (is : t ≡ get_or rows i t) (s : Seen i number taken given) where
    -- no later number is less than this row's
    later : (k : ℕ) (d : Tally) → i ≤ k → k < length rows → t.number ≤ (get_or rows k d).number
    later k d h l =
        let first : (get_or rows i d).number ≤ (get_or rows k d).number = ascends i k d h l in
        let same : get_or rows i d ≡ t = get_or_default rows i d t room ∙ sym is in
        subst (λ (x : Tally). x.number ≤ (get_or rows k d).number) same first

    -- a row of the same number
    pub seen-same : t.taken ≤ 65535 → t.given ≤ 65535 → t.number ≡ number → Seen (i + 1) number (taken + t.taken) (given + t.given)
    seen-same taken_fits given_fits e = record {
      taken_is = ap (λ n. n + t.taken) s.taken_is ∙ sym (grown (λ x. x.taken) number i t room is ∙ ap (λ n. taken_in number (take i rows) + n) (hit t.number number t.taken e));
      given_is = ap (λ n. n + t.given) s.given_is ∙ sym (grown (λ x. x.given) number i t room is ∙ ap (λ n. given_in number (take i rows) + n) (hit t.number number t.given e));
      below = λ v h.
          let other : t.number ≡ v → ⊥ = λ q. omega (arith, q, e, h) in
          omega (arith, grown (λ x. x.taken) v i t room is, grown (λ x. x.given) v i t room is, miss t.number v t.taken other, miss t.number v t.given other, s.below v h);
      none_taken = λ v h.
          let other : t.number ≡ v → ⊥ = λ q. omega (arith, q, e, h) in omega (arith, grown (λ x. x.taken) v i t room is, miss t.number v t.taken other, s.none_taken v h);
      none_given = λ v h.
          let other : t.number ≡ v → ⊥ = λ q. omega (arith, q, e, h) in omega (arith, grown (λ x. x.given) v i t room is, miss t.number v t.given other, s.none_given v h);
      after = λ k d h l. s.after k d (omega (arith, h)) l;
      few_taken = let f = s.few_taken in omega (arith, f, taken_fits);
      few_given = let f = s.few_given in omega (arith, f, given_fits);
    }

    above : (t.number ≡ number → ⊥) → number < t.number
    above other = let f = s.after i t (omega arith) room in
        let g : number ≤ t.number = subst (λ (x : Tally). number ≤ x.number) (sym is) f in strict number t.number g other
      where
        strict : (a b : ℕ) → a ≤ b → (b ≡ a → ⊥) → a < b
        strict a b h n = grind (arith, h, n)

    -- a row of another number, after sums that are equal
    pub seen-next : t.taken ≤ 65535 → t.given ≤ 65535 → (t.number ≡ number → ⊥) → taken ≡ given → Seen (i + 1) t.number t.taken t.given
    seen-next taken_fits given_fits other equal =
        let up : number < t.number = above other in
        record {
          taken_is = let a = s.none_taken t.number up in omega (arith, grown (λ x. x.taken) t.number i t room is, hit t.number t.number t.taken refl, a);
          given_is = let a = s.none_given t.number up in omega (arith, grown (λ x. x.given) t.number i t room is, hit t.number t.number t.given refl, a);
          below = λ v h.
              let ne : t.number ≡ v → ⊥ = λ q. omega (arith, q, h) in
              let old : taken_in v (take i rows) ≡ given_in v (take i rows) = equal_at s equal v in
              omega (arith, grown (λ x. x.taken) v i t room is, grown (λ x. x.given) v i t room is, miss t.number v t.taken ne, miss t.number v t.given ne, old);
          none_taken = λ v h.
              let ne : t.number ≡ v → ⊥ = λ q. omega (arith, q, h) in let a = s.none_taken v (omega (arith, up, h)) in omega (arith, grown (λ x. x.taken) v i t room is, miss t.number v t.taken ne, a);
          none_given = λ v h.
              let ne : t.number ≡ v → ⊥ = λ q. omega (arith, q, h) in let a = s.none_given v (omega (arith, up, h)) in omega (arith, grown (λ x. x.given) v i t room is, miss t.number v t.given ne, a);
          after = λ k d h l. later k d (omega (arith, h)) l;
          few_taken = omega (arith, taken_fits);
          few_given = omega (arith, given_fits);
        }

    -- a row of another number, after sums that aren't equal
    pub seen-stops : (t.number ≡ number → ⊥) → (taken ≡ given → ⊥) → IsFirstUnequal rows number
    seen-stops other apart = let up : number < t.number = above other in unequal_at s apart (λ k d h l. let a = later k d h l in omega (arith, up, a))
