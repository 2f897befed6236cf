-- What an opening of rounds says of their matrices.
use Rattle.std.proofs.Common.{◌≡◌, ◌∙◌, ℕ, List, [], ◌∷◌, Some, length, map, refl, sym, subst, ap, arith}
use Rattle.std.specs.Prelude.{slice_get, zip, All, Vec}
use Rattle.std.proofs.lemmas.List.{length-map}
use Rattle.std.proofs.lemmas.Option.{slice_get_within}
use Rattle.p3_field.specs.Ring.{Ring}
use Rattle.p3_matrix.specs.Matrix.{Rows}
use Rattle.commit_core.specs.Claims.{CommitmentClaim, Request}
use Rattle.commit_core.specs.Commitments.{Committed, AreCommitted, OpenedCommitment, AreOpenedCommitments, HavePoints, IsMatrixClaim, IsRoundClaim, AreClaims, AvoidAll, IsOpening, values_of, opened_round, opened}
use Rattle.commit_core.specs.Periodic.{EachFrom}
use Rattle.commit_core.specs.Laws.OneItem.{round_in}
use Rattle.commit_core.specs.Laws.Pairs.{length-zip, slice_get-zip}
use Rattle.example_commit.specs.Single.{AreValues}
use Rattle.example_commit.specs.Rounds.{RoundData, CommittedRoundData, IsCommittedRound, request_of, requests_of, claims_at, claim_of_matrix, matrix_claims, round_claim, round_claims, HaveRoundShape, IsClaimed, IsRoundClaimed, AreFree}
use Rattle.example_commit.proofs.Committing.{values_of_committed}
use Rattle.example_commit.proofs.Lists.{item_at, same_item, all_items, item_has, map_item, mapped_item, zip_item, each_paired, each_from_paired, each_map, chosen}

-- the claims of a function's values
claims_of_map : {E : Type 0} (f : E → List E) (xs : List E) → claims_at xs (map f xs) ≡ map (λ x. record { point = x; values = f x }) xs
claims_of_map f [] = refl
claims_of_map f (x ∷ xs) = ap (λ l. record { point = x; values = f x } ∷ l) (claims_of_map f xs)

-- along equations of what is kept and of the opened values
pub requests_along : {D E C P : Type 0} (reqs : List (Request P E)) (ls ks : List (CommittedRoundData D E C P)) → reqs ≡ requests_of ls → ls ≡ ks → reqs ≡ requests_of ks
requests_along reqs ls ks e h = e ∙ ap requests_of h

pub claims_of_along : {D E C P A : Type 0} (claims : List (CommitmentClaim E C D)) (ls ks : List (CommittedRoundData D E C P)) (ws vs : List (Vec (Vec (Vec E A) A) A)) → claims ≡ round_claims ls (map round_in ws) → ls ≡ ks → ws ≡ vs → claims ≡ round_claims ks (map round_in vs)
claims_of_along claims ls ks ws vs e h k = e ∙ (ap (λ l. round_claims l (map round_in ws)) h ∙ ap (λ l. round_claims ks (map round_in l)) k)

pub shapes_along : {D E C P A : Type 0} (ls ks : List (CommittedRoundData D E C P)) (ws vs : List (Vec (Vec (Vec E A) A) A)) → ls ≡ ks → ws ≡ vs → EachFrom ks (map round_in vs) (λ k ys. HaveRoundShape k.domains k.points ys)
    → EachFrom ls (map round_in ws) (λ k ys. HaveRoundShape k.domains k.points ys)
shapes_along {D} {E} {C} {P} {A} ls ks ws vs h k S =
    subst (λ (l : List (CommittedRoundData D E C P)). EachFrom l (map round_in ws) (λ k ys. HaveRoundShape k.domains k.points ys)) (sym h)
    (subst (λ (l : List (Vec (Vec (Vec E A) A) A)). EachFrom ks (map round_in l) (λ k ys. HaveRoundShape k.domains k.points ys)) (sym k) S)

-- there are as many lists of values as rounds
pub counts_along : {D E C P A : Type 0} (ls ks : List (CommittedRoundData D E C P)) (ws vs : List (Vec (Vec (Vec E A) A) A)) → ls ≡ ks → ws ≡ vs → EachFrom ks (map round_in vs) (λ k ys. HaveRoundShape k.domains k.points ys)
    → length ws ≡ length ls
counts_along ls ks ws vs h k S = ap length k ∙ (sym (length-map vs round_in) ∙ (S.count ∙ sym (ap length h)))

-- h holds the polynomials of a round that was committed to
pub record IsOpenedRound {D F E C P : Type 0} (r : Ring F) (points : D → ℕ) (point_at : D → ℕ → F) (commits : List (D × Rows F) → C → Type 0) (made : P → Type 0) (holds : P → C → List (Committed F) → Type 0) (round : RoundData D F E) (k : CommittedRoundData D E C P) (h : OpenedCommitment C F) : Type 0 where
  pub prover_rounds : IsCommittedRound r points point_at commits made holds round k
  pub commitment_is : h.commitment ≡ k.commitment
  pub are : AreCommitted r points point_at round.evaluations h.matrices
  pub held : holds k.prover_data h.commitment h.matrices

module _ {D F E C P : Type 0} (r : Ring F) (s : Ring E) (embed : F → E) (points : D → ℕ) (point_at : D → ℕ → F) (commits : List (D × Rows F) → C → Type 0) (made : P → Type 0) (holds : P → C → List (Committed F) → Type 0) where
  abbrev OfRound : RoundData D F E → CommittedRoundData D E C P → OpenedCommitment C F → Type 0
  OfRound x k h = IsOpenedRound r points point_at commits made holds x k h

  -- the values opened of one round
  abbrev values_in : CommittedRoundData D E C P → OpenedCommitment C F → List (List (List E))
  values_in k h = opened_round s embed h (request_of k)

  abbrev of_matrix : Committed F × List E → List (List E)
  of_matrix p = map (values_of s embed p.0) p.1

  module _ (x : RoundData D F E) (k : CommittedRoundData D E C P) (h : OpenedCommitment C F) (H : OfRound x k h) (lists : length k.points ≡ length h.matrices) where
    long : length (values_in k h) ≡ length h.matrices
    long = length-map (zip h.matrices k.points) of_matrix ∙ (length-zip h.matrices k.points (omega arith) ∙ lists)

    domains : length k.domains ≡ length h.matrices
    domains = ap length H.prover_rounds.domains_are ∙ (length-map x.evaluations (λ e. e.0) ∙ sym H.are.count)

    -- the values of a matrix
    values_are : (i : ℕ) (c : Committed F) (xs : List E) (ws : List (List E)) → slice_get h.matrices i ≡ Some c → slice_get k.points i ≡ Some xs → slice_get (values_in k h) i ≡ Some ws → ws ≡ map (values_of s embed c) xs
    values_are i c xs ws a b e = same_item (values_in k h) i ws (of_matrix (c, xs)) e (map_item of_matrix (zip h.matrices k.points) i (c, xs) (zip_item h.matrices k.points i c xs a b))

    -- the claims on a matrix
    points_are : (i : ℕ) (c : Committed F) (xs : List E) (w : List E × List (List E)) → slice_get h.matrices i ≡ Some c → slice_get k.points i ≡ Some xs → slice_get (zip k.points (values_in k h)) i ≡ Some w
        → claims_at w.0 w.1 ≡ map (λ x. record { point = x; values = values_of s embed c x }) xs
    points_are i c xs w a b e =
        let (p, q) = slice_get-zip k.points (values_in k h) i w e in
        let one : w.0 ≡ xs = same_item k.points i w.0 xs p b in
        let two : w.1 ≡ map (values_of s embed c) xs = values_are i c xs w.1 a b q in
        ap (λ l. claims_at l w.1) one ∙ (ap (claims_at xs) two ∙ claims_of_map (values_of s embed c) xs)

    -- the domain of a matrix
    domain_is : (i : ℕ) (d : D) (e : D × Rows F) → slice_get k.domains i ≡ Some d → slice_get x.evaluations i ≡ Some e → d ≡ e.0
    domain_is i d e a b =
        let f : D × Rows F → D = λ e. e.0 in
        same_item (map f x.evaluations) i d (f e) (subst (λ l. slice_get l i ≡ Some d) H.prover_rounds.domains_are a) (map_item f x.evaluations i e b)

    pub round_shape : HaveRoundShape k.domains k.points (values_in k h)
    round_shape = record {
      domains = domains ∙ sym long;
      each = record {
        count = long ∙ sym lists;
        each = λ i ws q xs e.
            let (c, a) = item_at h.matrices i (omega (arith, slice_get_within k.points i xs e, lists)) in
            ap length (values_are i c xs ws a e q) ∙ length-map xs (values_of s embed c);
      };
    }

    zipped : length (zip k.points (values_in k h)) ≡ length h.matrices
    zipped = length-zip k.points (values_in k h) (omega (arith, long, lists)) ∙ long

    pub round_claim_holds : IsRoundClaim s embed points h (request_of k) (round_claim (k, values_in k h))
    round_claim_holds = record {
      commitment_is = sym H.commitment_is;
      matrices_are = each_paired claim_of_matrix h.matrices k.points k.domains (zip k.points (values_in k h)) (λ p m. IsMatrixClaim s embed points p.0 p.1 m) lists domains zipped
          (λ i c xs d w a b e f.
          let (v, g) = item_at x.evaluations i (omega (arith, slice_get_within h.matrices i c a, H.are.count)) in
          record {
            size_is = ap points (domain_is i d v e g) ∙ sym (H.are.each i c a v g).size_is;
            points_are = points_are i c xs w a b f;
          });
    }

    pub round_is_claimed : IsRoundClaimed r s embed point_at commits x (round_claim (k, values_in k h))
    round_is_claimed =
        let same = H.prover_rounds.points_are in
        record {
          commits_is = H.prover_rounds.committed.commitment_is;
          lists_are = ap length (sym same) ∙ (lists ∙ H.are.count);
          matrices_are = subst (λ ps. EachFrom (zip x.evaluations ps) (matrix_claims k.domains k.points (values_in k h)) (λ p m. IsClaimed r s embed point_at p.0 p.1 m)) same
              (each_paired claim_of_matrix x.evaluations k.points k.domains (zip k.points (values_in k h)) (λ p m. IsClaimed r s embed point_at p.0 p.1 m)
              (lists ∙ H.are.count) (domains ∙ H.are.count) (zipped ∙ H.are.count)
              (λ i v xs d w g b e f.
              let (c, a) = item_at h.matrices i (omega (arith, slice_get_within x.evaluations i v g, H.are.count)) in
              record {
                domain_is = domain_is i d v e g;
                points_are = subst (λ l. EachFrom xs l (λ x y. (y.point ≡ x) × AreValues r s embed (point_at v.0) v.1 x y.values)) (sym (points_are i c xs w a b f))
                    (each_map (λ x. record { point = x; values = values_of s embed c x }) xs (λ x y. (y.point ≡ x) × AreValues r s embed (point_at v.0) v.1 x y.values)
                    (λ x. (refl, values_of_committed r s embed (points v.0) (point_at v.0) v.1 c x (values_of s embed c x) (H.are.each i c a v g) refl)));
              }));
        }

  -- held polynomials of all rounds
  pub record AreOpenedRounds (rounds : List (RoundData D F E)) (ks : List (CommittedRoundData D E C P)) (held : List (OpenedCommitment C F)) : Type 0 where
    pub prover_rounds_count : length ks ≡ length rounds
    pub held_count : length held ≡ length rounds
    pub each : (i : ℕ) (x : RoundData D F E) (k : CommittedRoundData D E C P) (h : OpenedCommitment C F) → slice_get rounds i ≡ Some x → slice_get ks i ≡ Some k → slice_get held i ≡ Some h → OfRound x k h

  pub held_rounds : (rounds : List (RoundData D F E)) (ks : List (CommittedRoundData D E C P)) → EachFrom rounds ks (IsCommittedRound r points point_at commits made holds) → (held : List (OpenedCommitment C F)) × AreOpenedRounds rounds ks held
  held_rounds rounds ks K =
      let some : EachFrom rounds ks (λ x k. (h : OpenedCommitment C F) × OfRound x k h) = record {
        count = K.count;
        each = λ i k q x e.
            let here = K.each i k q x e in
            let (cs, are, h) = here.committed.held in
            (record { commitment = k.commitment; matrices = cs }, record { prover_rounds = here; commitment_is = refl; are = are; held = h });
      } in
      let (held, n, f) = chosen OfRound rounds ks some in
      (held, record { prover_rounds_count = K.count; held_count = n; each = f })

  pub made_all : (rounds : List (RoundData D F E)) (ks : List (CommittedRoundData D E C P)) → EachFrom rounds ks (IsCommittedRound r points point_at commits made holds) → All (λ (q : Request P E). made q.prover_data) (requests_of ks)
  made_all rounds ks K = all_items (λ (q : Request P E). made q.prover_data) (requests_of ks)
      (λ i q e.
      let (k, a, b) = mapped_item request_of ks i q e in
      let (x, g) = item_at rounds i (omega (arith, slice_get_within ks i k a, K.count)) in
      subst (λ (v : Request P E). made v.prover_data) (sym b) (K.each i k a x g).committed.made_is)

  pub free_points : (excludes : E → Type 0) (rounds : List (RoundData D F E)) (ks : List (CommittedRoundData D E C P)) → EachFrom rounds ks (IsCommittedRound r points point_at commits made holds) → AreFree excludes rounds → AvoidAll excludes (requests_of ks)
  free_points excludes rounds ks K free =
      let Free : List (List E) → Type 0 = λ ps. All (λ xs. All (λ x. excludes x → ⊥) xs) ps in
      all_items (λ (q : Request P E). Free q.points) (requests_of ks)
      (λ i q e.
      let (k, a, b) = mapped_item request_of ks i q e in
      let (x, g) = item_at rounds i (omega (arith, slice_get_within ks i k a, K.count)) in
      let here = item_has (λ (q : RoundData D F E). Free q.points) rounds i x free g in
      subst Free (sym (K.each i k a x g).points_are ∙ sym (ap (λ (v : Request P E). v.points) b)) here)

  module _ (rounds : List (RoundData D F E)) (ks : List (CommittedRoundData D E C P)) (held : List (OpenedCommitment C F)) (H : AreOpenedRounds rounds ks held) where
    requests_count : length (requests_of ks) ≡ length held
    requests_count = length-map ks request_of ∙ (H.prover_rounds_count ∙ sym H.held_count)

    pub are_held : AreOpenedCommitments holds (requests_of ks) held
    are_held = record {
      count = sym requests_count;
      each = λ i h q req e.
          let (k, a, b) = mapped_item request_of ks i req e in
          let (x, g) = item_at rounds i (omega (arith, slice_get_within held i h q, H.held_count)) in
          subst (λ (v : Request P E). holds v.prover_data h.commitment h.matrices) (sym b) (H.each i x k h g a q).held;
    }

    module _ (lists : HavePoints held (requests_of ks)) (vs : List (List (List (List E)))) (values : vs ≡ opened s embed held (requests_of ks)) where
      abbrev of_round : OpenedCommitment C F × Request P E → List (List (List E))
      of_round p = opened_round s embed p.0 p.1

      values_count : length vs ≡ length held
      values_count = ap length values ∙ (length-map (zip held (requests_of ks)) of_round ∙ (length-zip held (requests_of ks) (omega (arith, requests_count)) ∙ requests_count))

      round_values : (i : ℕ) (k : CommittedRoundData D E C P) (h : OpenedCommitment C F) (ys : List (List (List E))) → slice_get ks i ≡ Some k → slice_get held i ≡ Some h → slice_get vs i ≡ Some ys → ys ≡ values_in k h
      round_values i k h ys a b e =
          same_item vs i ys (values_in k h) e
          (subst (λ l. slice_get l i ≡ Some (values_in k h)) (sym values)
          (map_item of_round (zip held (requests_of ks)) i (h, request_of k) (zip_item held (requests_of ks) i h (request_of k) b (map_item request_of ks i k a))))

      points_count : (i : ℕ) (k : CommittedRoundData D E C P) (h : OpenedCommitment C F) → slice_get ks i ≡ Some k → slice_get held i ≡ Some h → length k.points ≡ length h.matrices
      points_count i k h a b = lists.each i (request_of k) (map_item request_of ks i k a) h b

      pub shapes : EachFrom ks vs (λ k ys. HaveRoundShape k.domains k.points ys)
      shapes = record {
        count = values_count ∙ (H.held_count ∙ sym H.prover_rounds_count);
        each = λ i ys q k e.
            let (x, g) = item_at rounds i (omega (arith, slice_get_within ks i k e, H.prover_rounds_count)) in
            let (h, a) = item_at held i (omega (arith, slice_get_within ks i k e, H.prover_rounds_count, H.held_count)) in
            subst (HaveRoundShape k.domains k.points) (sym (round_values i k h ys e a q)) (round_shape x k h (H.each i x k h g e a) (points_count i k h e a));
      }

      pub opened_claims : AreClaims s embed points held (requests_of ks) (round_claims ks vs)
      opened_claims = each_paired round_claim held (requests_of ks) ks vs (λ p c. IsRoundClaim s embed points p.0 p.1 c) requests_count (H.prover_rounds_count ∙ sym H.held_count) values_count
          (λ i h req k ys a b e f.
          let (x, g) = item_at rounds i (omega (arith, slice_get_within ks i k e, H.prover_rounds_count)) in
          let one : request_of k ≡ req = same_item (requests_of ks) i (request_of k) req (map_item request_of ks i k e) b in
          let two : values_in k h ≡ ys = sym (round_values i k h ys e a f) in
          subst (λ v. IsRoundClaim s embed points h v (round_claim (k, ys))) one
          (subst (λ v. IsRoundClaim s embed points h (request_of k) (round_claim (k, v))) two (round_claim_holds x k h (H.each i x k h g e a) (points_count i k h e a))))

      pub rounds_claimed : EachFrom rounds (round_claims ks vs) (IsRoundClaimed r s embed point_at commits)
      rounds_claimed = each_from_paired round_claim rounds ks vs (IsRoundClaimed r s embed point_at commits) H.prover_rounds_count (values_count ∙ H.held_count)
          (λ i x k ys g e f.
          let (h, a) = item_at held i (omega (arith, slice_get_within ks i k e, H.prover_rounds_count, H.held_count)) in
          subst (λ v. IsRoundClaimed r s embed point_at commits x (round_claim (k, v))) (sym (round_values i k h ys e a f)) (round_is_claimed x k h (H.each i x k h g e a) (points_count i k h e a)))

  -- what an opening of all rounds leads to
  module _ (rounds : List (RoundData D F E)) (ks : List (CommittedRoundData D E C P)) (K : EachFrom rounds ks (IsCommittedRound r points point_at commits made holds)) (reqs : List (Request P E)) (asked : reqs ≡ requests_of ks) where
    pub all_made : All (λ (q : Request P E). made q.prover_data) reqs
    all_made = subst (λ l. All (λ (q : Request P E). made q.prover_data) l) (sym asked) (made_all rounds ks K)

    module _ (vs : List (List (List (List E)))) (excludes : E → Type 0) (accepts : List (CommitmentClaim E C D) → Type 0)
        (opening : (held : List (OpenedCommitment C F)) → AreOpenedCommitments holds reqs held → IsOpening s embed points excludes accepts reqs vs held) where
      opening_of : (held : List (OpenedCommitment C F)) → AreOpenedRounds rounds ks held → IsOpening s embed points excludes accepts (requests_of ks) vs held
      opening_of held H = subst (λ l. AreOpenedCommitments holds l held → IsOpening s embed points excludes accepts l vs held) asked (opening held) (are_held rounds ks held H)

      pub opened_shapes : EachFrom ks vs (λ k ys. HaveRoundShape k.domains k.points ys)
      opened_shapes =
          let (held, H) = held_rounds rounds ks K in
          let o = opening_of held H in
          shapes rounds ks held H o.lists_are vs o.values_are

      pub opened_claimed : EachFrom rounds (round_claims ks vs) (IsRoundClaimed r s embed point_at commits)
      opened_claimed =
          let (held, H) = held_rounds rounds ks K in
          let o = opening_of held H in
          rounds_claimed rounds ks held H o.lists_are vs o.values_are

      pub opened_accepted : AreFree excludes rounds → accepts (round_claims ks vs)
      opened_accepted free =
          let (held, H) = held_rounds rounds ks K in
          let o = opening_of held H in
          o.accepted (round_claims ks vs) (opened_claims rounds ks held H o.lists_are vs o.values_are) (free_points excludes rounds ks K free)

      -- and that the claims hold, for the law on the challenger's states
      pub opened_held : (held : List (OpenedCommitment C F)) × AreOpenedCommitments holds reqs held × AreClaims s embed points held reqs (round_claims ks vs)
      opened_held =
          let (held, H) = held_rounds rounds ks K in
          let o = opening_of held H in (
            held,
            subst (λ l. AreOpenedCommitments holds l held) (sym asked) (are_held rounds ks held H),
            subst (λ l. AreClaims s embed points held l (round_claims ks vs)) (sym asked) (opened_claims rounds ks held H o.lists_are vs o.values_are),
          )
