-- Every balanced job is valid.
use Rattle.std.proofs.Common.{◌≡◌, ℕ, ◌+◌, ◌-◌, ◌^◌, ◌<◌, ◌≤◌, Bool, true, false, cond, List, [], ◌∷◌, length, get_or, map, refl, sym, ◌∙◌, ap, subst, arith}
use Rattle.std.specs.Prelude.{◌&&◌, count_by, nat_eq, sum_by}
use Rattle.std.specs.Cmp.Lexicographic.{pointwise}
use Rattle.std.proofs.Math.Nat.{pow-le-pow_right}
use Rattle.std.proofs.lemmas.List.{get_or-map, length-map}
use Rattle.std.proofs.lemmas.List.Sums.{sum_by-cons}
use Rattle.p3_field.specs.Domain.{CosetData}
use Rattle.p3_field.specs.Poly.{tabulate}
use Rattle.p3_field.specs.Ring.{Ring, RingLaws, of_nat}
use Rattle.p3_field.specs.Laws.Tabulate.{get_or-tabulate, length-tabulate, tabulate_items, tabulate_same}
use Rattle.p3_matrix.specs.Matrix.{Rows}
use Rattle.p3_lookup.specs.Batch.{SendingTable, batch_lookups, senders}
use Rattle.p3_lookup.specs.Bound.{HaveLoadsBelow}
use Rattle.p3_lookup.specs.Bus.{bus_in}
use Rattle.p3_lookup.specs.Messages.{batch_messages, net}
use Rattle.verifier_claims.specs.ClaimChecks.{HasDegreeBits}
use Rattle.batch_config.specs.Setting.{Setting, masks}
use Rattle.verifier_shape.specs.ShapeChecks.{HasEntries, heights_of}
use Rattle.batch_statement.specs.Words.{no_table}
use Rattle.batch_statement.specs.Statement.{Common, Statement, WellFormed, entry_of}
use Rattle.law_committed.specs.Laws.Values.{maps}
use Rattle.law_valid.specs.Traced.{TracedTable, all_traced, log_rows, no_rows, preprocessed_matrices, sender, traced_at}
use Rattle.law_valid.specs.Valid.{AllFit, AreBalanced, CommitsToMatrices, HasQuotientDomain, IsTraced, OwnHold, Valid}
use Rattle.law_tool_valid.specs.Job.{IsBalancedJob, IsJob, IsJobTableWithin, JobTable, swap_of, wheel_of, take_of, give_of, hash_of, job_table, job_log_height_of, job_publics_of, times_given, times_taken, trace_of, traced_job}
use Rattle.law_tool_valid.specs.Serves.{ServesJobs}
use Rattle.law_tool_valid.specs.Laws.Loads.{job_bounded}
use Rattle.law_tool_valid.specs.Laws.Messages.{HasItems, found, job_bus, job_net, own_lookups, own_table}
use Rattle.law_tool_valid.specs.Laws.Tables.{job_all_fit, job_domain, job_holds, job_traced, rows_are, small_height}
use Rattle.law_tool_valid.specs.Laws.Traced.{power_of_log}

-- a test that absent word passes finds none
never_counted : {F : Type 0} (test : F → Bool) → ((x : F) → test x ≡ false) → (words : List F) → count_by test words ≡ 0
never_counted test absent [] = refl
never_counted test absent (w ∷ ws) =
    let rest = never_counted test absent ws in
    let here : ◌≡◌ {A = ℕ} (cond (test w) 1 0) 0 = ap (λ p. cond p 1 0) (absent w) in
    let e = sum_by-cons (λ x. cond (test x) 1 0) w ws in
    omega (arith, rest, here, e)

never_summed : {F : Type 0} (test : F → Bool) → ((x : F) → test x ≡ false) → (pairs : List (F × ℕ)) → sum_by (λ p. cond (test p.0) p.1 0) pairs ≡ 0
never_summed test absent [] = refl
never_summed test absent (p ∷ ps) =
    let rest = never_summed test absent ps in
    let here : ◌≡◌ {A = ℕ} (cond (test p.0) p.1 0) 0 = ap (λ q. cond q p.1 0) (absent p.0) in
    let e = sum_by-cons (λ q. cond (test q.0) q.1 0) p ps in
    omega (arith, rest, here, e)

never_taken : {F : Type 0} (test : F → Bool) → ((x : F) → test x ≡ false) → (j : JobTable F) → times_taken test j ≡ 0
never_taken test absent (swap_of k a b) = refl
never_taken test absent (wheel_of k) = refl
never_taken test absent (take_of words) = never_counted test absent words
never_taken test absent (give_of pairs) = refl
never_taken test absent (hash_of rows) = refl

never_given : {F : Type 0} (test : F → Bool) → ((x : F) → test x ≡ false) → (j : JobTable F) → times_given test j ≡ 0
never_given test absent (swap_of k a b) = refl
never_given test absent (wheel_of k) = refl
never_given test absent (take_of words) = refl
never_given test absent (give_of pairs) = never_summed test absent pairs
never_given test absent (hash_of rows) = refl

all_zero : {X : Type 0} (g : X → ℕ) → ((x : X) → g x ≡ 0) → (xs : List X) → sum_by g xs ≡ 0
all_zero g z [] = refl
all_zero g z (x ∷ xs) =
    let rest = all_zero g z xs in
    let here = z x in
    let e = sum_by-cons g x xs in
    omega (arith, rest, here, e)

-- what is sent on the bus of words is balanced, and nothing is sent on another
module _ {F : Type 0} (r : Ring F) (L : RingLaws r) (eq : F → F → Bool) (job : List (JobTable F)) (balanced : IsBalancedJob eq job) where
  abbrev AsOften : (F → Bool) → Type 0
  AsOften test = sum_by (times_taken test) job ≡ sum_by (times_given test) job

  never_often : (test : F → Bool) → ((x : F) → test x ≡ false) → AsOften test
  never_often test absent = all_zero (times_taken test) (never_taken test absent) job ∙ sym (all_zero (times_given test) (never_given test absent) job)

  same_often : (test : F → Bool) (v : F) → ((x : F) → eq x v ≡ test x) → AsOften test
  same_often test v same = subst AsOften (λ i x. same x i) (balanced v)

  and_true : (p : Bool) → p ≡ (p && true)
  and_true true = refl
  and_true false = refl

  and_false : (p : Bool) → (p && false) ≡ false
  and_false true = refl
  and_false false = refl

  on_bus : (p : Bool) (t : List F) → AsOften (λ x. p && pointwise eq (x ∷ []) t)
  on_bus false t = never_often (λ x. false) (λ x. refl)
  on_bus true [] = never_often (λ x. pointwise eq (x ∷ []) []) (λ x. refl)
  on_bus true (v ∷ []) = same_often (λ x. pointwise eq (x ∷ []) (v ∷ [])) v (λ x. and_true (eq x v))
  on_bus true (v ∷ w ∷ ts) = never_often (λ x. pointwise eq (x ∷ []) (v ∷ w ∷ ts)) (λ x. and_false (eq x v))

  pub found_as_often : (b : ℕ) (t : List F) → AsOften (found r L eq b t)
  found_as_often b t = on_bus (nat_eq 0 b) t

module _ {S F E C : Type 0} (c : Setting S F E C) (inverse : E → E) (Z : ServesJobs c inverse) (eq : F → F → Bool) (job : List (JobTable F)) (J : IsJob eq job)
    (common : Common F C) (lookups_are : common.lookups ≡ map (own_lookups c.field.ring) job) where
  abbrev r : Ring F
  r = c.field.ring

  abbrev s : Statement F C
  s = record { tables = map (job_table r) job; publics = map job_publics_of job; common = common }

  abbrev traces : List (Rows F)
  traces = map (trace_of r) job

  abbrev bits : List ℕ
  bits = map job_log_height_of job

  abbrev no_job_table : JobTable F
  no_job_table = take_of []

  long : length s.tables ≡ length job
  long = length-map job (job_table r)

  -- the tables of the statement are those of the job
  traced_is : (i : ℕ) → i < length job → traced_at s traces bits i ≡ traced_job r (get_or job i no_job_table)
  traced_is i h = λ q. record {
    table = get_or-map (job_table r) job i no_job_table no_table h q;
    lookups = (ap (λ l. get_or l i []) lookups_are ∙ get_or-map (own_lookups r) job i no_job_table [] h) q;
    publics = get_or-map (job_publics_of {F = F}) job i no_job_table [] h q;
    trace = get_or-map (trace_of r) job i no_job_table no_rows h q;
    degree_bits = get_or-map (job_log_height_of {F = F}) job i no_job_table 0 h q;
  }

  all_are : all_traced s traces bits ≡ map (traced_job r) job
  all_are =
      let d = traced_job r no_job_table in
      ap (λ n. tabulate n (traced_at s traces bits)) long
      ∙ (tabulate_same (length job) (traced_at s traces bits) (λ i. get_or (map (traced_job r) job) i d) (λ i l. traced_is i l ∙ sym (get_or-map (traced_job r) job i no_job_table d l))
      ∙ sym (tabulate_items d (map (traced_job r) job) (length job) (length-map job (traced_job r))))

  -- what holds of each table of the job holds of each table of the statement
  each : (P : TracedTable F → Type 0) → ((j : JobTable F) → IsJobTableWithin j → P (traced_job r j)) → (i : ℕ) → i < length s.tables → P (traced_at s traces bits i)
  each P all i h =
      let l : i < length job = let e = long in omega (arith, h, e) in
      subst P (sym (traced_is i l)) (all (get_or job i no_job_table) (J.within i no_job_table l))

  heights_low : (i : ℕ) → i < length (heights_of (masks c) bits (length s.tables)) → get_or (heights_of (masks c) bits (length s.tables)) i 0 ≤ 1024
  heights_low i h =
      let n = length s.tables in
      let g = λ (i : ℕ). 2 ^ (get_or bits i 0 - masks c) in
      let l : i < n = let e = length-tabulate n g in omega (arith, h, e) in
      let m : i < length job = let e = long in omega (arith, l, e) in
      let low : get_or bits i 0 ≤ 10 = let e = get_or-map (job_log_height_of {F = F}) job i no_job_table 0 m in let q = small_height (get_or job i no_job_table) (J.within i no_job_table m) in omega (arith, e, q) in
      let less : get_or bits i 0 - masks c ≤ 10 = omega (arith, low) in
      let size : g i ≤ 2 ^ 10 = pow-le-pow_right (omega arith) less in
      let there = get_or-tabulate n g i 0 l in
      omega (arith, size, there)

  buses_bounded : HaveLoadsBelow c.order s.common.lookups (heights_of (masks c) bits (length s.tables))
  buses_bounded =
      subst (λ ls. HaveLoadsBelow c.order ls (heights_of (masks c) bits (length s.tables))) (sym lookups_are)
      (job_bounded r c.order job (heights_of (masks c) bits (length s.tables)) Z.order J.few heights_low)

  -- the rows of the job's tables
  abbrev rows : JobTable F → ℕ
  rows j = 2 ^ log_rows c (traced_job r j)

  items : (j : JobTable F) → IsJobTableWithin j → HasItems r j (rows j)
  items (swap_of k a b) W = tt
  items (wheel_of k) W = tt
  items (take_of words) W = ap (λ n. 2 ^ n) (rows_are c inverse Z (take_of words) W) ∙ sym (power_of_log (length words) W.0)
  items (give_of pairs) W = ap (λ n. 2 ^ n) (rows_are c inverse Z (give_of pairs) W) ∙ sym (power_of_log (length pairs) W.0)
  items (hash_of inputs) W = tt

  buses_balanced : AreBalanced c eq (all_traced s traces bits)
  buses_balanced =
      subst (AreBalanced c eq) (sym all_are)
      (subst (λ (ts : List (SendingTable F)). (b : ℕ) (t : List F) → net r eq (batch_messages (senders ts)) b t ≡ r.zero) (sym senders_are) own_balanced)
    where
      senders_are : map (sender c) (map (traced_job r) job) ≡ map (own_table r Z.fields.below eq 0 [] rows) job
      senders_are = maps (sender c) (traced_job r) (own_table r Z.fields.below eq 0 [] rows) (λ j. refl) job

      own_balanced : (b : ℕ) (t : List F) → net r eq (batch_messages (senders (map (own_table r Z.fields.below eq 0 [] rows) job))) b t ≡ r.zero
      own_balanced b t =
          let L = Z.fields.below in
          let bus = bus_in (batch_lookups (map (own_table r L eq 0 [] rows) job)) in
          let same : batch_lookups (map (own_table r L eq 0 [] rows) job) ≡ map (own_lookups r) job =
          maps (λ (t : SendingTable F). t.lookups) (own_table r L eq 0 [] rows) (own_lookups r) (λ j. refl) job in
          let test = found r L eq b t in
          let m = sum_by (times_taken test) job in
          let n = sum_by (times_given test) job in
          job_net r L eq b t rows bus 0 job (λ i d l. items (get_or job i d) (J.within i d l))
          (λ i d l some. (let e : 0 + i ≡ i = omega arith in ap (λ k. bus k 0) e) ∙ (ap (λ ls. bus_in ls i 0) same ∙ job_bus r job i d l some))
          ∙ (ap (λ k. r.add (of_nat r m) (r.neg (of_nat r k))) (sym (found_as_often r L eq job J.balanced b t)) ∙ L.add_neg (of_nat r m))

  -- a job is valid, with common data that is well-formed, has its lookups, and commits to its preprocessed traces
  pub job_is_valid : (commitment_of : List (CosetData F × Rows F) → C) → WellFormed (map (λ t. t.declaration) s.tables) common
      → CommitsToMatrices commitment_of (preprocessed_matrices r.one (all_traced s traces bits)) common.preprocessed
      → HasEntries (length s.tables) common.preprocessed
      → ((i : ℕ) → i < length s.tables → HasDegreeBits (traced_at s traces bits i).degree_bits (entry_of common.preprocessed i))
      → Valid c eq commitment_of s traces bits
  job_is_valid commitment_of formed committed counted listed = record {
    batch = record {
      formed = formed;
      lists = record {
        publics_long = length-map job (job_publics_of {F = F}) ∙ sym long;
        lookups_long = ap length lookups_are ∙ (length-map job (own_lookups r) ∙ sym long);
        entries_long = counted;
        traces_long = length-map job (trace_of r) ∙ sym long;
        bits_long = length-map job (job_log_height_of {F = F}) ∙ sym long;
      };
      committed = committed;
      entries = listed;
      traced = each (IsTraced c) (job_traced c inverse Z);
      domains = each (HasQuotientDomain c) (job_domain c inverse Z);
    };
    holds = each (OwnHold c) (job_holds c inverse Z);
    fits = each (AllFit c) (job_all_fit c inverse Z);
    bounded = buses_bounded;
    balanced = buses_balanced;
  }
