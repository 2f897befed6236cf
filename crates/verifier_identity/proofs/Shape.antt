-- What the checks of a proof's shape tell of its tables.
use Rattle.std.proofs.Common.{ℕ, ◌<◌, ◌≤◌, ◌++◌, length, get_or}
use Rattle.p3_field.specs.Checks.{NoneFails}
use Rattle.p3_field.specs.Laws.Checks.{none_at, none_before, none_after}
use Rattle.p3_field.specs.Ring.{Ring}
use Rattle.batch_statement.specs.Proof.{ProofData}
use Rattle.batch_statement.specs.Statement.{Statement}
use Rattle.verifier_shape.specs.Laws.Parts.{counted}
use Rattle.verifier_shape.specs.ShapeChecks.{HaveItemForEachTable, Bounds, bus_bound_part, count_checks, opened_checks, opened_part, permutation_check, shape_checks, size_part, sizes_at}

module _ {F E C P : Type 0} (R : Type 0) (f : Ring F) (b : Bounds) (s : Statement F C) (p : ProofData F E C P) (h : NoneFails (shape_checks {R = R} f b s p)) where
  -- the lists have an item for each table
  pub counts_hold : HaveItemForEachTable s p
  unfolding shape_checks
  counts_hold =
      let cs = count_checks {R = R} b.zk s p in
      let zs = size_part {R = R} f b s p in
      let bs = bus_bound_part {R = R} b s p in
      let os = opened_part {R = R} f b s p in
      let ps = permutation_check {R = R} s p in
      counted R b.zk s p (none_before cs zs (none_before (cs ++ zs) bs (none_before (cs ++ zs ++ bs) os (none_before (cs ++ zs ++ bs ++ os) ps h))))

  sizes_hold : NoneFails (size_part {R = R} f b s p)
  unfolding shape_checks
  sizes_hold =
      let cs = count_checks {R = R} b.zk s p in
      let zs = size_part {R = R} f b s p in
      let bs = bus_bound_part {R = R} b s p in
      let os = opened_part {R = R} f b s p in
      let ps = permutation_check {R = R} s p in
      none_after cs zs (none_before (cs ++ zs) bs (none_before (cs ++ zs ++ bs) os (none_before (cs ++ zs ++ bs ++ os) ps h)))

  -- what is opened of a table is as declared
  pub opened_holds : (i : ℕ) → i < length s.tables → NoneFails (opened_checks {R = R} f b.masks b.dimension s p i)
  unfolding shape_checks
  opened_holds i l =
      let cs = count_checks {R = R} b.zk s p in
      let zs = size_part {R = R} f b s p in
      let bs = bus_bound_part {R = R} b s p in
      let os = opened_part {R = R} f b s p in
      let ps = permutation_check {R = R} s p in
      none_at (opened_checks {R = R} f b.masks b.dimension s p) (length s.tables) i l (none_after (cs ++ zs ++ bs) os (none_before (cs ++ zs ++ bs ++ os) ps h))

  -- and its degree bits aren't too few
  pub bits_hold : (i : ℕ) → i < length s.tables → b.least ≤ get_or p.degree_bits i 0
  unfolding NoneFails
  bits_hold i l = (none_at (sizes_at {R = R} f b.least b.most b.masks s.tables s.common.lookups p.degree_bits) (length s.tables) i l sizes_hold).0
