use Rattle.std.proofs.Common.{get_or, arith}
use Rattle.std.proofs.lemmas.List.{get_or_default}
use Rattle.tool_jobs.specs.declared.balance.Tally.{Tally}
use Rattle.tool_jobs.proofs.Runs.{end-equal, end-unequal, seen-as, seen-next, seen-same, seen-stops}
use Rattle.tool_jobs.proofs.balance.first_unequal.Goals as goal
use Rattle.tool_jobs.proofs.balance.first_unequal.Goals.{then-tally-number, else-tally-number+then-taken-given}

abbrev nothing : Tally
nothing = record { number = 0; taken = 0; given = 0 }

pub returns-else-taken-given : goal.returns-else-taken-given
returns-else-taken-given c =
    let rows = c.args.tallies.now in
    let i = c.loop-tally.tally-index in
    let t = get_or rows i nothing in
    seen-stops rows c.requires i c.loop-tally.number c.loop-tally.taken c.loop-tally.given t c.loop-tally-test.true (get_or_default rows i nothing t c.loop-tally-test.true) c.loop-tally.invariant
    c.if-tally-number.false c.if-taken-given.false

pub loop-tally-preserved : goal.loop-tally-preserved
loop-tally-preserved c =
    let rows = c.args.tallies.now in
    let i = c.loop-tally.tally-index in
    let t = get_or rows i nothing in
    let is = get_or_default rows i nothing t c.loop-tally-test.true in
    elim c.if-tally-number.branch [
      | then-tally-number w ↦ seen-as rows w.number-is w.taken-is w.given-is
          (seen-same rows c.requires i c.loop-tally.number c.loop-tally.taken c.loop-tally.given t c.loop-tally-test.true is c.loop-tally.invariant
          (omega arith) (omega arith) w.if-tally-number.true)
      | else-tally-number+then-taken-given w ↦ seen-as rows w.number-is w.taken-is w.given-is
          (seen-next rows c.requires i c.loop-tally.number c.loop-tally.taken c.loop-tally.given t c.loop-tally-test.true is c.loop-tally.invariant
          (omega arith) (omega arith) w.if-tally-number.false w.if-taken-given.true)
    ]

pub returns-then-taken-given-2 : goal.returns-then-taken-given-2
returns-then-taken-given-2 c = end-equal c.args.tallies.now c.loop-tally.invariant c.loop-tally-test.false c.if-taken-given-2.true

pub returns-else-taken-given-2 : goal.returns-else-taken-given-2
returns-else-taken-given-2 c = end-unequal c.args.tallies.now c.loop-tally.invariant c.loop-tally-test.false c.if-taken-given-2.false
