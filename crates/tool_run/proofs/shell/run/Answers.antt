use Rattle.std.proofs.Common.{ℕ, List, [], length, refl, subst, ◌≡◌, ◌<◌, take, Bool}
use Rattle.std.specs.Io.KnownBytes.{Appends, IsAtEnd}
use Rattle.std.proofs.KnownBytes.{Consumes-nil}
use Rattle.tool_bytes.specs.Limits.{most_bytes}
use Rattle.tool_run.specs.Run.{IsReadFor}
use Rattle.tool_verifier.specs.declared.status.Status.TheVariants.{Usage, ReadFault, WriteFault}
use Rattle.tool_run.proofs.Runs.{cut-short, command-answers, written-whole, no-answer, not-silent}
use Rattle.tool_run.proofs.shell.run.Goals as goal

pub returns-in-Err-clause-outcome : goal.returns-in-Err-clause-outcome
returns-in-Err-clause-outcome g c =
    let p = g.C.Commands.program in
    let text = subst (λ (l : List ℕ). (n : ℕ) × (n < length l) × Appends (g.K.Sink.written c.args.sink.now) (g.K.Sink.written c.write_whole.new.sink) (take n l)) c.usage.ensures c.in-Err.ensures.text in
    cut-short p _ _ _ _ _ _ Usage [] p.usage text.0 (Consumes-nil _) (refl, (λ named. c.in_default.ensures named.0 named.1, refl)) text.1 text.2

pub returns-in-Ok-write_whole-clause-outcome : goal.returns-in-Ok-write_whole-clause-outcome
returns-in-Ok-write_whole-clause-outcome g c =
    let p = g.C.Commands.program in
    let command = c.in-Some.command in
    let read = c.in-Ok-read_input.ensures.bytes in
    let whole : c.in-Ok-read_input.bytes.items ≡ read.taken = read.answer.0 in
    let text = c.in-Ok-answer.answer.text.items in
    let status = c.in-Ok-answer.answer.status in
    let a = subst (λ (l : List ℕ). p.answers command l status text) whole c.in-Ok-answer.ensures in
    let s = g.met.C.Commands.only command read.taken status text a in
    let r = subst (λ (reads : Bool). IsReadFor most_bytes reads read.taken (IsAtEnd (g.S.Source.left c.read_input.new.source))) c.reads_input.ensures read.answer.1 in
    record {
      read = read.taken;
      consumed = read.consumed;
      wrote = text;
      appended = subst (λ (l : List ℕ). Appends (g.K.Sink.written c.args.sink.now) (g.K.Sink.written c.write_whole-2.new.sink) l) c.deref.ensures.value c.in-Ok-write_whole.ensures.text;
      outcome = written-whole p _ _ _ _ status text s (command-answers p _ _ _ _ command status text s c.in-Some.ensures r a);
    }

pub returns-in-Ok-write_whole-clause-read_fault : goal.returns-in-Ok-write_whole-clause-read_fault
returns-in-Ok-write_whole-clause-read_fault g c e = absurd
    (no-answer g.C.Commands.program g.met.C.Commands.only c.in-Some.command c.in-Ok-read_input.bytes.items c.in-Ok-answer.answer.status ReadFault c.in-Ok-answer.answer.text.items (λ none. none) c.in-Ok-answer.ensures e)

pub returns-in-Ok-write_whole-clause-write_fault : goal.returns-in-Ok-write_whole-clause-write_fault
returns-in-Ok-write_whole-clause-write_fault g c e = absurd
    (no-answer g.C.Commands.program g.met.C.Commands.only c.in-Some.command c.in-Ok-read_input.bytes.items c.in-Ok-answer.answer.status WriteFault c.in-Ok-answer.answer.text.items (λ none. none) c.in-Ok-answer.ensures e)

pub returns-in-Ok-write_whole-clause-unwritten : goal.returns-in-Ok-write_whole-clause-unwritten
returns-in-Ok-write_whole-clause-unwritten g c silent = absurd
    (not-silent c.in-Ok-answer.answer.status
    (g.met.C.Commands.only c.in-Some.command c.in-Ok-read_input.bytes.items c.in-Ok-answer.answer.status c.in-Ok-answer.answer.text.items c.in-Ok-answer.ensures) silent)

pub returns-clause-outcome : goal.returns-clause-outcome
returns-clause-outcome g c =
    let p = g.C.Commands.program in
    let command = c.in-Some.command in
    let read = c.in-Ok-read_input.ensures.bytes in
    let whole : c.in-Ok-read_input.bytes.items ≡ read.taken = read.answer.0 in
    let text = c.in-Ok-answer.answer.text.items in
    let status = c.in-Ok-answer.answer.status in
    let a = subst (λ (l : List ℕ). p.answers command l status text) whole c.in-Ok-answer.ensures in
    let s = g.met.C.Commands.only command read.taken status text a in
    let r = subst (λ (reads : Bool). IsReadFor most_bytes reads read.taken (IsAtEnd (g.S.Source.left c.read_input.new.source))) c.reads_input.ensures read.answer.1 in
    let part : (n : ℕ) × (n < length text) × Appends (g.K.Sink.written c.args.sink.now) (g.K.Sink.written c.write_whole-2.new.sink) (take n text)
    = subst (λ (l : List ℕ). (n : ℕ) × (n < length l) × Appends (g.K.Sink.written c.args.sink.now) (g.K.Sink.written c.write_whole-2.new.sink) (take n l))
    c.deref.ensures.value c.in-Err-write_whole.ensures.text in
    cut-short p _ _ _ _ _ _ status read.taken text part.0 read.consumed
    (command-answers p _ _ _ _ command status text s c.in-Some.ensures r a) part.1 part.2
