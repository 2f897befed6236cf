use Rattle.std.proofs.Common.{◌++◌, map, ap, sym, ◌∙◌}
use Rattle.std.specs.List.{fold}
use Rattle.std.proofs.Math.ListN.{drop_of_length-le}
use Rattle.std.proofs.lemmas.List.{take_all}
use Rattle.p3_field.specs.Ring.{of_nat}
use Rattle.batch_transcript.specs.BatchScript.{pattern, degree_bits_step, from_main}
use Rattle.batch_transcript.specs.Laws.Phases.{map-const, plays-bindings}
use Rattle.batch_transcript.proofs.transcript.BatchTranscript.instance_bindings.Goals as goal

pub loop-bits-init : goal.loop-bits-init
unfolding pattern
loop-bits-init g c = let d = g.EF.BasedVectorSpace.DIMENSION in let s = c.args.self.now.shape in record {
  state = ap (λ p. p.state) c.self.view_is;
  remaining = ap (λ p. p.remaining) c.self.view_is ∙ c.requires.turn ∙ ap (λ l. l ++ from_main d s) (map-const (degree_bits_step d) s.trace_widths c.args.degree_bits.now (sym c.requires.count));
  shape = ap (λ p. p.shape) c.self.view_is;
}

pub returns-clause-plays : goal.returns-clause-plays
unfolding pattern
returns-clause-plays g c =
    let d = g.EF.BasedVectorSpace.DIMENSION in
    let s = c.args.self.now.shape in
    let xs = c.args.degree_bits.now in
    let i = c.loop-bits.invariant in
    let end = c.loop-bits-test.false in
    plays-bindings _ g.EF.RingCore.ring d xs c.args.self.now _
    (i.state ∙ ap (λ l. fold (λ t n. g.C.CanObserve-2.observed t (of_nat g.EF.RingCore.ring n)) c.args.self.now.state l) (take_all _ xs end))
    (c.requires.turn
    ∙ ap (λ l. l ++ from_main d s) (map-const (degree_bits_step d) s.trace_widths xs (sym c.requires.count))
    ∙ ap (λ l. map (λ _. degree_bits_step d) xs ++ l) (sym (i.remaining ∙ ap (λ l. map (λ _. degree_bits_step d) l ++ from_main d s) (drop_of_length-le xs end))))
    i.shape
