use Rattle.std.proofs.Common.{rules, ◌≡◌, ap, length}
use Rattle.batch_transcript.specs.BatchScript.{instance_label}
use Rattle.batch_transcript.proofs.shape.BatchShape.label.Goals as goal

pub returns : goal.returns
unfolding instance_label
returns c =
    let n : c.len.result ≡ length c.self.inside.trace_widths.items = search rules in
    rw (c.in_ok-push_counts.ensures, c.in_ok-push_each_eight_bytes-2.ensures, c.in_ok-push_each_eight_bytes.ensures, c.in_ok-push_eight_bytes.ensures.appended, c.new-label.ensures.items, c.deref-3.ensures.value, c.deref-2.ensures.value, c.deref.ensures.value, n)
    (ap instance_label c.self.view_is)
