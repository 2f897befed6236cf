use Rattle.std.proofs.Common.{◌∷◌, []}
use Rattle.p3_challenger.specs.Separator.{step_bytes, eight_bytes, length_prefixed, hierarchy_byte, kind_byte, value_byte, length_byte}
use Rattle.p3_challenger.specs.Script.{elements, amount}
use Rattle.p3_challenger.proofs.Appends.{appends-five}
use Rattle.p3_challenger.proofs.separator.push_step.Goals as goal

pub returns : goal.returns
unfolding step_bytes
returns c =
    let s = c.args.step.now in
    appends-five c.args.out.now.items (hierarchy_byte s.hierarchy ∷ kind_byte s.kind ∷ value_byte s.value ∷ []) (eight_bytes (elements s.value)) (length_prefixed s.label) (length_byte s.length ∷ []) (eight_bytes (amount s.length))
    c.extend_from_slice.new.self.items c.push_eight_bytes.new.out.items c.push_counted.new.out.items c.push.new.self.items c.push_eight_bytes-2.new.out.items
    (cc (c.in_ok-extend_from_slice.ensures.items)) (cc (c.in_ok-push_eight_bytes.ensures.appended)) (cc (c.in_ok-push_counted.ensures)) (cc (c.in_ok-push.ensures.items)) (cc (c.in_ok-push_eight_bytes-2.ensures.appended))
