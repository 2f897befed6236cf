use Rattle.std.proofs.Common.{◌≡◌, length, refl, arith}
use Rattle.plain_pcs.proofs.Places.{each_read}
use Rattle.plain_pcs.proofs.rows.have_widths.Goals as goal

pub returns : goal.returns
returns g c = (
  λ e. each_read c.args.dimensions.now c.args.rows.now (λ v. v.items) (λ d row. length row ≡ d.width) c.if-rows-dimensions.false
      (λ j d row h. c.loop-i.invariant j d row (omega (arith, h, c.loop-i-test.false, c.if-rows-dimensions.false))),
  λ e. refl,
)
