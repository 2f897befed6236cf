use Rattle.std.proofs.Common.{refl}
use Rattle.p3_field.specs.BabyBear.{baby_bear_ring, baby_bear_inv}
use Rattle.p3_field.specs.Laws.Order.{pow_product}
use Rattle.p3_field.specs.Laws.BabyBearLaws.{baby_bear_laws}
use Rattle.p3_field.proofs.baby_bear.field.BabyBearFieldCore.inverse.Goals as goal

pub returns : goal.returns
unfolding baby_bear_inv
returns c =
    let r = baby_bear_ring in let L = baby_bear_laws in let x = c.args.self.now in
    let ones = c.product_of_squares.ensures.product in
    let square = c.product_of_squares.ensures.next in
    let s = c.product_of_squares.result.1 in
    let a = pow_product r L x s s c.square-a.result 134217728 134217728 268435456 square square c.square-a.ensures refl in
    let b = pow_product r L x c.square-a.result c.square-a.result c.square-b.result 268435456 268435456 536870912 a a c.square-b.ensures refl in
    let d = pow_product r L x c.square-b.result c.square-b.result c.square-c.result 536870912 536870912 1073741824 b b c.square-c.ensures refl in
    let e = pow_product r L x c.product_of_squares.result.0 c.square-a.result c.mul.result 134217727 268435456 402653183 ones a c.mul.ensures refl in
    let f = pow_product r L x c.mul.result c.square-b.result c.mul-2.result 402653183 536870912 939524095 e b c.mul-2.ensures refl in
    pow_product r L x c.mul-2.result c.square-c.result c.mul-3.result 939524095 1073741824 2013265919 f d c.mul-3.ensures refl
