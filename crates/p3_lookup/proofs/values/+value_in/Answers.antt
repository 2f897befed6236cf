use Rattle.std.proofs.Common.{rules}
use Rattle.air_core.specs.Laws.Symbolic.{node_is}
use Rattle.p3_lookup.proofs.values.+value_in.Goals as goal

pub cell-requires : goal.cell-requires
cell-requires g t c =
    let here = node_is c.args.nodes.now c.args.place _ _ c.requires.ordered c.requires.within c.in-Base.is in
    let reads = rw here at c.requires.reads in
    reads.0

pub value_in-left-requires : goal.value_in-left-requires
value_in-left-requires g t c κs within =
    let here = node_is c.args.nodes.now c.args.place _ _ c.requires.ordered c.requires.within c.in-Sum.is in
    let reads = rw here.2 at c.requires.reads in
    let earlier = here.0 in
    let left = reads.0 in
    search rules

pub value_in-requires : goal.value_in-requires
value_in-requires g t c κs within =
    let here = node_is c.args.nodes.now c.args.place _ _ c.requires.ordered c.requires.within c.in-Sum.is in
    let reads = rw here.2 at c.requires.reads in
    let earlier = here.1 in
    let right = reads.1 in
    search rules

pub returns-in-Sum : goal.returns-in-Sum
returns-in-Sum g t c =
    let here = node_is c.args.nodes.now c.args.place _ _ c.requires.ordered c.requires.within c.in-Sum.is in
    rw here.2 (cc (g.met.F.PrimeCharacteristicRing.adds _ _ _ c.add.ensures, c.value_in-left.ensures, c.value_in.ensures))

pub value_in-left-requires-in-Difference : goal.value_in-left-requires-in-Difference
value_in-left-requires-in-Difference g t c κs within =
    let here = node_is c.args.nodes.now c.args.place _ _ c.requires.ordered c.requires.within c.in-Difference.is in
    let reads = rw here.2 at c.requires.reads in
    let earlier = here.0 in
    let left = reads.0 in
    search rules

pub value_in-requires-in-Difference : goal.value_in-requires-in-Difference
value_in-requires-in-Difference g t c κs within =
    let here = node_is c.args.nodes.now c.args.place _ _ c.requires.ordered c.requires.within c.in-Difference.is in
    let reads = rw here.2 at c.requires.reads in
    let earlier = here.1 in
    let right = reads.1 in
    search rules

pub returns-in-Difference : goal.returns-in-Difference
returns-in-Difference g t c =
    let here = node_is c.args.nodes.now c.args.place _ _ c.requires.ordered c.requires.within c.in-Difference.is in
    rw here.2 (cc (g.met.F.PrimeCharacteristicRing.subs _ _ _ c.sub.ensures, c.value_in-left-in-Difference.ensures, c.value_in-in-Difference.ensures))

pub value_in-left-requires-in-Product : goal.value_in-left-requires-in-Product
value_in-left-requires-in-Product g t c κs within =
    let here = node_is c.args.nodes.now c.args.place _ _ c.requires.ordered c.requires.within c.in-Product.is in
    let reads = rw here.2 at c.requires.reads in
    let earlier = here.0 in
    let left = reads.0 in
    search rules

pub value_in-requires-in-Product : goal.value_in-requires-in-Product
value_in-requires-in-Product g t c κs within =
    let here = node_is c.args.nodes.now c.args.place _ _ c.requires.ordered c.requires.within c.in-Product.is in
    let reads = rw here.2 at c.requires.reads in
    let earlier = here.1 in
    let right = reads.1 in
    search rules

pub returns-in-Product : goal.returns-in-Product
returns-in-Product g t c =
    let here = node_is c.args.nodes.now c.args.place _ _ c.requires.ordered c.requires.within c.in-Product.is in
    rw here.2 (cc (g.met.F.PrimeCharacteristicRing.muls _ _ _ c.mul.ensures, c.value_in-left-in-Product.ensures, c.value_in-in-Product.ensures))

pub returns-in-Constant : goal.returns-in-Constant
returns-in-Constant g t c =
    let here = node_is c.args.nodes.now c.args.place _ _ c.requires.ordered c.requires.within c.in-Constant.is in
    rw here (search rules)

pub returns-in-Base : goal.returns-in-Base
returns-in-Base g t c =
    let here = node_is c.args.nodes.now c.args.place _ _ c.requires.ordered c.requires.within c.in-Base.is in
    rw here c.cell.ensures

pub returns-in-Extension : goal.returns-in-Extension
returns-in-Extension g t c =
    let here = node_is c.args.nodes.now c.args.place _ _ c.requires.ordered c.requires.within c.in-Extension.is in
    absurd (rw here at c.requires.reads)
