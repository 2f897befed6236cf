use Rattle.std.proofs.Common.{◌≡◌, ℕ, true, Result, Ok, sym, ◌∙◌, ap, arith}
use Rattle.std.specs.Bool.{Decides}
use Rattle.std.specs.Prelude.{decimal}
use Rattle.std.proofs.lemmas.Fmt.{parse-decimal}
use Rattle.std.proofs.lemmas.Slice.Eq.{slice_eq-Decides}
use Rattle.std.proofs.lemmas.Bool.Decides.{Decides-eqb}
use Rattle.tool_demo.proofs.number.read_number.Goals as goal

pub returns-in_default : goal.returns-in_default
returns-in_default c n few e =
    c.in_default.not-Ok n (parse-decimal 32 n _ _ (omega (arith, few)) (omega (arith, few)) e c.parse.ensures.value.0)

-- the number that was read is the only one that the word may write
same_number : {E : Type 0} (n m : ℕ) (r : Result ℕ E) → r ≡ Ok n → r ≡ Ok m → m ≡ n
same_number n m r e f = let same : Ok m ≡ Ok n = sym f ∙ e in cc

pub returns-else-eq : goal.returns-else-eq
returns-else-eq c n few e =
    let read = parse-decimal 32 n c.args.word.now c.parse.result (omega (arith, few)) (omega (arith, few)) e c.parse.ensures.value.0 in
    let same = same_number n c.in-Ok.number c.parse.result read c.in-Ok.is in
    let writes : c.format.result.now ≡ c.args.word.now = c.format.ensures.text ∙ (ap decimal same ∙ sym e) in
    let d : Decides c.eq.result (c.format.result.now ≡ c.args.word.now) = slice_eq-Decides Decides-eqb _ _ _ c.eq.ensures in
    let b : c.eq.result ≡ true = d.1 writes in
    let f = c.if-eq.false in
    absurd (cc)
