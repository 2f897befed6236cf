use Rattle.std.proofs.Common.{◌≡◌, ◌<◌, ℕ, [], map, get_or}
use Rattle.p3_field.specs.Poly.{eval_poly}
use Rattle.plain_pcs.proofs.verifying.first_wrong_value.Given as goal

abbrev pub invariant-loop-j : goal.invariant-loop-j
invariant-loop-j g l =
    let s = g.E.RingCore.ring in
    (i : ℕ) → i < l.j → eval_poly s (map g.E.ExtensionField.embed (get_or (map (λ f. f.items) l.polynomials) i [])) l.point ≡ get_or l.claimed i s.zero
