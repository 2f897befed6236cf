use Rattle.std.proofs.Common.{◌≡◌, ◌∙◌, ◌<◌, ℕ, List, length, get_or}
use Rattle.std.proofs.lemmas.List.{get_or_default}
use Rattle.prover_values.proofs.quotient.folder_at.Goals as goal

-- an item within a list, whatever stands for those past its end
item_at : {X : Type 0} (xs : List X) (i : ℕ) (d x : X) → x ≡ get_or xs i x → i < length xs → x ≡ get_or xs i d
item_at xs i d x e h = e ∙ get_or_default xs i x d h

pub returns-clause-given : goal.returns-clause-given
returns-clause-given g c =
    let z = g.F.RingCore.ring.zero in
    let first = item_at _ _ z c.index.result.now c.index.ensures c.requires.first in
    let last = item_at _ _ z c.index-2.result.now c.index-2.ensures c.requires.last in
    let transition = item_at _ _ z c.index-3.result.now c.index-3.ensures c.requires.transition in
    λ j. record {
      plain = record {
        values = record {
          main_local = c.row.ensures.values j;
          main_next = c.row-2.ensures.values j;
          preprocessed_local = c.preprocessed_at.ensures.values j;
          preprocessed_next = c.preprocessed_at-2.ensures.values j;
          periodic = c.args.periodic_values.now;
          public = c.args.public_values.now;
          first_row = first j;
          last_row = last j;
          transition = transition j;
        };
        powers = c.args.alpha_powers.now;
      };
      permutation_local = c.preprocessed_at-3.ensures.values j;
      permutation_next = c.preprocessed_at-4.ensures.values j;
      challenges = c.args.challenges.now;
      terminals = c.args.terminals.now;
    }
