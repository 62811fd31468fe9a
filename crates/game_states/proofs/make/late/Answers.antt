use Rattle.std.proofs.Common.{◌≡◌, Bool, List, IfOk, subst}
use Rattle.spec_model.specs.Moves.{has_next}
use Rattle.game_values.proofs.WholeTables.{map-flags}
use Rattle.game_states.proofs.make.late.Goals as goal

pub returns : goal.returns
returns c =
    subst (λ (w : List Bool). IfOk c.nexts.result (λ flags. flags.items ≡ w)) (map-flags has_next c.args.game.now.safe_gar.items) (rw c.deref.ensures.value at c.nexts.ensures)
