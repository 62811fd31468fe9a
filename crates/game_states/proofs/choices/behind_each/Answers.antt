use Rattle.std.proofs.Common.{◌∷◌, ◌++◌, ap, sym, ◌∙◌, map}
use Rattle.game_states.proofs.ChoiceSteps.{flat_map_step}
use Rattle.game_states.proofs.choices.behind_each.Goals as goal

pub loop-head-preserved : goal.loop-head-preserved
loop-head-preserved g c =
    c.in_ok-add_behind.ensures
    ∙ (ap (λ r. r ++ map (λ t. c.head-item.result ∷ t) (map (λ c. c.items) c.args.tails.now)) c.loop-head.invariant
    ∙ sym (flat_map_step (λ head. map (λ t. head ∷ t) (map (λ c. c.items) c.args.tails.now)) c.args.heads.now c.loop-head.head-index c.head-item.result c.loop-head-test.true c.head-item.is))
