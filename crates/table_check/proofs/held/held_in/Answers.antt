use Rattle.std.proofs.Common.{◌≡◌, ◌-◌, ◌∙◌, Bool, List, map, get_or, ap}
use Rattle.spec_model.specs.declared.game.Goal.{Goal}
use Rattle.spec_model.specs.GameViews.{game_data, goal_data}
use Rattle.spec_model.specs.Sets.{holding, no_states}
use Rattle.gr1_law.specs.Layers.{or_all_states}
use Rattle.strategy_tables.specs.Tables.{goal_holds}
use Rattle.strategy_tables.specs.Views.{node_data}
use Rattle.table_check.specs.declared.held.Held.{Held}
use Rattle.table_check.proofs.held.held_in.Goals as goal

pub returns : goal.returns
returns c =
    let g = game_data c.args.game.now in
    let v = node_data c.args.v.now in
    let s = v.state in
    let made : Bool → Bool → Held = λ a b. record { goal = a; asm = b } in
    let first = c.holds_by_number.ensures s c.requires.inside c.requires.state ∙ ap (λ (gs : List Goal). get_or (or_all_states g (map (λ goal. holding g goal.holds) (map goal_data gs))) (v.goal - 1) no_states s) c.deref.ensures.value in
    let second = c.holds_by_number-2.ensures s c.requires.inside c.requires.state ∙ ap (λ (gs : List Goal). get_or (or_all_states g (map (λ goal. holding g goal.holds) (map goal_data gs))) (v.asm - 1) no_states s) c.deref-2.ensures.value in
    ap (λ (b : Bool). made b c.holds_by_number-2.result) first ∙ ap (made (goal_holds g v)) second
