use Rattle.std.proofs.Common.{◌≡◌, ◌∙◌, inr, Vec, List, map, length, IfOk, sym, ap, subst, arith}
use Rattle.std.specs.declared.alloc.Global.{Global}
use Rattle.spec_model.specs.declared.value.Value.{Value}
use Rattle.spec_model.specs.Values.{Assignment}
use Rattle.spec_model.specs.Games.{GameData}
use Rattle.spec_model.specs.Views.{spec_data}
use Rattle.hidden_game.specs.GameOf.{game_of}
use Rattle.hidden_game.proofs.FewGoals.{goals_few, asms_few}
use Rattle.strategy_parts.specs.Counts.{HasFewGoals}
use Rattle.strategy_tables.specs.Tables.{SystemTable}
use Rattle.strategy_tables.specs.Games.{OfSystem}
use Rattle.strategy_tables.specs.Views.{table_data}
use Rattle.strategy_check.specs.Walks.{AreTooMany}
use Rattle.strategy_check.specs.Systems.{IsSystemTable, IsTooLarge}
use Rattle.strategy_check.proofs.Limits.{limit_then}
use Rattle.strategy_check.proofs.system.system_table.Goals as goal

pub table_in-requires : goal.table_in-requires
table_in-requires g c =
    let s = spec_data c.args.spec.now in
    let is = c.in_ok-game.ensures.game in
    let listed = ap (λ (vs : List _). map (λ (x : Vec Value Global). x.items) vs) c.deref.ensures.value ∙ c.in_ok-inputs.ensures in
    let counted = c.count_all_inputs.ensures in
    record {
      play = record {
        stands = c.requires.play.stands;
        game = c.requires.play.game ∙ sym is;
        rounds = c.requires.play.rounds;
        few_goals = subst HasFewGoals (sym is) (record { goals = goals_few s c.requires.typed; asms = asms_few s c.requires.typed });
        inputs = listed;
        few_inputs = (let long = ap (λ (xs : List Assignment). length xs) listed in omega (arith, counted, long));
      };
    }

pub returns-clause-table : goal.returns-clause-table
returns-clause-table g c =
    let kept = g.G.Regions.kept in
    subst (λ (d : GameData). IfOk c.table_in.result (λ t. (made : SystemTable) × (table_data t ≡ OfSystem made) × IsSystemTable kept d c.args.k c.args.play.now made)) c.in_ok-game.ensures.game c.table_in.ensures.table

pub returns-clause-limit : goal.returns-clause-limit
returns-clause-limit g c =
    let kept = g.G.Regions.kept in
    let s = spec_data c.args.spec.now in
    let is = c.in_ok-game.ensures.game in
    limit_then c.table_in.result _ (IsTooLarge kept (game_of s) c.args.play.now) (λ many. inr (λ z l h b m st. subst (λ (d : GameData). AreTooMany d l) is (many z l h b m st))) c.table_in.ensures.limit
