use Rattle.std.proofs.Common.{◌≡◌, ◌∙◌, inl, inr, List, Vec, IfOk, map, length, sym, ap, subst, arith}
use Rattle.std.proofs.lemmas.Result.{IfErr-weaker}
use Rattle.std.specs.declared.alloc.Global.{Global}
use Rattle.spec_model.specs.declared.value.Value.{Value}
use Rattle.spec_model.specs.Values.{Assignment}
use Rattle.spec_model.specs.Games.{GameData, outputs_of}
use Rattle.spec_model.specs.Views.{spec_data}
use Rattle.hidden_game.proofs.FewGoals.{goals_few, asms_few}
use Rattle.strategy_parts.specs.Counts.{HasFewGoals}
use Rattle.counterstrategy.specs.Objects.{InEachPlay}
use Rattle.strategy_tables.specs.Tables.{EnvironmentTable}
use Rattle.strategy_tables.specs.Games.{OfEnvironment}
use Rattle.strategy_tables.specs.Views.{table_data}
use Rattle.counter_tables.specs.Walks.{AreTooMany}
use Rattle.counter_tables.specs.Environments.{IsEnvironmentTable}
use Rattle.counter_tables.proofs.Moves.{holds_same}
use Rattle.counter_tables.proofs.environment.environment_table.Goals as goal

pub table_in-requires : goal.table_in-requires
table_in-requires g c =
    let s = spec_data c.args.spec.now in
    let is = c.in_ok-game.ensures.game in
    let listed = ap (λ (vs : List (Vec Value Global)). map (λ (y : Vec Value Global). y.items) vs) c.deref.ensures.value ∙ c.in_ok-outputs.ensures in
    let counted = c.count_all_outputs-count.ensures in
    record {
      play = record {
        stands = c.requires.play.stands;
        game = c.requires.play.game ∙ sym is;
        shifts = c.requires.play.shifts;
        denials = c.requires.play.denials;
        few_goals = subst HasFewGoals (sym is) (record { goals = goals_few s c.requires.typed; asms = asms_few s c.requires.typed });
        outputs = listed;
        few_outputs = (let long = ap (λ (ys : List Assignment). length ys) listed in omega (arith, counted, long));
      };
    }

pub returns-in_err-game-clause-stands : goal.returns-in_err-game-clause-stands
returns-in_err-game-clause-stands g c = c.requires.play.stands

pub returns-in_err-game-clause-keeps : goal.returns-in_err-game-clause-keeps
returns-in_err-game-clause-keeps g c = holds_same g.G.Regions.kept c.args.play.now

pub returns-then-count-gt-MOST-clause-limit : goal.returns-then-count-gt-MOST-clause-limit
returns-then-count-gt-MOST-clause-limit g c = λ full.
    let counted = c.count_all_outputs-count.ensures in
    let same = ap (λ (d : GameData). length (outputs_of d)) c.in_ok-game.ensures.game in
    inl (omega (arith, counted, same))

pub returns-then-count-gt-MOST-clause-stands : goal.returns-then-count-gt-MOST-clause-stands
returns-then-count-gt-MOST-clause-stands g c = c.requires.play.stands

pub returns-then-count-gt-MOST-clause-keeps : goal.returns-then-count-gt-MOST-clause-keeps
returns-then-count-gt-MOST-clause-keeps g c = holds_same g.G.Regions.kept c.args.play.now

pub returns-in_err-outputs-clause-stands : goal.returns-in_err-outputs-clause-stands
returns-in_err-outputs-clause-stands g c = c.requires.play.stands

pub returns-in_err-outputs-clause-keeps : goal.returns-in_err-outputs-clause-keeps
returns-in_err-outputs-clause-keeps g c = holds_same g.G.Regions.kept c.args.play.now

pub returns-clause-table : goal.returns-clause-table
returns-clause-table g c =
    subst (λ (d : GameData). IfOk c.table_in.result (λ t. (made : EnvironmentTable) × (table_data t ≡ OfEnvironment made) × IsEnvironmentTable g.G.Regions.kept d c.args.n c.args.m c.args.play.now made)) c.in_ok-game.ensures.game c.table_in.ensures.table

pub returns-clause-limit : goal.returns-clause-limit
returns-clause-limit g c =
    IfErr-weaker c.table_in.result _ _
    (λ f told full. inr (subst (λ (d : GameData). InEachPlay g.G.Regions.kept c.args.play.now (λ e h notes b k. AreTooMany d e)) c.in_ok-game.ensures.game (told full)))
    c.table_in.ensures.limit
