use Rattle.std.proofs.Common.{◌++◌, map, ap, sym, ◌∙◌}
use Rattle.std.proofs.lemmas.List.{append-nil}
use Rattle.spec_model.specs.Views.{content_data, spec_data}
use Rattle.spec_model.specs.GameViews.{goal_data}
use Rattle.hidden_game.specs.GameOf.{table_for}
use Rattle.hidden_game.proofs.Making.{same_added, goals-some, goals-none}
use Rattle.hidden_game.proofs.source.Source.add_parts.Goals as goal

pub returns-in-Some : goal.returns-in-Some
returns-in-Some c =
    let s = spec_data c.args.self.now.spec.now in
    record {
      added =
          same_added c.add_entries.result (map goal_data c.add_entries.new.goals.items) (map goal_data c.args.goals.now.items) _ _
          (goals-some s c.args.line c.args.table c.in-Some.count (table_for s (content_data c.args.body.now)) c.in-Some.ensures.count)
          c.add_entries.ensures.added;
    }

pub returns-in-None : goal.returns-in-None
returns-in-None c =
    let s = spec_data c.args.self.now.spec.now in
    record {
      added =
          sym (append-nil (map goal_data c.args.goals.now.items))
          ∙ ap (λ gs. map goal_data c.args.goals.now.items ++ gs) (goals-none s c.args.line c.args.table (table_for s (content_data c.args.body.now)) c.in-None.ensures.count);
    }
