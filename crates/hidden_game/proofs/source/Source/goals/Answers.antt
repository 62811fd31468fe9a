use Rattle.std.proofs.Common.{◌≡◌, ◌≤◌, ◌+◌, ◌++◌, List, map, drop, length, count_by, sym, ap, ◌∙◌, arith}
use Rattle.spec_model.specs.declared.game.Goal.{Goal}
use Rattle.spec_model.specs.declared.spec.Line.{Line}
use Rattle.spec_model.specs.Views.{line_data, content_data, spec_data}
use Rattle.spec_model.specs.GameViews.{goal_data}
use Rattle.spec_model.specs.Sizes.{past_operators}
use Rattle.spec_model.specs.WellTyped.{is_hidden}
use Rattle.std.proofs.lemmas.List.{length-map}
use Rattle.hidden_game.specs.GameOf.{table_for, goal_for, goals_for}
use Rattle.hidden_game.proofs.Making.{more_goals, next_near, line_left}
use Rattle.hidden_game.proofs.source.Source.goals.Goals as goal

pub loop-line-init : goal.loop-line-init
loop-line-init c =
    let s = spec_data c.args.self.now.spec.now in
    let from = c.first_table-table.ensures in
    record {
      made = ap (λ (gs : List Goal). map goal_data gs ++ goals_for s c.args.player c.first_table-table.result s.lines) c.new-all.ensures.items ∙ ap (λ n. goals_for s c.args.player n s.lines) from;
      few = omega (arith, from);
    }

pub next_table-next-requires-clause-room : goal.next_table-next-requires-clause-room
next_table-next-requires-clause-room c =
    let s = spec_data c.args.self.now.spec.now in
    let lines = length-map c.args.self.now.spec.now.lines.items line_data in
    let few : length (past_operators s) + count_by (λ l. is_hidden l.content) s.lines ≤ 1024 = c.requires.typed.few_hidden in
    let same = ap (λ (ls : List Line). length ls) c.deref-line-items.ensures.value in
    omega (arith, few, lines, same, c.requires.typed.few_lines, c.loop-line.invariant.few, c.loop-line-test.true)

pub loop-line-preserved : goal.loop-line-preserved
loop-line-preserved c =
    let s = spec_data c.args.self.now.spec.now in
    let lines = c.args.self.now.spec.now.lines.items in
    let k = c.loop-line.line-index in
    let l = line_data c.line-item.result in
    let before = map goal_data c.loop-line.all.items in
    let rest = map line_data (drop (k + 1) lines) in
    let next = c.next_table-next.ensures in
    let near = next_near c.loop-line.table (table_for s l.content) in
    record {
      made =
          ap (λ gs. gs ++ goals_for s c.args.player c.next_table-next.result rest) c.in_ok-add_goals.ensures.added
          ∙ ap (λ n. (before ++ goal_for s c.args.player c.loop-line.table l) ++ goals_for s c.args.player n rest) next
          ∙ more_goals s c.args.player c.loop-line.table before l rest
          ∙ ap (λ ls. before ++ goals_for s c.args.player c.loop-line.table ls) (sym (line_left lines c.deref-line-items.result.now k c.line-item.result c.deref-line-items.ensures.value c.loop-line-test.true c.line-item.is))
          ∙ c.loop-line.invariant.made;
      few = omega (arith, next, near, c.loop-line.invariant.few);
    }
