use Rattle.std.proofs.Common.{◌≡◌, ◌+◌, ◌++◌, map, drop, sym, ap, ◌∙◌}
use Rattle.std.specs.Option.{option_to_list}
use Rattle.spec_model.specs.Views.{line_data, spec_data}
use Rattle.spec_model.specs.GameViews.{hidden_data}
use Rattle.hidden_game.specs.GameOf.{tables_for}
use Rattle.hidden_game.proofs.Making.{more_tables, line_left}
use Rattle.hidden_game.proofs.source.Source.add_line_tables.Goals as goal

pub loop-line-preserved : goal.loop-line-preserved
loop-line-preserved c =
    let s = spec_data c.args.self.now.spec.now in
    let lines = c.args.self.now.spec.now.lines.items in
    let k = c.loop-line.line-index in
    let before = map hidden_data c.loop-line.hidden.items in
    let rest = map line_data (drop (k + 1) lines) in
    record {
      made =
          ap (λ hs. hs ++ tables_for s rest) (c.in_ok-add_table.ensures ∙ ap (λ o. before ++ option_to_list o) c.in_ok-table.ensures.table)
          ∙ (more_tables s before (line_data c.line-item.result) rest
          ∙ (ap (λ ls. before ++ tables_for s ls) (sym (line_left lines c.deref-line-items.result.now k c.line-item.result c.deref-line-items.ensures.value c.loop-line-test.true c.line-item.is))
          ∙ c.loop-line.invariant.made));
      kept = c.in_ok-table.ensures.kept;
    }
