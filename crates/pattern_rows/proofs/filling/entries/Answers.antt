use Rattle.std.proofs.Common.{◌++◌, map, ap, ◌∙◌}
use Rattle.spec_model.specs.Values.{is_assignment}
use Rattle.spec_model.specs.Views.{formula, pattern_data}
use Rattle.pattern_rows.specs.Rows.{goal_holds}
use Rattle.pattern_rows.proofs.Steps.{rest_passes, added_part}
use Rattle.pattern_rows.proofs.filling.entries.Goals as goal

pub loop-own-preserved : goal.loop-own-preserved
loop-own-preserved c =
    record {
      fits = (rest_passes (λ c. c.items) c.args.owns.now c.loop-own.own-index c.own-item.result c.loop-own-test.true c.own-item.is (is_assignment (pattern_data c.args.pattern.now).domains) c.loop-own.invariant.fits).1;
      added =
          added_part (λ c. c.items) c.args.owns.now c.loop-own.own-index c.own-item.result c.loop-own-test.true c.own-item.is (λ own. map (λ letter. goal_holds (formula c.args.goal.now) letter own) (map (λ c. c.items) c.args.letters.now)) c.loop-own.table.items _ _
          (c.in_ok-add_entries.ensures.added ∙ ap (λ own. c.loop-own.table.items ++ map (λ letter. goal_holds (formula c.args.goal.now) letter own) (map (λ c. c.items) c.args.letters.now)) c.deref.ensures.value)
          c.loop-own.invariant.added;
    }
