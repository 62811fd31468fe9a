use Rattle.std.proofs.Common.{◌<◌, length, map, take, subst, ◌∙◌, arith}
use Rattle.spec_model.specs.Views.{line_data as model_line, trigger_data}
use Rattle.spectra_patterns.specs.Gathering.{IsCount}
use Rattle.spectra_patterns.proofs.Counted.{lines_so_far, hidden_less, not_many}
use Rattle.spectra_patterns.proofs.hidden.report_hidden.Goals as goal

pub loop-k-preserved : goal.loop-k-preserved
loop-k-preserved c =
    let ts = map trigger_data c.args.triggers.now in
    let lines = c.args.lines.now in
    let places = c.args.places.now in
    let k = c.loop-k.k in
    let l = c.index-lines-k.result in
    let before = c.loop-k.invariant in
    let below : k < length lines = omega arith in
    let within : k < length places = omega arith in
    let now = c.in-Ok.ensures.counted (map model_line (take k lines)) before.count in
    record {
      same = before.same;
      count = subst (λ ls. IsCount ts ls c.count_line.new.tables) (lines_so_far lines k l below c.index-lines-k.is) now;
      left = before.left ∙ hidden_less ts lines places k l below within c.index-lines-k.is (not_many ts _ c.count_line.new.tables now);
    }
