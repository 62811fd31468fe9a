use Rattle.std.proofs.Common.{◌≡◌, suc, ◌+◌, [], ◌∷◌, length, map, sym, ap, ◌∙◌, arith}
use Rattle.std.proofs.lemmas.List.{length-map, length-append}
use Rattle.spec_model.specs.Views.{line_data as model_line, trigger_data}
use Rattle.spectra_resolved.specs.TextViews.{line_data}
use Rattle.spectra_judge.specs.KindViews.{known_data}
use Rattle.spectra_judge.proofs.Lists.{mapped_left}
use Rattle.spectra_lines.specs.Meanings.{triggers_in, statement_of}
use Rattle.spectra_lines.proofs.Stated.{statement_more, triggers_more}
use Rattle.spectra_lines.proofs.meaning.statements.Goals as goal

pub loop-line-preserved : goal.loop-line-preserved
loop-line-preserved c =
    let known = known_data c.args.known.now in
    let ls = c.args.lines.now in
    let k = c.loop-line.line-index in
    let l = line_data c.line-item.result in
    let old = c.loop-line.stated in
    let left = mapped_left line_data ls k c.line-item.result c.loop-line-test.true c.line-item.is in
    let before = c.loop-line.invariant in
    let now = c.in_ok-add_statement.ensures in
    let new = c.add_statement.new.stated in
    let n = length old.lines.items in
    let m = length old.triggers.items in
    let next : length new.lines.items ≡ suc n =
    sym (length-map new.lines.items model_line) ∙ ap length now.lines ∙ length-append (map model_line old.lines.items) (statement_of known (suc n) m l ∷ []) ∙ (let same = length-map old.lines.items model_line in omega (arith, same)) in
    let more : length new.triggers.items ≡ m + length (triggers_in known l.body) =
    sym (length-map new.triggers.items trigger_data) ∙ ap length now.triggers ∙ length-append (map trigger_data old.triggers.items) (triggers_in known l.body) ∙ ap (λ j. j + length (triggers_in known l.body)) (length-map old.triggers.items trigger_data) in
    record {
      lines = statement_more known l _ _ (map model_line old.lines.items) _ _ n m _ _ left now.lines next more before.lines;
      triggers = triggers_more known l _ _ (map trigger_data old.triggers.items) _ _ left now.triggers before.triggers;
    }
