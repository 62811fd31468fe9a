use Rattle.std.proofs.Common.{◌≡◌, ◌≤◌, length, map, string_bytes, None, refl, ap, ◌∙◌, arith}
use Rattle.std.proofs.lemmas.Result.{IfOk-weaker, IfErr-at_err}
use Rattle.serde_json.specs.View.{view}
use Rattle.spec_model.specs.Views.{spec_data}
use Rattle.spec_model.specs.GameViews.{game_data}
use Rattle.strategy_tables.specs.Views.{table_data}
use Rattle.strategy_text.specs.declared.fault.ReadRefusal.TheVariants.{Shape}
use Rattle.strategy_text.specs.Written.{most_bytes}
use Rattle.strategy_text.specs.Reading.{table_of}
use Rattle.strategy_text.proofs.Only.{reads_only}
use Rattle.strategy_text.proofs.Texts.{read_whole}
use Rattle.strategy_text.proofs.reading.read.Goals as goal

pub returns-clause-exact : goal.returns-clause-exact
returns-clause-exact c =
    let few : length c.args.bytes.now ≤ most_bytes = omega (arith, c.if-bytes-gt-MOST_BYTES.false) in
    let whole = read_whole (spec_data c.args.spec.now) c.args.bytes.now (view c.in_ok-json.json) (map string_bytes c.deref.result.now) (game_data c.in_ok-game.game) few c.in_ok-json.ensures.ok (ap (map string_bytes) c.deref.ensures.value) c.in_ok-game.ensures.game in
    IfOk-weaker c.table.result _ _ (λ table is. whole ∙ is) c.table.ensures.ok

pub returns-clause-shape : goal.returns-clause-shape
returns-clause-shape c = λ shape.
    let few : length c.args.bytes.now ≤ most_bytes = omega (arith, c.if-bytes-gt-MOST_BYTES.false) in
    let whole = read_whole (spec_data c.args.spec.now) c.args.bytes.now (view c.in_ok-json.json) (map string_bytes c.deref.result.now) (game_data c.in_ok-game.game) few c.in_ok-json.ensures.ok (ap (map string_bytes) c.deref.ensures.value) c.in_ok-game.ensures.game in
    whole ∙ IfErr-at_err (λ e. e ≡ Shape → table_of (map string_bytes c.deref.result.now) (game_data c.in_ok-game.game) (view c.in_ok-json.json) ≡ None) shape c.table.ensures.shape refl

pub returns-clause-table : goal.returns-clause-table
returns-clause-table c =
    let few : length c.args.bytes.now ≤ most_bytes = omega (arith, c.if-bytes-gt-MOST_BYTES.false) in
    let whole = read_whole (spec_data c.args.spec.now) c.args.bytes.now (view c.in_ok-json.json) (map string_bytes c.deref.result.now) (game_data c.in_ok-game.game) few c.in_ok-json.ensures.ok (ap (map string_bytes) c.deref.ensures.value) c.in_ok-game.ensures.game in
    IfOk-weaker c.table.result _ _ (λ table is. reads_only (spec_data c.args.spec.now) c.args.bytes.now (table_data table) (whole ∙ is)) c.table.ensures.ok
