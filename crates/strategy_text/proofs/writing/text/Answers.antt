use Rattle.std.proofs.Common.{◌<◌, ◌≤◌, map, length, string_bytes, IsUtf8, ap, subst, ◌∙◌, arith}
use Rattle.serde_json.specs.View.{view}
use Rattle.spec_model.specs.Views.{spec_data}
use Rattle.strategy_tables.specs.Views.{table_data}
use Rattle.strategy_text.specs.Written.{table_json, most_bytes}
use Rattle.strategy_text.proofs.Texts.{text_exact, text_back}
use Rattle.strategy_text.proofs.writing.text.Goals as goal

pub returns-then-as_str-gt-MOST_BYTES-clause-limit : goal.returns-then-as_str-gt-MOST_BYTES-clause-limit
returns-then-as_str-gt-MOST_BYTES-clause-limit c = λ limit.
    let t = table_data c.args.table.now in
    let is = c.in_ok-json.ensures.json ∙ ap (λ ns. table_json (map string_bytes ns) t) c.deref.ensures.value in
    let exact = text_exact (spec_data c.args.spec.now) t (view c.in_ok-json.json) (string_bytes c.in_ok-text.text) is c.in_ok-text.ensures.text in
    let long : most_bytes < length (string_bytes c.in_ok-text.text) = omega (arith, ap length c.as_str.ensures.value, c.if-as_str-gt-MOST_BYTES.true) in
    subst (λ bytes. most_bytes < length bytes) exact long

pub returns-clause-exact : goal.returns-clause-exact
returns-clause-exact c =
    let t = table_data c.args.table.now in
    let is = c.in_ok-json.ensures.json ∙ ap (λ ns. table_json (map string_bytes ns) t) c.deref.ensures.value in
    text_exact (spec_data c.args.spec.now) t (view c.in_ok-json.json) (string_bytes c.in_ok-text.text) is c.in_ok-text.ensures.text

pub returns-clause-reads_back : goal.returns-clause-reads_back
returns-clause-reads_back c =
    let t = table_data c.args.table.now in
    let is = c.in_ok-json.ensures.json ∙ ap (λ ns. table_json (map string_bytes ns) t) c.deref.ensures.value in
    let few : length (string_bytes c.in_ok-text.text) ≤ most_bytes = omega (arith, ap length c.as_str.ensures.value, c.if-as_str-gt-MOST_BYTES.false) in
    let utf8 = subst IsUtf8 c.as_str.ensures.value c.as_str.utf8 in
    text_back (spec_data c.args.spec.now) t (view c.in_ok-json.json) (string_bytes c.in_ok-text.text) is c.requires.typed c.requires.table c.in_ok-json.ensures.small few utf8 c.in_ok-text.ensures.reads_back
