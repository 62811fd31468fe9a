use Rattle.std.proofs.Common.{◌≡◌, ◌+◌, ◌<◌, ◌≤◌, [], ◌∷◌, map, drop, length, get_or, vec_len, sym, ap, subst, ◌∙◌, arith}
use Rattle.std.proofs.lemmas.List.{drop_more, length-map}
use Rattle.serde_json.specs.Data.{null}
use Rattle.serde_json.specs.View.{view}
use Rattle.spec_model.specs.Moves.{is_of, domains_of}
use Rattle.spec_model.specs.Views.{domain_data, variable_data}
use Rattle.strategy_text.specs.Reading.{value_of}
use Rattle.strategy_text.specs.Views.{reader_names}
use Rattle.strategy_text.proofs.Answers.{gives, refuses}
use Rattle.strategy_text.proofs.Lists.{before-nothing, left_at, left_past, each_read-step, each_read-stop, each_read-short, each_read-long, each_read-end, owned_here, not_owned_here}
use Rattle.strategy_text.proofs.reader.Reader.values.Goals.{then-is_owned+else-list-at+in-Some+in_ok-push, else-is_owned}
use Rattle.strategy_text.proofs.reader.Reader.values.Goals as goal

pub loop-var-init : goal.loop-var-init
loop-var-init c = rw (c.new-values.ensures.items, c.new-values.ensures.len) (before-nothing _)

pub returns-then-list-at : goal.returns-then-list-at
returns-then-list-at c =
    let vs = map variable_data c.args.self.now.game.now.vars.items in
    let v = c.var-item.result in
    let i = c.loop-var.var-index in
    let variable = subst (λ xs. drop i (map variable_data xs) ≡ variable_data v ∷ drop (i + 1) (map variable_data xs)) c.deref-var-items.ensures.value (left_at variable_data c.deref-var-items.result.now i v c.loop-var-test.true c.var-item.is) in
    let wanted = owned_here (is_of c.args.owner) (drop i vs) (variable_data v) (drop (i + 1) vs) variable (sym c.is_owned.ensures ∙ c.if-is_owned.true) in
    let past : length c.args.list.now ≤ vec_len c.loop-var.values = omega (arith, c.if-list-at.true, c.len-at.ensures) in
    refuses (sym c.loop-var.invariant ∙ each_read-short (value_of (reader_names c.args.self.now)) c.loop-var.values.items _ (domain_data v.domain) (domains_of (is_of c.args.owner) (drop (i + 1) vs)) _ wanted (left_past view c.args.list.now (vec_len c.loop-var.values) past))

pub returns-in_default : goal.returns-in_default
returns-in_default c =
    let vs = map variable_data c.args.self.now.game.now.vars.items in
    let js = map view c.args.list.now in
    let v = c.var-item.result in
    let i = c.loop-var.var-index in
    let k = vec_len c.loop-var.values in
    let j = c.index-list-at.result in
    let variable = subst (λ xs. drop i (map variable_data xs) ≡ variable_data v ∷ drop (i + 1) (map variable_data xs)) c.deref-var-items.ensures.value (left_at variable_data c.deref-var-items.result.now i v c.loop-var-test.true c.var-item.is) in
    let wanted = owned_here (is_of c.args.owner) (drop i vs) (variable_data v) (drop (i + 1) vs) variable (sym c.is_owned.ensures ∙ c.if-is_owned.true) in
    let here = subst (λ n. drop n js ≡ view j ∷ drop (n + 1) js) c.len-at.ensures (left_at view c.args.list.now c.len-at.result j c.if-list-at.false c.index-list-at.is) in
    refuses (sym c.loop-var.invariant ∙ each_read-stop (value_of (reader_names c.args.self.now)) c.loop-var.values.items _ (domain_data v.domain) (domains_of (is_of c.args.owner) (drop (i + 1) vs)) (drop k js) (view j) (drop (k + 1) js) wanted here (sym c.in_default.ensures))

pub loop-var-preserved : goal.loop-var-preserved
loop-var-preserved c =
    let vs = map variable_data c.args.self.now.game.now.vars.items in
    let js = map view c.args.list.now in
    let v = c.var-item.result in
    let i = c.loop-var.var-index in
    let k = vec_len c.loop-var.values in
    let variable = subst (λ xs. drop i (map variable_data xs) ≡ variable_data v ∷ drop (i + 1) (map variable_data xs)) c.deref-var-items.ensures.value (left_at variable_data c.deref-var-items.result.now i v c.loop-var-test.true c.var-item.is) in
    elim c.if-is_owned.branch [
      | then-is_owned+else-list-at+in-Some+in_ok-push w ↦
          let wanted = owned_here (is_of c.args.owner) (drop i vs) (variable_data v) (drop (i + 1) vs) variable (sym c.is_owned.ensures ∙ w.if-is_owned.true) in
          let j = w.index-list-at.result in
          let here = subst (λ n. drop n js ≡ view j ∷ drop (n + 1) js) w.len-at.ensures (left_at view c.args.list.now w.len-at.result j w.if-list-at.false w.index-list-at.is) in
          let step = each_read-step (value_of (reader_names c.args.self.now)) c.loop-var.values.items _ (domain_data v.domain) (domains_of (is_of c.args.owner) (drop (i + 1) vs)) (drop k js) (view j) (drop (k + 1) js) w.in-Some.value wanted here (sym w.in-Some.ensures) in
          rw (w.values-is, w.in_ok-push.ensures.items, w.in_ok-push.ensures.len) (sym step ∙ c.loop-var.invariant)
      | else-is_owned w ↦ rw (w.values-is, sym (not_owned_here (is_of c.args.owner) (drop i vs) (variable_data v) (drop (i + 1) vs) variable (sym c.is_owned.ensures ∙ w.if-is_owned.false))) c.loop-var.invariant
    ]

pub returns-then-len-list : goal.returns-then-len-list
returns-then-len-list c =
    let vs = map variable_data c.args.self.now.game.now.vars.items in
    let js = map view c.args.list.now in
    let i = c.loop-var.var-index in
    let k = vec_len c.loop-var.values in
    let none = ap (domains_of (is_of c.args.owner)) (subst (λ xs. drop i (map variable_data xs) ≡ []) c.deref-var-items.ensures.value (left_past variable_data c.deref-var-items.result.now i c.loop-var-test.false)) in
    let within : k < length js = omega (arith, length-map c.args.list.now view, c.len.ensures, c.if-len-list.true) in
    refuses (sym c.loop-var.invariant ∙ each_read-long (value_of (reader_names c.args.self.now)) c.loop-var.values.items (domains_of (is_of c.args.owner) (drop i vs)) (drop k js) (get_or js k null) (drop (k + 1) js) none (drop_more js k null within))

pub returns : goal.returns
returns c =
    let vs = map variable_data c.args.self.now.game.now.vars.items in
    let js = map view c.args.list.now in
    let i = c.loop-var.var-index in
    let k = vec_len c.loop-var.values in
    let none = ap (domains_of (is_of c.args.owner)) (subst (λ xs. drop i (map variable_data xs) ≡ []) c.deref-var-items.ensures.value (left_past variable_data c.deref-var-items.result.now i c.loop-var-test.false)) in
    let past : length c.args.list.now ≤ k = omega (arith, c.len.ensures, c.if-len-list.false) in
    gives (sym c.loop-var.invariant ∙ each_read-end (value_of (reader_names c.args.self.now)) c.loop-var.values.items (domains_of (is_of c.args.owner) (drop i vs)) (drop k js) none (left_past view c.args.list.now k past))
