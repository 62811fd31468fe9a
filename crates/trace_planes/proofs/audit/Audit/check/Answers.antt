use Rattle.std.proofs.Common.{◌≡◌, ◌-◌, List, [], length, refl, sym, ap, subst, ◌∙◌, arith, is_none}
use Rattle.std.proofs.lemmas.List.{length-append, append-nil}
use Rattle.spec_model.specs.declared.value.Value.{Value}
use Rattle.spec_model.specs.Rules.{Run}
use Rattle.trace_planes.specs.Audits.{HasJudged, IsWorkspaceOf}
use Rattle.trace_planes.specs.Rows.{AreRows}
use Rattle.spec_model.specs.GameViews.{game_data}
use Rattle.spec_model.specs.Games.{GameData}
use Rattle.trace_planes.proofs.Found.{none_of, none_is_play}
use Rattle.trace_planes.proofs.Clearing.{rows_there, clear_there}
use Rattle.trace_planes.proofs.audit.Audit.check.Goals as goal

pub clear_rows-clear-requires-clause-sized : goal.clear_rows-clear-requires-clause-sized
clear_rows-clear-requires-clause-sized c = let st = c.requires.stands.2 in subst (λ (k : GameData). IsWorkspaceOf k c.args.self.now.work) (sym st.judged.game) st.room.work

pub clear_rows-clear-requires-clause-rows : goal.clear_rows-clear-requires-clause-rows
clear_rows-clear-requires-clause-rows c =
    let s = c.requires.stands in
    let st = s.2 in
    let a = c.args.self.now in
    let many : length st.checked.waiting ≡ 4096 - a.room = let left = st.checked.counted in omega (arith, left) in
    let here = subst (λ (vs : List Value). AreRows s.0 a.width st.checked.waiting vs) (sym c.deref.ensures.value) st.rows in
    rows_there s.0 (game_data a.plain.judge.game) st.judged.game a.plain.judge st.checked.checked st.checked.waiting a.width (4096 - a.room) c.deref.result.now (st.judged.judges st.checked.legal) here many

pub judge_rows-requires : goal.judge_rows-requires
judge_rows-requires c =
    let s = c.requires.stands in
    let g = s.0 in
    let st = s.2 in
    let a = c.args.self.now in
    let many : length st.checked.waiting ≡ 4096 - a.room = let left = st.checked.counted in omega (arith, left) in
    let here = subst (λ (vs : List Value). AreRows g a.width st.checked.waiting vs) (sym c.deref.ensures.value) st.rows in
    let there = subst (λ (vs : List Value). AreRows g a.width st.checked.waiting vs) (sym c.deref-2.ensures.value) st.rows in
    let fits = st.few in
    let whole = ap (λ (r : Run). length r) st.checked.parts in
    let long = length-append st.checked.checked st.checked.waiting in
    record {
      stands = (g, st.checked.checked, st.checked.waiting, st.judged, there, many, clear_there g (game_data a.plain.judge.game) st.judged.game a.plain.judge st.checked.checked st.checked.waiting a.width (4096 - a.room) c.deref.result.now (st.judged.judges st.checked.legal) here many c.clear_rows-clear.result c.clear_rows-clear.ensures.clear, omega (arith, fits, whole, long, many));
    }

pub returns-clause-legal : goal.returns-clause-legal
returns-clause-legal c = λ g h st.
    let a = c.args.self.now in
    let many : length st.checked.waiting ≡ 4096 - a.room = let left = st.checked.counted in omega (arith, left) in
    let here = subst (λ (vs : List Value). AreRows g a.width st.checked.waiting vs) (sym c.deref.ensures.value) st.rows in
    let there = subst (λ (vs : List Value). AreRows g a.width st.checked.waiting vs) (sym c.deref-2.ensures.value) st.rows in
    let final = subst (λ (r : Run). HasJudged c.judge_rows.new.plain g r) (sym st.checked.parts)
    (c.judge_rows.ensures g st.checked.checked st.checked.waiting st.judged there many (clear_there g (game_data a.plain.judge.game) st.judged.game a.plain.judge st.checked.checked st.checked.waiting a.width (4096 - a.room) c.deref.result.now (st.judged.judges st.checked.legal) here many c.clear_rows-clear.result c.clear_rows-clear.ensures.clear)) in
    let both = none_is_play g final.made h final.whole in
    (λ none. both.0 (sym final.found ∙ none_of c.judge_rows.new.plain.found none), λ play. ap is_none (final.found ∙ both.1 play))

pub returns-clause-goes_on : goal.returns-clause-goes_on
returns-clause-goes_on c = λ g h st none.
    let a = c.args.self.now in
    let many : length st.checked.waiting ≡ 4096 - a.room = let left = st.checked.counted in omega (arith, left) in
    let here = subst (λ (vs : List Value). AreRows g a.width st.checked.waiting vs) (sym c.deref.ensures.value) st.rows in
    let there = subst (λ (vs : List Value). AreRows g a.width st.checked.waiting vs) (sym c.deref-2.ensures.value) st.rows in
    let final = subst (λ (r : Run). HasJudged c.judge_rows.new.plain g r) (sym st.checked.parts)
    (c.judge_rows.ensures g st.checked.checked st.checked.waiting st.judged there many (clear_there g (game_data a.plain.judge.game) st.judged.game a.plain.judge st.checked.checked st.checked.waiting a.width (4096 - a.room) c.deref.result.now (st.judged.judges st.checked.legal) here many c.clear_rows-clear.result c.clear_rows-clear.ensures.clear)) in
    record {
      checked = record { checked = h; waiting = []; parts = sym (append-nil h); legal = sym final.found ∙ none; counted = refl };
      judged = final;
      rows = record { whole = tt; listed = c.clear.ensures.items; wide = st.rows.wide };
      counted = st.counted;
      few = st.few;
      room =
          record {
            rows = let same = c.clear.ensures.capacity in let before = st.room.rows in omega (arith, same, before);
            work = subst (λ (k : GameData). IsWorkspaceOf k c.clear_rows-clear.new.work) st.judged.game c.clear_rows-clear.ensures.sized;
          };
    }
