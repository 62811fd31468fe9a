use Rattle.std.specs.Prelude.{IsOk, Result, Ok, Err, is_ok, vec_len, vec_capacity}
use Rattle.std.proofs.Common.{◌≡◌, ◌++◌, ◌+◌, ◌*◌, ◌<◌, ◌≤◌, ◌∷◌, [], List, length, if◌then◌else◌, sym, ap, ◌∙◌, append_assoc, arith}
use Rattle.std.proofs.lemmas.Bool.{false≢true}
use Rattle.spec_model.specs.declared.value.Value.{Value}
use Rattle.spec_model.specs.Games.{GameData}
use Rattle.spec_model.specs.Rules.{Position, Run}
use Rattle.spec_model.proofs.Running.{length-after}
use Rattle.trace_planes.specs.declared.audit.Audit.{Audit}
use Rattle.trace_planes.specs.Audits.{game_of, room_of, Stands, IsPosition}
use Rattle.trace_planes.specs.Rows.{rows_of}
use Rattle.trace_planes.proofs.Found.{whole_push}
use Rattle.trace_planes.proofs.InColumns.{room_for, row_wide, rows_long, rows_of-push}
use Rattle.trace_planes.proofs.audit.Audit.push.Goals as goal

extended : {X Y : Type 0} (r : Result X Y) (new a b : List Value) → IsOk r → new ≡ (if is_ok r then a else b) → new ≡ a
extended (Ok x) new a b ok is = is
extended (Err y) new a b ok is = absurd (false≢true ok)

-- the rows have room for one more
room_there : (a : Audit) (g : GameData) (h : Run) → Stands a g h → (p : Position) (state : List Value) → IsPosition (game_of a) p state → 0 < room_of a → vec_len a.rows + length state ≤ vec_capacity a.rows
room_there a g h st p state is some =
    let many = ap (λ (vs : List Value). length vs) st.rows.listed ∙ rows_long g st.checked.waiting st.rows.whole in
    let wide = ap (λ (vs : List Value). length vs) is.listed ∙ (row_wide (game_of a) p is.input is.output ∙ ap (λ (k : GameData). length k.variables) st.judged.game) in
    let len = a.rows.ok.0 in
    let w = st.rows.wide in
    let r = st.room.rows in
    room_for (length st.checked.waiting) a.width a.room (vec_capacity a.rows) (vec_len a.rows) (length state) st.checked.counted some r (len ∙ (many ∙ ap (λ n. length st.checked.waiting * n) (sym w))) (wide ∙ sym w)

pub unwrap-requires : goal.unwrap-requires
unwrap-requires c =
    let s = c.requires.stands in
    let at = c.requires.position in
    c.extend_from_slice.ensures.succeeds (room_there c.args.self.now s.0 s.1 s.2 at.0 c.args.state.now at.1 c.requires.room)

pub returns-clause-pushed : goal.returns-clause-pushed
returns-clause-pushed c = λ g h st p is.
    let s = c.requires.stands in
    let at = c.requires.position in
    let rows = c.args.self.now.rows.items in
    record {
      checked =
          record {
            checked = st.checked.checked;
            waiting = st.checked.waiting ++ p ∷ [];
            parts = ap (λ (r : Run). r ++ p ∷ []) st.checked.parts ∙ append_assoc st.checked.checked st.checked.waiting (p ∷ []);
            legal = st.checked.legal;
            counted = let before = st.checked.counted in let more = length-after st.checked.waiting p in let some = c.requires.room in omega (arith, before, more, some);
          };
      judged = st.judged;
      rows =
          record {
            whole = whole_push g st.checked.waiting p st.rows.whole is.input is.output;
            listed =
                extended c.extend_from_slice.result c.extend_from_slice.new.self.items (rows ++ c.args.state.now) rows
                (c.extend_from_slice.ensures.succeeds (room_there c.args.self.now s.0 s.1 s.2 at.0 c.args.state.now at.1 c.requires.room)) c.extend_from_slice.ensures.items
                ∙ (ap (λ (vs : List Value). vs ++ c.args.state.now) st.rows.listed ∙ (ap (λ (vs : List Value). rows_of st.checked.waiting ++ vs) is.listed ∙ sym (rows_of-push st.checked.waiting p)));
            wide = st.rows.wide;
          };
      counted = let before = st.counted in let more = length-after h p in omega (arith, before, more);
      few = let fits = s.3 in let more = length-after h p in let first = s.2.counted in let same = st.counted in omega (arith, fits, more, first, same);
      room = record { rows = let cap = c.extend_from_slice.ensures.capacity in let before = st.room.rows in omega (arith, cap, before); work = st.room.work };
    }
