use Rattle.std.proofs.Common.{◌≡◌, ◌∙◌, ℕ, List, map, pos, get_or, slice_set, slice_index, false, sym, ap, arith}
use Rattle.spec_model.specs.declared.value.Value.{Value}
use Rattle.spec_model.specs.declared.value.Value.TheVariants as value
use Rattle.spec_model.specs.GameViews.{hidden_data}
use Rattle.game_play.specs.Sights.{cell_in, nexts_at}
use Rattle.game_play.proofs.Sights.{write_one, all_written, nexts_length, next_is}
use Rattle.game_play.proofs.reading.move_on.Goals as goal

pub loop-k-preserved : goal.loop-k-preserved
loop-k-preserved c =
    let hs = c.args.hidden.now in
    let cells = c.args.cells.now in
    let t : List Value = map (λ v. value.Int (pos v)) (nexts_at (map hidden_data hs) cells) in
    let k = c.loop-k.k in
    let v = c.as_value.result in
    let h = c.index-hidden-k.result in
    let room = c.requires.room in
    let many = c.requires.cells in
    let counted = nexts_length hs cells many in
    let below = c.loop-k-test.true in
    let next : c.number_in-next.result ≡ slice_index h.next.items (cell_in (get_or cells k (value.Bool false))) =
    c.number_in-next.ensures ∙ (ap (λ (ns : List ℕ). slice_index ns c.cell_in.result) (c.deref.ensures.value ∙ ap (λ d. d.next.items) (sym c.index-hidden-k.is)) ∙ ap (slice_index h.next.items) c.cell_in.ensures) in
    ap (λ (out : List Value). slice_set out k v) c.loop-k.invariant
    ∙ write_one t c.args.out.now k v (omega (arith, counted, room, many)) (omega (arith, counted, many, below))
    (c.as_value.ensures ∙ (ap (λ (n : ℕ). value.Int (pos n)) next ∙ sym (next_is hs cells k below many h c.index-hidden-k.is v (value.Bool false))))

pub returns : goal.returns
returns c =
    let hs = c.args.hidden.now in
    let room = c.requires.room in
    let many = c.requires.cells in
    let counted = nexts_length hs c.args.cells.now many in
    let over = c.loop-k-test.false in
    c.loop-k.invariant ∙ all_written (map (λ v. value.Int (pos v)) (nexts_at (map hidden_data hs) c.args.cells.now)) c.args.out.now c.loop-k.k (omega (arith, counted, room, many)) (omega (arith, counted, many, over))
