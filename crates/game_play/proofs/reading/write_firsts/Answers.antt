use Rattle.std.proofs.Common.{◌∙◌, List, map, pos, slice_set, sym, ap, arith}
use Rattle.spec_model.specs.declared.value.Value.{Value}
use Rattle.spec_model.specs.declared.value.Value.TheVariants as value
use Rattle.spec_model.specs.GameViews.{hidden_data}
use Rattle.game_play.proofs.Sights.{write_one, all_written, firsts_length, first_is}
use Rattle.game_play.proofs.reading.write_firsts.Goals as goal

pub loop-k-preserved : goal.loop-k-preserved
loop-k-preserved c =
    let hs = c.args.hidden.now in
    let t : List Value = map (λ v. value.Int (pos v)) (map (λ h. h.first) (map hidden_data hs)) in
    let k = c.loop-k.k in
    let v = c.as_value.result in
    let h = c.index-hidden-k.result in
    let counted = firsts_length hs in
    let room = c.requires in
    let below = c.loop-k-test.true in
    ap (λ (out : List Value). slice_set out k v) c.loop-k.invariant
    ∙ write_one t c.args.out.now k v (omega (arith, counted, room)) (omega (arith, counted, below))
    (c.as_value.ensures ∙ (ap (λ d. value.Int (pos d.first)) (sym c.index-hidden-k.is) ∙ sym (first_is hs k below h c.index-hidden-k.is v)))

pub returns : goal.returns
returns c =
    let hs = c.args.hidden.now in
    let counted = firsts_length hs in
    let room = c.requires in
    let over = c.loop-k-test.false in
    c.loop-k.invariant ∙ all_written (map (λ v. value.Int (pos v)) (map (λ h. h.first) (map hidden_data hs))) c.args.out.now c.loop-k.k (omega (arith, counted, room)) (omega (arith, counted, over))
