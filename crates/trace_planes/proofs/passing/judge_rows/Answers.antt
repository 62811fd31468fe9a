use Rattle.std.proofs.Common.{◌++◌, ◌<◌, ◌∷◌, [], length, take, get_or, sym, ap, subst, ◌∙◌, append_assoc, arith}
use Rattle.std.proofs.lemmas.List.{length-append, length-take-le, take_more}
use Rattle.spec_model.specs.Games.{GameData}
use Rattle.spec_model.specs.Rules.{Run}
use Rattle.spec_model.specs.Moves.{nothing}
use Rattle.trace_planes.specs.Audits.{HasJudged, IsPosition}
use Rattle.column_planes.proofs.Lanes.{take-all}
use Rattle.trace_planes.proofs.InColumns.{rest_room, rest_next, position_there}
use Rattle.trace_planes.proofs.passing.judge_rows.Goals as goal

pub split_at-requires : goal.split_at-requires
split_at-requires c =
    let s = c.requires.stands in
    rest_room s.0 c.args.width s.2 c.args.rows.now s.4 c.loop-i.i (omega (arith, c.loop-i-test.true, s.5)) c.loop-i.rest.now (c.loop-i.invariant.rest s.0 s.2 s.4 s.5)

pub judge_row-requires-clause-stands : goal.judge_row-requires-clause-stands
judge_row-requires-clause-stands c =
    let s = c.requires.stands in
    let i = c.loop-i.i in
    let below = c.loop-i-test.true in
    let some = length-take-le i s.2 (omega (arith, below, s.5)) in
    let long = length-append s.1 (take i s.2) in
    let fits = s.7 in
    (s.0, s.1 ++ take i s.2, c.loop-i.invariant.judged s.0 s.1 s.2 s.3 s.4 s.5 s.6, omega (arith, below, some, long, fits))

pub judge_row-requires-clause-position : goal.judge_row-requires-clause-position
judge_row-requires-clause-position c =
    let s = c.requires.stands in
    let p = get_or s.2 c.loop-i.i nothing in
    let game = (c.loop-i.invariant.judged s.0 s.1 s.2 s.3 s.4 s.5 s.6).game in (
      p,
      subst (λ (k : GameData). IsPosition k p c.split_at.result.0.now) (sym game)
          (position_there s.0 c.args.width s.2 c.args.rows.now s.4 c.loop-i.i (omega (arith, c.loop-i-test.true, s.5)) c.loop-i.rest.now (c.loop-i.invariant.rest s.0 s.2 s.4 s.5) c.split_at.result.0.now c.split_at.ensures.front),
    )

pub loop-i-preserved : goal.loop-i-preserved
loop-i-preserved c =
    let i = c.loop-i.i in
    record {
      rest = λ g ps rows many.
          c.split_at.ensures.back ∙ rest_next g c.args.width ps c.args.rows.now rows i (omega (arith, c.loop-i-test.true, many)) c.loop-i.rest.now (c.loop-i.invariant.rest g ps rows many);
      judged = λ g h ps st rows many clear.
          let p = get_or ps i nothing in
          let below : i < length ps = omega (arith, c.loop-i-test.true, many) in
          let at = position_there g c.args.width ps c.args.rows.now rows i below c.loop-i.rest.now (c.loop-i.invariant.rest g ps rows many) c.split_at.result.0.now c.split_at.ensures.front in
          subst (λ (r : Run). HasJudged c.judge_row.new.plain g r) (append_assoc h (take i ps) (p ∷ []) ∙ ap (λ (rs : Run). h ++ rs) (sym (take_more ps i nothing below)))
          (c.judge_row.ensures g (h ++ take i ps) (c.loop-i.invariant.judged g h ps st rows many clear) p at
          (λ some within. clear i some within below));
    }

pub returns : goal.returns
returns c = λ g h ps st rows many clear.
    subst (λ (rs : Run). HasJudged c.loop-i.plain g (h ++ rs)) (take-all c.loop-i.i ps (omega (arith, c.loop-i-test.false, many)))
    (c.loop-i.invariant.judged g h ps st rows many clear)
