use Rattle.std.proofs.Common.{ℕ, ◌+◌, ◌&&◌, List, map, drop, sym, ap, ◌∙◌, arith}
use Rattle.spec_model.specs.Views.{formula}
use Rattle.column_planes.specs.Planes.{bit_in}
use Rattle.trace_planes.specs.Moves.{are_kept}
use Rattle.column_planes.proofs.PlanesOfParts.{and_three}
use Rattle.trace_planes.proofs.Kept.{kept_from}
use Rattle.trace_planes.proofs.clear.narrow.Goals as goal

pub loop-k-preserved : goal.loop-k-preserved
loop-k-preserved c =
    let lines = c.args.lines.now in
    let late = c.args.late.now in
    let k = c.loop-k.k in
    record {
      sized = let copied = c.copy_from_slice.ensures.len in omega (arith, copied, c.loop-k.invariant.sized);
      same = λ j below g r s move.
          let rest = are_kept g r s (drop (k + 1) late) (map (λ l'. (l'.0, formula l'.1)) (drop (k + 1) lines)) in
          ap (λ (ws : List ℕ). bit_in ws j && rest) c.copy_from_slice.ensures.after
          ∙ (ap (λ x. x && rest) (c.and_planes.ensures.bits j)
          ∙ (and_three (bit_in c.loop-k.out j) (bit_in c.line_plane.new.out j) rest
          ∙ (ap (λ x. bit_in c.loop-k.out j && (x && rest)) (c.line_plane.ensures.plane c.if-not-line_plane.false j below g r s move)
          ∙ (ap (λ x. bit_in c.loop-k.out j && x) (sym (kept_from g r s late lines k (k + 1) c.index-lines-k.result c.requires.flagged (omega (arith, c.loop-k-test.true)) (omega arith) c.index-lines-k.is))
          ∙ c.loop-k.invariant.same j below g r s move))));
    }
