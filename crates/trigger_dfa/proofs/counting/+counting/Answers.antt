use Rattle.std.proofs.Common.{◌*◌, min, map, take, sym, ap, ◌∙◌, arith}
use Rattle.spec_model.specs.declared.expr.Regex.{size-Regex}
use Rattle.spec_model.specs.Syntax.{regulars}
use Rattle.spec_model.specs.Views.{regular}
use Rattle.trigger_dfa.specs.Sides.{copies_in, size_in, size_in_each}
use Rattle.trigger_dfa.proofs.PositionCounts.{size_more, capped_more, capped_sum}
use Rattle.spec_model.proofs.Regexes.{data_repeat, piece_smaller}
use Rattle.trigger_dfa.proofs.counting.+counting.Goals as goal

pub positions_in-repeats-preserved : goal.positions_in-repeats-preserved
positions_in-repeats-preserved t c =
    let copies = c.repeats.copies in
    let piece = size_in (regular c.deref-part.result.now) in
    record {
      same = ap (λ n. min 65 (n * piece)) c.min-copies.ensures
          ∙ capped_more copies c.copies_of.result piece
          ∙ ap (λ n. min 65 (copies * (n * piece))) c.copies_of.ensures.copies
          ∙ ap (λ p. min 65 (copies * (copies_in c.in-Repeat.low c.in-Repeat.high * size_in (regular p)))) c.deref-part.ensures
          ∙ ap (λ r. min 65 (copies * size_in r)) (sym (data_repeat c.in-Repeat.inner c.in-Repeat.low c.in-Repeat.high))
          ∙ ap (λ p. min 65 (copies * size_in (regular p))) (sym c.in-Repeat.is)
          ∙ c.repeats.invariant.same;
      few = grind (arith, c.min-copies.ensures);
      no_larger = omega (arith, piece_smaller c.in-Repeat.inner c.in-Repeat.low c.in-Repeat.high, ap (λ p. size-Regex p) c.deref-part.ensures, ap (λ p. size-Regex p) c.in-Repeat.is, c.repeats.invariant.no_larger);
    }

pub positions_in_each-loop-r-preserved : goal.positions_in_each-loop-r-preserved
positions_in_each-loop-r-preserved t c =
    let more = size_more c.args.rs.now c.loop-r.r-index c.r-item.result (omega arith) c.r-item.is in
    c.min-count.ensures ∙ capped_sum c.loop-r.count (size_in_each (regulars (map regular (take c.loop-r.r-index c.args.rs.now)))) c.positions_in.result (size_in (regular c.r-item.result)) _ c.loop-r.invariant c.positions_in.ensures more
