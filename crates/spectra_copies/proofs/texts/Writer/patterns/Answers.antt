use Rattle.std.proofs.Common.{length, map, refl, sym, ap, ◌∙◌, arith}
use Rattle.std.specs.Vec.Iter.{into_iter_items}
use Rattle.spectra_resolved.specs.TextViews.{pattern_data}
use Rattle.spectra_copies.specs.Texts.{within, each_in_turn, pattern_out}
use Rattle.spectra_copies.proofs.Turns.{first_turn, next_turn, last_turn}
use Rattle.spectra_copies.proofs.texts.Writer.patterns.Goals as goal

pub loop-p-init : goal.loop-p-init
loop-p-init c =
    let step = pattern_out c.args.self.now.numbers.now in
    let gives = c.into_iter-p-iterator.ensures.into_iter_gives in
    record {
      kept = refl;
      out = first_turn pattern_data step c.in_ok-all.all.items c.args.self.now.room (into_iter_items c.into_iter-p-iterator.result) c.in_ok-all.ensures.items
          ∙ ap (λ xs. each_in_turn step c.args.self.now.room (map pattern_data xs)) gives.0;
      counted = let long = c.args.ps.ok.0 in let same = ap length gives.0 in omega (arith, gives.1, long, same);
    }

pub loop-p-preserved : goal.loop-p-preserved
loop-p-preserved c =
    let at = c.loop-p in
    let steps = c.in-Some.ensures.steps in
    record {
      kept = c.pattern_lines.ensures.kept ∙ at.invariant.kept;
      out = next_turn pattern_data (pattern_out c.args.self.now.numbers.now) at.all.items c.push.new.self.items at.self.room c.pattern_lines.new.self.room (into_iter_items at.p-iterator) (into_iter_items c.next.new.self) c.in-Some.p _ steps.0 c.in_ok-push.ensures.items
          (ap (within (λ lines. record (pattern_data c.in-Some.p) { lines = lines })) c.in_ok-lines.ensures.out ∙ ap (λ n. pattern_out n at.self.room (pattern_data c.in-Some.p)) at.invariant.kept)
          ∙ at.invariant.out;
      counted = let was = at.invariant.counted in let gone = steps.1 in let short = ap length steps.0 in omega (arith, was, gone, short);
    }

pub returns-clause-out : goal.returns-clause-out
returns-clause-out c =
    let at = c.loop-p in
    let none = c.in-None.ensures.steps in
    last_turn pattern_data (pattern_out c.args.self.now.numbers.now) at.all.items at.self.room (into_iter_items at.p-iterator) (sym at.invariant.counted ∙ none.0) ∙ at.invariant.out
