use Rattle.std.proofs.Common.{length, map, refl, sym, ap, ◌∙◌, arith}
use Rattle.std.specs.Vec.Iter.{into_iter_items}
use Rattle.spectra_resolved.specs.TextViews.{line_data}
use Rattle.spectra_copies.specs.Texts.{within, each_in_turn, line_out}
use Rattle.spectra_copies.proofs.Turns.{first_turn, next_turn, last_turn}
use Rattle.spectra_copies.proofs.texts.Writer.lines.Goals as goal

pub loop-l-init : goal.loop-l-init
loop-l-init c =
    let step = line_out c.args.self.now.numbers.now in
    let gives = c.into_iter-l-iterator.ensures.into_iter_gives in
    record {
      kept = refl;
      out = first_turn line_data step c.in_ok-all.all.items c.args.self.now.room (into_iter_items c.into_iter-l-iterator.result) c.in_ok-all.ensures.items
          ∙ ap (λ xs. each_in_turn step c.args.self.now.room (map line_data xs)) gives.0;
      counted = let long = c.args.ls.ok.0 in let same = ap length gives.0 in omega (arith, gives.1, long, same);
    }

pub loop-l-preserved : goal.loop-l-preserved
loop-l-preserved c =
    let at = c.loop-l in
    let steps = c.in-Some.ensures.steps in
    record {
      kept = c.body.ensures.kept ∙ at.invariant.kept;
      out = next_turn line_data (line_out c.args.self.now.numbers.now) at.all.items c.push.new.self.items at.self.room c.body.new.self.room (into_iter_items at.l-iterator) (into_iter_items c.next.new.self) c.in-Some.l _ steps.0 c.in_ok-push.ensures.items
          (ap (within (λ body. record (line_data c.in-Some.l) { body = body })) c.in_ok-body.ensures.out ∙ ap (λ n. line_out n at.self.room (line_data c.in-Some.l)) at.invariant.kept)
          ∙ at.invariant.out;
      counted = let was = at.invariant.counted in let gone = steps.1 in let short = ap length steps.0 in omega (arith, was, gone, short);
    }

pub returns-clause-out : goal.returns-clause-out
returns-clause-out c =
    let at = c.loop-l in
    let none = c.in-None.ensures.steps in
    last_turn line_data (line_out c.args.self.now.numbers.now) at.all.items at.self.room (into_iter_items at.l-iterator) (sym at.invariant.counted ∙ none.0) ∙ at.invariant.out
