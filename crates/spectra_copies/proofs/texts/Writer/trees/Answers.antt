use Rattle.std.proofs.Common.{length, map, refl, sym, ap, ◌∙◌, arith}
use Rattle.std.specs.Vec.Iter.{into_iter_items}
use Rattle.spectra_resolved.specs.Views.{resolved_data}
use Rattle.spectra_copies.specs.Texts.{each_in_turn, tree_out}
use Rattle.spectra_copies.proofs.Turns.{first_turn, next_turn, last_turn}
use Rattle.spectra_copies.proofs.texts.Writer.trees.Goals as goal

pub loop-t-init : goal.loop-t-init
loop-t-init c =
    let step = tree_out c.args.self.now.numbers.now in
    let gives = c.into_iter-t-iterator.ensures.into_iter_gives in
    record {
      kept = refl;
      out = first_turn resolved_data step c.in_ok-all.all.items c.args.self.now.room (into_iter_items c.into_iter-t-iterator.result) c.in_ok-all.ensures.items
          ∙ ap (λ xs. each_in_turn step c.args.self.now.room (map resolved_data xs)) gives.0;
      counted = let long = c.args.ts.ok.0 in let same = ap length gives.0 in omega (arith, gives.1, long, same);
    }

pub loop-t-preserved : goal.loop-t-preserved
loop-t-preserved c =
    let at = c.loop-t in
    let steps = c.in-Some.ensures.steps in
    record {
      kept = c.tree.ensures.kept ∙ at.invariant.kept;
      out = next_turn resolved_data (tree_out c.args.self.now.numbers.now) at.all.items c.push.new.self.items at.self.room c.tree.new.self.room (into_iter_items at.t-iterator) (into_iter_items c.next.new.self) c.in-Some.t c.in_ok-tree.field-0 steps.0 c.in_ok-push.ensures.items
          (c.in_ok-tree.ensures.out ∙ ap (λ n. tree_out n at.self.room (resolved_data c.in-Some.t)) at.invariant.kept)
          ∙ at.invariant.out;
      counted = let was = at.invariant.counted in let gone = steps.1 in let short = ap length steps.0 in omega (arith, was, gone, short);
    }

pub returns-clause-out : goal.returns-clause-out
returns-clause-out c =
    let at = c.loop-t in
    let none = c.in-None.ensures.steps in
    last_turn resolved_data (tree_out c.args.self.now.numbers.now) at.all.items at.self.room (into_iter_items at.t-iterator) (sym at.invariant.counted ∙ none.0) ∙ at.invariant.out
