use Rattle.std.proofs.Common.{length, map, refl, sym, ap, ◌∙◌, arith}
use Rattle.std.specs.Vec.Iter.{into_iter_items}
use Rattle.spectra_resolved.specs.TextViews.{definition_data}
use Rattle.spectra_copies.specs.Texts.{each_in_turn, definition_out}
use Rattle.spectra_copies.proofs.Turns.{first_turn, next_turn, last_turn}
use Rattle.spectra_copies.proofs.texts.Writer.definitions.Goals as goal

pub loop-d-init : goal.loop-d-init
loop-d-init c =
    let step = definition_out c.args.self.now.numbers.now in
    let gives = c.into_iter-d-iterator.ensures.into_iter_gives in
    record {
      kept = refl;
      out = first_turn definition_data step c.in_ok-all.all.items c.args.self.now.room (into_iter_items c.into_iter-d-iterator.result) c.in_ok-all.ensures.items
          ∙ ap (λ xs. each_in_turn step c.args.self.now.room (map definition_data xs)) gives.0;
      counted = let long = c.args.ds.ok.0 in let same = ap length gives.0 in omega (arith, gives.1, long, same);
    }

pub loop-d-preserved : goal.loop-d-preserved
loop-d-preserved c =
    let at = c.loop-d in
    let steps = c.in-Some.ensures.steps in
    record {
      kept = c.definition.ensures.kept ∙ at.invariant.kept;
      out = next_turn definition_data (definition_out c.args.self.now.numbers.now) at.all.items c.push.new.self.items at.self.room c.definition.new.self.room (into_iter_items at.d-iterator) (into_iter_items c.next.new.self) c.in-Some.d c.in_ok-definition.field-0 steps.0 c.in_ok-push.ensures.items
          (c.in_ok-definition.ensures.out ∙ ap (λ n. definition_out n at.self.room (definition_data c.in-Some.d)) at.invariant.kept)
          ∙ at.invariant.out;
      counted = let was = at.invariant.counted in let gone = steps.1 in let short = ap length steps.0 in omega (arith, was, gone, short);
    }

pub returns-clause-out : goal.returns-clause-out
returns-clause-out c =
    let at = c.loop-d in
    let none = c.in-None.ensures.steps in
    last_turn definition_data (definition_out c.args.self.now.numbers.now) at.all.items at.self.room (into_iter_items at.d-iterator) (sym at.invariant.counted ∙ none.0) ∙ at.invariant.out
