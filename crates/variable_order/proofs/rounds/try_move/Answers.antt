use Rattle.std.proofs.Common.{◌∙◌, ℕ, List, Err, ap, sym, subst}
use Rattle.bdd_store.specs.declared.fault.StoreFault.{StoreFault}
use Rattle.bdd_reorder.specs.Making.{functions_at, diagrams_at}
use Rattle.bdd_reorder.specs.Crowding.{IsCrowdedByCopy}
use Rattle.variable_order.specs.Levels.{levels_under, IsOrder}
use Rattle.variable_order.specs.Sizes.{HasNodes}
use Rattle.variable_order.proofs.MoveLemmas.{moved_order, passed_over, improved, not_improved, handed_full}
use Rattle.variable_order.proofs.rounds.try_move.Goals as goal

pub returns-then-i-j-clause-known : goal.returns-then-i-j-clause-known
returns-then-i-j-clause-known c =
    passed_over c.args.fixed c.args.widths.now (functions_at c.args.from.now c.args.roots.now) c.args.order.now c.args.nodes c.args.i c.args.j c.args.best.nodes c.args.best.slot c.requires.known c.if-i-j.true

pub nodes_under-requires-clause-order : goal.nodes_under-requires-clause-order
nodes_under-requires-clause-order c =
    subst (IsOrder c.args.widths.now) (sym (c.deref.ensures.value ∙ c.in_ok-after.ensures.moved)) (moved_order c.args.widths.now c.args.order.now c.args.i c.args.j c.requires.places.1 c.requires.ready.2)

pub returns-in_err-parts-clause-full : goal.returns-in_err-parts-clause-full
returns-in_err-parts-clause-full c = λ e.
    let widths = c.args.widths.now in
    let is = handed_full c.from_residual-in_err-parts.result c.in_err-parts.field-0.0 c.from_residual-in_err-parts.ensures.1 e in
    let places = c.requires.places in
    record {
      i = c.args.i;
      j = c.args.j;
      move = record { from_low = places.0; from_high = places.1; to_low = places.2; to_high = places.3; apart = c.if-i-j.false };
      crowded = subst (λ (o : List ℕ). IsCrowdedByCopy c.args.to.now.state c.nodes_under.new.to.state.table (levels_under widths o) (diagrams_at c.args.from.now c.args.roots.now)) (c.deref.ensures.value ∙ c.in_ok-after.ensures.moved)
          (c.in_err-parts.ensures.full (ap (λ (k : StoreFault). Err k) is));
    }

pub returns-then-parts-best-clause-known : goal.returns-then-parts-best-clause-known
returns-then-parts-best-clause-known c =
    let widths = c.args.widths.now in
    let fs = functions_at c.args.from.now c.args.roots.now in
    let places = c.requires.places in
    let size = subst (λ (o : List ℕ). HasNodes widths fs o c.in_ok-parts.parts) (c.deref.ensures.value ∙ c.in_ok-after.ensures.moved) c.in_ok-parts.ensures.counted in
    improved c.args.fixed widths fs c.args.order.now c.args.nodes c.args.i c.args.j c.args.best.nodes c.args.best.slot c.requires.known c.in_ok-parts.parts size
    (record { from_low = places.0; from_high = places.1; to_low = places.2; to_high = places.3; apart = c.if-i-j.false }) c.if-parts-best.true

pub returns-clause-known : goal.returns-clause-known
returns-clause-known c =
    let widths = c.args.widths.now in
    let fs = functions_at c.args.from.now c.args.roots.now in
    let size = subst (λ (o : List ℕ). HasNodes widths fs o c.in_ok-parts.parts) (c.deref.ensures.value ∙ c.in_ok-after.ensures.moved) c.in_ok-parts.ensures.counted in
    not_improved c.args.fixed widths fs c.args.order.now c.args.nodes c.args.i c.args.j c.args.best.nodes c.args.best.slot c.requires.known c.in_ok-parts.parts size c.if-parts-best.false
