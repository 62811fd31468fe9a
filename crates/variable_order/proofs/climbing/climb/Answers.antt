use Rattle.std.proofs.Common.{◌≡◌, ◌∙◌, ℕ, List, Err, ap, sym, subst, arith}
use Rattle.std.proofs.lemmas.List.Sorted.{length_permutation}
use Rattle.spec_model.specs.Diagrams.{Diagram, Function}
use Rattle.bdd_store.specs.declared.fault.StoreFault.{StoreFault}
use Rattle.bdd_reorder.specs.Making.{functions_at, diagrams_at}
use Rattle.variable_order.specs.Levels.{slots_of, IsOrder}
use Rattle.variable_order.specs.Climbing.{moved, IsBest, IsFirstWith, Reaches, starts, next}
use Rattle.variable_order.specs.CrowdedClimbs.{IsCrowdedByMove}
use Rattle.variable_order.proofs.MoveLemmas.{stay_functions, stay_diagrams, stay_roots, stay_fits, stays_none, stays_then, handed_full, crowded_move_stays, moved_order, known_same, known_first}
use Rattle.variable_order.proofs.climbing.climb.Goals as goal

pub loop-order-init : goal.loop-order-init
loop-order-init c = record {
  order = c.requires.ready.2;
  fixed = c.requires.fixed;
  reached = starts;
  from_stays = stays_none c.args.from.now;
  to_stays = stays_none c.args.to.now;
}

pub best_move-requires-clause-ready : goal.best_move-requires-clause-ready
best_move-requires-clause-ready c =
    let l = c.loop-order in
    let inv = l.invariant in
    (stay_roots c.args.from.now l.from c.args.roots.now inv.from_stays c.requires.ready.0, stay_fits c.args.from.now l.from c.args.to.now l.to c.args.widths.now inv.from_stays inv.to_stays c.requires.ready.1, subst (IsOrder c.args.widths.now) (sym c.deref.ensures.value) inv.order)

pub returns-in_err-best-clause-full : goal.returns-in_err-best-clause-full
returns-in_err-best-clause-full c = λ e.
    let l = c.loop-order in
    let inv = l.invariant in
    let widths = c.args.widths.now in
    let t = c.best_move.new.to.state.table in
    let is = handed_full c.from_residual.result c.in_err-best.field-0.0 c.from_residual.ensures.1 e in
    let told = c.in_err-best.ensures.full (ap (λ (k : StoreFault). Err k) is) in
    let here = subst (λ (ds : List Diagram). IsCrowdedByMove l.to.state t c.args.fixed widths ds l.order.items) (stay_diagrams c.args.from.now l.from c.args.roots.now inv.from_stays c.requires.ready.0)
    (subst (λ (o : List ℕ). IsCrowdedByMove l.to.state t c.args.fixed widths (diagrams_at l.from c.args.roots.now) o) c.deref.ensures.value told) in
    record {
      order = l.order.items;
      k = l.nodes;
      reached = inv.reached;
      crowded = crowded_move_stays c.args.to.now l.to t c.args.fixed widths (diagrams_at c.args.from.now c.args.roots.now) l.order.items inv.to_stays here;
    }

pub returns-in_default-clause-climbed : goal.returns-in_default-clause-climbed
returns-in_default-clause-climbed c =
    let l = c.loop-order in
    let inv = l.invariant in
    let widths = c.args.widths.now in
    let fixed = c.args.fixed in
    let best = c.in_ok-best.best in
    let same : functions_at l.from c.args.roots.now ≡ functions_at c.args.from.now c.args.roots.now = stay_functions c.args.from.now l.from c.args.roots.now inv.from_stays c.requires.ready.0 in
    let count : best.nodes ≡ l.nodes = known_same fixed widths (functions_at l.from c.args.roots.now) c.deref.result.now l.nodes best.nodes best.slot c.in_default.is c.in_ok-best.ensures.known in
    let all : IsBest fixed widths (functions_at c.args.from.now c.args.roots.now) l.order.items l.nodes =
    subst (λ (fs : List Function). IsBest fixed widths fs l.order.items l.nodes) same
    (subst (λ (o : List ℕ). IsBest fixed widths (functions_at l.from c.args.roots.now) o l.nodes) c.deref.ensures.value (subst (λ (n : ℕ). IsBest fixed widths (functions_at l.from c.args.roots.now) c.deref.result.now n) count c.in_ok-best.ensures.best)) in
    record { reached = inv.reached; best = all }

pub loop-order-preserved : goal.loop-order-preserved
loop-order-preserved c =
    let l = c.loop-order in
    let inv = l.invariant in
    let widths = c.args.widths.now in
    let fixed = c.args.fixed in
    let best = c.in_ok-best.best in
    let i = c.in-Some.i in
    let j = c.in-Some.j in
    let order = l.order.items in
    let fs = functions_at c.args.from.now c.args.roots.now in
    let same : functions_at l.from c.args.roots.now ≡ fs = stay_functions c.args.from.now l.from c.args.roots.now inv.from_stays c.requires.ready.0 in
    let here : IsFirstWith fixed widths (functions_at l.from c.args.roots.now) c.deref.result.now l.nodes best.nodes i j = known_first fixed widths (functions_at l.from c.args.roots.now) c.deref.result.now l.nodes best.nodes best.slot i j c.in-Some.is c.in_ok-best.ensures.known in
    let first : IsFirstWith fixed widths fs order l.nodes best.nodes i j =
    subst (λ (gs : List Function). IsFirstWith fixed widths gs order l.nodes best.nodes i j) same (subst (λ (o : List ℕ). IsFirstWith fixed widths (functions_at l.from c.args.roots.now) o l.nodes best.nodes i j) c.deref.ensures.value here) in
    let least : IsBest fixed widths fs order best.nodes =
    subst (λ (gs : List Function). IsBest fixed widths gs order best.nodes) same (subst (λ (o : List ℕ). IsBest fixed widths (functions_at l.from c.args.roots.now) o best.nodes) c.deref.ensures.value c.in_ok-best.ensures.best) in
    let after : c.in_ok-order.order.items ≡ moved order i j = c.in_ok-order.ensures.moved ∙ ap (λ (o : List ℕ). moved o i j) c.deref-in-loop-order.ensures.value in
    let is : IsOrder widths c.in_ok-order.order.items = subst (IsOrder widths) (sym after) (moved_order widths order i j first.move.from_high inv.order) in
    let new_length = length_permutation (slots_of widths) c.in_ok-order.order.items is in
    let old_length = length_permutation (slots_of widths) order inv.order in
    record {
      order = is;
      fixed = omega (arith, inv.fixed, new_length, old_length);
      reached = subst (λ (o : List ℕ). Reaches fixed widths fs c.args.start.order.items c.args.start.nodes o best.nodes) (sym after) (next best.nodes i j inv.reached (record { first = first; least = least }));
      from_stays = stays_then c.args.from.now l.from c.best_move.new.from inv.from_stays c.best_move.ensures.stays.0;
      to_stays = stays_then c.args.to.now l.to c.best_move.new.to inv.to_stays c.best_move.ensures.stays.1;
    }
