use Rattle.std.proofs.Common.{◌≡◌, ◌∙◌, not, length, List, true, if◌then◌else◌, refl, sym, ap, subst, arith}
use Rattle.spec_model.specs.Games.{GameData}
use Rattle.spec_model.specs.Steps.{is_state}
use Rattle.gr1_law.specs.Layers.{goal_set, assumption_set}
use Rattle.gr1_law.specs.Counter.{next_assumption}
use Rattle.strategy_parts.specs.Owned.{RegionsAre}
use Rattle.strategy_parts.proofs.Holdings.{nothing_done, same_game, stays_then, regions_stay}
use Rattle.strategy_parts.proofs.Reaching.{region_held, has_at}
use Rattle.counterstrategy.specs.Places.{memory_at}
use Rattle.counterstrategy.specs.Settled.{settled_at}
use Rattle.counterstrategy.proofs.Sounding.{goals_stay}
use Rattle.counterstrategy.proofs.Replying.{remembered}
use Rattle.counterstrategy.proofs.noting.settle.Goals as goal

pub has-denying-requires : goal.has-denying-requires
has-denying-requires g c =
    let k = g.G.Regions.kept c.args.g.now in
    let there = c.requires in
    record { a = region_held k k (g.met.G.Regions.exact _) (nothing_done k) (same_game k) c.args.kit.now.goals.items c.args.goal there.goal_in c.index.result.now c.index.ensures (goal_set k.game, there.are.goals) }

pub next_index-index-requires-clause-before : goal.next_index-index-requires-clause-before
next_index-index-requires-clause-before g c =
    let long = ap (λ (rs : List _). length rs) c.deref.ensures.value in
    omega (arith, c.requires.asm_in, long)

pub next_index-index-requires-clause-asms : goal.next_index-index-requires-clause-asms
next_index-index-requires-clause-asms g c =
    let kept = g.G.Regions.kept in
    let k = kept c.args.g.now in
    let k1 = kept c.has-denying.new.self in
    (assumption_set k.game, subst (λ (rs : List _). RegionsAre k1 rs (assumption_set k.game)) (sym c.deref.ensures.value) (regions_stay k k1 c.args.kit.now.asms.items (assumption_set k.game) c.has-denying.ensures.held c.requires.are.asms))

pub returns-clause-settled : goal.returns-clause-settled
returns-clause-settled g c = λ s inside lists.
    let kept = g.G.Regions.kept in
    let k = kept c.args.g.now in
    let k1 = kept c.has-denying.new.self in
    let kit = c.args.kit.now in
    let there = c.requires in
    let same = c.has-denying.ensures.keeps in
    let listed_here = lists ∙ sym c.values-state.ensures in
    let holds : c.has-denying.result ≡ goal_set k.game c.args.goal s =
    has_at k k (g.met.G.Regions.exact _) (nothing_done k) (same_game k) kit.goals.items c.args.goal there.goal_in c.index.result.now c.index.ensures (goal_set k.game) s c.values-state.result.now c.has-denying.result c.has-denying.ensures.answer there.are.goals inside listed_here in
    let goals1 = goals_stay k k1 c.has-denying.ensures.held same kit there.are in
    let asms : c.next_index-index.result ≡ (if assumption_set k1.game c.args.before s then next_assumption k1.game c.args.before else c.args.before) =
    c.next_index-index.ensures.index s (subst (λ (rs : List _). RegionsAre k1 rs (assumption_set k1.game)) (sym c.deref.ensures.value) goals1.asms) (ap (λ (rs : List _). length rs) c.deref.ensures.value ∙ goals1.asms_counted)
    (subst (λ (h : GameData). is_state h s ≡ true) (sym same.game) inside) listed_here in
    let index = asms ∙ ap (λ (h : GameData). if assumption_set h c.args.before s then next_assumption h c.args.before else c.args.before) same.game in
    ap memory_at c.remember.ensures ∙ remembered (settled_at k.game s c.args.layer c.args.goal c.args.before) (not c.has-denying.result) c.args.layer c.args.goal c.args.before c.next_index-index.result (ap not holds) refl refl refl index

pub returns-clause-held : goal.returns-clause-held
returns-clause-held g c =
    let kept = g.G.Regions.kept in
    stays_then (kept c.args.g.now) (kept c.has-denying.new.self) (kept c.next_index-index.new.g) c.has-denying.ensures.held c.next_index-index.ensures.held
