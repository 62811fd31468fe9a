use Rattle.std.proofs.Common.{◌∙◌, List, length, map, subst, sym, arith, ◌≡◌, ◌≤◌, ◌<◌, ℕ, suc, ap}
use Rattle.regions.specs.Kept.{MakesRegion}
use Rattle.gr1_law.specs.Layers.{union}
use Rattle.gr1_sys.specs.Held.{HasEach}
use Rattle.gr1_env.specs.Held.{goal_regions, hold_set}
use Rattle.gr1_sys.proofs.Lists.{held_each, together_as, made_and_spent_all}
use Rattle.gr1_env.proofs.Joining.{layer_made}
use Rattle.spec_model.specs.Sets.{pre_env}
use Rattle.gr1_law.specs.Layers.{goal_sets}
use Rattle.gr1_env.specs.Told.{TellsLayer, layer_number, hold_number, moment_at}
use Rattle.gr1_env.proofs.Exact.{misses_counted}
use Rattle.gr1_env.proofs.Joining.{holds_stand}
use Rattle.gr1_env.proofs.Told.{handed_on, past_many, at_hold, at_layer}
use Rattle.gr1_env.proofs.Naming.{some_goal, hold_is_value, hold_stands_for, value_settled, goals_named}
use Rattle.gr1_env.proofs.layering.layer_above.Goals as goal

pub union_of-requires-clause-goals : goal.union_of-requires-clause-goals
union_of-requires-clause-goals g c =
    let kept = g.G.Regions.kept in
    let made = c.in_ok-goals.ensures.made.made in
    subst (λ (es : List _). HasEach (kept c.holds_over.new.g) (goal_regions es)) (sym c.deref.ensures.value) (held_each (kept c.holds_over.new.g) (goal_regions c.in_ok-goals.goals.items) _ made.counted (λ w. omega (arith, made.held w)))

pub spend_holds-requires : goal.spend_holds-requires
spend_holds-requires g c =
    let made = c.in_ok-goals.ensures.made.made in
    together_as (g.G.Regions.kept c.union_of.new.g) (goal_regions c.in_ok-goals.goals.items) _ (g.met.G.Regions.exact _) made.counted (λ w. omega (arith, made.held w, c.in-Err.ensures.halted w))

pub returns-in-Ok-clause-made : goal.returns-in-Ok-clause-made
returns-in-Ok-clause-made g c =
    let kept = g.G.Regions.kept in
    let k = kept c.args.g.now in
    let k1 = kept c.holds_over.new.g in
    let given = c.args.given.now in
    layer_made k.game k k1 (kept c.union_of.new.g) (k.set c.args.lower.now) (map k.set given.misses.items) (map k.set given.asms.items) _ (g.met.G.Regions.exact _) c.in_ok-goals.ensures.made
    (subst (λ (es : List _). MakesRegion k1 (kept c.union_of.new.g) c.in-Ok.z (union (hold_set k1 es) (length es))) c.deref.ensures.value c.in-Ok.ensures.made)

pub returns-in-Err-clause-halted : goal.returns-in-Err-clause-halted
returns-in-Err-clause-halted g c =
    let kept = g.G.Regions.kept in
    made_and_spent_all (kept c.args.g.now) (kept c.holds_over.new.g) (kept c.union_of.new.g) (kept c.spend_holds.new.g) (goal_regions c.in_ok-goals.goals.items) _ (g.met.G.Regions.exact _) c.in_ok-goals.ensures.made.made c.in-Err.ensures.halted c.spend_holds.ensures.spends

pub returns-in_err-goals-clause-told : goal.returns-in_err-goals-clause-told
returns-in_err-goals-clause-told g c = λ game a same lower_is are.
    let kept = g.G.Regions.kept in
    handed_on c.from_residual.result c.in_err-goals.field-0.0 (TellsLayer game (kept c.args.g.now) (kept c.holds_over.new.g) a) c.from_residual.ensures.1 (c.in_err-goals.ensures.told game a same lower_is are)

pub returns-in-Err-clause-told : goal.returns-in-Err-clause-told
returns-in-Err-clause-told g c = λ game a same lower_is are.
    let kept = g.G.Regions.kept in
    let k = kept c.args.g.now in
    let k1 = kept c.holds_over.new.g in
    let last = kept c.spend_holds.new.g in
    let given = c.args.given.now in
    let misses = map k.set given.misses.items in
    let asms = map k.set given.asms.items in
    let goals = c.in_ok-goals.goals.items in
    let has = c.in_ok-goals.ensures.made in
    let y = hold_number game a 0 in
    let m = moment_at game a 0 y in
    let halt = c.in-Err.halt in
    let asked = c.deref.ensures.value in
    let counted = ap (λ (ss : List _). length ss) are.misses_are in
    let few : length goals ≤ length (goal_sets game) = omega (arith, has.whole.counted, counted, misses_counted game) in
    let forced_is : pre_env k.game (k.set c.args.lower.now) ≡ pre_env game (layer_number game a) = ap (λ h. pre_env h (k.set c.args.lower.now)) same ∙ ap (pre_env game) lower_is in
    let stands : (j : ℕ) → j < length goals → hold_set k1 goals j ≡ m.value (suc a) j =
    λ j before.
    holds_stand k.game k k1 (pre_env k.game (k.set c.args.lower.now)) misses asms (g.met.G.Regions.exact _) goals has j before ∙
    (hold_stands_for game k.game a j (pre_env k.game (k.set c.args.lower.now)) misses asms same forced_is are (omega (arith, before, few)) ∙ sym (value_settled game a 0 a j)) in
    at_layer game k k1 last last a 0 halt (some_goal game)
    (at_hold game k k1 last last a 0 y halt (hold_is_value game a 0)
    (past_many game m k k1 (kept c.union_of.new.g) last (goal_regions goals) _ halt has.made
    (goals_named game m.value k.game a (pre_env k.game (k.set c.args.lower.now)) misses asms goals same forced_is are few (λ j before. value_settled game a 0 a j) has.whole.whole) c.spend_holds.ensures.spends.jam
    (c.in-Err.ensures.told game m a (c.holds_over.ensures.keeps.game ∙ same) (let here = ap (λ (es : List _). length es) asked in omega (arith, here, few))
    (subst (λ (es : List _). (j : ℕ) → j < length es → hold_set k1 es j ≡ m.value (suc a) j) (sym asked) stands))))
