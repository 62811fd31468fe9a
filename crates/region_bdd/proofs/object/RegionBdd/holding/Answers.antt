use Rattle.std.proofs.Common.{ℕ, true, [], None, refl, subst}
use Rattle.spec_model.specs.GameViews.{game_data}
use Rattle.game_values.specs.declared.seen.At.TheVariants.{Now}
use Rattle.bdd_store.specs.State.{IsRoot}
use Rattle.bdd_bits.specs.Contents.{function_at}
use Rattle.bdd_ops.specs.Functions.{joined, join_of}
use Rattle.regions.specs.Rules.{states_holding}
use Rattle.bdd_sets.specs.StateBits.{Tells}
use Rattle.region_bdd.proofs.GoalLaws.{goal_there, goal_root, tells_goal}
use Rattle.region_bdd.specs.declared.own.Refused.{Refused}
use Rattle.region_bdd.specs.declared.own.Asked.TheVariants as asked
use Rattle.region_bdd.specs.Object.{kept_of}
use Rattle.region_bdd.proofs.OutcomeLaws.{answered}
use Rattle.bit_compile.specs.NamedCodes.{NoFunction}
use Rattle.bit_compile.proofs.Causes.{cause_join}
use Rattle.region_bdd.proofs.SetCalls.{proper_root}
use Rattle.region_bdd.proofs.object.RegionBdd.holding.Goals as goal

pub goal-requires : goal.goal-requires
goal-requires c =
    let o = c.args.self.now in
    let g = game_data o.game in
    let slots = o.slots.slots.items in
    let d = o.diagrams in
    (goal_there g o.own o.levels d slots o.refused c.args.self.now.whole c.args.what c.requires.there).rooted

pub and-made-requires-clause-a_kept : goal.and-made-requires-clause-a_kept
and-made-requires-clause-a_kept c =
    let o = c.args.self.now in
    let g = game_data o.game in
    let slots = o.slots.slots.items in
    let d = o.diagrams in
    subst (λ (n : ℕ). IsRoot d.state n) c.goal.ensures (goal_root g o.own o.levels d slots o.refused c.args.self.now.whole c.args.what c.requires.there)

pub returns-clause-made : goal.returns-clause-made
returns-clause-made c =
    let o = c.args.self.now in
    let g = game_data o.game in
    let slots = o.slots.slots.items in
    let d = o.diagrams in
    let now = kept_of g d slots o.refused in
    let why : Refused = record { asked = asked.Holding; first = None; second = None } in
    let done = answered g o.own o.levels d slots c.and-made.new.diagrams c.room.new.self.slots.items c.settle.new.slots.slots.items o.refused c.settle.new.refused c.args.self.now.whole c.requires.free c.room.ensures.keeps (joined (join_of true) (function_at d c.goal.result.now) (function_at d o.own.step.proper)) (states_holding g c.args.what) (subst (λ (n : ℕ). Tells g Now (joined (join_of true) (function_at d n) (function_at d o.own.step.proper)) (states_holding g c.args.what)) c.goal.ensures (tells_goal g o.own o.levels d slots o.refused c.args.self.now.whole c.args.what c.requires.there)) why ([]) (refl) c.and-made.result c.settle.result (c.and-made.ensures.makes) NoFunction (cause_join true d c.and-made.new.diagrams c.goal.result.now o.own.step.proper _ NoFunction c.and-made.result (subst (λ (n : ℕ). IsRoot d.state n) c.goal.ensures (goal_root g o.own o.levels d slots o.refused c.args.self.now.whole c.args.what c.requires.there)) (proper_root g o.own o.levels d slots o.refused c.args.self.now.whole) c.and-made.ensures) (λ own_is h none. absurd none) c.of-why.result c.of-why.ensures c.settle.ensures in
    done.made

pub returns-clause-halted : goal.returns-clause-halted
returns-clause-halted c =
    let o = c.args.self.now in
    let g = game_data o.game in
    let slots = o.slots.slots.items in
    let d = o.diagrams in
    let now = kept_of g d slots o.refused in
    let why : Refused = record { asked = asked.Holding; first = None; second = None } in
    let done = answered g o.own o.levels d slots c.and-made.new.diagrams c.room.new.self.slots.items c.settle.new.slots.slots.items o.refused c.settle.new.refused c.args.self.now.whole c.requires.free c.room.ensures.keeps (joined (join_of true) (function_at d c.goal.result.now) (function_at d o.own.step.proper)) (states_holding g c.args.what) (subst (λ (n : ℕ). Tells g Now (joined (join_of true) (function_at d n) (function_at d o.own.step.proper)) (states_holding g c.args.what)) c.goal.ensures (tells_goal g o.own o.levels d slots o.refused c.args.self.now.whole c.args.what c.requires.there)) why ([]) (refl) c.and-made.result c.settle.result (c.and-made.ensures.makes) NoFunction (cause_join true d c.and-made.new.diagrams c.goal.result.now o.own.step.proper _ NoFunction c.and-made.result (subst (λ (n : ℕ). IsRoot d.state n) c.goal.ensures (goal_root g o.own o.levels d slots o.refused c.args.self.now.whole c.args.what c.requires.there)) (proper_root g o.own o.levels d slots o.refused c.args.self.now.whole) c.and-made.ensures) (λ own_is h none. absurd none) c.of-why.result c.of-why.ensures c.settle.ensures in
    done.halted

pub invariant_of-self-2 : goal.invariant_of-self-2
invariant_of-self-2 c =
    let o = c.args.self.now in
    let g = game_data o.game in
    let slots = o.slots.slots.items in
    let d = o.diagrams in
    let now = kept_of g d slots o.refused in
    let why : Refused = record { asked = asked.Holding; first = None; second = None } in
    let done = answered g o.own o.levels d slots c.and-made.new.diagrams c.room.new.self.slots.items c.settle.new.slots.slots.items o.refused c.settle.new.refused c.args.self.now.whole c.requires.free c.room.ensures.keeps (joined (join_of true) (function_at d c.goal.result.now) (function_at d o.own.step.proper)) (states_holding g c.args.what) (subst (λ (n : ℕ). Tells g Now (joined (join_of true) (function_at d n) (function_at d o.own.step.proper)) (states_holding g c.args.what)) c.goal.ensures (tells_goal g o.own o.levels d slots o.refused c.args.self.now.whole c.args.what c.requires.there)) why ([]) (refl) c.and-made.result c.settle.result (c.and-made.ensures.makes) NoFunction (cause_join true d c.and-made.new.diagrams c.goal.result.now o.own.step.proper _ NoFunction c.and-made.result (subst (λ (n : ℕ). IsRoot d.state n) c.goal.ensures (goal_root g o.own o.levels d slots o.refused c.args.self.now.whole c.args.what c.requires.there)) (proper_root g o.own o.levels d slots o.refused c.args.self.now.whole) c.and-made.ensures) (λ own_is h none. absurd none) c.of-why.result c.of-why.ensures c.settle.ensures in
    record { whole = done.object; coded = o.coded; room = o.room }
