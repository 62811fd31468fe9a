use Rattle.std.proofs.Common.{◌∙◌, List, length, ap, subst, sym, arith, ◌<◌, ◌≤◌, ◌≡◌, ℕ}
use Rattle.regions.specs.Kept.{MakesRegion}
use Rattle.gr1_sys.specs.Solution.{layer_of, meet}
use Rattle.gr1_sys.specs.Held.{HasEach, rank_sets, sets_of, all_regions, last_set}
use Rattle.gr1_sys.proofs.Lists.{region_stays, set_kept, held_each, together_as, made_and_spent_all, length_map}
use Rattle.gr1_sys.proofs.Turned.{turns_to, last_sets_stand}
use Rattle.spec_model.specs.Steps.{states_of}
use Rattle.gr1_sys.specs.Told.{TellsHalt}
use Rattle.gr1_sys.proofs.Told.{handed_on, past_many}
use Rattle.gr1_sys.proofs.Naming.{layers_named}
use Rattle.gr1_law.specs.Layers.{goal_sets}
use Rattle.gr1_sys.proofs.turns.turn.Goals as goal

pub common-requires-clause-none : goal.common-requires-clause-none
common-requires-clause-none g c =
    let kept = g.G.Regions.kept in
    region_stays (kept c.args.g.now) (kept c.layers_for.new.g) c.args.given.now.none (λ w. omega (arith, c.in_ok-goals.ensures.climbed.0.made.held w)) c.requires.given.none

pub common-requires-clause-goals : goal.common-requires-clause-goals
common-requires-clause-goals g c =
    let kept = g.G.Regions.kept in
    let made = c.in_ok-goals.ensures.climbed.0.made in
    subst (λ (vs : List _). HasEach (kept c.layers_for.new.g) (all_regions vs)) (sym c.deref.ensures.value) (held_each (kept c.layers_for.new.g) (all_regions c.in_ok-goals.goals.items) _ made.counted (λ w. omega (arith, made.held w)))

pub spend_goals-requires : goal.spend_goals-requires
spend_goals-requires g c =
    let made = c.in_ok-goals.ensures.climbed.0.made in
    together_as (g.G.Regions.kept c.common.new.g) (all_regions c.in_ok-goals.goals.items) _ (g.met.G.Regions.exact _) made.counted (λ w. omega (arith, made.held w, c.in-Err.ensures.halted w))

pub returns-in-Ok-clause-turned : goal.returns-in-Ok-clause-turned
returns-in-Ok-clause-turned g c =
    let kept = g.G.Regions.kept in
    let k = kept c.args.g.now in
    let k1 = kept c.layers_for.new.g in
    let climbed = c.in_ok-goals.ensures.climbed in
    let given = c.requires.given in
    let empty = set_kept k k1 c.args.given.now.none (g.met.G.Regions.exact _) (λ w. omega (arith, climbed.0.made.held w)) given.none ∙ given.empty in
    let counted = climbed.1 ∙ (sym (length_map k.set c.args.given.now.goals.items) ∙ ap (λ (ss : List _). length ss) given.goal_sets) in
    turns_to k k1 (kept c.common.new.g) c.args.given.now.none (k.set c.args.z.now) c.in_ok-goals.goals.items c.in-Ok.next (g.met.G.Regions.exact _) c.layers_for.ensures.keeps.game empty climbed.0 counted
    (subst (λ (vs : List _). MakesRegion k1 (kept c.common.new.g) c.in-Ok.next (meet k1.game (last_set k1 c.args.given.now.none vs) (length vs))) c.deref.ensures.value c.in-Ok.ensures.made)

pub returns-in-Err-clause-halted : goal.returns-in-Err-clause-halted
returns-in-Err-clause-halted g c =
    let kept = g.G.Regions.kept in
    made_and_spent_all (kept c.args.g.now) (kept c.layers_for.new.g) (kept c.common.new.g) (kept c.spend_goals.new.g) (all_regions c.in_ok-goals.goals.items) _ (g.met.G.Regions.exact _) c.in_ok-goals.ensures.climbed.0.made c.in-Err.ensures.halted c.spend_goals.ensures.spends

pub returns-in_err-goals-clause-told : goal.returns-in_err-goals-clause-told
returns-in_err-goals-clause-told g c =
    let kept = g.G.Regions.kept in
    let k = kept c.args.g.now in
    handed_on c.from_residual.result c.in_err-goals.field-0.0 (TellsHalt k (kept c.layers_for.new.g) (k.set c.args.z.now)) c.from_residual.ensures.1 c.in_err-goals.ensures.told

pub returns-in-Err-clause-told : goal.returns-in-Err-clause-told
returns-in-Err-clause-told g c =
    let kept = g.G.Regions.kept in
    let k = kept c.args.g.now in
    let k1 = kept c.layers_for.new.g in
    let z = k.set c.args.z.now in
    let none = c.args.given.now.none in
    let goals = c.in_ok-goals.goals.items in
    let climbed = c.in_ok-goals.ensures.climbed.0 in
    let empty = set_kept k k1 none (g.met.G.Regions.exact _) (λ w. omega (arith, climbed.made.held w)) c.requires.given.none ∙ c.requires.given.empty in
    let stand = subst (λ h. (j : ℕ) → j < length goals → last_set k1 none goals j ≡ layer_of h z j (length (states_of h))) (sym c.layers_for.ensures.keeps.game) (last_sets_stand k.game k k1 none z goals (g.met.G.Regions.exact _) empty climbed) in
    let lasts = subst (λ (vs : List _). (j : ℕ) → j < length vs → last_set k1 none vs j ≡ layer_of k1.game z j (length (states_of k1.game))) (sym c.deref.ensures.value) stand in
    let counted = c.in_ok-goals.ensures.climbed.1 ∙ (sym (length_map k.set c.args.given.now.goals.items) ∙ ap (λ (ss : List _). length ss) c.requires.given.goal_sets) in
    let asked = ap (λ (vs : List _). length vs) c.deref.ensures.value in
    let few = subst (λ h. length c.deref.result.now ≤ length (goal_sets h)) (sym c.layers_for.ensures.keeps.game) (omega (arith, asked, counted)) in
    past_many k k1 (kept c.common.new.g) (kept c.spend_goals.new.g) z (all_regions goals) (sets_of (rank_sets k.game z) goals) c.in-Err.halt c.layers_for.ensures.keeps.game climbed.made (layers_named k.game z goals (omega (arith, counted))) c.spend_goals.ensures.spends.jam
    (c.in-Err.ensures.told z few lasts)
