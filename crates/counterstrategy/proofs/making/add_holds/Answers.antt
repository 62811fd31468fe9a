use Rattle.std.proofs.Common.{◌∙◌, ◌++◌, List, take, refl, sym, ap, subst}
use Rattle.std.proofs.lemmas.List.{append_assoc, append-nil}
use Rattle.spec_model.specs.declared.value.Owner.TheVariants.{Env}
use Rattle.regions.specs.declared.types.When.TheVariants.{Later}
use Rattle.regions.specs.Kept.{HasRegion}
use Rattle.gr1_sys.specs.Held.{HasEach}
use Rattle.gr1_sys.proofs.Holdings.{on_err}
use Rattle.gr1_env.specs.declared.layers.EnvGoal.{EnvGoal}
use Rattle.gr1_env.specs.Held.{list_regions}
use Rattle.gr1_env.proofs.Gathered.{gather-push}
use Rattle.strategy_parts.specs.Told.{IsIn, AreTargets, TellsHalt, leadings}
use Rattle.strategy_parts.proofs.Holdings.{same_then, same_game}
use Rattle.strategy_parts.proofs.Telling.{has_every, has_each, take_next}
use Rattle.counterstrategy.specs.Owned.{list_items, goal_lists, goal_delays, AreLike}
use Rattle.counterstrategy.specs.Made.{Adds}
use Rattle.counterstrategy.proofs.Adding.{list_items-append, nothing_added}
use Rattle.counterstrategy.proofs.Erring.{err_told}
use Rattle.counterstrategy.proofs.Stepping.{step_each, step_adds, step_some, step_told, every_gathered, every_gathered_take}
use Rattle.counterstrategy.proofs.making.add_holds.Goals as goal

pub loop-goal-init : goal.loop-goal-init
loop-goal-init g c =
    let k = g.G.Regions.kept c.args.g.now in
    let chains = c.args.chains.now.items in
    record {
      added = nothing_added list_items refl list_items-append k c.requires.free chains;
      alike = λ done like. subst (AreLike chains) (sym (append-nil done)) like;
      same = same_game k;
    }

pub add_lists-requires-clause-regions : goal.add_lists-requires-clause-regions
add_lists-requires-clause-regions g c =
    let kept = g.G.Regions.kept in
    let first = kept c.args.g.now in
    let k = kept c.loop-goal.g in
    let xs = c.args.goals.now in
    let i = c.loop-goal.goal-index in
    let item = c.goal-item.result in
    let now = list_regions item.x.items in
    let each = has_each first now (every_gathered (HasRegion first) (λ (e : EnvGoal _ _ _). list_regions e.x.items) xs i item (has_every first (goal_delays xs) c.requires.regions) c.loop-goal-test.true c.goal-item.is) in
    subst (HasEach k) (ap list_regions (sym c.deref.ensures.value)) (step_each list_items refl list_items-append first k (g.met.G.Regions.exact _) c.args.chains.now.items c.loop-goal.chains.items Later (goal_delays (take i xs)) now each c.loop-goal.invariant.added)

pub returns-in_err-add_lists-clause-halted : goal.returns-in_err-add_lists-clause-halted
returns-in_err-add_lists-clause-halted g c =
    let kept = g.G.Regions.kept in
    let first = kept c.args.g.now in
    let k = kept c.loop-goal.g in
    let xs = c.args.goals.now in
    let i = c.loop-goal.goal-index in
    let item = c.goal-item.result in
    let now = list_regions item.x.items in
    let each = has_each first now (every_gathered (HasRegion first) (λ (e : EnvGoal _ _ _). list_regions e.x.items) xs i item (has_every first (goal_delays xs) c.requires.regions) c.loop-goal-test.true c.goal-item.is) in
    on_err _ (step_some list_items refl list_items-append first k (g.met.G.Regions.exact _) c.args.chains.now.items c.loop-goal.chains.items Later (goal_delays (take i xs)) now each c.loop-goal.invariant.added
    (kept c.add_lists.new.g) c.add_lists.new.chains.items c.in_err-add_lists.ensures.halted)

pub returns-in_err-add_lists-clause-told : goal.returns-in_err-add_lists-clause-told
returns-in_err-add_lists-clause-told g c = λ tale who all.
    let kept = g.G.Regions.kept in
    let first = kept c.args.g.now in
    let k = kept c.loop-goal.g in
    let xs = c.args.goals.now in
    let i = c.loop-goal.goal-index in
    let item = c.goal-item.result in
    let now = list_regions item.x.items in
    let each = has_each first now (every_gathered (HasRegion first) (λ (e : EnvGoal _ _ _). list_regions e.x.items) xs i item (has_every first (goal_delays xs) c.requires.regions) c.loop-goal-test.true c.goal-item.is) in
    let new = kept c.add_lists.new.g in
    err_told c.from_residual.result (TellsHalt first new tale) _ c.from_residual.ensures.1
    (step_told list_items refl list_items-append first k (g.met.G.Regions.exact _) c.args.chains.now.items c.loop-goal.chains.items Later (goal_delays (take i xs)) now each c.loop-goal.invariant.added
    new tale _ who (every_gathered_take (λ r. IsIn (first.set r) (tale.targets Later)) (λ (e : EnvGoal _ _ _). list_regions e.x.items) i xs all)
    (every_gathered (λ r. IsIn (first.set r) (tale.targets Later)) (λ (e : EnvGoal _ _ _). list_regions e.x.items) xs i item all c.loop-goal-test.true c.goal-item.is)
    (λ t. c.in_err-add_lists.ensures.told tale who (subst (AreTargets tale Later k) (ap list_regions (sym c.deref.ensures.value)) t)))

pub loop-goal-preserved : goal.loop-goal-preserved
loop-goal-preserved g c =
    let kept = g.G.Regions.kept in
    let first = kept c.args.g.now in
    let k = kept c.loop-goal.g in
    let xs = c.args.goals.now in
    let i = c.loop-goal.goal-index in
    let item = c.goal-item.result in
    let now = list_regions item.x.items in
    let each = has_each first now (every_gathered (HasRegion first) (λ (e : EnvGoal _ _ _). list_regions e.x.items) xs i item (has_every first (goal_delays xs) c.requires.regions) c.loop-goal-test.true c.goal-item.is) in
    let new = kept c.add_lists.new.g in
    let chains = c.add_lists.new.chains.items in
    let taken = take_next xs i item c.loop-goal-test.true c.goal-item.is in
    record {
      added = subst (λ (rs : List _). Adds list_items first new c.args.chains.now.items chains (leadings first Env Later rs)) (sym (ap goal_delays taken ∙ gather-push (λ n. (λ (e : EnvGoal _ _ _). list_regions e.x.items)) (take i xs) item))
          (step_adds list_items refl list_items-append first k (g.met.G.Regions.exact _) c.args.chains.now.items c.loop-goal.chains.items Later (goal_delays (take i xs)) now each c.loop-goal.invariant.added
          new chains (subst (λ (rs : List _). Adds list_items k new c.loop-goal.chains.items chains (leadings k Env Later rs)) (ap list_regions c.deref.ensures.value) c.in_ok-add_lists.ensures.added));
      alike = λ done like.
          subst (λ (vs : List _). AreLike chains (done ++ vs)) (sym (ap goal_lists taken ∙ gather-push (λ n. (λ (e : EnvGoal _ _ _). e.x.items)) (take i xs) item))
          (subst (AreLike chains) (append_assoc done (goal_lists (take i xs)) (item.x.items))
          (subst (λ (q : List _). AreLike chains ((done ++ goal_lists (take i xs)) ++ q)) c.deref.ensures.value (c.in_ok-add_lists.ensures.alike (done ++ goal_lists (take i xs)) (c.loop-goal.invariant.alike done like))));
      same = same_then first k new c.loop-goal.invariant.same c.add_lists.ensures.keeps;
    }
