use Rattle.std.proofs.Common.{◌∙◌, ◌++◌, List, take, refl, sym, ap, subst}
use Rattle.std.proofs.lemmas.List.{append_assoc, append-nil}
use Rattle.spec_model.specs.declared.value.Owner.TheVariants.{Env}
use Rattle.regions.specs.declared.types.When.TheVariants.{Later}
use Rattle.regions.specs.Kept.{HasRegion}
use Rattle.gr1_sys.specs.Held.{HasEach}
use Rattle.gr1_sys.proofs.Holdings.{on_err}
use Rattle.gr1_env.specs.declared.layers.EnvLayer.{EnvLayer}
use Rattle.gr1_env.proofs.Gathered.{gather-push}
use Rattle.strategy_parts.specs.Told.{IsIn, AreTargets, TellsHalt, leadings}
use Rattle.strategy_parts.proofs.Holdings.{same_then, same_game}
use Rattle.strategy_parts.proofs.Telling.{has_every, has_each, take_next}
use Rattle.counterstrategy.specs.Owned.{list_items, goal_lists, goal_delays, all_lists, all_delays, AreLike}
use Rattle.counterstrategy.specs.Made.{Adds}
use Rattle.counterstrategy.proofs.Adding.{list_items-append, nothing_added}
use Rattle.counterstrategy.proofs.Erring.{err_told}
use Rattle.counterstrategy.proofs.Stepping.{step_each, step_adds, step_some, step_told, every_gathered, every_gathered_take}
use Rattle.counterstrategy.proofs.making.add_delays.Goals as goal

pub loop-l-init : goal.loop-l-init
loop-l-init g c =
    let k = g.G.Regions.kept c.args.g.now in
    let chains = c.args.chains.now.items in
    record {
      added = nothing_added list_items refl list_items-append k c.requires.free chains;
      alike = λ done like. subst (AreLike chains) (sym (append-nil done)) like;
      same = same_game k;
    }

pub add_holds-requires-clause-regions : goal.add_holds-requires-clause-regions
add_holds-requires-clause-regions g c =
    let kept = g.G.Regions.kept in
    let first = kept c.args.g.now in
    let k = kept c.loop-l.g in
    let xs = c.args.layers.now in
    let i = c.loop-l.l-index in
    let item = c.l-item.result in
    let now = goal_delays item.goals.items in
    let each = has_each first now (every_gathered (HasRegion first) (λ (l : EnvLayer _ _ _). goal_delays l.goals.items) xs i item (has_every first (all_delays xs) c.requires.regions) c.loop-l-test.true c.l-item.is) in
    subst (HasEach k) (ap goal_delays (sym c.deref.ensures.value)) (step_each list_items refl list_items-append first k (g.met.G.Regions.exact _) c.args.chains.now.items c.loop-l.chains.items Later (all_delays (take i xs)) now each c.loop-l.invariant.added)

pub returns-in_err-add_holds-clause-halted : goal.returns-in_err-add_holds-clause-halted
returns-in_err-add_holds-clause-halted g c =
    let kept = g.G.Regions.kept in
    let first = kept c.args.g.now in
    let k = kept c.loop-l.g in
    let xs = c.args.layers.now in
    let i = c.loop-l.l-index in
    let item = c.l-item.result in
    let now = goal_delays item.goals.items in
    let each = has_each first now (every_gathered (HasRegion first) (λ (l : EnvLayer _ _ _). goal_delays l.goals.items) xs i item (has_every first (all_delays xs) c.requires.regions) c.loop-l-test.true c.l-item.is) in
    on_err _ (step_some list_items refl list_items-append first k (g.met.G.Regions.exact _) c.args.chains.now.items c.loop-l.chains.items Later (all_delays (take i xs)) now each c.loop-l.invariant.added
    (kept c.add_holds.new.g) c.add_holds.new.chains.items c.in_err-add_holds.ensures.halted)

pub returns-in_err-add_holds-clause-told : goal.returns-in_err-add_holds-clause-told
returns-in_err-add_holds-clause-told g c = λ tale who all.
    let kept = g.G.Regions.kept in
    let first = kept c.args.g.now in
    let k = kept c.loop-l.g in
    let xs = c.args.layers.now in
    let i = c.loop-l.l-index in
    let item = c.l-item.result in
    let now = goal_delays item.goals.items in
    let each = has_each first now (every_gathered (HasRegion first) (λ (l : EnvLayer _ _ _). goal_delays l.goals.items) xs i item (has_every first (all_delays xs) c.requires.regions) c.loop-l-test.true c.l-item.is) in
    let new = kept c.add_holds.new.g in
    err_told c.from_residual.result (TellsHalt first new tale) _ c.from_residual.ensures.1
    (step_told list_items refl list_items-append first k (g.met.G.Regions.exact _) c.args.chains.now.items c.loop-l.chains.items Later (all_delays (take i xs)) now each c.loop-l.invariant.added
    new tale _ who (every_gathered_take (λ r. IsIn (first.set r) (tale.targets Later)) (λ (l : EnvLayer _ _ _). goal_delays l.goals.items) i xs all)
    (every_gathered (λ r. IsIn (first.set r) (tale.targets Later)) (λ (l : EnvLayer _ _ _). goal_delays l.goals.items) xs i item all c.loop-l-test.true c.l-item.is)
    (λ t. c.in_err-add_holds.ensures.told tale who (subst (AreTargets tale Later k) (ap goal_delays (sym c.deref.ensures.value)) t)))

pub loop-l-preserved : goal.loop-l-preserved
loop-l-preserved g c =
    let kept = g.G.Regions.kept in
    let first = kept c.args.g.now in
    let k = kept c.loop-l.g in
    let xs = c.args.layers.now in
    let i = c.loop-l.l-index in
    let item = c.l-item.result in
    let now = goal_delays item.goals.items in
    let each = has_each first now (every_gathered (HasRegion first) (λ (l : EnvLayer _ _ _). goal_delays l.goals.items) xs i item (has_every first (all_delays xs) c.requires.regions) c.loop-l-test.true c.l-item.is) in
    let new = kept c.add_holds.new.g in
    let chains = c.add_holds.new.chains.items in
    let taken = take_next xs i item c.loop-l-test.true c.l-item.is in
    record {
      added = subst (λ (rs : List _). Adds list_items first new c.args.chains.now.items chains (leadings first Env Later rs)) (sym (ap all_delays taken ∙ gather-push (λ n. (λ (l : EnvLayer _ _ _). goal_delays l.goals.items)) (take i xs) item))
          (step_adds list_items refl list_items-append first k (g.met.G.Regions.exact _) c.args.chains.now.items c.loop-l.chains.items Later (all_delays (take i xs)) now each c.loop-l.invariant.added
          new chains (subst (λ (rs : List _). Adds list_items k new c.loop-l.chains.items chains (leadings k Env Later rs)) (ap goal_delays c.deref.ensures.value) c.in_ok-add_holds.ensures.added));
      alike = λ done like.
          subst (λ (vs : List _). AreLike chains (done ++ vs)) (sym (ap all_lists taken ∙ gather-push (λ n. (λ (l : EnvLayer _ _ _). goal_lists l.goals.items)) (take i xs) item))
          (subst (AreLike chains) (append_assoc done (all_lists (take i xs)) (goal_lists item.goals.items))
          (subst (λ (q : List _). AreLike chains ((done ++ all_lists (take i xs)) ++ goal_lists q)) c.deref.ensures.value (c.in_ok-add_holds.ensures.alike (done ++ all_lists (take i xs)) (c.loop-l.invariant.alike done like))));
      same = same_then first k new c.loop-l.invariant.same c.add_holds.ensures.keeps;
    }
