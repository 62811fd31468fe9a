use Rattle.std.proofs.Common.{◌∙◌, ◌∷◌, [], ◌++◌, List, Vec, take, refl, sym, ap, subst}
use Rattle.std.proofs.lemmas.List.{append_assoc, append-nil}
use Rattle.std.specs.declared.alloc.Global.{Global}
use Rattle.spec_model.specs.declared.value.Owner.TheVariants.{Env}
use Rattle.regions.specs.declared.types.When.TheVariants.{Later}
use Rattle.regions.specs.Kept.{HasRegion}
use Rattle.gr1_sys.specs.Held.{HasEach}
use Rattle.gr1_sys.proofs.Holdings.{on_err}
use Rattle.gr1_env.specs.Held.{list_regions}
use Rattle.gr1_env.proofs.Gathered.{gather-push}
use Rattle.strategy_parts.specs.Told.{IsIn, AreTargets, TellsHalt, leadings}
use Rattle.strategy_parts.proofs.Holdings.{same_then, same_game}
use Rattle.strategy_parts.proofs.Telling.{has_every, has_each, take_next}
use Rattle.counterstrategy.specs.Owned.{list_items, AreLike}
use Rattle.counterstrategy.specs.Made.{Adds}
use Rattle.counterstrategy.proofs.Adding.{list_items-append, nothing_added}
use Rattle.counterstrategy.proofs.Erring.{err_told}
use Rattle.counterstrategy.proofs.Stepping.{step_each, step_adds, step_some, step_told, every_gathered, every_gathered_take}
use Rattle.counterstrategy.proofs.making.add_lists.Goals as goal

pub loop-list-init : goal.loop-list-init
loop-list-init g c =
    let k = g.G.Regions.kept c.args.g.now in
    let chains = c.args.chains.now.items in
    record {
      added = nothing_added list_items refl list_items-append k c.requires.free chains;
      alike = λ done like. subst (AreLike chains) (sym (append-nil done)) like;
      same = same_game k;
    }

pub add_list-requires-clause-regions : goal.add_list-requires-clause-regions
add_list-requires-clause-regions g c =
    let kept = g.G.Regions.kept in
    let first = kept c.args.g.now in
    let k = kept c.loop-list.g in
    let xs = c.args.lists.now in
    let i = c.loop-list.list-index in
    let item = c.list-item.result in
    let now = item.items in
    let each = has_each first now (every_gathered (HasRegion first) (λ (v : Vec _ Global). v.items) xs i item (has_every first (list_regions xs) c.requires.regions) c.loop-list-test.true c.list-item.is) in
    subst (HasEach k) (sym c.deref.ensures.value) (step_each list_items refl list_items-append first k (g.met.G.Regions.exact _) c.args.chains.now.items c.loop-list.chains.items Later (list_regions (take i xs)) now each c.loop-list.invariant.added)

pub returns-in_err-add_list-clause-halted : goal.returns-in_err-add_list-clause-halted
returns-in_err-add_list-clause-halted g c =
    let kept = g.G.Regions.kept in
    let first = kept c.args.g.now in
    let k = kept c.loop-list.g in
    let xs = c.args.lists.now in
    let i = c.loop-list.list-index in
    let item = c.list-item.result in
    let now = item.items in
    let each = has_each first now (every_gathered (HasRegion first) (λ (v : Vec _ Global). v.items) xs i item (has_every first (list_regions xs) c.requires.regions) c.loop-list-test.true c.list-item.is) in
    on_err _ (step_some list_items refl list_items-append first k (g.met.G.Regions.exact _) c.args.chains.now.items c.loop-list.chains.items Later (list_regions (take i xs)) now each c.loop-list.invariant.added
    (kept c.add_list.new.g) c.add_list.new.chains.items c.in_err-add_list.ensures.halted)

pub returns-in_err-add_list-clause-told : goal.returns-in_err-add_list-clause-told
returns-in_err-add_list-clause-told g c = λ tale who all.
    let kept = g.G.Regions.kept in
    let first = kept c.args.g.now in
    let k = kept c.loop-list.g in
    let xs = c.args.lists.now in
    let i = c.loop-list.list-index in
    let item = c.list-item.result in
    let now = item.items in
    let each = has_each first now (every_gathered (HasRegion first) (λ (v : Vec _ Global). v.items) xs i item (has_every first (list_regions xs) c.requires.regions) c.loop-list-test.true c.list-item.is) in
    let new = kept c.add_list.new.g in
    err_told c.from_residual.result (TellsHalt first new tale) _ c.from_residual.ensures.1
    (step_told list_items refl list_items-append first k (g.met.G.Regions.exact _) c.args.chains.now.items c.loop-list.chains.items Later (list_regions (take i xs)) now each c.loop-list.invariant.added
    new tale _ who (every_gathered_take (λ r. IsIn (first.set r) (tale.targets Later)) (λ (v : Vec _ Global). v.items) i xs all)
    (every_gathered (λ r. IsIn (first.set r) (tale.targets Later)) (λ (v : Vec _ Global). v.items) xs i item all c.loop-list-test.true c.list-item.is)
    (λ t. c.in_err-add_list.ensures.told tale who (subst (AreTargets tale Later k) (sym c.deref.ensures.value) t)))

pub loop-list-preserved : goal.loop-list-preserved
loop-list-preserved g c =
    let kept = g.G.Regions.kept in
    let first = kept c.args.g.now in
    let k = kept c.loop-list.g in
    let xs = c.args.lists.now in
    let i = c.loop-list.list-index in
    let item = c.list-item.result in
    let now = item.items in
    let each = has_each first now (every_gathered (HasRegion first) (λ (v : Vec _ Global). v.items) xs i item (has_every first (list_regions xs) c.requires.regions) c.loop-list-test.true c.list-item.is) in
    let new = kept c.add_list.new.g in
    let chains = c.add_list.new.chains.items in
    let taken = take_next xs i item c.loop-list-test.true c.list-item.is in
    record {
      added = subst (λ (rs : List _). Adds list_items first new c.args.chains.now.items chains (leadings first Env Later rs)) (sym (ap list_regions taken ∙ gather-push (λ n. (λ (v : Vec _ Global). v.items)) (take i xs) item))
          (step_adds list_items refl list_items-append first k (g.met.G.Regions.exact _) c.args.chains.now.items c.loop-list.chains.items Later (list_regions (take i xs)) now each c.loop-list.invariant.added
          new chains (subst (λ (rs : List _). Adds list_items k new c.loop-list.chains.items chains (leadings k Env Later rs)) c.deref.ensures.value c.in_ok-add_list.ensures.added));
      alike = λ done like.
          subst (λ (vs : List _). AreLike chains (done ++ vs)) (sym taken)
          (subst (AreLike chains) (append_assoc done (take i xs) (item ∷ []))
          (c.in_ok-add_list.ensures.alike (done ++ take i xs) item (c.loop-list.invariant.alike done like) (sym c.deref.ensures.value)));
      same = same_then first k new c.loop-list.invariant.same c.add_list.ensures.keeps;
    }
