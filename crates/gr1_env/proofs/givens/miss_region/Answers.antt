use Rattle.std.proofs.Common.{◌∙◌, ap, subst, sym, arith, [], ◌∷◌}
use Rattle.std.proofs.lemmas.Result.{IfOk-weaker}
use Rattle.spec_model.specs.Sets.{rest}
use Rattle.regions.specs.Kept.{MakesRegion}
use Rattle.regions.specs.declared.types.Recur.TheVariants.{Guarantee}
use Rattle.regions.specs.Rules.{states_holding}
use Rattle.regions.proofs.Holding.{set_is}
use Rattle.gr1_sys.proofs.Parted.{halted_above}
use Rattle.gr1_sys.proofs.Givings.{goal_alone, goal_there, one_above}
use Rattle.gr1_env.proofs.Givings.{miss_alone, miss_there, miss_counted}
use Rattle.regions.specs.Kept.{Not, Holding, States}
use Rattle.gr1_law.specs.Layers.{goal_set}
use Rattle.gr1_sys.specs.Moment.{IsGoal}
use Rattle.gr1_env.specs.Moment.{IsNamed, goal as goal_named}
use Rattle.gr1_env.specs.Told.{TellsHalt}
use Rattle.gr1_env.proofs.Told.{handed_on, told, told_none, past_one}
use Rattle.gr1_env.proofs.givens.miss_region.Goals as goal

pub returns-then-is_empty-clause-made : goal.returns-then-is_empty-clause-made
returns-then-is_empty-clause-made g c =
    let kept = g.G.Regions.kept in
    let k = kept c.args.g.now in
    let alone = goal_alone c.game.result.now k.game c.game.ensures (sym c.is_empty.ensures ∙ c.if-is_empty.true) c.args.j (miss_counted k.game c.args.j c.requires.there) in
    IfOk-weaker c.none.result _ _ (λ r made. subst (MakesRegion k (kept c.none.new.self) r) (sym (miss_alone k.game c.args.j c.requires.there alone)) made) c.none.ensures.made

pub holding-requires-clause-there : goal.holding-requires-clause-there
holding-requires-clause-there g c =
    let k = g.G.Regions.kept c.args.g.now in
    (goal_there c.game.result.now k.game c.game.ensures (sym c.is_empty.ensures ∙ c.if-is_empty.false) c.args.j (miss_counted k.game c.args.j c.requires.there)).0

pub returns-in-Ok-clause-made : goal.returns-in-Ok-clause-made
returns-in-Ok-clause-made g c =
    let kept = g.G.Regions.kept in
    let k = kept c.args.g.now in
    let k1 = kept c.holding.new.self in
    let found = goal_there c.game.result.now k.game c.game.ensures (sym c.is_empty.ensures ∙ c.if-is_empty.false) c.args.j (miss_counted k.game c.args.j c.requires.there) in
    let made = c.in_ok-holds.ensures.made in
    let is = set_is k1 c.in_ok-holds.holds (states_holding k.game (Guarantee c.args.j)) (g.met.G.Regions.exact _) (λ w. omega (arith, made.held w)) in
    let rest_is = ap (λ h. rest h (k1.set c.in_ok-holds.holds)) c.holding.ensures.keeps.game ∙ miss_there k.game c.args.j (k1.set c.in_ok-holds.holds) c.requires.there (is ∙ found.1) in
    one_above k k1 (kept c.not.new.self) (kept c.spend.new.self) c.in_ok-holds.holds c.in-Ok.misses _ _ (g.met.G.Regions.exact _) made (subst (MakesRegion k1 (kept c.not.new.self) c.in-Ok.misses) rest_is c.in-Ok.ensures.made) c.spend.ensures.spends

pub returns-in-Err-clause-halted : goal.returns-in-Err-clause-halted
returns-in-Err-clause-halted g c =
    let kept = g.G.Regions.kept in
    halted_above (kept c.args.g.now) (kept c.holding.new.self) (kept c.not.new.self) (kept c.spend-in-Err.new.self) c.in_ok-holds.holds _ (g.met.G.Regions.exact _) c.in_ok-holds.ensures.made c.in-Err.ensures.halted.held c.spend-in-Err.ensures.spends

pub returns-then-is_empty-clause-told : goal.returns-then-is_empty-clause-told
returns-then-is_empty-clause-told g c = λ game m same.
    let kept = g.G.Regions.kept in
    told_none game m (kept c.args.g.now) (kept c.none.new.self) c.none.result c.none.ensures.halted

pub returns-in_err-holds-clause-told : goal.returns-in_err-holds-clause-told
returns-in_err-holds-clause-told g c = λ game m same.
    let kept = g.G.Regions.kept in
    let k = kept c.args.g.now in
    handed_on c.from_residual.result c.in_err-holds.field-0.0 (TellsHalt game k (kept c.holding.new.self) m) c.from_residual.ensures.1
    (told game m k (kept c.holding.new.self) Holding [] c.in_err-holds.field-0.0 c.in_err-holds.ensures.halted.jam tt tt)

pub returns-in-Err-clause-told : goal.returns-in-Err-clause-told
returns-in-Err-clause-told g c = λ game m same.
    let kept = g.G.Regions.kept in
    let k = kept c.args.g.now in
    let k1 = kept c.holding.new.self in
    let set = states_holding k.game (Guarantee c.args.j) in
    let made = c.in_ok-holds.ensures.made in
    let found = goal_there c.game.result.now k.game c.game.ensures (sym c.is_empty.ensures ∙ c.if-is_empty.false) c.args.j (miss_counted k.game c.args.j c.requires.there) in
    let is = set_is k1 c.in_ok-holds.holds set (g.met.G.Regions.exact _) (λ w. omega (arith, made.held w)) in
    let goal_in : IsGoal game c.args.j = subst (λ h. IsGoal h c.args.j) same (miss_counted k.game c.args.j c.requires.there) in
    let named : IsNamed game m set = goal_named c.args.j goal_in (found.1 ∙ ap (λ h. goal_set h c.args.j) same) in
    past_one game m k k1 (kept c.not.new.self) (kept c.spend-in-Err.new.self) c.in_ok-holds.holds set c.in-Err.halt made named c.spend-in-Err.ensures.spends.jam
    (told game m k1 (kept c.not.new.self) Not (States (k1.set c.in_ok-holds.holds) ∷ []) c.in-Err.halt c.in-Err.ensures.halted.jam (subst (IsNamed game m) (sym is) named, tt) tt)
