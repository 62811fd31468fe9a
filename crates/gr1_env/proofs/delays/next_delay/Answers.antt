use Rattle.std.proofs.Common.{[], ◌∷◌, ◌∙◌, ap}
use Rattle.std.proofs.lemmas.Result.{IfOk-weaker, IfErr-weaker, on_err_weaker}
use Rattle.spec_model.specs.Sets.{both, either, pre_env}
use Rattle.gr1_sys.proofs.Holdings.{on_err, dropped, replaced_as}
use Rattle.regions.specs.Kept.{And, Or, PreEnv, States}
use Rattle.gr1_env.specs.Moment.{IsIterate, delay_at, iterated, delayed, assumption, forced, covered, met}
use Rattle.gr1_env.specs.Told.{TellsHalt}
use Rattle.gr1_env.proofs.Told.{handed_on, told, joined_told}
use Rattle.gr1_env.proofs.delays.next_delay.Goals as goal

pub returns-in_err-met-clause-halted : goal.returns-in_err-met-clause-halted
returns-in_err-met-clause-halted g c = on_err _ (dropped _ _ _ c.in_ok-forced.forced _ (g.met.G.Regions.exact _) c.in_ok-forced.ensures.made c.in_err-met.ensures.halted)

pub returns-clause-made : goal.returns-clause-made
returns-clause-made g c =
    let kept = g.G.Regions.kept in
    let k = kept c.args.g.now in
    let met = replaced_as k (kept c.pre_env.new.self) (kept c.or_in.new.g) c.in_ok-forced.forced c.in_ok-met.met c.args.asm.now (pre_env k.game (k.set c.args.t.now)) either (g.met.G.Regions.exact _) c.requires.asm c.in_ok-forced.ensures.made c.in_ok-met.ensures.made in
    IfOk-weaker c.and_in.result _ _ (λ r made. replaced_as k (kept c.or_in.new.g) (kept c.and_in.new.g) c.in_ok-met.met r c.args.cover.now (either (pre_env k.game (k.set c.args.t.now)) (k.set c.args.asm.now)) both (g.met.G.Regions.exact _) c.requires.cover met made) c.and_in.ensures.made

pub returns-clause-halted : goal.returns-clause-halted
returns-clause-halted g c =
    let kept = g.G.Regions.kept in
    let k = kept c.args.g.now in
    let met = replaced_as k (kept c.pre_env.new.self) (kept c.or_in.new.g) c.in_ok-forced.forced c.in_ok-met.met c.args.asm.now (pre_env k.game (k.set c.args.t.now)) either (g.met.G.Regions.exact _) c.requires.asm c.in_ok-forced.ensures.made c.in_ok-met.ensures.made in
    on_err_weaker c.and_in.result (dropped k (kept c.or_in.new.g) (kept c.and_in.new.g) c.in_ok-met.met _ (g.met.G.Regions.exact _) met) c.and_in.ensures.halted

pub returns-in_err-forced-clause-told : goal.returns-in_err-forced-clause-told
returns-in_err-forced-clause-told g c = λ game m a j i r same are is.
    let kept = g.G.Regions.kept in
    let k = kept c.args.g.now in
    let here : IsIterate game m (k.set c.args.t.now) = delayed a j i r are.goal_in are.index_in is in
    handed_on c.from_residual.result c.in_err-forced.field-0.0 (TellsHalt game k (kept c.pre_env.new.self) m) c.from_residual.ensures.1
    (told game m k (kept c.pre_env.new.self) PreEnv (States (k.set c.args.t.now) ∷ []) c.in_err-forced.field-0.0 c.in_err-forced.ensures.halted.jam (iterated here, tt) (here, tt))

pub returns-in_err-met-clause-told : goal.returns-in_err-met-clause-told
returns-in_err-met-clause-told g c = λ game m a j i r same are is.
    let kept = g.G.Regions.kept in
    let k = kept c.args.g.now in
    handed_on c.from_residual-in_err-met.result c.in_err-met.field-0.0 (TellsHalt game k (kept c.or_in.new.g) m) c.from_residual-in_err-met.ensures.1
    (joined_told game m k (kept c.pre_env.new.self) (kept c.or_in.new.g) c.in_ok-forced.forced c.args.asm.now (pre_env k.game (k.set c.args.t.now)) Or c.in_err-met.field-0.0 (g.met.G.Regions.exact _) c.requires.asm c.in_ok-forced.ensures.made
    (forced (k.set c.args.t.now) (delayed a j i r are.goal_in are.index_in is) (ap (λ h. pre_env h (k.set c.args.t.now)) same)) (assumption i are.index_in are.asm_is) tt c.in_err-met.ensures.told)

pub returns-clause-told : goal.returns-clause-told
returns-clause-told g c = λ game m a j i r same are is.
    let kept = g.G.Regions.kept in
    let k = kept c.args.g.now in
    let set = either (pre_env k.game (k.set c.args.t.now)) (k.set c.args.asm.now) in
    let made = replaced_as k (kept c.pre_env.new.self) (kept c.or_in.new.g) c.in_ok-forced.forced c.in_ok-met.met c.args.asm.now (pre_env k.game (k.set c.args.t.now)) either (g.met.G.Regions.exact _) c.requires.asm c.in_ok-forced.ensures.made c.in_ok-met.ensures.made in
    IfErr-weaker c.and_in.result _ _
    (λ halt jam. joined_told game m k (kept c.or_in.new.g) (kept c.and_in.new.g) c.in_ok-met.met c.args.cover.now set And halt (g.met.G.Regions.exact _) c.requires.cover made
    (met a j i r are.goal_in are.index_in (ap (λ h. either (pre_env h (k.set c.args.t.now)) (k.set c.args.asm.now)) same ∙ (ap (λ t. either (pre_env game t) (k.set c.args.asm.now)) is ∙ ap (either (pre_env game (delay_at game m a j i r))) are.asm_is)))
    (covered a j are.goal_in are.cover_is) tt jam) c.and_in.ensures.told
