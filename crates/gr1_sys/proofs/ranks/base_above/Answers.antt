use Rattle.std.proofs.Common.{[], ◌∷◌, refl}
use Rattle.std.proofs.lemmas.Result.{IfOk-weaker, IfErr-weaker, on_err_weaker}
use Rattle.spec_model.specs.Sets.{either, pre_sys}
use Rattle.gr1_sys.proofs.Holdings.{dropped, replaced_as}
use Rattle.regions.specs.Kept.{Or, PreSys, States}
use Rattle.gr1_sys.specs.Moment.{iterated, layer, forced, reached}
use Rattle.gr1_sys.specs.Told.{TellsHalt}
use Rattle.gr1_sys.proofs.Told.{handed_on, told, joined_told}
use Rattle.gr1_sys.proofs.ranks.base_above.Goals as goal

pub returns-clause-made : goal.returns-clause-made
returns-clause-made g c =
    let kept = g.G.Regions.kept in
    let k = kept c.args.g.now in
    IfOk-weaker c.or_in.result _ _ (λ r made. replaced_as k (kept c.pre_sys.new.self) (kept c.or_in.new.g) c.in_ok-forced.forced r c.args.reach.now (pre_sys k.game (k.set c.args.below.now)) either (g.met.G.Regions.exact _) c.requires.reach c.in_ok-forced.ensures.made made) c.or_in.ensures.made

pub returns-clause-halted : goal.returns-clause-halted
returns-clause-halted g c =
    let kept = g.G.Regions.kept in
    on_err_weaker c.or_in.result (dropped (kept c.args.g.now) (kept c.pre_sys.new.self) (kept c.or_in.new.g) c.in_ok-forced.forced _ (g.met.G.Regions.exact _) c.in_ok-forced.ensures.made) c.or_in.ensures.halted

pub returns-in_err-forced-clause-told : goal.returns-in_err-forced-clause-told
returns-in_err-forced-clause-told g c = λ z j r goal_in reach_is low_is.
    let kept = g.G.Regions.kept in
    let k = kept c.args.g.now in
    handed_on c.from_residual.result c.in_err-forced.field-0.0 (TellsHalt k (kept c.pre_sys.new.self) z) c.from_residual.ensures.1
    (told k (kept c.pre_sys.new.self) z PreSys (States (k.set c.args.below.now) ∷ []) c.in_err-forced.field-0.0 c.in_err-forced.ensures.halted.jam (iterated (layer j r goal_in low_is), tt) (layer j r goal_in low_is, tt))

pub returns-clause-told : goal.returns-clause-told
returns-clause-told g c = λ z j r goal_in reach_is low_is.
    let kept = g.G.Regions.kept in
    let k = kept c.args.g.now in
    IfErr-weaker c.or_in.result _ _
    (λ halt jam. joined_told k (kept c.pre_sys.new.self) (kept c.or_in.new.g) z c.in_ok-forced.forced c.args.reach.now (pre_sys k.game (k.set c.args.below.now)) Or halt (g.met.G.Regions.exact _) c.pre_sys.ensures.keeps.game c.requires.reach c.in_ok-forced.ensures.made
    (forced (k.set c.args.below.now) (layer j r goal_in low_is) refl) (reached j goal_in reach_is) tt jam) c.or_in.ensures.told
