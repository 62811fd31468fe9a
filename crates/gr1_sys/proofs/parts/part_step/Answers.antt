use Rattle.std.proofs.Common.{[], ◌∷◌, ◌∙◌, ap, refl}
use Rattle.std.proofs.lemmas.Result.{IfOk-weaker, IfErr-weaker, on_err_weaker}
use Rattle.spec_model.specs.Sets.{both, either, pre_sys}
use Rattle.gr1_sys.proofs.Holdings.{on_err, same_then, dropped, replaced_as}
use Rattle.regions.specs.Kept.{And, Or, PreSys, States}
use Rattle.gr1_sys.specs.Moment.{part_iterate, iterated, part, forced, lapse, waited, based}
use Rattle.gr1_sys.specs.Told.{TellsHalt}
use Rattle.gr1_sys.proofs.Told.{handed_on, told, joined_told}
use Rattle.gr1_sys.proofs.parts.part_step.Goals as goal

pub returns-in_err-waits-clause-halted : goal.returns-in_err-waits-clause-halted
returns-in_err-waits-clause-halted g c = on_err _ (dropped _ _ _ c.in_ok-forced.forced _ (g.met.G.Regions.exact _) c.in_ok-forced.ensures.made c.in_err-waits.ensures.halted)

pub returns-clause-made : goal.returns-clause-made
returns-clause-made g c =
    let kept = g.G.Regions.kept in
    let k = kept c.args.g.now in
    let waits = replaced_as k (kept c.pre_sys.new.self) (kept c.and_in.new.g) c.in_ok-forced.forced c.in_ok-waits.waits c.args.lapse.now (pre_sys k.game (k.set c.args.x.now)) both (g.met.G.Regions.exact _) c.requires.lapse c.in_ok-forced.ensures.made c.in_ok-waits.ensures.made in
    IfOk-weaker c.or_in.result _ _ (λ r made. replaced_as k (kept c.and_in.new.g) (kept c.or_in.new.g) c.in_ok-waits.waits r c.args.base.now (both (pre_sys k.game (k.set c.args.x.now)) (k.set c.args.lapse.now)) either (g.met.G.Regions.exact _) c.requires.base waits made) c.or_in.ensures.made

pub returns-clause-halted : goal.returns-clause-halted
returns-clause-halted g c =
    let kept = g.G.Regions.kept in
    let k = kept c.args.g.now in
    let waits = replaced_as k (kept c.pre_sys.new.self) (kept c.and_in.new.g) c.in_ok-forced.forced c.in_ok-waits.waits c.args.lapse.now (pre_sys k.game (k.set c.args.x.now)) both (g.met.G.Regions.exact _) c.requires.lapse c.in_ok-forced.ensures.made c.in_ok-waits.ensures.made in
    on_err_weaker c.or_in.result (dropped k (kept c.and_in.new.g) (kept c.or_in.new.g) c.in_ok-waits.waits _ (g.met.G.Regions.exact _) waits) c.or_in.ensures.halted

pub returns-in_err-forced-clause-told : goal.returns-in_err-forced-clause-told
returns-in_err-forced-clause-told g c = λ z j r i n are is.
    let kept = g.G.Regions.kept in
    let k = kept c.args.g.now in
    handed_on c.from_residual.result c.in_err-forced.field-0.0 (TellsHalt k (kept c.pre_sys.new.self) z) c.from_residual.ensures.1
    (told k (kept c.pre_sys.new.self) z PreSys (States (k.set c.args.x.now) ∷ []) c.in_err-forced.field-0.0 c.in_err-forced.ensures.halted.jam (iterated (part j r i n are.goal_in are.index_in is), tt) (part j r i n are.goal_in are.index_in is, tt))

pub returns-in_err-waits-clause-told : goal.returns-in_err-waits-clause-told
returns-in_err-waits-clause-told g c = λ z j r i n are is.
    let kept = g.G.Regions.kept in
    let k = kept c.args.g.now in
    handed_on c.from_residual-in_err-waits.result c.in_err-waits.field-0.0 (TellsHalt k (kept c.and_in.new.g) z) c.from_residual-in_err-waits.ensures.1
    (joined_told k (kept c.pre_sys.new.self) (kept c.and_in.new.g) z c.in_ok-forced.forced c.args.lapse.now (pre_sys k.game (k.set c.args.x.now)) And c.in_err-waits.field-0.0 (g.met.G.Regions.exact _) c.pre_sys.ensures.keeps.game c.requires.lapse c.in_ok-forced.ensures.made
    (forced (k.set c.args.x.now) (part j r i n are.goal_in are.index_in is) refl) (lapse i are.index_in are.away_is) tt c.in_err-waits.ensures.told)

pub returns-clause-told : goal.returns-clause-told
returns-clause-told g c = λ z j r i n are is.
    let kept = g.G.Regions.kept in
    let k = kept c.args.g.now in
    let waits = replaced_as k (kept c.pre_sys.new.self) (kept c.and_in.new.g) c.in_ok-forced.forced c.in_ok-waits.waits c.args.lapse.now (pre_sys k.game (k.set c.args.x.now)) both (g.met.G.Regions.exact _) c.requires.lapse c.in_ok-forced.ensures.made c.in_ok-waits.ensures.made in
    IfErr-weaker c.or_in.result _ _
    (λ halt jam. joined_told k (kept c.and_in.new.g) (kept c.or_in.new.g) z c.in_ok-waits.waits c.args.base.now (both (pre_sys k.game (k.set c.args.x.now)) (k.set c.args.lapse.now)) Or halt (g.met.G.Regions.exact _) (same_then k (kept c.pre_sys.new.self) (kept c.and_in.new.g) c.pre_sys.ensures.keeps c.and_in.ensures.keeps).game c.requires.base waits
    (waited j r i n are.goal_in are.index_in (ap (λ t. both (pre_sys k.game t) (k.set c.args.lapse.now)) is ∙ ap (both (pre_sys k.game (part_iterate k.game z j r i n))) are.away_is)) (based j r are.goal_in are.base_is) tt jam) c.or_in.ensures.told
