use Rattle.std.proofs.Common.{◌∙◌, ap, subst, sym, arith, [], ◌∷◌}
use Rattle.std.proofs.lemmas.Result.{IfOk-weaker}
use Rattle.spec_model.specs.Sets.{rest}
use Rattle.regions.specs.Kept.{MakesRegion}
use Rattle.regions.specs.declared.types.Recur.TheVariants.{Assumption}
use Rattle.regions.specs.Rules.{states_holding}
use Rattle.gr1_law.specs.Layers.{assumption_set}
use Rattle.regions.proofs.Holding.{set_is}
use Rattle.gr1_sys.proofs.Parted.{halted_above}
use Rattle.gr1_sys.proofs.Givings.{assumption_alone, assumption_there, lapse_alone, lapse_there, lapse_counted, one_above}
use Rattle.regions.specs.Kept.{Not, Holding, States}
use Rattle.gr1_sys.specs.Moment.{IsAssumption, IsNamed, assumption}
use Rattle.gr1_sys.specs.Told.{TellsHalt}
use Rattle.gr1_sys.proofs.Told.{handed_on, told, told_none, past_one}
use Rattle.gr1_sys.proofs.givens.lapse_region.Goals as goal

pub returns-then-is_empty-clause-made : goal.returns-then-is_empty-clause-made
returns-then-is_empty-clause-made g c =
    let kept = g.G.Regions.kept in
    let k = kept c.args.g.now in
    let alone = assumption_alone c.game.result.now k.game c.game.ensures (sym c.is_empty.ensures ∙ c.if-is_empty.true) c.args.i (lapse_counted k.game c.args.i c.requires.there) in
    IfOk-weaker c.none.result _ _ (λ r made. subst (MakesRegion k (kept c.none.new.self) r) (sym (lapse_alone k.game c.args.i c.requires.there alone)) made) c.none.ensures.made

pub holding-requires-clause-there : goal.holding-requires-clause-there
holding-requires-clause-there g c =
    let k = g.G.Regions.kept c.args.g.now in
    (assumption_there c.game.result.now k.game c.game.ensures (sym c.is_empty.ensures ∙ c.if-is_empty.false) c.args.i (lapse_counted k.game c.args.i c.requires.there)).0

pub returns-in-Ok-clause-made : goal.returns-in-Ok-clause-made
returns-in-Ok-clause-made g c =
    let kept = g.G.Regions.kept in
    let k = kept c.args.g.now in
    let k1 = kept c.holding.new.self in
    let found = assumption_there c.game.result.now k.game c.game.ensures (sym c.is_empty.ensures ∙ c.if-is_empty.false) c.args.i (lapse_counted k.game c.args.i c.requires.there) in
    let made = c.in_ok-holds.ensures.made in
    let is = set_is k1 c.in_ok-holds.holds (states_holding k.game (Assumption c.args.i)) (g.met.G.Regions.exact _) (λ w. omega (arith, made.held w)) in
    let rest_is = ap (λ h. rest h (k1.set c.in_ok-holds.holds)) c.holding.ensures.keeps.game ∙ lapse_there k.game c.args.i (k1.set c.in_ok-holds.holds) c.requires.there (is ∙ found.1) in
    one_above k k1 (kept c.not.new.self) (kept c.spend.new.self) c.in_ok-holds.holds c.in-Ok.lapses _ _ (g.met.G.Regions.exact _) made (subst (MakesRegion k1 (kept c.not.new.self) c.in-Ok.lapses) rest_is c.in-Ok.ensures.made) c.spend.ensures.spends

pub returns-in-Err-clause-halted : goal.returns-in-Err-clause-halted
returns-in-Err-clause-halted g c =
    let kept = g.G.Regions.kept in
    halted_above (kept c.args.g.now) (kept c.holding.new.self) (kept c.not.new.self) (kept c.spend-in-Err.new.self) c.in_ok-holds.holds _ (g.met.G.Regions.exact _) c.in_ok-holds.ensures.made c.in-Err.ensures.halted.held c.spend-in-Err.ensures.spends

pub returns-then-is_empty-clause-told : goal.returns-then-is_empty-clause-told
returns-then-is_empty-clause-told g c = λ z.
    let kept = g.G.Regions.kept in
    told_none (kept c.args.g.now) (kept c.none.new.self) c.none.result z c.none.ensures.halted

pub returns-in_err-holds-clause-told : goal.returns-in_err-holds-clause-told
returns-in_err-holds-clause-told g c = λ z.
    let kept = g.G.Regions.kept in
    let k = kept c.args.g.now in
    handed_on c.from_residual.result c.in_err-holds.field-0.0 (TellsHalt k (kept c.holding.new.self) z) c.from_residual.ensures.1
    (told k (kept c.holding.new.self) z Holding [] c.in_err-holds.field-0.0 c.in_err-holds.ensures.halted.jam tt tt)

pub returns-in-Err-clause-told : goal.returns-in-Err-clause-told
returns-in-Err-clause-told g c = λ z.
    let kept = g.G.Regions.kept in
    let k = kept c.args.g.now in
    let k1 = kept c.holding.new.self in
    let made = c.in_ok-holds.ensures.made in
    let found = assumption_there c.game.result.now k.game c.game.ensures (sym c.is_empty.ensures ∙ c.if-is_empty.false) c.args.i (lapse_counted k.game c.args.i c.requires.there) in
    let is = set_is k1 c.in_ok-holds.holds (states_holding k.game (Assumption c.args.i)) (g.met.G.Regions.exact _) (λ w. omega (arith, made.held w)) in
    let index_in : IsAssumption k.game c.args.i = lapse_counted k.game c.args.i c.requires.there in
    let named : IsNamed k1.game z (k1.set c.in_ok-holds.holds) = assumption c.args.i (subst (λ h. IsAssumption h c.args.i) (sym c.holding.ensures.keeps.game) index_in) (is ∙ (found.1 ∙ ap (λ h. assumption_set h c.args.i) (sym c.holding.ensures.keeps.game))) in
    past_one k k1 (kept c.not.new.self) (kept c.spend-in-Err.new.self) z c.in_ok-holds.holds (states_holding k.game (Assumption c.args.i)) c.in-Err.halt c.holding.ensures.keeps.game made (assumption c.args.i index_in found.1) c.spend-in-Err.ensures.spends.jam
    (told k1 (kept c.not.new.self) z Not (States (k1.set c.in_ok-holds.holds) ∷ []) c.in-Err.halt c.in-Err.ensures.halted.jam (named, tt) tt)
