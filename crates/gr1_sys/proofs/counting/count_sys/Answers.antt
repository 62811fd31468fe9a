use Rattle.std.proofs.Common.{◌∙◌, sym, subst, refl, arith}
use Rattle.std.proofs.lemmas.Result.{IfOk-weaker, IfErr-weaker, on_err_weaker}
use Rattle.spec_model.specs.Sets.{all_states}
use Rattle.regions.proofs.Holding.{made_is}
use Rattle.gr1_sys.specs.Givens.{given_regions, given_sets}
use Rattle.gr1_sys.specs.Moment.{iterated, this_value}
use Rattle.gr1_sys.specs.Told.{TellsHalt, TellsOneMoment}
use Rattle.gr1_sys.proofs.Lists.{together_as, made_and_spent_all}
use Rattle.gr1_sys.proofs.Holdings.{dropped}
use Rattle.gr1_sys.proofs.Givings.{is_given}
use Rattle.gr1_sys.proofs.Naming.{given_named}
use Rattle.gr1_sys.proofs.Won.{match_weaker}
use Rattle.gr1_sys.proofs.Told.{handed_on, of_value, past_one, moment_past}
use Rattle.gr1_sys.proofs.Counted.{counted_beneath, lost_by_count, won_by_count, made_gone, if_ok_both}
use Rattle.gr1_sys.proofs.counting.count_sys.Goals as goal

pub winning-requires-clause-given : goal.winning-requires-clause-given
winning-requires-clause-given g c =
    let kept = g.G.Regions.kept in
    is_given (kept c.args.g.now) (kept c.give.new.g) c.in_ok-given.given (g.met.G.Regions.exact _) c.give.ensures.keeps c.in_ok-given.ensures.made c.in_ok-given.ensures.counted

pub spend_given-requires : goal.spend_given-requires
spend_given-requires g c =
    let made = c.in_ok-given.ensures.made in
    let above = c.in-Ok.ensures.counted.made in
    together_as (g.G.Regions.kept c.winning.new.g) (given_regions c.in_ok-given.given) _ (g.met.G.Regions.exact _) made.counted (λ w. omega (arith, made.held w, above.held w))

pub spend_given-requires-in-Err : goal.spend_given-requires-in-Err
spend_given-requires-in-Err g c =
    let made = c.in_ok-given.ensures.made in
    together_as (g.G.Regions.kept c.winning.new.g) (given_regions c.in_ok-given.given) _ (g.met.G.Regions.exact _) made.counted (λ w. omega (arith, made.held w, c.in-Err.ensures.halted w))

pub decide-requires-clause-z : goal.decide-requires-clause-z
decide-requires-clause-z g c =
    let kept = g.G.Regions.kept in
    let counted = counted_beneath (kept c.args.g.now) (kept c.give.new.g) (kept c.winning.new.g) (kept c.spend_given.new.g) (given_regions c.in_ok-given.given) _ c.in-Ok.z c.in-Ok.k (g.met.G.Regions.exact _) c.give.ensures.keeps.game c.in_ok-given.ensures.made c.in-Ok.ensures.counted c.spend_given.ensures.spends in
    λ w. omega (arith, counted.made.held (λ i m. w i))

pub returns-in-Ok-clause-counted : goal.returns-in-Ok-clause-counted
returns-in-Ok-clause-counted g c =
    let kept = g.G.Regions.kept in
    let k = kept c.args.g.now in
    let k3 = kept c.spend_given.new.g in
    let counted = counted_beneath k (kept c.give.new.g) (kept c.winning.new.g) k3 (given_regions c.in_ok-given.given) _ c.in-Ok.z c.in-Ok.k (g.met.G.Regions.exact _) c.give.ensures.keeps.game c.in_ok-given.ensures.made c.in-Ok.ensures.counted c.spend_given.ensures.spends in
    let same = c.spend_given.ensures.keeps.game ∙ (c.winning.ensures.keeps.game ∙ c.give.ensures.keeps.game) in
    if_ok_both c.decide.result _ _ _ (λ o gone decided. match_weaker o _ _ _ _
    (λ unforced. lost_by_count k k3 (kept c.decide.new.g) c.in-Ok.z c.in-Ok.k (g.met.G.Regions.exact _) same c.requires.free counted gone unforced)
    (λ n h. won_by_count k k3 c.in-Ok.z c.in-Ok.k n (g.met.G.Regions.exact _) same counted h) decided) c.decide.ensures.spends c.decide.ensures.decided

pub returns-in-Ok-clause-held : goal.returns-in-Ok-clause-held
returns-in-Ok-clause-held g c =
    let kept = g.G.Regions.kept in
    let k = kept c.args.g.now in
    let k3 = kept c.spend_given.new.g in
    let counted = counted_beneath k (kept c.give.new.g) (kept c.winning.new.g) k3 (given_regions c.in_ok-given.given) _ c.in-Ok.z c.in-Ok.k (g.met.G.Regions.exact _) c.give.ensures.keeps.game c.in_ok-given.ensures.made c.in-Ok.ensures.counted c.spend_given.ensures.spends in
    IfOk-weaker c.decide.result _ _ (λ o gone. (let nothing = made_gone k k3 (kept c.decide.new.g) c.in-Ok.z counted.set (g.met.G.Regions.exact _) counted.made gone in record { held = nothing.0; jam = nothing.1 ∙ sym c.requires.free })) c.decide.ensures.spends

pub returns-in-Ok-clause-halted : goal.returns-in-Ok-clause-halted
returns-in-Ok-clause-halted g c =
    let kept = g.G.Regions.kept in
    let k = kept c.args.g.now in
    let k3 = kept c.spend_given.new.g in
    let counted = counted_beneath k (kept c.give.new.g) (kept c.winning.new.g) k3 (given_regions c.in_ok-given.given) _ c.in-Ok.z c.in-Ok.k (g.met.G.Regions.exact _) c.give.ensures.keeps.game c.in_ok-given.ensures.made c.in-Ok.ensures.counted c.spend_given.ensures.spends in
    on_err_weaker c.decide.result (dropped k k3 (kept c.decide.new.g) c.in-Ok.z counted.set (g.met.G.Regions.exact _) counted.made) c.decide.ensures.halted

pub returns-in-Err-clause-halted : goal.returns-in-Err-clause-halted
returns-in-Err-clause-halted g c =
    let kept = g.G.Regions.kept in
    made_and_spent_all (kept c.args.g.now) (kept c.give.new.g) (kept c.winning.new.g) (kept c.spend_given-in-Err.new.g) (given_regions c.in_ok-given.given) _ (g.met.G.Regions.exact _) c.in_ok-given.ensures.made c.in-Err.ensures.halted c.spend_given-in-Err.ensures.spends

pub returns-in_err-given-clause-told : goal.returns-in_err-given-clause-told
returns-in_err-given-clause-told g c =
    let kept = g.G.Regions.kept in
    let k = kept c.args.g.now in
    let new = kept c.give.new.g in
    let z = all_states k.game in
    let halt = c.in_err-given.field-0.0 in
    handed_on c.from_residual.result halt (TellsOneMoment k new) c.from_residual.ensures.1 (of_value k new z halt (0, refl) (c.in_err-given.ensures.told z))

pub returns-in-Err-clause-told : goal.returns-in-Err-clause-told
returns-in-Err-clause-told g c =
    let kept = g.G.Regions.kept in
    let k = kept c.args.g.now in
    moment_past k (kept c.give.new.g) (kept c.winning.new.g) (kept c.spend_given-in-Err.new.g) (given_regions c.in_ok-given.given) (given_sets k.game) c.in-Err.halt c.give.ensures.keeps.game c.in_ok-given.ensures.made (λ z. given_named k.game z) c.spend_given-in-Err.ensures.spends.jam c.in-Err.ensures.told

pub returns-in-Ok-clause-told : goal.returns-in-Ok-clause-told
returns-in-Ok-clause-told g c =
    let kept = g.G.Regions.kept in
    let k = kept c.args.g.now in
    let k3 = kept c.spend_given.new.g in
    let k4 = kept c.decide.new.g in
    let counted = counted_beneath k (kept c.give.new.g) (kept c.winning.new.g) k3 (given_regions c.in_ok-given.given) _ c.in-Ok.z c.in-Ok.k (g.met.G.Regions.exact _) c.give.ensures.keeps.game c.in_ok-given.ensures.made c.in-Ok.ensures.counted c.spend_given.ensures.spends in
    let game = c.spend_given.ensures.keeps.game ∙ (c.winning.ensures.keeps.game ∙ c.give.ensures.keeps.game) in
    let z_is = (made_is k k3 c.in-Ok.z counted.set (g.met.G.Regions.exact _) counted.made).0 in
    IfErr-weaker c.decide.result _ _
    (λ halt tells. of_value k k4 counted.set halt counted.value
    (past_one k k3 k4 k4 counted.set c.in-Ok.z counted.set halt game counted.made (iterated (this_value refl)) refl (subst (λ t. TellsHalt k3 k4 t halt) z_is tells))) c.decide.ensures.told
