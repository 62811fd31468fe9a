use Rattle.std.proofs.Common.{◌∙◌, ◌∷◌, arith, refl, subst}
use Rattle.std.proofs.lemmas.Result.{IfOk-weaker, IfErr-weaker, on_err_weaker}
use Rattle.gr1_sys.specs.Givens.{given_regions, given_sets}
use Rattle.gr1_sys.specs.Held.{all_regions, sets_of, rank_sets}
use Rattle.gr1_sys.proofs.Lists.{together_as, made_and_spent_all, made_and_taken_all}
use Rattle.gr1_sys.proofs.Givings.{is_given}
use Rattle.gr1_sys.proofs.Won.{layers_left, lost, won, match_weaker}
use Rattle.spec_model.specs.Sets.{all_states}
use Rattle.gr1_sys.specs.Moment.{IsValueOfZ, iterated, this_value}
use Rattle.gr1_sys.specs.Told.{TellsHalt, TellsOneMoment}
use Rattle.gr1_sys.proofs.Rounds.{first_is}
use Rattle.gr1_sys.proofs.Told.{handed_on, past_many, of_value, moment_past}
use Rattle.gr1_sys.proofs.Naming.{layers_named, given_named}
use Rattle.gr1_sys.proofs.solving.solve_sys.Goals as goal

pub winning-requires-clause-given : goal.winning-requires-clause-given
winning-requires-clause-given g c =
    let kept = g.G.Regions.kept in
    is_given (kept c.args.g.now) (kept c.give.new.g) c.in_ok-given.given (g.met.G.Regions.exact _) c.give.ensures.keeps c.in_ok-given.ensures.made c.in_ok-given.ensures.counted

pub spend_given-requires : goal.spend_given-requires
spend_given-requires g c =
    let made = c.in_ok-given.ensures.made in
    let above = c.in-Ok.ensures.won.layers.made in
    together_as (g.G.Regions.kept c.winning.new.g) (given_regions c.in_ok-given.given) _ (g.met.G.Regions.exact _) made.counted (λ w. omega (arith, made.held w, above.held w))

pub decide-requires-clause-held : goal.decide-requires-clause-held
decide-requires-clause-held g c =
    let kept = g.G.Regions.kept in
    let left = layers_left (kept c.args.g.now) (kept c.give.new.g) (kept c.winning.new.g) (kept c.spend_given.new.g) (given_regions c.in_ok-given.given) _ c.in-Ok.z c.in-Ok.goals.items (g.met.G.Regions.exact _) c.give.ensures.keeps.game c.in_ok-given.ensures.made c.in-Ok.ensures.won c.spend_given.ensures.spends in
    let set = (kept c.winning.new.g).set c.in-Ok.z in
    together_as (kept c.spend_given.new.g) (c.in-Ok.z ∷ all_regions c.in-Ok.goals.items) (set ∷ sets_of (rank_sets (kept c.args.g.now).game set) c.in-Ok.goals.items) (g.met.G.Regions.exact _) left.0.made.counted (λ w. omega (arith, left.0.made.held w))

pub spend_given-requires-in-Err : goal.spend_given-requires-in-Err
spend_given-requires-in-Err g c =
    let made = c.in_ok-given.ensures.made in
    together_as (g.G.Regions.kept c.winning.new.g) (given_regions c.in_ok-given.given) _ (g.met.G.Regions.exact _) made.counted (λ w. omega (arith, made.held w, c.in-Err.ensures.halted w))

pub returns-in-Ok-clause-solved : goal.returns-in-Ok-clause-solved
returns-in-Ok-clause-solved g c =
    let kept = g.G.Regions.kept in
    let k = kept c.args.g.now in
    let k2 = kept c.winning.new.g in
    let k3 = kept c.spend_given.new.g in
    let k4 = kept c.decide.new.g in
    let left = layers_left k (kept c.give.new.g) k2 k3 (given_regions c.in_ok-given.given) _ c.in-Ok.z c.in-Ok.goals.items (g.met.G.Regions.exact _) c.give.ensures.keeps.game c.in_ok-given.ensures.made c.in-Ok.ensures.won c.spend_given.ensures.spends in
    let same = c.spend_given.ensures.keeps.game ∙ (c.winning.ensures.keeps.game ∙ c.give.ensures.keeps.game) in
    IfOk-weaker c.decide.result _ _ (λ o. match_weaker o _ _ _ _
    (lost k k3 k4 c.in-Ok.z (k2.set c.in-Ok.z) c.in-Ok.goals.items (g.met.G.Regions.exact _) same c.requires.free left.0 left.1)
    (λ l h. won k k3 k4 c.in-Ok.z l.z (k2.set c.in-Ok.z) c.in-Ok.goals.items l.goals.items (g.met.G.Regions.exact _) (g.met.G.Regions.exact _) same left.0 left.1 h.0 h.1.0 h.1.1)) c.decide.ensures.decided

pub returns-in-Ok-clause-halted : goal.returns-in-Ok-clause-halted
returns-in-Ok-clause-halted g c =
    let kept = g.G.Regions.kept in
    let left = layers_left (kept c.args.g.now) (kept c.give.new.g) (kept c.winning.new.g) (kept c.spend_given.new.g) (given_regions c.in_ok-given.given) _ c.in-Ok.z c.in-Ok.goals.items (g.met.G.Regions.exact _) c.give.ensures.keeps.game c.in_ok-given.ensures.made c.in-Ok.ensures.won c.spend_given.ensures.spends in
    on_err_weaker c.decide.result (made_and_taken_all (kept c.args.g.now) (kept c.spend_given.new.g) (kept c.decide.new.g) (c.in-Ok.z ∷ all_regions c.in-Ok.goals.items) _ (g.met.G.Regions.exact _) left.0.made) c.decide.ensures.halted

pub returns-in-Err-clause-halted : goal.returns-in-Err-clause-halted
returns-in-Err-clause-halted g c =
    let kept = g.G.Regions.kept in
    made_and_spent_all (kept c.args.g.now) (kept c.give.new.g) (kept c.winning.new.g) (kept c.spend_given-in-Err.new.g) (given_regions c.in_ok-given.given) _ (g.met.G.Regions.exact _) c.in_ok-given.ensures.made c.in-Err.ensures.halted c.spend_given-in-Err.ensures.spends

pub returns-in_err-given-clause-told : goal.returns-in_err-given-clause-told
returns-in_err-given-clause-told g c =
    let kept = g.G.Regions.kept in
    let k = kept c.args.g.now in
    let new = kept c.give.new.g in
    let z = all_states k.game in
    let halt = c.in_err-given.field-0.0 in
    handed_on c.from_residual.result halt (TellsOneMoment k new) c.from_residual.ensures.1 (of_value k new z halt (0, refl) (c.in_err-given.ensures.told z))

pub returns-in-Err-clause-told : goal.returns-in-Err-clause-told
returns-in-Err-clause-told g c =
    let kept = g.G.Regions.kept in
    let k = kept c.args.g.now in
    moment_past k (kept c.give.new.g) (kept c.winning.new.g) (kept c.spend_given-in-Err.new.g) (given_regions c.in_ok-given.given) (given_sets k.game) c.in-Err.halt c.give.ensures.keeps.game c.in_ok-given.ensures.made (λ z. given_named k.game z) c.spend_given-in-Err.ensures.spends.jam c.in-Err.ensures.told

pub returns-in-Ok-clause-told : goal.returns-in-Ok-clause-told
returns-in-Ok-clause-told g c =
    let kept = g.G.Regions.kept in
    let k = kept c.args.g.now in
    let k2 = kept c.winning.new.g in
    let k3 = kept c.spend_given.new.g in
    let k4 = kept c.decide.new.g in
    let z = k2.set c.in-Ok.z in
    let goals = c.in-Ok.goals.items in
    let left = layers_left k (kept c.give.new.g) k2 k3 (given_regions c.in_ok-given.given) _ c.in-Ok.z goals (g.met.G.Regions.exact _) c.give.ensures.keeps.game c.in_ok-given.ensures.made c.in-Ok.ensures.won c.spend_given.ensures.spends in
    let game = c.spend_given.ensures.keeps.game ∙ (c.winning.ensures.keeps.game ∙ c.give.ensures.keeps.game) in
    let made = left.0.made in
    let z_is = first_is k k3 c.in-Ok.z (all_regions goals) z (sets_of (rank_sets k.game z) goals) (g.met.G.Regions.exact _) made in
    let value = subst (λ h. IsValueOfZ h z) c.give.ensures.keeps.game c.in-Ok.ensures.value in
    IfErr-weaker c.decide.result _ _
    (λ halt tells. of_value k k4 z halt value
    (past_many k k3 k4 k4 z (c.in-Ok.z ∷ all_regions goals) (z ∷ sets_of (rank_sets k.game z) goals) halt game made (iterated (this_value refl), layers_named k.game z goals (omega (arith, left.0.counted))) refl
    (subst (λ t. TellsHalt k3 k4 t halt) z_is tells))) c.decide.ensures.told
