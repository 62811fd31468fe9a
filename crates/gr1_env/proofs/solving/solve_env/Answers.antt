use Rattle.std.proofs.Common.{map, arith, refl}
use Rattle.gr1_sys.proofs.Lists.{together_as, made_and_spent_all}
use Rattle.gr1_sys.proofs.Won.{match_weaker}
use Rattle.gr1_env.specs.Givens.{given_regions, given_sets}
use Rattle.gr1_env.proofs.Givings.{given_as}
use Rattle.gr1_env.specs.Told.{layers_for, TellsOneMoment, moment_at}
use Rattle.gr1_env.proofs.Deciding.{still_held}
use Rattle.gr1_env.proofs.Shown.{won_is, lost_is}
use Rattle.spec_model.specs.Sets.{all_states}
use Rattle.gr1_env.proofs.Told.{handed_on, layers_past}
use Rattle.gr1_env.proofs.Settled.{of_one_moment, some_each}
use Rattle.gr1_env.proofs.Naming.{given_named, at_moment, of_layers}
use Rattle.gr1_env.proofs.solving.solve_env.Goals as goal

pub winning-requires-clause-given : goal.winning-requires-clause-given
winning-requires-clause-given g c =
    let kept = g.G.Regions.kept in
    (given_as (kept c.args.g.now) (kept c.give.new.g) c.in_ok-given.given (g.met.G.Regions.exact _) c.in_ok-given.ensures.made c.in_ok-given.ensures.counted).is

pub spend_given-requires : goal.spend_given-requires
spend_given-requires g c =
    let kept = g.G.Regions.kept in
    let made = c.in_ok-given.ensures.made in
    together_as (kept c.winning.new.g) (given_regions c.in_ok-given.given) _ (g.met.G.Regions.exact _) made.counted
    (still_held (kept c.args.g.now) (kept c.give.new.g) (kept c.winning.new.g) (given_regions c.in_ok-given.given) _ _ _ c.in-Ok.won (λ (l : _). l.layers.items) made c.in-Ok.ensures.won)

pub spend_given-requires-in-Err : goal.spend_given-requires-in-Err
spend_given-requires-in-Err g c =
    let made = c.in_ok-given.ensures.made in
    together_as (g.G.Regions.kept c.winning.new.g) (given_regions c.in_ok-given.given) _ (g.met.G.Regions.exact _) made.counted (λ w. omega (arith, made.held w, c.in-Err.ensures.halted w))

pub returns-in-Ok-clause-solved : goal.returns-in-Ok-clause-solved
returns-in-Ok-clause-solved g c =
    let kept = g.G.Regions.kept in
    let k = kept c.args.g.now in
    let k1 = kept c.give.new.g in
    let k2 = kept c.winning.new.g in
    let k3 = kept c.spend_given.new.g in
    let given = c.in_ok-given.given in
    let made = c.in_ok-given.ensures.made in
    let gives = given_as k k1 given (g.met.G.Regions.exact _) made c.in_ok-given.ensures.counted in
    let gone = c.spend_given.ensures.spends in
    match_weaker c.in-Ok.won _ _ _ _
    (lost_is k k1 k2 k3 (map k1.set given.misses.items) (map k1.set given.asms.items) (given_regions given) (given_sets k.game) (g.met.G.Regions.exact _) c.give.ensures.keeps.game gives.misses gives.asms made gone c.requires.free)
    (λ l won. (layers_for k.game, won_is k k1 k2 k3 (map k1.set given.misses.items) (map k1.set given.asms.items) (given_regions given) (given_sets k.game) (g.met.G.Regions.exact _) c.give.ensures.keeps.game gives.misses gives.asms made gone l.layers.items (g.met.G.Regions.exact _) won))
    c.in-Ok.ensures.won

pub returns-in-Err-clause-halted : goal.returns-in-Err-clause-halted
returns-in-Err-clause-halted g c =
    let kept = g.G.Regions.kept in
    made_and_spent_all (kept c.args.g.now) (kept c.give.new.g) (kept c.winning.new.g) (kept c.spend_given-in-Err.new.g) (given_regions c.in_ok-given.given) _ (g.met.G.Regions.exact _) c.in_ok-given.ensures.made c.in-Err.ensures.halted c.spend_given-in-Err.ensures.spends

pub returns-in_err-given-clause-told : goal.returns-in_err-given-clause-told
returns-in_err-given-clause-told g c =
    let kept = g.G.Regions.kept in
    let k = kept c.args.g.now in
    let new = kept c.give.new.g in
    let halt = c.in_err-given.field-0.0 in
    handed_on c.from_residual.result halt (TellsOneMoment k new) c.from_residual.ensures.1
    (at_moment k new 0 0 (all_states k.game) halt (0, refl) (c.in_err-given.ensures.told k.game (moment_at k.game 0 0 (all_states k.game)) refl))

pub returns-in-Err-clause-told : goal.returns-in-Err-clause-told
returns-in-Err-clause-told g c =
    let kept = g.G.Regions.kept in
    let k = kept c.args.g.now in
    let k1 = kept c.give.new.g in
    let given = c.in_ok-given.given in
    let made = c.in_ok-given.ensures.made in
    let gives = given_as k k1 given (g.met.G.Regions.exact _) made c.in_ok-given.ensures.counted in
    let last = kept c.spend_given-in-Err.new.g in
    of_layers k last c.in-Err.halt
    (layers_past k.game k k1 (kept c.winning.new.g) last (given_regions given) (given_sets k.game) c.in-Err.halt made (λ a j y. given_named k.game (moment_at k.game a j y)) c.spend_given-in-Err.ensures.spends.jam
    (c.in-Err.ensures.told k.game c.give.ensures.keeps.game (record { misses_are = gives.misses; asms_are = gives.asms })))

pub returns-in-Ok-clause-moment : goal.returns-in-Ok-clause-moment
returns-in-Ok-clause-moment g c = some_each c.in-Ok.won _ (λ l. λ sets won. of_one_moment (g.G.Regions.kept c.args.g.now) (g.G.Regions.kept c.spend_given.new.g) l.layers.items sets won)
