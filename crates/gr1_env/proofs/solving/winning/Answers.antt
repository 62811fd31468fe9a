use Rattle.std.proofs.Common.{◌∙◌, length, map, arith, refl}
use Rattle.std.proofs.lemmas.Result.{IfOk-weaker, IfErr-weaker, on_err_weaker}
use Rattle.gr1_sys.proofs.Lists.{together_as, made_and_taken_all}
use Rattle.gr1_sys.proofs.Won.{match_weaker}
use Rattle.gr1_env.specs.Held.{all_regions}
use Rattle.gr1_env.proofs.Givings.{given_stays}
use Rattle.gr1_env.proofs.Deciding.{lost, won}
use Rattle.gr1_env.specs.Told.{TellsLayers, hold_number, moment_at}
use Rattle.gr1_env.proofs.Told.{handed_on, past_many, at_hold, at_layer, at_layers}
use Rattle.gr1_env.proofs.Naming.{some_goal, hold_is_value, value_settled, layer_is, last_number, layers_named}
use Rattle.gr1_env.proofs.solving.winning.Goals as goal

pub decide-requires-clause-given : goal.decide-requires-clause-given
decide-requires-clause-given g c =
    let kept = g.G.Regions.kept in
    given_stays (kept c.args.g.now) (kept c.all_layers.new.g) c.args.given.now (g.met.G.Regions.exact _) (λ w. omega (arith, c.in_ok-layers.ensures.made.made.held w)) c.requires.given

pub decide-requires-clause-held : goal.decide-requires-clause-held
decide-requires-clause-held g c =
    let made = c.in_ok-layers.ensures.made.made in
    together_as (g.G.Regions.kept c.all_layers.new.g) (all_regions c.in_ok-layers.layers.items) _ (g.met.G.Regions.exact _) made.counted (λ w. omega (arith, made.held w))

pub returns-clause-won : goal.returns-clause-won
returns-clause-won g c =
    let kept = g.G.Regions.kept in
    let k = kept c.args.g.now in
    let k1 = kept c.all_layers.new.g in
    let k2 = kept c.decide.new.g in
    let misses = map k.set c.args.given.now.misses.items in
    let asms = map k.set c.args.given.now.asms.items in
    let ls = c.in_ok-layers.layers.items in
    IfOk-weaker c.decide.result _ _ (λ o. match_weaker o _ _ _ _
    (λ dropped. lost k k1 k2 _ misses asms ls (g.met.G.Regions.exact _) c.requires.free c.all_layers.ensures.keeps.game c.in_ok-layers.ensures.last c.in_ok-layers.ensures.made dropped)
    (λ l h. won k k1 k2 _ misses asms ls l.layers.items h.0 c.all_layers.ensures.keeps.game c.in_ok-layers.ensures.last c.in_ok-layers.ensures.made h.1)) c.decide.ensures.decided

pub returns-clause-halted : goal.returns-clause-halted
returns-clause-halted g c =
    let kept = g.G.Regions.kept in
    on_err_weaker c.decide.result (made_and_taken_all (kept c.args.g.now) (kept c.all_layers.new.g) (kept c.decide.new.g) (all_regions c.in_ok-layers.layers.items) _ (g.met.G.Regions.exact _) c.in_ok-layers.ensures.made.made) c.decide.ensures.halted

pub returns-in_err-layers-clause-told : goal.returns-in_err-layers-clause-told
returns-in_err-layers-clause-told g c = λ game same are.
    let kept = g.G.Regions.kept in
    handed_on c.from_residual.result c.in_err-layers.field-0.0 (TellsLayers game (kept c.args.g.now) (kept c.all_layers.new.g)) c.from_residual.ensures.1 (c.in_err-layers.ensures.told game same are)

pub returns-clause-told : goal.returns-clause-told
returns-clause-told g c = λ game same are.
    let kept = g.G.Regions.kept in
    let k = kept c.args.g.now in
    let k1 = kept c.all_layers.new.g in
    let k2 = kept c.decide.new.g in
    let misses = map k.set c.args.given.now.misses.items in
    let asms = map k.set c.args.given.now.asms.items in
    let ls = c.in_ok-layers.layers.items in
    let n = length ls in
    let have = c.in_ok-layers.ensures.made in
    let y = hold_number game n 0 in
    let m = moment_at game n 0 y in
    let last_is = c.in_ok-layers.ensures.last ∙ layer_is game k.game misses asms n same are in
    IfErr-weaker c.decide.result _ _
    (λ halt tells. at_layers game k k1 k2 k2 n halt
    (at_layer game k k1 k2 k2 n 0 halt (some_goal game)
    (at_hold game k k1 k2 k2 n 0 y halt (hold_is_value game n 0)
    (past_many game m k k1 k2 k2 (all_regions ls) _ halt have.made (layers_named game m.value k.game n misses asms ls same are (omega arith) (λ b i before. value_settled game n 0 b i) have.whole) refl
    tells))))
    (c.decide.ensures.told game m n (c.all_layers.ensures.keeps.game ∙ same) (last_number game k.game misses asms n same are have.count) last_is)
