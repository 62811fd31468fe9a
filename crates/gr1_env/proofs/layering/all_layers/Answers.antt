use Rattle.std.proofs.Common.{◌∙◌, length, map, subst, refl, arith}
use Rattle.gr1_env.specs.Solution.{layer_on}
use Rattle.gr1_env.specs.Held.{GrowsLayers, all_regions, last_z}
use Rattle.gr1_sys.proofs.Holdings.{on_err, same_then}
use Rattle.gr1_sys.proofs.Lists.{sets_stay, together_as, made_and_taken_all}
use Rattle.gr1_env.proofs.Givings.{given_stays}
use Rattle.gr1_env.proofs.Growing.{climbs_first, climbs_next, climbs_fewer, climbed, last_stays, grows_at}
use Rattle.gr1_env.specs.Held.{all_sets}
use Rattle.gr1_env.specs.Told.{AreGiven, TellsLayers, moment_at}
use Rattle.gr1_env.proofs.Told.{handed_on, at_layers, layer_past}
use Rattle.gr1_env.proofs.Naming.{value_other, layer_is, layers_named}
use Rattle.gr1_env.proofs.layering.all_layers.Goals as goal

pub loop-more-init : goal.loop-more-init
loop-more-init g c =
    let first = g.G.Regions.kept c.args.g.now in
    record {
      climbs = climbs_first first c.args.given.now.none (map first.set c.args.given.now.misses.items) (map first.set c.args.given.now.asms.items) c.new-layers.result.items c.new-layers.ensures.items c.requires.free c.requires.given.empty;
      same = record { game = refl; bound = refl };
    }

pub grow-requires-clause-free : goal.grow-requires-clause-free
grow-requires-clause-free g c = c.loop-more.invariant.climbs.made.jam

pub grow-requires-clause-given : goal.grow-requires-clause-given
grow-requires-clause-given g c =
    let kept = g.G.Regions.kept in
    given_stays (kept c.args.g.now) (kept c.loop-more.g) c.args.given.now (g.met.G.Regions.exact _) (λ w. omega (arith, c.loop-more.invariant.climbs.made.held w)) c.requires.given

pub grow-requires-clause-layers : goal.grow-requires-clause-layers
grow-requires-clause-layers g c =
    let kept = g.G.Regions.kept in
    let made = c.loop-more.invariant.climbs.made in
    together_as (kept c.loop-more.g) (all_regions c.loop-more.layers.items) _ (g.met.G.Regions.exact _) made.counted (λ w. omega (arith, made.held w))

pub returns-in_err-more-clause-halted : goal.returns-in_err-more-clause-halted
returns-in_err-more-clause-halted g c =
    let kept = g.G.Regions.kept in
    on_err _ (made_and_taken_all (kept c.args.g.now) (kept c.loop-more.g) (kept c.grow.new.g) (all_regions c.loop-more.layers.items) _ (g.met.G.Regions.exact _) c.loop-more.invariant.climbs.made c.in_err-more.ensures.halted)

pub loop-more-preserved : goal.loop-more-preserved
loop-more-preserved g c =
    let kept = g.G.Regions.kept in
    let first = kept c.args.g.now in
    let k = kept c.loop-more.g in
    let new = kept c.grow.new.g in
    let inv = c.loop-more.invariant in
    let ls = c.loop-more.layers.items in
    let given = c.args.given.now in
    let misses = map first.set given.misses.items in
    let asms = map first.set given.asms.items in
    let misses_are = sets_stay first k given.misses.items (g.met.G.Regions.exact _) (λ w. omega (arith, inv.climbs.made.held w)) c.requires.given.misses in
    let asms_are = sets_stay first k given.asms.items (g.met.G.Regions.exact _) (λ w. omega (arith, inv.climbs.made.held w)) c.requires.given.asms in
    let grown = grows_at first.game k new (k.set (last_z given.none ls)) (layer_on first.game misses asms (length ls)) _ misses _ asms ls c.in_ok-more.more.items c.in_ok-more.settled inv.same.game inv.climbs.last misses_are asms_are c.in_ok-more.ensures.grown in
    record {
      climbs = climbs_next first.game first k new given.none misses asms ls c.in_ok-more.more.items inv.climbs (g.met.G.Regions.exact _)
          (subst (GrowsLayers first.game k new (layer_on first.game misses asms (length ls)) misses asms ls c.in_ok-more.more.items) c.if-settled.false grown);
      same = same_then first k new inv.same c.grow.ensures.keeps;
    }

pub loop-more-smaller : goal.loop-more-smaller
loop-more-smaller g c =
    let kept = g.G.Regions.kept in
    let first = kept c.args.g.now in
    let k = kept c.loop-more.g in
    let new = kept c.grow.new.g in
    let inv = c.loop-more.invariant in
    let ls = c.loop-more.layers.items in
    let given = c.args.given.now in
    let misses = map first.set given.misses.items in
    let asms = map first.set given.asms.items in
    let misses_are = sets_stay first k given.misses.items (g.met.G.Regions.exact _) (λ w. omega (arith, inv.climbs.made.held w)) c.requires.given.misses in
    let asms_are = sets_stay first k given.asms.items (g.met.G.Regions.exact _) (λ w. omega (arith, inv.climbs.made.held w)) c.requires.given.asms in
    let grown = grows_at first.game k new (k.set (last_z given.none ls)) (layer_on first.game misses asms (length ls)) _ misses _ asms ls c.in_ok-more.more.items c.in_ok-more.settled inv.same.game inv.climbs.last misses_are asms_are c.in_ok-more.ensures.grown in
    let fewer = climbs_fewer first.game first k new given.none misses asms ls c.in_ok-more.more.items inv.climbs (g.met.G.Regions.exact _)
    (subst (GrowsLayers first.game k new (layer_on first.game misses asms (length ls)) misses asms ls c.in_ok-more.more.items) c.if-settled.false grown) in
    rw (c.grow.ensures.keeps.game, inv.same.game) fewer

pub returns-then-settled-clause-made : goal.returns-then-settled-clause-made
returns-then-settled-clause-made g c =
    let kept = g.G.Regions.kept in
    let first = kept c.args.g.now in
    let k = kept c.loop-more.g in
    let new = kept c.grow.new.g in
    let inv = c.loop-more.invariant in
    let ls = c.loop-more.layers.items in
    let given = c.args.given.now in
    let misses = map first.set given.misses.items in
    let asms = map first.set given.asms.items in
    let misses_are = sets_stay first k given.misses.items (g.met.G.Regions.exact _) (λ w. omega (arith, inv.climbs.made.held w)) c.requires.given.misses in
    let asms_are = sets_stay first k given.asms.items (g.met.G.Regions.exact _) (λ w. omega (arith, inv.climbs.made.held w)) c.requires.given.asms in
    let grown = grows_at first.game k new (k.set (last_z given.none ls)) (layer_on first.game misses asms (length ls)) _ misses _ asms ls c.in_ok-more.more.items c.in_ok-more.settled inv.same.game inv.climbs.last misses_are asms_are c.in_ok-more.ensures.grown in
    climbed first.game first k new given.none misses asms ls c.in_ok-more.more.items inv.climbs
    (subst (GrowsLayers first.game k new (layer_on first.game misses asms (length ls)) misses asms ls c.in_ok-more.more.items) c.if-settled.true grown)

pub returns-then-settled-clause-last : goal.returns-then-settled-clause-last
returns-then-settled-clause-last g c =
    let kept = g.G.Regions.kept in
    let first = kept c.args.g.now in
    let k = kept c.loop-more.g in
    let new = kept c.grow.new.g in
    let inv = c.loop-more.invariant in
    let ls = c.loop-more.layers.items in
    let given = c.args.given.now in
    let misses = map first.set given.misses.items in
    let asms = map first.set given.asms.items in
    let misses_are = sets_stay first k given.misses.items (g.met.G.Regions.exact _) (λ w. omega (arith, inv.climbs.made.held w)) c.requires.given.misses in
    let asms_are = sets_stay first k given.asms.items (g.met.G.Regions.exact _) (λ w. omega (arith, inv.climbs.made.held w)) c.requires.given.asms in
    let grown = grows_at first.game k new (k.set (last_z given.none ls)) (layer_on first.game misses asms (length ls)) _ misses _ asms ls c.in_ok-more.more.items c.in_ok-more.settled inv.same.game inv.climbs.last misses_are asms_are c.in_ok-more.ensures.grown in
    last_stays first.game first k new given.none misses asms ls c.in_ok-more.more.items inv.climbs (g.met.G.Regions.exact _) c.requires.given.none
    (subst (GrowsLayers first.game k new (layer_on first.game misses asms (length ls)) misses asms ls c.in_ok-more.more.items) c.if-settled.true grown)

pub returns-in_err-more-clause-told : goal.returns-in_err-more-clause-told
returns-in_err-more-clause-told g c = λ game same are.
    let kept = g.G.Regions.kept in
    let first = kept c.args.g.now in
    let k = kept c.loop-more.g in
    let new = kept c.grow.new.g in
    let inv = c.loop-more.invariant in
    let ls = c.loop-more.layers.items in
    let n = length ls in
    let given = c.args.given.now in
    let misses = map first.set given.misses.items in
    let asms = map first.set given.asms.items in
    let halt = c.in_err-more.field-0.0 in
    let misses_now = sets_stay first k given.misses.items (g.met.G.Regions.exact _) (λ w. omega (arith, inv.climbs.made.held w)) c.requires.given.misses in
    let asms_now = sets_stay first k given.asms.items (g.met.G.Regions.exact _) (λ w. omega (arith, inv.climbs.made.held w)) c.requires.given.asms in
    let now : AreGiven game (map k.set given.misses.items) (map k.set given.asms.items) = record { misses_are = misses_now ∙ are.misses_are; asms_are = asms_now ∙ are.asms_are } in
    handed_on c.from_residual.result halt (TellsLayers game first new) c.from_residual.ensures.1
    (at_layers game first k new new n halt
    (layer_past game first k new new n (all_regions ls) (all_sets first.game misses asms ls) halt inv.climbs.made
    (λ j y. layers_named game (moment_at game n j y).value first.game n misses asms ls same are (omega arith) (λ b i before. value_other game n j y b i (λ same' _. absurd (omega (arith, before, same')))) inv.climbs.whole) refl
    (c.in_err-more.ensures.told game n (inv.same.game ∙ same) (inv.climbs.last ∙ layer_is game first.game misses asms n same are) now)))
