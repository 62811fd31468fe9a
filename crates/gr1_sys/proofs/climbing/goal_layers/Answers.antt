use Rattle.std.proofs.Common.{◌∙◌, length, subst, refl, arith, ap, sym}
use Rattle.gr1_sys.specs.Held.{Grows, rank_sets, flatten, goal_regions, last_region}
use Rattle.gr1_sys.proofs.Holdings.{on_err, same_then}
use Rattle.gr1_sys.proofs.Lists.{region_stays, set_kept, together_as, made_and_taken_all}
use Rattle.gr1_sys.proofs.Parted.{given_stays}
use Rattle.gr1_sys.proofs.Climbed.{climbs_first, climbs_next, climbs_fewer, climbed, grows_at}
use Rattle.spec_model.specs.Sets.{both, pre_sys}
use Rattle.gr1_law.specs.Layers.{goal_set}
use Rattle.gr1_sys.specs.Solution.{layer_of}
use Rattle.gr1_sys.specs.Moment.{IsGoal}
use Rattle.gr1_sys.specs.Told.{TellsHalt}
use Rattle.gr1_sys.proofs.Told.{handed_on, past_many}
use Rattle.gr1_sys.proofs.Naming.{rank_named, flatten_named}
use Rattle.gr1_sys.proofs.climbing.goal_layers.Goals as goal

pub loop-more-init : goal.loop-more-init
loop-more-init g c =
    record {
      climbs = λ z j reach_is. climbs_first (g.G.Regions.kept c.args.g.now) c.args.given.now.none z j c.new-layers.result.items c.new-layers.ensures.items c.requires.free c.requires.given.empty;
      same = record { game = refl; bound = refl };
    }

pub grow-requires-clause-free : goal.grow-requires-clause-free
grow-requires-clause-free g c = let r = c.requires.reaches in (c.loop-more.invariant.climbs r.0 r.1.0 r.1.1).made.jam

pub grow-requires-clause-reach : goal.grow-requires-clause-reach
grow-requires-clause-reach g c =
    let kept = g.G.Regions.kept in
    let r = c.requires.reaches in
    let made = (c.loop-more.invariant.climbs r.0 r.1.0 r.1.1).made in
    region_stays (kept c.args.g.now) (kept c.loop-more.g) c.args.reach.now (λ w. omega (arith, made.held w)) c.requires.reach

pub grow-requires-clause-given : goal.grow-requires-clause-given
grow-requires-clause-given g c =
    let kept = g.G.Regions.kept in
    let r = c.requires.reaches in
    let made = (c.loop-more.invariant.climbs r.0 r.1.0 r.1.1).made in
    given_stays (kept c.args.g.now) (kept c.loop-more.g) c.args.given.now (g.met.G.Regions.exact _) c.loop-more.invariant.same (λ w. omega (arith, made.held w)) c.requires.given

pub grow-requires-clause-layers : goal.grow-requires-clause-layers
grow-requires-clause-layers g c =
    let kept = g.G.Regions.kept in
    let r = c.requires.reaches in
    let made = (c.loop-more.invariant.climbs r.0 r.1.0 r.1.1).made in
    together_as (kept c.loop-more.g) (goal_regions c.loop-more.layers.items) _ (g.met.G.Regions.exact _) made.counted (λ w. omega (arith, made.held w))

pub returns-in_err-more-clause-halted : goal.returns-in_err-more-clause-halted
returns-in_err-more-clause-halted g c =
    let kept = g.G.Regions.kept in
    let r = c.requires.reaches in
    let made = (c.loop-more.invariant.climbs r.0 r.1.0 r.1.1).made in
    on_err _ (made_and_taken_all (kept c.args.g.now) (kept c.loop-more.g) (kept c.grow.new.g) (goal_regions c.loop-more.layers.items) _ (g.met.G.Regions.exact _) made c.in_err-more.ensures.halted)

pub returns-then-settled-clause-climbed : goal.returns-then-settled-clause-climbed
returns-then-settled-clause-climbed g c = λ z j reach_is.
    let kept = g.G.Regions.kept in
    let first = kept c.args.g.now in
    let k = kept c.loop-more.g in
    let new = kept c.grow.new.g in
    let climbs = c.loop-more.invariant.climbs z j reach_is in
    let ls = c.loop-more.layers.items in
    let reach_kept = set_kept first k c.args.reach.now (g.met.G.Regions.exact _) (λ w. omega (arith, climbs.made.held w)) c.requires.reach in
    let grown = grows_at first.game k new c.args.reach.now (last_region c.args.given.now.none ls) z j (length ls) ls c.in_ok-more.more.items c.in_ok-more.settled c.loop-more.invariant.same.game (c.in_ok-more.ensures.grown z j (length ls)) (reach_kept ∙ reach_is) climbs.last in
    climbed first.game first k new c.args.given.now.none z j ls c.in_ok-more.more.items climbs (subst (Grows first.game k new z j ls (length ls) c.in_ok-more.more.items) c.if-settled.true grown)

pub loop-more-smaller : goal.loop-more-smaller
loop-more-smaller g c =
    let kept = g.G.Regions.kept in
    let first = kept c.args.g.now in
    let k = kept c.loop-more.g in
    let new = kept c.grow.new.g in
    let ls = c.loop-more.layers.items in
    let r = c.requires.reaches in
    let climbs = c.loop-more.invariant.climbs r.0 r.1.0 r.1.1 in
    let reach_kept = set_kept first k c.args.reach.now (g.met.G.Regions.exact _) (λ w. omega (arith, climbs.made.held w)) c.requires.reach in
    let grown = grows_at first.game k new c.args.reach.now (last_region c.args.given.now.none ls) r.0 r.1.0 (length ls) ls c.in_ok-more.more.items c.in_ok-more.settled c.loop-more.invariant.same.game (c.in_ok-more.ensures.grown r.0 r.1.0 (length ls)) (reach_kept ∙ r.1.1) climbs.last in
    let fewer = climbs_fewer first.game first k new c.args.given.now.none r.0 r.1.0 ls c.in_ok-more.more.items (g.met.G.Regions.exact _) climbs (subst (Grows first.game k new r.0 r.1.0 ls (length ls) c.in_ok-more.more.items) c.if-settled.false grown) in
    rw (c.grow.ensures.keeps.game, c.loop-more.invariant.same.game) fewer

pub loop-more-preserved : goal.loop-more-preserved
loop-more-preserved g c =
    let kept = g.G.Regions.kept in
    let first = kept c.args.g.now in
    let k = kept c.loop-more.g in
    let new = kept c.grow.new.g in
    let ls = c.loop-more.layers.items in
    record {
      climbs = λ z j reach_is.
          let climbs = c.loop-more.invariant.climbs z j reach_is in
          let reach_kept = set_kept first k c.args.reach.now (g.met.G.Regions.exact _) (λ w. omega (arith, climbs.made.held w)) c.requires.reach in
          let grown = grows_at first.game k new c.args.reach.now (last_region c.args.given.now.none ls) z j (length ls) ls c.in_ok-more.more.items c.in_ok-more.settled c.loop-more.invariant.same.game (c.in_ok-more.ensures.grown z j (length ls)) (reach_kept ∙ reach_is) climbs.last in
          climbs_next first.game first k new c.args.given.now.none z j ls c.in_ok-more.more.items (g.met.G.Regions.exact _) climbs (subst (Grows first.game k new z j ls (length ls) c.in_ok-more.more.items) c.if-settled.false grown);
      same = same_then first k new c.loop-more.invariant.same c.grow.ensures.keeps;
    }

pub returns-in_err-more-clause-told : goal.returns-in_err-more-clause-told
returns-in_err-more-clause-told g c = λ z j goal_in reach_is.
    let kept = g.G.Regions.kept in
    let first = kept c.args.g.now in
    let k = kept c.loop-more.g in
    let new = kept c.grow.new.g in
    let ls = c.loop-more.layers.items in
    let n = length ls in
    let game = c.loop-more.invariant.same.game in
    let climbs = c.loop-more.invariant.climbs z j reach_is in
    let reach_kept = set_kept first k c.args.reach.now (g.met.G.Regions.exact _) (λ w. omega (arith, climbs.made.held w)) c.requires.reach in
    let reach_now = reach_kept ∙ (reach_is ∙ ap (λ h. both (goal_set h j) (pre_sys h z)) (sym game)) in
    let last_now = climbs.last ∙ ap (λ h. layer_of h z j n) (sym game) in
    handed_on c.from_residual.result c.in_err-more.field-0.0 (TellsHalt first new z) c.from_residual.ensures.1
    (past_many first k new new z (goal_regions ls) (flatten (rank_sets first.game z j) n) c.in_err-more.field-0.0 game climbs.made (flatten_named first.game z (rank_sets first.game z j) n (λ r. rank_named first.game z j r goal_in)) refl
    (c.in_err-more.ensures.told z j n (subst (λ h. IsGoal h j) (sym game) goal_in) reach_now last_now))
