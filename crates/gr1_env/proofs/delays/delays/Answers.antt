use Rattle.std.proofs.Common.{◌∙◌, length, subst, refl, arith, suc}
use Rattle.gr1_env.specs.Solution.{delay_on}
use Rattle.gr1_env.specs.Held.{Grows, last_of}
use Rattle.gr1_sys.proofs.Holdings.{on_err, same_then}
use Rattle.gr1_sys.proofs.Lists.{region_stays, set_kept, together_as, made_and_taken_all}
use Rattle.gr1_env.proofs.Climbing.{climbs_first, climbs_next, climbs_fewer, climbed, grows_at}
use Rattle.gr1_env.specs.Solution.{delay_sets}
use Rattle.gr1_env.specs.Told.{AreOfDelay, TellsHalt}
use Rattle.gr1_env.proofs.Told.{handed_on, past_many}
use Rattle.gr1_env.proofs.Naming.{delay_stands, delays_named}
use Rattle.gr1_env.proofs.delays.delays.Goals as goal

pub loop-more-init : goal.loop-more-init
loop-more-init g c =
    let first = g.G.Regions.kept c.args.g.now in
    record {
      climbs = climbs_first first c.args.none.now (first.set c.args.cover.now) (first.set c.args.asm.now) c.new-rs.result.items c.new-rs.ensures.items c.requires.free c.requires.empty;
      same = record { game = refl; bound = refl };
    }

pub grow-requires-clause-free : goal.grow-requires-clause-free
grow-requires-clause-free g c = c.loop-more.invariant.climbs.made.jam

pub grow-requires-clause-cover : goal.grow-requires-clause-cover
grow-requires-clause-cover g c =
    let kept = g.G.Regions.kept in
    region_stays (kept c.args.g.now) (kept c.loop-more.g) c.args.cover.now (λ w. omega (arith, c.loop-more.invariant.climbs.made.held w)) c.requires.cover

pub grow-requires-clause-asm : goal.grow-requires-clause-asm
grow-requires-clause-asm g c =
    let kept = g.G.Regions.kept in
    region_stays (kept c.args.g.now) (kept c.loop-more.g) c.args.asm.now (λ w. omega (arith, c.loop-more.invariant.climbs.made.held w)) c.requires.asm

pub grow-requires-clause-none : goal.grow-requires-clause-none
grow-requires-clause-none g c =
    let kept = g.G.Regions.kept in
    region_stays (kept c.args.g.now) (kept c.loop-more.g) c.args.none.now (λ w. omega (arith, c.loop-more.invariant.climbs.made.held w)) c.requires.none

pub grow-requires-clause-rs : goal.grow-requires-clause-rs
grow-requires-clause-rs g c =
    let kept = g.G.Regions.kept in
    let made = c.loop-more.invariant.climbs.made in
    together_as (kept c.loop-more.g) c.loop-more.rs.items _ (g.met.G.Regions.exact _) made.counted (λ w. omega (arith, made.held w))

pub returns-in_err-more-clause-halted : goal.returns-in_err-more-clause-halted
returns-in_err-more-clause-halted g c =
    let kept = g.G.Regions.kept in
    on_err _ (made_and_taken_all (kept c.args.g.now) (kept c.loop-more.g) (kept c.grow.new.g) c.loop-more.rs.items _ (g.met.G.Regions.exact _) c.loop-more.invariant.climbs.made c.in_err-more.ensures.halted)

pub loop-more-preserved : goal.loop-more-preserved
loop-more-preserved g c =
    let kept = g.G.Regions.kept in
    let first = kept c.args.g.now in
    let k = kept c.loop-more.g in
    let new = kept c.grow.new.g in
    let inv = c.loop-more.invariant in
    let rs = c.loop-more.rs.items in
    let cover = first.set c.args.cover.now in
    let asm = first.set c.args.asm.now in
    let cover_is = set_kept first k c.args.cover.now (g.met.G.Regions.exact _) (λ w. omega (arith, inv.climbs.made.held w)) c.requires.cover in
    let asm_is = set_kept first k c.args.asm.now (g.met.G.Regions.exact _) (λ w. omega (arith, inv.climbs.made.held w)) c.requires.asm in
    let grown = grows_at first.game k new c.args.cover.now c.args.asm.now (last_of c.args.none.now rs) cover asm (delay_on first.game cover asm (length rs)) rs c.in_ok-more.more.items c.in_ok-more.settled inv.same.game cover_is asm_is inv.climbs.last c.in_ok-more.ensures.grown in
    record {
      climbs = climbs_next first.game first k new c.args.none.now cover asm rs c.in_ok-more.more.items inv.climbs (g.met.G.Regions.exact _)
          (subst (Grows k new (delay_on first.game cover asm (length rs)) (delay_on first.game cover asm (suc (length rs))) rs c.in_ok-more.more.items) c.if-settled.false grown);
      same = same_then first k new inv.same c.grow.ensures.keeps;
    }

pub loop-more-smaller : goal.loop-more-smaller
loop-more-smaller g c =
    let kept = g.G.Regions.kept in
    let first = kept c.args.g.now in
    let k = kept c.loop-more.g in
    let new = kept c.grow.new.g in
    let inv = c.loop-more.invariant in
    let rs = c.loop-more.rs.items in
    let cover = first.set c.args.cover.now in
    let asm = first.set c.args.asm.now in
    let cover_is = set_kept first k c.args.cover.now (g.met.G.Regions.exact _) (λ w. omega (arith, inv.climbs.made.held w)) c.requires.cover in
    let asm_is = set_kept first k c.args.asm.now (g.met.G.Regions.exact _) (λ w. omega (arith, inv.climbs.made.held w)) c.requires.asm in
    let grown = grows_at first.game k new c.args.cover.now c.args.asm.now (last_of c.args.none.now rs) cover asm (delay_on first.game cover asm (length rs)) rs c.in_ok-more.more.items c.in_ok-more.settled inv.same.game cover_is asm_is inv.climbs.last c.in_ok-more.ensures.grown in
    let fewer = climbs_fewer first.game first k new c.args.none.now cover asm rs c.in_ok-more.more.items inv.climbs (g.met.G.Regions.exact _)
    (subst (Grows k new (delay_on first.game cover asm (length rs)) (delay_on first.game cover asm (suc (length rs))) rs c.in_ok-more.more.items) c.if-settled.false grown)
    (g.met.G.Regions.proper c.args.g.now c.args.cover.now c.requires.cover) in
    rw (c.grow.ensures.keeps.game, inv.same.game) fewer

pub returns-then-settled-clause-made : goal.returns-then-settled-clause-made
returns-then-settled-clause-made g c =
    let kept = g.G.Regions.kept in
    let first = kept c.args.g.now in
    let k = kept c.loop-more.g in
    let new = kept c.grow.new.g in
    let inv = c.loop-more.invariant in
    let rs = c.loop-more.rs.items in
    let cover = first.set c.args.cover.now in
    let asm = first.set c.args.asm.now in
    let cover_is = set_kept first k c.args.cover.now (g.met.G.Regions.exact _) (λ w. omega (arith, inv.climbs.made.held w)) c.requires.cover in
    let asm_is = set_kept first k c.args.asm.now (g.met.G.Regions.exact _) (λ w. omega (arith, inv.climbs.made.held w)) c.requires.asm in
    let grown = grows_at first.game k new c.args.cover.now c.args.asm.now (last_of c.args.none.now rs) cover asm (delay_on first.game cover asm (length rs)) rs c.in_ok-more.more.items c.in_ok-more.settled inv.same.game cover_is asm_is inv.climbs.last c.in_ok-more.ensures.grown in
    climbed first.game first k new c.args.none.now cover asm rs c.in_ok-more.more.items inv.climbs
    (subst (Grows k new (delay_on first.game cover asm (length rs)) (delay_on first.game cover asm (suc (length rs))) rs c.in_ok-more.more.items) c.if-settled.true grown)

pub returns-in_err-more-clause-told : goal.returns-in_err-more-clause-told
returns-in_err-more-clause-told g c = λ game m a j i same are.
    let kept = g.G.Regions.kept in
    let first = kept c.args.g.now in
    let k = kept c.loop-more.g in
    let new = kept c.grow.new.g in
    let inv = c.loop-more.invariant in
    let rs = c.loop-more.rs.items in
    let cover = first.set c.args.cover.now in
    let asm = first.set c.args.asm.now in
    let cover_is = set_kept first k c.args.cover.now (g.met.G.Regions.exact _) (λ w. omega (arith, inv.climbs.made.held w)) c.requires.cover in
    let asm_is = set_kept first k c.args.asm.now (g.met.G.Regions.exact _) (λ w. omega (arith, inv.climbs.made.held w)) c.requires.asm in
    let now : AreOfDelay game m a j i (k.set c.args.cover.now) (k.set c.args.asm.now) = record { goal_in = are.goal_in; index_in = are.index_in; cover_is = cover_is ∙ are.cover_is; asm_is = asm_is ∙ are.asm_is } in
    handed_on c.from_residual.result c.in_err-more.field-0.0 (TellsHalt game first new m) c.from_residual.ensures.1
    (past_many game m first k new new rs (delay_sets first.game cover asm (length rs)) c.in_err-more.field-0.0 inv.climbs.made (delays_named game m first.game a j i (length rs) cover asm same are) refl
    (c.in_err-more.ensures.told game m a j i (length rs) (inv.same.game ∙ same) now (inv.climbs.last ∙ delay_stands game m first.game a j i (length rs) cover asm same are)))
