use Rattle.std.proofs.Common.{arith}
use Rattle.regions.proofs.Holding.{held_as, set_is}
use Rattle.gr1_sys.proofs.Holdings.{replaces, takes}
use Rattle.gr1_sys.specs.Held.{waiting}
use Rattle.gr1_sys.proofs.Told.{still_told}
use Rattle.gr1_sys.proofs.parts.next_part.Goals as goal

pub returns-in-Ok-clause-made : goal.returns-in-Ok-clause-made
returns-in-Ok-clause-made g c = replaces _ _ _ c.args.x c.in-Ok.next _ (g.met.G.Regions.exact _) c.requires.x c.in-Ok.ensures.made c.spend.ensures.spends

pub returns-in-Ok-clause-settled : goal.returns-in-Ok-clause-settled
returns-in-Ok-clause-settled g c =
    let made = c.in-Ok.ensures.made in
    let k = g.G.Regions.kept c.args.g.now in
    let exact = g.met.G.Regions.exact c.part_step.new.g in
    let x_is = set_is _ c.args.x (k.set c.args.x) exact (λ w. omega (arith, made.held w, held_as _ _ c.requires.x w)) in
    let next_is = set_is _ c.in-Ok.next (waiting k.game (k.set c.args.base.now) (k.set c.args.lapse.now) (k.set c.args.x)) exact (λ w. omega (arith, made.held w)) in
    rw (x_is, next_is) at c.same-settled.ensures

pub returns-in-Err-clause-halted : goal.returns-in-Err-clause-halted
returns-in-Err-clause-halted g c = takes _ _ _ c.args.x (g.met.G.Regions.exact _) c.requires.x c.in-Err.ensures.halted c.spend-in-Err.ensures.spends

pub returns-in-Err-clause-told : goal.returns-in-Err-clause-told
returns-in-Err-clause-told g c = λ z j r i n are is.
    let kept = g.G.Regions.kept in
    still_told (kept c.args.g.now) (kept c.part_step.new.g) (kept c.spend-in-Err.new.self) z c.in-Err.halt c.spend-in-Err.ensures.spends.jam (c.in-Err.ensures.told z j r i n are is)
