use Rattle.std.proofs.Common.{arith, ◌∙◌}
use Rattle.regions.proofs.Holding.{held_as, set_is}
use Rattle.gr1_sys.proofs.Holdings.{replaces, takes}
use Rattle.gr1_sys.proofs.lasts.climb.Goals as goal

pub returns-in-Ok-clause-climbed : goal.returns-in-Ok-clause-climbed
returns-in-Ok-clause-climbed g c = λ z j r are.
    let kept = g.G.Regions.kept in
    let k = kept c.args.g.now in
    let exact = g.met.G.Regions.exact c.next_layer.new.g in
    let made = c.in-Ok.ensures.made z j r are in
    let y_is = set_is (kept c.next_layer.new.g) c.args.y (k.set c.args.y) exact (λ w. omega (arith, made.held w, held_as _ _ c.requires.y w)) in
    let next_is = set_is (kept c.next_layer.new.g) c.in-Ok.next _ exact (λ w. omega (arith, made.held w)) in
    record {
      replaced = replaces k (kept c.next_layer.new.g) (kept c.spend.new.self) c.args.y c.in-Ok.next _ exact c.requires.y made c.spend.ensures.spends;
      settles = let is = y_is ∙ are.layer_is in rw (is, next_is) at c.same-settled.ensures;
    }

pub returns-in-Err-clause-halted : goal.returns-in-Err-clause-halted
returns-in-Err-clause-halted g c =
    let kept = g.G.Regions.kept in
    takes (kept c.args.g.now) (kept c.next_layer.new.g) (kept c.spend-in-Err.new.self) c.args.y (g.met.G.Regions.exact _) c.requires.y c.in-Err.ensures.halted c.spend-in-Err.ensures.spends
