use Rattle.std.proofs.Common.{arith}
use Rattle.gr1_sys.proofs.Holdings.{same_then}
use Rattle.gr1_sys.proofs.Lists.{region_stays}
use Rattle.gr1_sys.proofs.Walked.{stays_then}
use Rattle.worked_games.proofs.environment_layers.word_of.Goals as goal

pub has-inside-requires : goal.has-inside-requires
has-inside-requires g c =
    let kept = g.G.Regions.kept in
    record { a = region_stays (kept c.args.g.now) (kept c.loop-s.g) c.args.a.now (λ w. omega (arith, c.loop-s.invariant.stays.held w)) c.requires }

pub loop-s-preserved : goal.loop-s-preserved
loop-s-preserved g c =
    let kept = g.G.Regions.kept in
    let inv = c.loop-s.invariant in
    record {
      stays = stays_then (kept c.args.g.now) (kept c.loop-s.g) (kept c.has-inside.new.self) inv.stays c.has-inside.ensures.held;
      same = same_then (kept c.args.g.now) (kept c.loop-s.g) (kept c.has-inside.new.self) inv.same c.has-inside.ensures.keeps;
    }
