use Rattle.std.proofs.Common.{arith}
use Rattle.gr1_sys.proofs.Holdings.{same_then}
use Rattle.gr1_sys.proofs.Lists.{region_stays}
use Rattle.gr1_sys.proofs.Walked.{stays_then}
use Rattle.gr1_env.specs.Held.{layer_regions}
use Rattle.gr1_env.proofs.Gathered.{each_gathered}
use Rattle.worked_games.proofs.environment_layers.agree.Goals as goal

pub word_of-requires : goal.word_of-requires
word_of-requires g c =
    let kept = g.G.Regions.kept in
    let first = kept c.args.g.now in
    let each = each_gathered first (λ a l. layer_regions l) c.args.layers.now c.loop-a.a c.index-layers-a.result c.requires c.loop-a-test.true in
    region_stays first (kept c.loop-a.g) _ (λ w. omega (arith, c.loop-a.invariant.stays.held w)) each.0

pub loop-a-preserved : goal.loop-a-preserved
loop-a-preserved g c =
    let kept = g.G.Regions.kept in
    let inv = c.loop-a.invariant in
    record {
      stays = stays_then (kept c.args.g.now) (kept c.loop-a.g) (kept c.word_of.new.g) inv.stays c.word_of.ensures.held;
      same = same_then (kept c.args.g.now) (kept c.loop-a.g) (kept c.word_of.new.g) inv.same c.word_of.ensures.keeps;
    }
