use Rattle.gr1_sys.proofs.Rounds.{others_together, first_left}
use Rattle.gr1_sys.proofs.lasts.next_layer.Goals as goal

pub spend_all-requires : goal.spend_all-requires
spend_all-requires g c =
    let kept = g.G.Regions.kept in
    let k = kept c.args.g.now in
    let at = c.requires.layer in
    let made = c.in_ok-layer.ensures.made at.0 at.1.0 at.1.1.0 at.1.1.1.reach_is at.1.1.1.layer_is in
    others_together k (kept c.layer_above.new.g) c.in_ok-layer.layer.y c.in_ok-layer.layer.x.items _ _ (g.met.G.Regions.exact _) made

pub returns-clause-made : goal.returns-clause-made
returns-clause-made g c = λ z j r are.
    let kept = g.G.Regions.kept in
    let k = kept c.args.g.now in
    let made = c.in_ok-layer.ensures.made z j r are.reach_is are.layer_is in
    first_left k (kept c.layer_above.new.g) (kept c.spend_all.new.g) c.in_ok-layer.layer.y c.in_ok-layer.layer.x.items _ _ (g.met.G.Regions.exact _) made c.spend_all.ensures.spends
