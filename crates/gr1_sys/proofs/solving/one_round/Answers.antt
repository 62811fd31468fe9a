use Rattle.std.proofs.Common.{◌∙◌, sym, refl, arith}
use Rattle.std.proofs.lemmas.Bool.{false≢true}
use Rattle.gr1_sys.specs.Solution.{following}
use Rattle.gr1_sys.specs.Held.{all_regions, sets_of, rank_sets}
use Rattle.gr1_sys.proofs.Holdings.{replaces, takes}
use Rattle.gr1_sys.proofs.Lists.{region_stays}
use Rattle.gr1_sys.proofs.Rounds.{first_held, others_together, others_left, first_left, compared}
use Rattle.gr1_sys.proofs.Told.{still_told}
use Rattle.gr1_sys.proofs.solving.one_round.Goals as goal

pub same-requires-clause-b : goal.same-requires-clause-b
same-requires-clause-b g c =
    let kept = g.G.Regions.kept in
    first_held (kept c.args.g.now) (kept c.turn.new.g) c.in-Ok.next (all_regions c.in-Ok.goals.items) _ _ c.in-Ok.ensures.turned.made

pub spend-requires : goal.spend-requires
spend-requires g c =
    let kept = g.G.Regions.kept in
    first_held (kept c.args.g.now) (kept c.turn.new.g) c.in-Ok.next (all_regions c.in-Ok.goals.items) _ _ c.in-Ok.ensures.turned.made

pub spend_goals-requires : goal.spend_goals-requires
spend_goals-requires g c =
    let kept = g.G.Regions.kept in
    others_together (kept c.args.g.now) (kept c.turn.new.g) c.in-Ok.next (all_regions c.in-Ok.goals.items) _ _ (g.met.G.Regions.exact _) c.in-Ok.ensures.turned.made

pub spend-requires-else-same : goal.spend-requires-else-same
spend-requires-else-same g c =
    let kept = g.G.Regions.kept in
    let left = first_left (kept c.args.g.now) (kept c.turn.new.g) (kept c.spend_goals.new.g) c.in-Ok.next (all_regions c.in-Ok.goals.items) _ _ (g.met.G.Regions.exact _) c.in-Ok.ensures.turned.made c.spend_goals.ensures.spends in
    region_stays (kept c.args.g.now) (kept c.spend_goals.new.g) c.args.z (λ w. omega (arith, left.held w)) c.requires.z

pub returns-then-same-clause-steps : goal.returns-then-same-clause-steps
returns-then-same-clause-steps g c =
    let kept = g.G.Regions.kept in
    let k = kept c.args.g.now in
    let k1 = kept c.turn.new.g in
    let turned = c.in-Ok.ensures.turned in
    let are = compared k k1 c.args.z c.in-Ok.next (all_regions c.in-Ok.goals.items) (following k.game (k.set c.args.z)) (sets_of (rank_sets k.game (k.set c.args.z)) c.in-Ok.goals.items) (g.met.G.Regions.exact _) c.requires.z turned.made in (
      refl,
      (
        sym are.0 ∙ (c.same.ensures.0 c.if-same.true ∙ are.1),
        (
          others_left k k1 (kept c.spend.new.self) c.in-Ok.next (all_regions c.in-Ok.goals.items) _ _ (g.met.G.Regions.exact _) turned.made c.spend.ensures.spends,
          (turned.parts, (turned.counted, turned.greatest)),
        ),
      ),
    )

pub returns-else-same-clause-steps : goal.returns-else-same-clause-steps
returns-else-same-clause-steps g c =
    let kept = g.G.Regions.kept in
    let k = kept c.args.g.now in
    let k1 = kept c.turn.new.g in
    let turned = c.in-Ok.ensures.turned in
    let are = compared k k1 c.args.z c.in-Ok.next (all_regions c.in-Ok.goals.items) (following k.game (k.set c.args.z)) (sets_of (rank_sets k.game (k.set c.args.z)) c.in-Ok.goals.items) (g.met.G.Regions.exact _) c.requires.z turned.made in
    let left = first_left k k1 (kept c.spend_goals.new.g) c.in-Ok.next (all_regions c.in-Ok.goals.items) _ _ (g.met.G.Regions.exact _) turned.made c.spend_goals.ensures.spends in (
      replaces k (kept c.spend_goals.new.g) (kept c.spend-else-same.new.self) c.args.z c.in-Ok.next (following k.game (k.set c.args.z)) (g.met.G.Regions.exact _) c.requires.z left c.spend-else-same.ensures.spends,
      λ e. false≢true (sym c.if-same.false ∙ c.same.ensures.1 (are.0 ∙ (e ∙ sym are.1))),
    )

pub returns-in-Err-clause-halted : goal.returns-in-Err-clause-halted
returns-in-Err-clause-halted g c =
    let kept = g.G.Regions.kept in
    takes (kept c.args.g.now) (kept c.turn.new.g) (kept c.spend-in-Err.new.self) c.args.z (g.met.G.Regions.exact _) c.requires.z c.in-Err.ensures.halted c.spend-in-Err.ensures.spends

pub returns-in-Err-clause-told : goal.returns-in-Err-clause-told
returns-in-Err-clause-told g c =
    let kept = g.G.Regions.kept in
    let k = kept c.args.g.now in
    still_told k (kept c.turn.new.g) (kept c.spend-in-Err.new.self) (k.set c.args.z) c.in-Err.halt c.spend-in-Err.ensures.spends.jam c.in-Err.ensures.told
