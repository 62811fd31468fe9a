use Rattle.std.proofs.Common.{◌∙◌, sym, refl, arith, map}
use Rattle.std.proofs.lemmas.Bool.{false≢true}
use Rattle.gr1_env.specs.Solution.{cover_of, hold_value_on}
use Rattle.gr1_env.specs.Held.{list_regions, list_sets}
use Rattle.gr1_sys.proofs.Holdings.{replaces, takes}
use Rattle.gr1_sys.proofs.Lists.{region_stays}
use Rattle.gr1_sys.proofs.Rounds.{first_held, others_together, others_left, first_left, compared}
use Rattle.gr1_env.proofs.Told.{still_told}
use Rattle.gr1_env.proofs.holds.one_value.Goals as goal

pub same-requires-clause-b : goal.same-requires-clause-b
same-requires-clause-b g c =
    let kept = g.G.Regions.kept in
    first_held (kept c.args.g.now) (kept c.turn.new.g) c.in-Ok.next (list_regions c.in-Ok.xs.items) _ _ c.in-Ok.ensures.turned.made

pub spend-requires : goal.spend-requires
spend-requires g c =
    let kept = g.G.Regions.kept in
    first_held (kept c.args.g.now) (kept c.turn.new.g) c.in-Ok.next (list_regions c.in-Ok.xs.items) _ _ c.in-Ok.ensures.turned.made

pub spend_lists-requires : goal.spend_lists-requires
spend_lists-requires g c =
    let kept = g.G.Regions.kept in
    others_together (kept c.args.g.now) (kept c.turn.new.g) c.in-Ok.next (list_regions c.in-Ok.xs.items) _ _ (g.met.G.Regions.exact _) c.in-Ok.ensures.turned.made

pub spend-requires-else-same : goal.spend-requires-else-same
spend-requires-else-same g c =
    let kept = g.G.Regions.kept in
    let left = first_left (kept c.args.g.now) (kept c.turn.new.g) (kept c.spend_lists.new.g) c.in-Ok.next (list_regions c.in-Ok.xs.items) _ _ (g.met.G.Regions.exact _) c.in-Ok.ensures.turned.made c.spend_lists.ensures.spends in
    region_stays (kept c.args.g.now) (kept c.spend_lists.new.g) c.args.y (λ w. omega (arith, left.held w)) c.requires.y

pub returns-then-same-clause-steps : goal.returns-then-same-clause-steps
returns-then-same-clause-steps g c =
    let kept = g.G.Regions.kept in
    let k = kept c.args.g.now in
    let k1 = kept c.turn.new.g in
    let turned = c.in-Ok.ensures.turned in
    let base = k.set c.args.base.now in
    let asms = map k.set c.args.asms.now in
    let set = k.set c.args.y in
    let are = compared k k1 c.args.y c.in-Ok.next (list_regions c.in-Ok.xs.items) (hold_value_on k.game base asms set) (list_sets k.game (cover_of k.game base set) asms c.in-Ok.xs.items) (g.met.G.Regions.exact _) c.requires.y turned.made in (
      refl,
      (
        sym are.0 ∙ (c.same.ensures.0 c.if-same.true ∙ are.1),
        record {
          made = others_left k k1 (kept c.spend.new.self) c.in-Ok.next (list_regions c.in-Ok.xs.items) _ _ (g.met.G.Regions.exact _) turned.made c.spend.ensures.spends;
          counted = turned.counted;
          least = turned.least;
        },
      ),
    )

pub returns-else-same-clause-steps : goal.returns-else-same-clause-steps
returns-else-same-clause-steps g c =
    let kept = g.G.Regions.kept in
    let k = kept c.args.g.now in
    let k1 = kept c.turn.new.g in
    let turned = c.in-Ok.ensures.turned in
    let base = k.set c.args.base.now in
    let asms = map k.set c.args.asms.now in
    let set = k.set c.args.y in
    let are = compared k k1 c.args.y c.in-Ok.next (list_regions c.in-Ok.xs.items) (hold_value_on k.game base asms set) (list_sets k.game (cover_of k.game base set) asms c.in-Ok.xs.items) (g.met.G.Regions.exact _) c.requires.y turned.made in
    let left = first_left k k1 (kept c.spend_lists.new.g) c.in-Ok.next (list_regions c.in-Ok.xs.items) _ _ (g.met.G.Regions.exact _) turned.made c.spend_lists.ensures.spends in (
      replaces k (kept c.spend_lists.new.g) (kept c.spend-else-same.new.self) c.args.y c.in-Ok.next (hold_value_on k.game base asms set) (g.met.G.Regions.exact _) c.requires.y left c.spend-else-same.ensures.spends,
      λ e. false≢true (sym c.if-same.false ∙ c.same.ensures.1 (are.0 ∙ (e ∙ sym are.1))),
    )

pub returns-in-Err-clause-halted : goal.returns-in-Err-clause-halted
returns-in-Err-clause-halted g c =
    let kept = g.G.Regions.kept in
    takes (kept c.args.g.now) (kept c.turn.new.g) (kept c.spend-in-Err.new.self) c.args.y (g.met.G.Regions.exact _) c.requires.y c.in-Err.ensures.halted c.spend-in-Err.ensures.spends

pub returns-in-Err-clause-told : goal.returns-in-Err-clause-told
returns-in-Err-clause-told g c = λ game m a j same are.
    let kept = g.G.Regions.kept in
    still_told game m (kept c.args.g.now) (kept c.turn.new.g) (kept c.spend-in-Err.new.self) c.in-Err.halt c.spend-in-Err.ensures.spends.jam (c.in-Err.ensures.told game m a j same are)
