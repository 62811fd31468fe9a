use Rattle.std.proofs.Common.{◌∙◌, sym, arith}
use Rattle.controller.proofs.Leading.{rank_is, rank_below, waits_is, moved_is, parts_lead, parts_counted, waited}
use Rattle.controller.proofs.turning.lead.Goals as goal

pub waits_on-requires : goal.waits_on-requires
waits_on-requires g c =
    let k = g.G.Regions.kept c.args.g.now in
    let t = c.requires.turn in
    omega (arith, rank_below k c.args.aims.now c.args.state.now c.args.rank c.args.index c.args.stays c.args.input.now t.0 t.1 t.2 t.3 t.4 t.5 c.least_rank-reached.result c.least_rank-reached.new.out c.least_rank-reached.ensures.least)

pub offset_bounds-aims-reached : goal.offset_bounds-aims-reached
offset_bounds-aims-reached g c =
    let k = g.G.Regions.kept c.args.g.now in
    let t = c.requires.turn in
    omega (arith, rank_below k c.args.aims.now c.args.state.now c.args.rank c.args.index c.args.stays c.args.input.now t.0 t.1 t.2 t.3 t.4 t.5 c.least_rank-reached.result c.least_rank-reached.new.out c.least_rank-reached.ensures.least)

pub bounds-aims-reached : goal.bounds-aims-reached
bounds-aims-reached g c =
    let k = g.G.Regions.kept c.args.g.now in
    let t = c.requires.turn in
    rank_below k c.args.aims.now c.args.state.now c.args.rank c.args.index c.args.stays c.args.input.now t.0 t.1 t.2 t.3 t.4 t.5 c.least_rank-reached.result c.least_rank-reached.new.out c.least_rank-reached.ensures.least

pub wait-requires-clause-index : goal.wait-requires-clause-index
wait-requires-clause-index g c =
    let kept = g.G.Regions.kept in
    let t = c.requires.turn in
    parts_counted (kept c.args.g.now) c.args.aims.now c.args.state.now c.args.rank c.args.index c.args.stays c.args.input.now t.0 t.1 t.2 t.3 t.4 t.5 c.least_rank-reached.result c.least_rank-reached.new.out c.least_rank-reached.ensures.least
    (sym c.waits_on.ensures ∙ c.if-waits_on.true) (kept c.least_rank-reached.new.g) c.least_rank-reached.ensures.held c.least_rank-reached.ensures.keeps c.index-aims-reached.result c.deref.result.now c.deref.ensures.value

pub wait-requires-clause-parts : goal.wait-requires-clause-parts
wait-requires-clause-parts g c =
    let kept = g.G.Regions.kept in
    let t = c.requires.turn in (
      _,
      parts_lead (kept c.args.g.now) c.args.aims.now c.args.state.now c.args.rank c.args.index c.args.stays c.args.input.now t.0 t.1 t.2 t.3 t.4 t.5 c.least_rank-reached.result c.least_rank-reached.new.out c.least_rank-reached.ensures.least
          (sym c.waits_on.ensures ∙ c.if-waits_on.true) (kept c.least_rank-reached.new.g) c.least_rank-reached.ensures.held c.least_rank-reached.ensures.keeps c.index-aims-reached.result c.deref.result.now c.deref.ensures.value,
    )

pub returns-then-waits_on-clause-chosen : goal.returns-then-waits_on-clause-chosen
returns-then-waits_on-clause-chosen g c = λ l s m y next later.
    let kept = g.G.Regions.kept in
    let k = kept c.args.g.now in
    let on = sym c.waits_on.ensures ∙ c.if-waits_on.true in (
      rank_is k c.args.aims.now c.args.state.now c.args.rank c.args.index c.args.stays c.args.input.now l s m y next later c.least_rank-reached.result c.least_rank-reached.new.out c.least_rank-reached.ensures.least,
      waited k c.args.aims.now c.args.state.now c.args.rank c.args.index c.args.stays c.args.input.now l s m y next later c.least_rank-reached.result c.least_rank-reached.new.out c.least_rank-reached.ensures.least
          on (kept c.least_rank-reached.new.g) c.least_rank-reached.ensures.held c.least_rank-reached.ensures.keeps c.index-aims-reached.result c.deref.result.now c.deref.ensures.value c.wait.new.out c.wait.ensures.first,
      sym on ∙ waits_is k c.args.aims.now c.args.state.now c.args.rank c.args.index c.args.stays c.args.input.now l s m y next later c.least_rank-reached.result c.least_rank-reached.new.out c.least_rank-reached.ensures.least,
    )

pub returns-else-waits_on-clause-chosen : goal.returns-else-waits_on-clause-chosen
returns-else-waits_on-clause-chosen g c = λ l s m y next later.
    let k = g.G.Regions.kept c.args.g.now in
    let off = sym c.waits_on.ensures ∙ c.if-waits_on.false in (
      rank_is k c.args.aims.now c.args.state.now c.args.rank c.args.index c.args.stays c.args.input.now l s m y next later c.least_rank-reached.result c.least_rank-reached.new.out c.least_rank-reached.ensures.least,
      moved_is k c.args.aims.now c.args.state.now c.args.rank c.args.index c.args.stays c.args.input.now l s m y next later c.least_rank-reached.result c.least_rank-reached.new.out c.least_rank-reached.ensures.least off,
      sym off ∙ waits_is k c.args.aims.now c.args.state.now c.args.rank c.args.index c.args.stays c.args.input.now l s m y next later c.least_rank-reached.result c.least_rank-reached.new.out c.least_rank-reached.ensures.least,
    )
