use Rattle.std.proofs.Common.{◌∙◌, ◌+◌, ◌*◌, suc, Bool, if◌then◌else◌, length, List, Vec, sym, ap, subst, arith}
use Rattle.std.specs.declared.alloc.Global.{Global}
use Rattle.std.proofs.lemmas.Option.{slice_get_within}
use Rattle.regions.specs.declared.types.When.TheVariants.{First, Later}
use Rattle.counterstrategy.specs.Forced.{MovesLead}
use Rattle.counterstrategy.proofs.Forcing.{first_into_layer, first_into_hold}
use Rattle.counterstrategy.proofs.Turned.{serves_hold, denies, denies_not, before_later, before_first, after_denial, none_into, chain_found}
use Rattle.counterstrategy.proofs.giving.give.Goals as goal

pub chain_number-requires-clause-layer : goal.chain_number-requires-clause-layer
chain_number-requires-clause-layer g c =
    let t = c.requires.turn in
    let hold = serves_hold (g.G.Regions.kept c.args.g.now) c.args.kit.now c.args.place.now t.0 t.1 t.2 t.3 t.4 t.5 t.6 t.7 c.if-place.true in
    let kit = c.args.kit.now in
    let p = c.args.place.now in
    (hold.low, hold.layer, slice_get_within kit.delays.items ((hold.low * length kit.goals.items + p.goal) * length kit.asms.items + p.index) hold.chain hold.there)

pub index-chain-requires : goal.index-chain-requires
index-chain-requires g c =
    let t = c.requires.turn in
    let hold = serves_hold (g.G.Regions.kept c.args.g.now) c.args.kit.now c.args.place.now t.0 t.1 t.2 t.3 t.4 t.5 t.6 t.7 c.if-place.true in
    let number = c.chain_number.ensures hold.low hold.layer in
    let kit = c.args.kit.now in
    let p = c.args.place.now in
    let inner = slice_get_within kit.delays.items ((hold.low * length kit.goals.items + p.goal) * length kit.asms.items + p.index) hold.chain hold.there in
    let size = kit.delays.ok.0 in
    omega (arith, number, inner, size)

pub give_in_hold-requires-clause-moves : goal.give_in_hold-requires-clause-moves
give_in_hold-requires-clause-moves g c =
    let k = g.G.Regions.kept c.args.g.now in
    let t = c.requires.turn in
    let hold = serves_hold k c.args.kit.now c.args.place.now t.0 t.1 t.2 t.3 t.4 t.5 t.6 t.7 c.if-place.true in (
      Later,
      t.0.x t.4.layer t.4.goal t.4.index,
      none_into k c.args.kit.now c.args.place.now t.0 t.1 t.2 t.3 t.4 t.5 t.6 t.7 c.if-place.true c.index.result.now c.index.ensures,
      subst (λ (ms : List _). MovesLead k Later ms (λ r. t.0.x t.4.layer t.4.goal t.4.index (suc r))) (sym (c.deref.ensures.value ∙ ap (λ (v : Vec _ Global). v.items) (chain_found k c.args.kit.now c.args.place.now t.0 t.4 t.5 hold c.chain_number.result (c.chain_number.ensures hold.low hold.layer) c.index-chain.result.now c.index-chain.ensures))) hold.lead,
    )

pub returns-then-place-clause-given : goal.returns-then-place-clause-given
returns-then-place-clause-given g c = λ e n counts b m r x serves.
    let k = g.G.Regions.kept c.args.g.now in
    let kit = c.args.kit.now in
    let p = c.args.place.now in
    let hold = serves_hold k kit p e n counts b m r x serves c.if-place.true in
    let before = after_denial k kit p e n counts b m r x serves c.if-place.true c.values-state.result.now c.values-state.ensures in
    let items = c.deref.ensures.value ∙ ap (λ (v : Vec _ Global). v.items) (chain_found k kit p e m r hold c.chain_number.result (c.chain_number.ensures hold.low hold.layer) c.index-chain.result.now c.index-chain.ensures) in
    let denying = denies k kit p e n counts b m r x serves c.if-place.true in
    let found = c.give_in_hold.ensures.first Later (e.x m.layer m.goal m.index) b r x
    (none_into k kit p e n counts b m r x serves c.if-place.true c.index.result.now c.index.ensures)
    (subst (λ (ms : List _). MovesLead k Later ms (λ r. e.x m.layer m.goal m.index (suc r))) (sym items) hold.lead)
    before (first_into_hold k.game Later b before.time e m r x serves.turn.given denying)
    (let long = ap (λ (ms : List _). length ms) items in omega (arith, hold.few, long)) in
    (found.0, found.1 ∙ ap (λ (d : Bool). if d then r else 0) (sym denying))

pub returns-then-place-2-clause-given : goal.returns-then-place-2-clause-given
returns-then-place-2-clause-given g c = λ e n counts b m r x serves.
    let k = g.G.Regions.kept c.args.g.now in
    let kit = c.args.kit.now in
    let p = c.args.place.now in
    let off = denies_not k kit p e n counts b m r x serves c.if-place.false in
    let before = before_later k kit p e n counts b m r x serves c.if-place-2.true c.values-state.result.now c.values-state.ensures in
    let found = c.give_first.ensures.first Later e.z b r x
    (subst (λ (ms : List _). MovesLead k Later ms e.z) (sym c.deref-then-place-2.ensures.value) serves.later)
    before (first_into_layer k.game Later b before.time e m r x serves.turn.given off)
    (let long = ap (λ (ms : List _). length ms) c.deref-then-place-2.ensures.value in let few = serves.turn.layer off in let many = serves.later_counted in omega (arith, long, few, many)) in
    (found.0, ap (λ (d : Bool). if d then r else 0) (sym off))

pub returns-else-place-2-clause-given : goal.returns-else-place-2-clause-given
returns-else-place-2-clause-given g c = λ e n counts b m r x serves.
    let k = g.G.Regions.kept c.args.g.now in
    let kit = c.args.kit.now in
    let p = c.args.place.now in
    let off = denies_not k kit p e n counts b m r x serves c.if-place.false in
    let before = before_first k kit p e n counts b m r x serves c.if-place-2.false c.values-state.result.now c.values-state.ensures in
    let found = c.give_first-else-place-2.ensures.first First e.z b r x
    (subst (λ (ms : List _). MovesLead k First ms e.z) (sym c.deref-else-place-2.ensures.value) serves.first)
    before (first_into_layer k.game First b before.time e m r x serves.turn.given off)
    (let long = ap (λ (ms : List _). length ms) c.deref-else-place-2.ensures.value in let few = serves.turn.layer off in let many = serves.first_counted in omega (arith, long, few, many)) in
    (found.0, ap (λ (d : Bool). if d then r else 0) (sym off))
