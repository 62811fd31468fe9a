use Rattle.std.proofs.Common.{List, map, Option, refl, sym, ◌∙◌, ap, subst}
use Rattle.spec_model.specs.GameViews.{game_data}
use Rattle.regions.specs.Kept.{Move, Spends}
use Rattle.bdd_sets.proofs.ShiftLemmas.{fits_still}
use Rattle.region_bdd.specs.declared.own.Refused.{Refused}
use Rattle.region_bdd.specs.Needs.{IsTight}
use Rattle.region_bdd.specs.Slots.{Shown, shown_once}
use Rattle.region_bdd.specs.Crowding.{IsJammed}
use Rattle.region_bdd.specs.Object.{IsObject, IsOpen, jam_in, kept_of}
use Rattle.region_bdd.proofs.BoundLaws.{same_bound}
use Rattle.region_bdd.proofs.SlotLaws.{once_marked}
use Rattle.region_bdd.proofs.Refusals.{still_named}
use Rattle.region_bdd.proofs.ObjectLaws.{some_refused, not_refused, early_fits, same_table}
use Rattle.region_bdd.proofs.MoveLaws.{moves_held, holds_this, moves_freed, moves_marked, roots_kept}
use Rattle.region_bdd.proofs.object.RegionBdd.spend_move.Goals as goal

pub spend-requires : goal.spend-requires
spend-requires c =
    let o = c.args.self.now in
    let g = game_data o.game in
    let slots = o.slots.slots.items in
    let d = o.diagrams in
    let held = moves_held g d slots o.refused c.args.m c.requires in
    (held.content, held.here)

pub returns-then-is_some-clause-spends : goal.returns-then-is_some-clause-spends
returns-then-is_some-clause-spends c =
    let o = c.args.self.now in
    let g = game_data o.game in
    let slots = o.slots.slots.items in
    let d = o.diagrams in
    let held = moves_held g d slots o.refused c.args.m c.requires in
    let new = c.spend.new.self.slots.items in
    let some = some_refused o.refused (sym c.is_some.ensures ∙ c.if-is_some.true) in
    let spent = moves_marked g o.own d d slots new c.args.m o.whole.sound held some.0 c.spend.ensures in
    subst (λ (r : Option Refused). Spends (kept_of g d slots r) (kept_of g d new r) (Move c.args.m)) (sym some.1) spent.0

pub invariant_of-self : goal.invariant_of-self
invariant_of-self c =
    let o = c.args.self.now in
    let g = game_data o.game in
    let slots = o.slots.slots.items in
    let d = o.diagrams in
    let held = moves_held g d slots o.refused c.args.m c.requires in
    let new = c.spend.new.self.slots.items in
    let some = some_refused o.refused (sym c.is_some.ensures ∙ c.if-is_some.true) in
    let spent = moves_marked g o.own d d slots new c.args.m o.whole.sound held some.0 c.spend.ensures in
    record { whole = record { made = o.whole.made; fits = o.whole.fits; lists_are = o.whole.lists_are; early = o.whole.early; sound = spent.1; unspent = subst (λ (r : Option Refused). IsOpen r new) (sym some.1) tt; tight = o.whole.tight; named = o.whole.named; jammed = subst (λ (shown : List Shown). IsJammed g d (jam_in g shown o.refused)) (sym (once_marked d slots new c.args.m.slot c.spend.ensures)) o.whole.jammed }; coded = o.coded; room = o.room }

pub free-content-requires : goal.free-content-requires
free-content-requires c =
    let o = c.args.self.now in
    let g = game_data o.game in
    let slots = o.slots.slots.items in
    let d = o.diagrams in
    let held = moves_held g d slots o.refused c.args.m c.requires in
    (held.content, held.here)

pub give_back-requires : goal.give_back-requires
give_back-requires c =
    let o = c.args.self.now in
    let g = game_data o.game in
    let slots = o.slots.slots.items in
    let d = o.diagrams in
    let held = moves_held g d slots o.refused c.args.m c.requires in
    let this = holds_this d slots c.args.m.slot held c.free-content.result c.free-content.ensures.content in
    roots_kept g o.own d d slots slots c.args.m o.whole.sound this

pub returns-clause-spends : goal.returns-clause-spends
returns-clause-spends c =
    let o = c.args.self.now in
    let g = game_data o.game in
    let slots = o.slots.slots.items in
    let d = o.diagrams in
    let held = moves_held g d slots o.refused c.args.m c.requires in
    let this = holds_this d slots c.args.m.slot held c.free-content.result c.free-content.ensures.content in
    let new = c.free-content.new.self.slots.items in
    let none = not_refused o.refused (sym c.is_some.ensures ∙ c.if-is_some.false) in
    let clear = subst (λ (r : Option Refused). IsOpen r slots) none o.whole.unspent in
    let spent = moves_freed g o.own d c.give_back.new.diagrams slots new c.args.m o.whole.sound this c.free-content.ensures.frees c.give_back.ensures.back c.give_back.ensures.nodes clear in
    subst (λ (r : Option Refused). Spends (kept_of g d slots r) (kept_of g c.give_back.new.diagrams new r) (Move c.args.m)) (sym none) spent.0

pub returns-clause-keeps : goal.returns-clause-keeps
returns-clause-keeps c = let d = c.args.self.now.diagrams in record { game = refl; bound = same_bound d c.give_back.new.diagrams (same_table d c.give_back.new.diagrams c.give_back.ensures.nodes) }

pub invariant_of-self-2 : goal.invariant_of-self-2
invariant_of-self-2 c =
    let o = c.args.self.now in
    let g = game_data o.game in
    let slots = o.slots.slots.items in
    let d = o.diagrams in
    let held = moves_held g d slots o.refused c.args.m c.requires in
    let this = holds_this d slots c.args.m.slot held c.free-content.result c.free-content.ensures.content in
    let new = c.free-content.new.self.slots.items in
    let none = not_refused o.refused (sym c.is_some.ensures ∙ c.if-is_some.false) in
    let clear = subst (λ (r : Option Refused). IsOpen r slots) none o.whole.unspent in
    let spent = moves_freed g o.own d c.give_back.new.diagrams slots new c.args.m o.whole.sound this c.free-content.ensures.frees c.give_back.ensures.back c.give_back.ensures.nodes clear in
    record { whole = record { made = o.whole.made; fits = fits_still g o.levels.to.items _ _ (ap (λ t. t.levels) c.give_back.ensures.nodes.table) c.give_back.ensures.nodes.order o.whole.fits; lists_are = o.whole.lists_are; early = early_fits g o.own d c.give_back.new.diagrams slots o.whole.sound (same_table d c.give_back.new.diagrams c.give_back.ensures.nodes) o.levels o.whole.early; sound = spent.1; unspent = subst (λ (r : Option Refused). IsOpen r new) (sym none) spent.2; tight = subst (λ (r : Option Refused). IsTight r c.give_back.new.diagrams.state.table) (sym none) tt; named = still_named g o.own o.levels d c.give_back.new.diagrams slots (subst (λ (r : Option Refused). IsObject g d o.own o.levels slots r) none o.whole) (same_table d c.give_back.new.diagrams c.give_back.ensures.nodes); jammed = subst (λ (r : Option Refused). IsJammed g c.give_back.new.diagrams (jam_in g (map (shown_once c.give_back.new.diagrams) new) r)) (sym none) tt }; coded = o.coded; room = o.room }
