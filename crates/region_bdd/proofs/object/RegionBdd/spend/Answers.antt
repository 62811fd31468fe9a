use Rattle.std.proofs.Common.{List, map, Option, refl, sym, ◌∙◌, ap, subst}
use Rattle.spec_model.specs.GameViews.{game_data}
use Rattle.regions.specs.Kept.{Region as RegionItem, Spends}
use Rattle.bdd_sets.proofs.ShiftLemmas.{fits_still}
use Rattle.region_bdd.specs.declared.slots.Content.TheVariants.{Region}
use Rattle.region_bdd.specs.declared.own.Refused.{Refused}
use Rattle.region_bdd.specs.Needs.{IsTight}
use Rattle.region_bdd.specs.Slots.{Shown, shown_once}
use Rattle.region_bdd.specs.Crowding.{IsJammed}
use Rattle.region_bdd.specs.Object.{IsObject, IsOpen, jam_in, kept_of}
use Rattle.region_bdd.proofs.BoundLaws.{same_bound}
use Rattle.region_bdd.proofs.SlotLaws.{once_marked}
use Rattle.region_bdd.proofs.Refusals.{still_named}
use Rattle.region_bdd.proofs.ObjectLaws.{region_root, spends_freed, spends_marked, some_refused, not_refused, early_fits, same_table}
use Rattle.region_bdd.proofs.SetCalls.{held_root}
use Rattle.region_bdd.proofs.object.RegionBdd.spend.Goals as goal

pub spend-requires : goal.spend-requires
spend-requires c =
    let o = c.args.self.now in
    let root = region_root (game_data o.game) o.diagrams o.slots.slots.items o.refused c.args.a c.requires in
    (Region root.0, root.1)

pub returns-then-is_some-clause-spends : goal.returns-then-is_some-clause-spends
returns-then-is_some-clause-spends c =
    let o = c.args.self.now in
    let g = game_data o.game in
    let slots = o.slots.slots.items in
    let new = c.spend.new.self.slots.items in
    let root = region_root g o.diagrams slots o.refused c.args.a c.requires in
    let some = some_refused o.refused (sym c.is_some.ensures ∙ c.if-is_some.true) in
    let spent = spends_marked g o.own o.diagrams o.diagrams slots new c.args.a root.0 c.args.self.now.whole.sound root.1 some.0 c.spend.ensures in
    subst (λ (r : Option Refused). Spends (kept_of g o.diagrams slots r) (kept_of g o.diagrams new r) (RegionItem c.args.a)) (sym some.1) spent.0

pub invariant_of-self : goal.invariant_of-self
invariant_of-self c =
    let o = c.args.self.now in
    let g = game_data o.game in
    let slots = o.slots.slots.items in
    let new = c.spend.new.self.slots.items in
    let root = region_root g o.diagrams slots o.refused c.args.a c.requires in
    let some = some_refused o.refused (sym c.is_some.ensures ∙ c.if-is_some.true) in
    let spent = spends_marked g o.own o.diagrams o.diagrams slots new c.args.a root.0 c.args.self.now.whole.sound root.1 some.0 c.spend.ensures in
    record {
      whole =
          record {
            made = c.args.self.now.whole.made;
            fits = c.args.self.now.whole.fits;
            lists_are = c.args.self.now.whole.lists_are;
            early = c.args.self.now.whole.early;
            sound = spent.1;
            unspent = subst (λ (r : Option Refused). IsOpen r new) (sym some.1) tt;
            tight = c.args.self.now.whole.tight;
            named = c.args.self.now.whole.named;
            jammed = subst (λ (shown : List Shown). IsJammed g o.diagrams (jam_in g shown o.refused)) (sym (once_marked o.diagrams slots new c.args.a.slot c.spend.ensures)) c.args.self.now.whole.jammed;
          };
      coded = c.args.self.now.coded;
      room = c.args.self.now.room;
    }

pub free_region-root-requires : goal.free_region-root-requires
free_region-root-requires c =
    let o = c.args.self.now in
    region_root (game_data o.game) o.diagrams o.slots.slots.items o.refused c.args.a c.requires

pub release-requires : goal.release-requires
release-requires c =
    let o = c.args.self.now in
    held_root (game_data o.game) o.own o.levels o.diagrams o.slots.slots.items o.refused c.args.self.now.whole c.args.a c.free_region-root.result c.free_region-root.ensures.root

pub returns-clause-spends : goal.returns-clause-spends
returns-clause-spends c =
    let o = c.args.self.now in
    let g = game_data o.game in
    let slots = o.slots.slots.items in
    let new = c.free_region-root.new.self.slots.items in
    let none = not_refused o.refused (sym c.is_some.ensures ∙ c.if-is_some.false) in
    let clear = subst (λ (r : Option Refused). IsOpen r slots) none c.args.self.now.whole.unspent in
    let spent = spends_freed g o.own o.diagrams c.release.new.self slots new c.args.a c.free_region-root.result c.args.self.now.whole.sound c.free_region-root.ensures.root c.free_region-root.ensures.frees c.release.ensures.released c.release.ensures.nodes clear in
    subst (λ (r : Option Refused). Spends (kept_of g o.diagrams slots r) (kept_of g c.release.new.self new r) (RegionItem c.args.a)) (sym none) spent.0

pub returns-clause-keeps : goal.returns-clause-keeps
returns-clause-keeps c = let d = c.args.self.now.diagrams in record { game = refl; bound = same_bound d c.release.new.self (same_table d c.release.new.self c.release.ensures.nodes) }

pub invariant_of-self-2 : goal.invariant_of-self-2
invariant_of-self-2 c =
    let o = c.args.self.now in
    let g = game_data o.game in
    let slots = o.slots.slots.items in
    let new = c.free_region-root.new.self.slots.items in
    let none = not_refused o.refused (sym c.is_some.ensures ∙ c.if-is_some.false) in
    let clear = subst (λ (r : Option Refused). IsOpen r slots) none c.args.self.now.whole.unspent in
    let spent = spends_freed g o.own o.diagrams c.release.new.self slots new c.args.a c.free_region-root.result c.args.self.now.whole.sound c.free_region-root.ensures.root c.free_region-root.ensures.frees c.release.ensures.released c.release.ensures.nodes clear in
    record {
      whole =
          record {
            made = c.args.self.now.whole.made;
            fits = fits_still g o.levels.to.items _ _ (ap (λ t. t.levels) c.release.ensures.nodes.table) c.release.ensures.nodes.order c.args.self.now.whole.fits;
            lists_are = c.args.self.now.whole.lists_are;
            early = early_fits g o.own o.diagrams c.release.new.self slots o.whole.sound (same_table o.diagrams c.release.new.self c.release.ensures.nodes) o.levels o.whole.early;
            sound = spent.1;
            unspent = subst (λ (r : Option Refused). IsOpen r new) (sym none) spent.2;
            tight = subst (λ (r : Option Refused). IsTight r c.release.new.self.state.table) (sym none) tt;
            named = still_named g o.own o.levels o.diagrams c.release.new.self slots (subst (λ (r : Option Refused). IsObject g o.diagrams o.own o.levels slots r) none o.whole) (same_table o.diagrams c.release.new.self c.release.ensures.nodes);
            jammed = subst (λ (r : Option Refused). IsJammed g c.release.new.self (jam_in g (map (shown_once c.release.new.self) new) r)) (sym none) tt;
          };
      coded = c.args.self.now.coded;
      room = c.args.self.now.room;
    }
