use Rattle.std.proofs.Common.{List, slice_set, ap, ◌∙◌}
use Rattle.region_bdd.specs.declared.slots.Slot.{Slot}
use Rattle.region_bdd.specs.declared.slots.Slot.TheVariants.{Free, Spent}
use Rattle.region_bdd.proofs.SlotLaws.{set_twice}
use Rattle.region_bdd.proofs.slots.Slots.spend.Goals as goal

pub returns : goal.returns
returns c =
    let freed = c.free-content.ensures.frees in
    let i = c.args.slot in
    let old = c.args.self.now.slots.items in (
      c.free-content.result,
      c.free-content.ensures.content,
      ap (slice_set c.free-content.new.self.slots.items i) c.replace-old.ensures.after
          ∙ (ap (λ (ss : List Slot). slice_set ss i (Spent c.free-content.result)) freed.1 ∙ set_twice old i (Free freed.0) (Spent c.free-content.result)),
    )
