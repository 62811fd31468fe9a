use Rattle.std.proofs.Common.{◌≡◌, find, sym, ap, subst, ◌∙◌}
use Rattle.spec_model.specs.GameViews.{game_data}
use Rattle.spec_model.specs.Games.{outputs_of}
use Rattle.regions.specs.Kept.{Outputs as OutputMoves}
use Rattle.regions.specs.Rules.{outputs_into, AreBefore}
use Rattle.region_rows.specs.declared.slots.Slot.TheVariants.{Free, Outputs}
use Rattle.region_rows.specs.Slots.{marked, content_meaning, content_at}
use Rattle.region_rows.proofs.FindLaws.{get-default}
use Rattle.region_rows.proofs.rows.RegionRows.find_output.Goals as goal

pub returns-in-Outputs : goal.returns-in-Outputs
returns-in-Outputs c = λ when t b meaning before.
    let self = c.args.self.now in
    let g = game_data self.numbered.game in
    let slots = self.slots.slots.items in
    let row = c.in-Outputs.row in
    let content : content_at slots c.args.m.now.slot ≡ Outputs c.in-Outputs.when row = get-default slots c.args.m.now.slot (Free 0) c.index.result.now c.requires.there ∙ (sym c.index.ensures ∙ c.in-Outputs.is) in
    let e : OutputMoves c.in-Outputs.when (marked g row) ≡ OutputMoves when t = ap (content_meaning g) (sym content) ∙ meaning in
    let time : c.in-Outputs.when ≡ when = cc (e) in
    let target : marked g row ≡ t = cc (e) in
    ap (λ u. find (outputs_into g u t b c.args.input.now) (outputs_of g)) (sym time)
    ∙ (ap (λ s. find (outputs_into g c.in-Outputs.when s b c.args.input.now) (outputs_of g)) (sym target)
    ∙ c.output_when.ensures b (subst (λ u. AreBefore g u b c.args.state.now) (sym time) before))
