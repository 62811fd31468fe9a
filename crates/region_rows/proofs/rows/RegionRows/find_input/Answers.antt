use Rattle.std.proofs.Common.{◌≡◌, find, sym, ap, subst, ◌∙◌}
use Rattle.spec_model.specs.GameViews.{game_data}
use Rattle.spec_model.specs.Games.{inputs_of}
use Rattle.regions.specs.Kept.{Inputs as InputMoves}
use Rattle.regions.specs.Rules.{inputs_into, AreBefore}
use Rattle.region_rows.specs.declared.slots.Slot.TheVariants.{Free, Inputs}
use Rattle.region_rows.specs.Slots.{marked, content_meaning, content_at}
use Rattle.region_rows.proofs.FindLaws.{get-default}
use Rattle.region_rows.proofs.rows.RegionRows.find_input.Goals as goal

pub returns-in-Inputs : goal.returns-in-Inputs
returns-in-Inputs c = λ when t b meaning before.
    let self = c.args.self.now in
    let g = game_data self.numbered.game in
    let slots = self.slots.slots.items in
    let row = c.in-Inputs.row in
    let content : content_at slots c.args.m.now.slot ≡ Inputs c.in-Inputs.when row = get-default slots c.args.m.now.slot (Free 0) c.index.result.now c.requires.there ∙ (sym c.index.ensures ∙ c.in-Inputs.is) in
    let e : InputMoves c.in-Inputs.when (marked g row) ≡ InputMoves when t = ap (content_meaning g) (sym content) ∙ meaning in
    let time : c.in-Inputs.when ≡ when = cc (e) in
    let target : marked g row ≡ t = cc (e) in
    ap (λ u. find (inputs_into g u t b) (inputs_of g)) (sym time)
    ∙ (ap (λ s. find (inputs_into g c.in-Inputs.when s b) (inputs_of g)) (sym target)
    ∙ c.input_when.ensures b (subst (λ u. AreBefore g u b c.args.state.now) (sym time) before))
