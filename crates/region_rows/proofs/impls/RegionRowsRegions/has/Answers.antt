use Rattle.std.proofs.Common.{◌≡◌, ◌&&◌, sym, ap, ◌∙◌}
use Rattle.spec_model.specs.GameViews.{game_data}
use Rattle.region_rows.specs.Rows.{bit_of}
use Rattle.game_states.specs.Numbers.{number_of_state}
use Rattle.region_rows.proofs.RowLaws.{has_row, set-row}
use Rattle.region_rows.proofs.impls.RegionRowsRegions.has.Goals as goal

pub row-requires : goal.row-requires
row-requires c = has_row (game_data c.args.self.now.numbered.game) c.args.self.now.slots.slots.items c.args.a.now c.requires.a

pub returns-in-Some-clause-answer : goal.returns-in-Some-clause-answer
returns-in-Some-clause-answer c = λ s here listed_is.
    let self = c.args.self.now in
    let g = game_data self.numbered.game in
    let found = c.in-Some.ensures s here listed_is in
    let number : c.in-Some.k ≡ number_of_state g s = cc (found) in
    c.has.ensures ∙ (ap (bit_of c.row.result.now) number ∙ (sym (ap (λ b. b && bit_of c.row.result.now (number_of_state g s)) here) ∙ sym (ap (λ t. t s) (set-row g self.slots.slots.items c.args.a.now c.row.result.now c.row.ensures))))
