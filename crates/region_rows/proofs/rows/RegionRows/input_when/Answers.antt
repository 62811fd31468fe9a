use Rattle.std.proofs.Common.{None, option_map, map, slice_get, find, sym, ap, subst, ◌∙◌}
use Rattle.spec_model.specs.GameViews.{game_data}
use Rattle.spec_model.specs.Games.{inputs_of}
use Rattle.spec_model.proofs.Closed.{closed}
use Rattle.regions.specs.Rules.{inputs_into, AreBefore}
use Rattle.region_rows.specs.Slots.{marked}
use Rattle.region_rows.proofs.FindLaws.{first_inputs, later_inputs}
use Rattle.region_rows.proofs.rows.RegionRows.input_when.Goals as goal
use Rattle.region_rows.proofs.rows.RegionRows.input_when.Goals.{in-First, in-Later}

pub returns : goal.returns
returns c = λ b before.
    let self = c.args.self.now in
    let g = game_data self.numbered.game in
    let t = marked g c.args.row.now in
    let values = c.args.state.now in
    elim c.match-when.branch [
      | in-First w ↦
          let found = w.first_input-k.ensures None (λ x y ex ey. (closed g self.numbered.made).first x y ex ey) (ap (map (option_map (λ m. m.items))) w.deref.ensures.value ∙ self.first_moves) in
          ap (λ u. find (inputs_into g u t b) (inputs_of g)) w.in-First.is
          ∙ (first_inputs g t values b (subst (λ u. AreBefore g u b values) w.in-First.is before)
          ∙ (sym found ∙ (ap (slice_get (inputs_of g)) (sym w.k-is) ∙ c.write_input.ensures)))
      | in-Later w ↦
          ap (λ u. find (inputs_into g u t b) (inputs_of g)) w.in-Later.is
          ∙ (later_inputs g t values b (slice_get (inputs_of g) w.later_input-k.result) (subst (λ u. AreBefore g u b values) w.in-Later.is before) w.later_input-k.ensures
          ∙ (ap (slice_get (inputs_of g)) (sym w.k-is) ∙ c.write_input.ensures))
    ]
