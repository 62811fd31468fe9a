use Rattle.std.proofs.Common.{◌≡◌, ◌<◌, Some, option_map, map, length, slice_get, ap, ◌∙◌, arith}
use Rattle.spec_model.specs.GameViews.{game_data}
use Rattle.spec_model.specs.Steps.{states_of}
use Rattle.spec_model.proofs.Closed.{closed}
use Rattle.game_states.specs.Numbers.{number_of_state}
use Rattle.game_states.proofs.StateNumbers.{state_here, number_below}
use Rattle.region_rows.proofs.Tabled.{length-later, at_state}
use Rattle.region_rows.proofs.rows.RegionRows.later_input.Goals as goal

pub returns-then-p-len : goal.returns-then-p-len
returns-then-p-len c = λ s here listed_is.
    let self = c.args.self.now in
    let g = game_data self.numbered.game in
    let found = c.in-Some.ensures s here listed_is in
    let p : c.in-Some.p ≡ number_of_state g s = cc (found) in
    let below : c.in-Some.p < length self.later.items = omega (arith, c.if-p-len.true, c.len.ensures) in
    let at = at_state self c.in-Some.p c.index.result.now below c.index.ensures s (ap (slice_get (states_of g)) p ∙ state_here g s here) in
    c.first_input.ensures (Some s) (λ x y ex ey. (closed g self.numbered.made).later s x y here ex ey) (ap (map (option_map (λ a. a.items))) c.deref.ensures.value ∙ at)

pub returns-else-p-len : goal.returns-else-p-len
returns-else-p-len c = λ s here listed_is.
    let self = c.args.self.now in
    let g = game_data self.numbered.game in
    let found = c.in-Some.ensures s here listed_is in
    let p : c.in-Some.p ≡ number_of_state g s = cc (found) in
    absurd (omega (arith, c.if-p-len.false, c.len.ensures, p, number_below g s here, length-later self))
