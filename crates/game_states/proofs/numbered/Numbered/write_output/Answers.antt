use Rattle.std.proofs.Common.{◌≡◌, ◌<◌, ◌≤◌, not, true, length, Some, List, slice_get, sym, ap, ◌∙◌, subst, arith}
use Rattle.std.proofs.lemmas.List.{length-map}
use Rattle.std.proofs.lemmas.Option.{slice_get_past}
use Rattle.spec_model.specs.Values.{Assignment}
use Rattle.spec_model.specs.GameViews.{game_data}
use Rattle.spec_model.specs.Moves.{is_env, domains_of}
use Rattle.spec_model.specs.Games.{outputs_of}
use Rattle.spec_model.specs.Steps.{is_output}
use Rattle.spec_model.proofs.AllStates.{Every}
use Rattle.spec_model.proofs.Listed.{outputs_fit}
use Rattle.game_states.proofs.SeenSteps.{every_at}
use Rattle.game_states.proofs.StateValues.{get-map-at, length-fits}
use Rattle.game_states.proofs.numbered.Numbered.write_output.Goals as goal

pub copy_from_slice-requires : goal.copy_from_slice-requires
copy_from_slice-requires c =
    let self = c.args.self.now in
    let g = game_data self.game in
    let below : c.args.k < length self.outputs.items = omega (arith, c.if-k-len.true, c.len.ensures) in
    let fits = subst (λ (l : List Assignment). Every (λ a. is_output g a ≡ true) l) (sym self.outputs_listed) (outputs_fit g) in
    let fit = every_at (λ a. is_output g a ≡ true) (λ a. a.items) self.outputs.items c.args.k c.index.result.now below c.index.ensures fits in
    c.requires ∙ sym (ap length c.deref.ensures.value ∙ length-fits (domains_of (λ o. not (is_env o)) g.variables) c.index.result.now.items fit)

pub returns-then-k-len : goal.returns-then-k-len
returns-then-k-len c =
    let self = c.args.self.now in
    let below : c.args.k < length self.outputs.items = omega (arith, c.if-k-len.true, c.len.ensures) in
    ap (λ l. slice_get l c.args.k) (sym self.outputs_listed) ∙ (get-map-at (λ a. a.items) self.outputs.items c.args.k c.index.result.now below c.index.ensures ∙ ap Some (sym (c.copy_from_slice.ensures.after ∙ c.deref.ensures.value)))

pub returns-else-k-len : goal.returns-else-k-len
returns-else-k-len c =
    let self = c.args.self.now in
    let g = game_data self.game in
    let long : length self.outputs.items ≡ length (outputs_of g) = sym (length-map self.outputs.items (λ a. a.items)) ∙ ap length self.outputs_listed in
    let past : length (outputs_of g) ≤ c.args.k = omega (arith, c.if-k-len.false, c.len.ensures, long) in
    slice_get_past (outputs_of g) c.args.k past
