use Rattle.std.proofs.Common.{◌≡◌, ◌∷◌, ◌+◌, ◌*◌, ◌∙◌, sym, ap, arith, map, min, drop, length}
use Rattle.spec_model.specs.Values.{assignments_of}
use Rattle.spec_model.specs.Views.{variable_data}
use Rattle.spec_model.specs.Moves.{domains_of}
use Rattle.spec_model.specs.WellMade.{is_domain}
use Rattle.game_states.specs.Options.{owned_by}
use Rattle.game_values.proofs.Lists.{map_drop}
use Rattle.game_states.proofs.Counts.{made_here, count_owned_more, count_owned_same}
use Rattle.game_states.proofs.options.count_owned.Goals as goal
use Rattle.game_states.proofs.options.count_owned.Goals.{then-owns, else-owns}

pub loop-v-preserved : goal.loop-v-preserved
loop-v-preserved c =
    let list = map_drop variable_data c.args.vars.now c.loop-v.v-index c.v-item.result c.loop-v-test.true c.v-item.is in
    let parts = made_here variable_data (λ v. is_domain v.domain) c.args.vars.now c.loop-v.v-index c.v-item.result c.loop-v-test.true c.v-item.is c.loop-v.invariant.made in
    let left = map variable_data (drop (c.loop-v.v-index + 1) c.args.vars.now) in
    let v = variable_data c.v-item.result in
    let so_far = c.loop-v.invariant.same in
    let before : min 1025 (c.loop-v.total * length (assignments_of (domains_of (owned_by c.args.owner) (v ∷ left)))) ≡ min 1025 (c.args.start * length (assignments_of (domains_of (owned_by c.args.owner) (map variable_data c.args.vars.now)))) =
    ap (λ vs. min 1025 (c.loop-v.total * length (assignments_of (domains_of (owned_by c.args.owner) vs)))) (sym list) ∙ so_far in
    elim c.if-owns.branch [
      | then-owns w ↦
          let total = w.total-is ∙ (w.times-total.ensures ∙ ap (λ n. min 1025 (c.loop-v.total * n)) w.domain_size.ensures) in
          record {
            made = parts.1;
            small = omega (arith, total);
            same = ap (λ t. min 1025 (t * length (assignments_of (domains_of (owned_by c.args.owner) left)))) total ∙ (count_owned_more (owned_by c.args.owner) v left c.loop-v.total (sym c.owns.ensures ∙ w.if-owns.true) parts.1 ∙ before);
          }
      | else-owns w ↦
          record {
            made = parts.1;
            small = omega (arith, w.total-is);
            same = ap (λ t. min 1025 (t * length (assignments_of (domains_of (owned_by c.args.owner) left)))) w.total-is ∙ (ap (λ ds. min 1025 (c.loop-v.total * length (assignments_of ds))) (sym (count_owned_same (owned_by c.args.owner) v left (sym c.owns.ensures ∙ w.if-owns.false))) ∙ before);
          }
    ]
