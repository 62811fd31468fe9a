use Rattle.std.proofs.Common.{◌+◌, ◌*◌, ◌∙◌, sym, ap, arith, map, min, drop, length, nat_lt}
use Rattle.spec_model.specs.GameViews.{hidden_data}
use Rattle.spec_model.specs.Steps.{hidden_values}
use Rattle.game_values.proofs.Lists.{map_drop}
use Rattle.game_states.proofs.Counts.{made_here, count_hidden_more}
use Rattle.game_states.proofs.options.count_hidden.Goals as goal

pub loop-h-preserved : goal.loop-h-preserved
loop-h-preserved c =
    let list = map_drop hidden_data c.args.hidden.now c.loop-h.h-index c.h-item.result c.loop-h-test.true c.h-item.is in
    let parts = made_here hidden_data (λ h. nat_lt 0 h.values) c.args.hidden.now c.loop-h.h-index c.h-item.result c.loop-h-test.true c.h-item.is c.loop-h.invariant.made in
    record {
      made = parts.1;
      small = omega (arith, c.times-total.ensures);
      same =
          ap (λ t. min 1025 (t * length (hidden_values (map hidden_data (drop (c.loop-h.h-index + 1) c.args.hidden.now))))) c.times-total.ensures
          ∙ (count_hidden_more (hidden_data c.h-item.result) (map hidden_data (drop (c.loop-h.h-index + 1) c.args.hidden.now)) c.loop-h.total parts.1
          ∙ (ap (λ hs. min 1025 (c.loop-h.total * length (hidden_values hs))) (sym list) ∙ c.loop-h.invariant.same));
    }
