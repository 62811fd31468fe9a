use Rattle.std.proofs.Common.{◌≡◌, ◌++◌, drop, map, true}
use Rattle.std.specs.List.{list_all}
use Rattle.spec_model.specs.Values.{values_of}
use Rattle.spec_model.specs.Views.{variable_data}
use Rattle.spec_model.specs.Moves.{domains_of}
use Rattle.spec_model.specs.WellMade.{is_domain}
use Rattle.game_states.specs.Options.{owned_by}
use Rattle.game_states.proofs.options.options_of.Given as goal

abbrev pub invariant-loop-v : goal.invariant-loop-v
invariant-loop-v l =
    record {
      made : list_all (λ v. is_domain v.domain) (map variable_data (drop l.v-index l.vars)) ≡ true;
      same : map (λ c. c.items) l.all.items ++ map values_of (domains_of (owned_by l.owner) (map variable_data (drop l.v-index l.vars))) ≡ map values_of (domains_of (owned_by l.owner) (map variable_data l.vars));
    }
