use Rattle.std.proofs.Common.{◌≡◌, ◌++◌, not, drop, map, true}
use Rattle.std.specs.List.{list_all}
use Rattle.spec_model.specs.Values.{Assignment, is_assignment}
use Rattle.spec_model.specs.Views.{variable_data}
use Rattle.spec_model.specs.Moves.{is_env, domains_of}
use Rattle.spec_model.specs.WellMade.{is_domain}
use Rattle.game_play.proofs.judging.first_output.Given as goal

-- with values for the outputs that are left it is a whole output
abbrev pub invariant-loop-v : goal.invariant-loop-v
invariant-loop-v l =
    record {
      made : list_all (λ v. is_domain v.domain) (map variable_data (drop l.v-index l.vars)) ≡ true;
      fits : (rest : Assignment) → is_assignment (domains_of (λ o. not (is_env o)) (map variable_data (drop l.v-index l.vars))) rest ≡ true → is_assignment (domains_of (λ o. not (is_env o)) (map variable_data l.vars)) (l.output.items ++ rest) ≡ true;
    }
