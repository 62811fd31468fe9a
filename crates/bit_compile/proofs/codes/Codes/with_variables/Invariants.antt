use Rattle.std.proofs.Common.{◌≡◌, ◌++◌, drop, map, true}
use Rattle.std.specs.List.{list_all}
use Rattle.spec_model.specs.Views.{variable_data}
use Rattle.spec_model.specs.Moves.{is_of, domains_of}
use Rattle.spec_model.specs.WellMade.{is_domain}
use Rattle.bit_compile.proofs.codes.Codes.with_variables.Given as goal

abbrev pub invariant-loop-v : goal.invariant-loop-v
invariant-loop-v l = record {
  made : list_all (λ v. is_domain v.domain) (map variable_data (drop l.v-index l.vars)) ≡ true;
  same : l.codes ++ domains_of (is_of l.owner) (map variable_data (drop l.v-index l.vars)) ≡ l.initial.codes ++ domains_of (is_of l.owner) (map variable_data l.vars);
}
