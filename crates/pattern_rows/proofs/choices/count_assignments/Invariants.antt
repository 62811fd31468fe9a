use Rattle.std.proofs.Common.{◌≡◌, ◌*◌, ◌≤◌, drop, map, true, min}
use Rattle.std.specs.List.{list_all}
use Rattle.spec_model.specs.Views.{domain_data}
use Rattle.spec_model.specs.Sizes.{domain_size, product}
use Rattle.spec_model.specs.WellMade.{is_domain}
use Rattle.pattern_rows.proofs.choices.count_assignments.Given as goal

abbrev pub invariant-loop-domain : goal.invariant-loop-domain
invariant-loop-domain l =
    record {
      made : list_all is_domain (map domain_data (drop l.domain-index l.domains)) ≡ true;
      small : l.total ≤ 65;
      same : min 65 (l.total * product (map domain_size (map domain_data (drop l.domain-index l.domains)))) ≡ min 65 (product (map domain_size (map domain_data l.domains)));
    }
