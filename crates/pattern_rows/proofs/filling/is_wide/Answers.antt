use Rattle.std.proofs.Common.{map, ap, ◌∙◌}
use Rattle.std.specs.List.{list_all}
use Rattle.spec_model.specs.Views.{domain_data, pattern_data}
use Rattle.spec_model.specs.WellMade.{is_domain}
use Rattle.pattern_rows.proofs.Sizes.{domains_made}
use Rattle.pattern_rows.proofs.filling.is_wide.Goals as goal

pub count_assignments-requires : goal.count_assignments-requires
count_assignments-requires c = ap (λ ds. list_all is_domain (map domain_data ds)) c.deref.ensures.value ∙ domains_made (pattern_data c.args.pattern.now) c.requires
