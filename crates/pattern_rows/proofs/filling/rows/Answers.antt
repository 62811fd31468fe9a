use Rattle.std.proofs.Common.{map, sym, ap, ◌∙◌, subst, length, ◌≤◌}
use Rattle.std.specs.List.{list_all}
use Rattle.std.proofs.lemmas.List.{length-map}
use Rattle.spec_model.specs.Values.{assignments_of}
use Rattle.spec_model.specs.Views.{domain_data, pattern_data}
use Rattle.spec_model.specs.WellMade.{is_domain}
use Rattle.pattern_rows.proofs.Sizes.{domains_made, few_owns}
use Rattle.pattern_rows.proofs.filling.rows.Goals as goal

pub assignments-requires : goal.assignments-requires
assignments-requires c = ap (λ ds. list_all is_domain (map domain_data ds)) c.deref.ensures.value ∙ domains_made (pattern_data c.args.pattern.now) c.requires.shaped

pub filled-requires-clause-few : goal.filled-requires-clause-few
filled-requires-clause-few c =
    let small = few_owns (pattern_data c.args.pattern.now) (map (λ c. c.items) c.in_ok-owns.owns.items) (sym c.is_wide.ensures ∙ c.if-is_wide.false) (c.in_ok-owns.ensures ∙ ap (λ ds. assignments_of (map domain_data ds)) c.deref.ensures.value) in
    subst (λ xs. length xs ≤ 64) (sym c.deref-2.ensures.value) (subst (λ n. n ≤ 64) (length-map c.in_ok-owns.owns.items (λ c. c.items)) small)
