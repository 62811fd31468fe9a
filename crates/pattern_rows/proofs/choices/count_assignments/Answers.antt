use Rattle.std.proofs.Common.{◌+◌, ◌*◌, ◌∙◌, sym, ap, arith, map, min, drop}
use Rattle.spec_model.specs.Views.{domain_data}
use Rattle.spec_model.specs.Sizes.{domain_size, product}
use Rattle.pattern_rows.proofs.Sizes.{made_here, product_here, sizes_positive, count_more}
use Rattle.pattern_rows.proofs.choices.count_assignments.Goals as goal

pub loop-domain-preserved : goal.loop-domain-preserved
loop-domain-preserved c =
    let parts = made_here c.args.domains.now c.loop-domain.domain-index c.domain-item.result c.loop-domain-test.true c.domain-item.is c.loop-domain.invariant.made in
    let left = map domain_data (drop (c.loop-domain.domain-index + 1) c.args.domains.now) in
    record {
      made = parts.1;
      small = omega (arith, c.times-total.ensures);
      same =
          ap (λ t. min 65 (t * product (map domain_size left))) (c.times-total.ensures ∙ ap (λ n. min 65 (c.loop-domain.total * n)) c.domain_size.ensures)
          ∙ (count_more c.loop-domain.total (domain_size (domain_data c.domain-item.result)) (product (map domain_size left)) (sizes_positive left parts.1)
          ∙ (ap (λ n. min 65 (c.loop-domain.total * n)) (sym (product_here c.args.domains.now c.loop-domain.domain-index c.domain-item.result c.loop-domain-test.true c.domain-item.is)) ∙ c.loop-domain.invariant.same));
    }
