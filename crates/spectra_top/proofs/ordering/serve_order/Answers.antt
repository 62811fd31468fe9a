use Rattle.std.proofs.Common.{Ok, Err, refl, ap}
use Rattle.spec_model.specs.Views.{spec_data}
use Rattle.spec_order.specs.declared.fault.OrderFault.{OrderFault}
use Rattle.command_words.specs.declared.words.Command.TheVariants.{Order}
use Rattle.spectra_talks.proofs.Exchanges.{nothing_done}
use Rattle.spectra_top.specs.Top as top
use Rattle.spectra_top.proofs.Decided.{is_ordered, has_too_many, few_variables, budget_said}
use Rattle.spectra_top.proofs.ordering.serve_order.Goals as goal

pub returns-in-Ok : goal.returns-in-Ok
returns-in-Ok g c = λ left reads faults.
    let few = few_variables (spec_data c.args.spec.now) (Ok c.in-Ok.report) c.in-Ok.ensures.limit (λ is. absurd (cc)) in
    is_ordered Order _ _ _ _ _ c.in-Ok.report refl few c.in-Ok.ensures.found (c.say_report.ensures left reads faults)

pub returns-in-Err-Limit : goal.returns-in-Err-Limit
returns-in-Err-Limit g c = λ left reads faults.
    let many = c.in-Err-Limit.ensures.limit.0 (ap (λ (f : OrderFault). Err f) c.in-Err-Limit.field-0-is) in
    has_too_many Order _ _ _ _ _ refl many (c.say_size_limit.ensures left reads faults)

pub returns-in-Err-Budget : goal.returns-in-Err-Budget
returns-in-Err-Budget g c = λ left reads faults.
    let short = c.in-Err-Budget.ensures.budget (ap (λ (f : OrderFault). Err f) c.in-Err-Budget.field-0-is) in
    let few = few_variables (spec_data c.args.spec.now) (Err c.in-Err-Budget.field-0) c.in-Err-Budget.ensures.limit (λ is. absurd (let other = c.in-Err-Budget.field-0-is in cc)) in
    budget_said Order _ _ _ _ _ tt short.0 (few, short.1) (c.say_node_budget.ensures left reads faults)

pub returns-in-Err-Memory : goal.returns-in-Err-Memory
returns-in-Err-Memory g c = λ left reads faults. top.no_memory (nothing_done _)
