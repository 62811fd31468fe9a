use Rattle.std.proofs.Common.{sym, ◌∙◌}
use Rattle.spec_model.proofs.Domains.{none_in_range, none_named, named, no_number, no_name}
use Rattle.spec_model.proofs.variables.has_value.Goals as goal

pub returns-in-Bool-value : goal.returns-in-Bool-value
returns-in-Bool-value c = rw c.in-Range.is (sym (none_in_range c.args.value (no_number c.args.value c.in-Bool-value.is) c.in-Range.lo c.in-Range.hi))

pub returns-in-Name : goal.returns-in-Name
returns-in-Name c = rw (c.in-Names.is, c.in-Name.is) (c.has_name.ensures ∙ rw c.deref.ensures.value (sym (named c.in-Name.n c.in-Names.names.items)))

pub returns-in-Bool-value-2 : goal.returns-in-Bool-value-2
returns-in-Bool-value-2 c = rw c.in-Names.is (sym (none_named c.args.value (no_name c.args.value c.in-Bool-value-2.is) c.in-Names.names.items))
