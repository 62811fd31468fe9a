-- The text of each fault is the one that the table gives.
use Rattle.std.proofs.Common.{sym, ap, rules}
use Rattle.std.specs.Fmt.{digits}
use Rattle.spectra_trees.specs.Faults.{fault_text}
use Rattle.spectra_trees.proofs.faults.fault_text.Goals as goal

pub returns-in-1 : goal.returns-in-1
unfolding fault_text digits
returns-in-1 c = sym (ap fault_text c.in-1.is)

pub returns-in-2 : goal.returns-in-2
unfolding fault_text digits
returns-in-2 c = sym (ap fault_text c.in-2.is)

pub returns-in-3 : goal.returns-in-3
unfolding fault_text digits
returns-in-3 c = sym (ap fault_text c.in-3.is)

pub returns-in-4 : goal.returns-in-4
unfolding fault_text digits
returns-in-4 c = sym (ap fault_text c.in-4.is)

pub returns-in-5 : goal.returns-in-5
unfolding fault_text digits
returns-in-5 c = sym (ap fault_text c.in-5.is)

pub returns-in-6 : goal.returns-in-6
unfolding fault_text digits
returns-in-6 c = sym (ap fault_text c.in-6.is)

pub returns-in-7 : goal.returns-in-7
unfolding fault_text digits
returns-in-7 c = sym (ap fault_text c.in-7.is)

pub returns-in-8 : goal.returns-in-8
unfolding fault_text digits
returns-in-8 c = sym (ap fault_text c.in-8.is)

pub returns-in-9 : goal.returns-in-9
unfolding fault_text digits
returns-in-9 c = sym (ap fault_text c.in-9.is)

pub returns-in-10 : goal.returns-in-10
unfolding fault_text digits
returns-in-10 c = sym (ap fault_text c.in-10.is)

pub returns-in-11 : goal.returns-in-11
unfolding fault_text digits
returns-in-11 c = sym (ap fault_text c.in-11.is)

pub returns-in-12 : goal.returns-in-12
unfolding fault_text digits
returns-in-12 c = sym (ap fault_text c.in-12.is)

pub returns-in-13 : goal.returns-in-13
unfolding fault_text digits
returns-in-13 c = sym (ap fault_text c.in-13.is)

pub returns-in-14 : goal.returns-in-14
unfolding fault_text digits
returns-in-14 c = sym (ap fault_text c.in-14.is)

pub returns-in-15 : goal.returns-in-15
unfolding fault_text digits
returns-in-15 c = sym (ap fault_text c.in-15.is)

pub returns-in-16 : goal.returns-in-16
unfolding fault_text digits
returns-in-16 c = sym (ap fault_text c.in-16.is)

pub returns-in-17 : goal.returns-in-17
unfolding fault_text digits
returns-in-17 c = sym (ap fault_text c.in-17.is)

pub returns-in-18 : goal.returns-in-18
unfolding fault_text digits
returns-in-18 c = sym (ap fault_text c.in-18.is)

pub returns-in-19 : goal.returns-in-19
unfolding fault_text digits
returns-in-19 c = sym (ap fault_text c.in-19.is)

pub returns-in-20 : goal.returns-in-20
unfolding fault_text digits
returns-in-20 c = sym (ap fault_text c.in-20.is)

pub returns-in-21 : goal.returns-in-21
unfolding fault_text digits
returns-in-21 c = sym (ap fault_text c.in-21.is)

pub returns-in-25 : goal.returns-in-25
unfolding fault_text digits
returns-in-25 c = sym (ap fault_text c.in-25.is)

pub returns-in-26 : goal.returns-in-26
unfolding fault_text digits
returns-in-26 c = sym (ap fault_text c.in-26.is)

pub returns-in_default : goal.returns-in_default
unfolding fault_text digits
returns-in_default c = search rules
