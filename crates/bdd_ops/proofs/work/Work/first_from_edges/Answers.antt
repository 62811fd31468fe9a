use Rattle.std.proofs.Common.{length}
use Rattle.spec_model.specs.DiagramReads.{bits_of}
use Rattle.bdd_ops.specs.Together.{all_in}
use Rattle.bdd_ops.specs.Searching.{row_at}
use Rattle.bdd_ops.proofs.FirstLemmas.{first_agreeing, none_agreeing}
use Rattle.bdd_ops.proofs.work.Work.first_from_edges.Goals as goal

pub first_in-requires-clause-row : goal.first_in-requires-clause-row
first_in-requires-clause-row c = (c.begin.ensures.first c.if-begin.true).row

pub returns-then-begin-clause-first : goal.returns-then-begin-clause-first
returns-then-begin-clause-first c = λ found.
    first_agreeing c.args.fixed.now (all_in c.args.self.now c.args.edges.now) (all_in c.args.self.now (row_at c.begin.new.rows (length c.args.edges.now) 0)) 0 c.args.self.now.state.table.levels (bits_of c.first_in.new.out) (c.begin.ensures.first c.if-begin.true).same (c.first_in.ensures.first found)

pub returns-then-begin-clause-none : goal.returns-then-begin-clause-none
returns-then-begin-clause-none c = λ none.
    none_agreeing c.args.fixed.now (all_in c.args.self.now c.args.edges.now) (all_in c.args.self.now (row_at c.begin.new.rows (length c.args.edges.now) 0)) 0 (c.begin.ensures.first c.if-begin.true).same (c.first_in.ensures.none none)

pub returns-else-begin-clause-none : goal.returns-else-begin-clause-none
returns-else-begin-clause-none c = λ none. c.begin.ensures.none c.if-begin.false
