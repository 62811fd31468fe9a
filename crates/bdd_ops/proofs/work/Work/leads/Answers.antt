use Rattle.std.proofs.Common.{◌≡◌, ◌+◌, true, false, ◌∙◌, sym, arith}
use Rattle.std.proofs.lemmas.Bool.{false≢true}
use Rattle.bdd_ops.specs.Paths.{Agrees}
use Rattle.bdd_ops.specs.Together.{all_in, SettlesRow}
use Rattle.bdd_ops.proofs.RowLemmas.{agrees_above}
use Rattle.bdd_ops.proofs.FirstLemmas.{with_forbidden}
use Rattle.bdd_ops.proofs.work.Work.leads.Goals as goal

pub returns-then-not-allows_at-clause-none : goal.returns-then-not-allows_at-clause-none
returns-then-not-allows_at-clause-none c = λ same.
    with_forbidden c.args.fixed.now (all_in c.args.self.now c.args.row.now) c.args.level c.args.bit (λ allowed. false≢true (sym c.if-not-allows_at.true ∙ c.allows_at.ensures.1 allowed))

pub returns-clause-next : goal.returns-clause-next
returns-clause-next c = λ found.
    let settles : SettlesRow c.args.self.now c.args.fixed.now (c.args.level + 1) c.choose.new.next c.settle.new.row = c.settle.ensures.settles found (c.args.level + 1) c.choose.ensures.row in
    record {
      allowed = c.allows_at.ensures.0 c.if-not-allows_at.false;
      row = settles.row;
      same = λ s here later. settles.same s later ∙ c.choose.ensures.same s here;
    }

pub returns-clause-none : goal.returns-clause-none
returns-clause-none c = λ same s here agrees makes.
    let later : Agrees c.args.fixed.now (c.args.level + 1) s = agrees_above c.args.fixed.now c.args.level (c.args.level + 1) s (omega arith) agrees in
    let is_false : all_in c.args.self.now c.choose.new.next s ≡ false = c.settle.ensures.none same (c.args.level + 1) c.choose.ensures.row s later in
    let is_true : all_in c.args.self.now c.choose.new.next s ≡ true = c.choose.ensures.same s here ∙ makes in
    false≢true (sym is_false ∙ is_true)
