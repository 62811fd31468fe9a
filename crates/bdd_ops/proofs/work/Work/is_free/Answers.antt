use Rattle.bdd_store.specs.State.{diagram_of}
use Rattle.bdd_ops.specs.Contents.{function_at, list_at}
use Rattle.bdd_ops.proofs.OverLemmas.{constant_free, past_free}
use Rattle.bdd_ops.proofs.work.Work.is_free.Goals as goal

pub returns-in-Some : goal.returns-in-Some
returns-in-Some c = λ all. constant_free all (list_at c.args.self.now c.args.list) (diagram_of c.args.self.now.state c.args.a.0) c.in-Some.field-0 c.in-Some.ensures

pub returns-in-None : goal.returns-in-None
returns-in-None c =
    past_free (list_at c.args.self.now c.args.list) c.level.result (function_at c.args.self.now c.args.a.0) c.is_past.result _ c.is_past.ensures c.level.ensures.ignores c.in-None.ensures
