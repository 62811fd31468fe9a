use Rattle.std.proofs.Common.{sym, subst, inl}
use Rattle.bdd_store.specs.State.{IsHeld, IsRoot}
use Rattle.bdd_store.proofs.Held.{start_held}
use Rattle.bdd_ops.specs.Contents.{Contents}
use Rattle.bdd_ops.proofs.work.Work.edge.Goals as goal

pub returns-clause-held : goal.returns-clause-held
returns-clause-held c =
    let root = subst (IsRoot c.self.inside.store) (sym c.edge.ensures.value) (subst (λ (x : Contents). IsRoot x.state c.args.root.now) (sym c.self.view_is) c.requires) in
    subst (λ (x : Contents). IsHeld x.state c.edge.result.0) c.self.view_is (start_held c.self.inside.store c.self.inside.store.stack c.edge.result.0 (inl root) c.edge.ensures.live)
