use Rattle.std.proofs.Common.{◌↔◌, ◌⊎◌, ◌<◌, ℕ, subst}
use Rattle.bdd_store.specs.State.{IsEdge, IsReached}
use Rattle.bdd_bits.specs.Contents.{Contents}
use Rattle.bdd_bits.proofs.diagrams.Diagrams.reclaim.Goals as goal

pub returns-clause-live : goal.returns-clause-live
returns-clause-live c = subst (λ (d : Contents). (n : ℕ) → IsEdge c.reclaim.new.self.state n ↔ ((n < 2) ⊎ IsReached d.state n)) c.self.view_is c.reclaim.ensures.live
