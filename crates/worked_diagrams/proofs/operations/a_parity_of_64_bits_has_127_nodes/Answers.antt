use Rattle.std.proofs.Common.{◌≡◌, ◌∙◌, Ok}
use Rattle.bdd_store.specs.State.{AddsRoot}
use Rattle.worked_diagrams.proofs.RootLemmas.{root_made}
use Rattle.worked_diagrams.proofs.operations.a_parity_of_64_bits_has_127_nodes.Goals as goal

pub loop-k-init : goal.loop-k-init
loop-k-init g c =
    let is_ok : c.constant.result ≡ Ok c.expect-x.result = c.expect-x.ensures in
    let adds : AddsRoot c.in_ok-diagrams.diagrams.state c.constant.new.self.state c.expect-x.result = rw is_ok at c.constant.ensures.given.added in
    record {
      kept = root_made c.in_ok-diagrams.diagrams.state c.constant.new.self.state c.expect-x.result adds;
      levels = c.constant.ensures.given.keeps.levels ∙ c.in_ok-diagrams.ensures.has_levels;
    }
