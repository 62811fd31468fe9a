use Rattle.bdd_bits.proofs.CallLemmas.{same_then}
use Rattle.bit_compile.proofs.Between.{none_left}
use Rattle.bdd_sets.proofs.ListLemmas.{popped_root, popped_left, all_popped}
use Rattle.bdd_sets.proofs.lists.release_list.Goals as goal

pub release-requires : goal.release-requires
release-requires c = popped_root c.args.diagrams.now.state c.loop-root.diagrams.state c.loop-root.diagrams.state c.args.roots.items c.loop-root.roots.items c.pop.new.self.items c.in-Some.root c.loop-root.invariant.left c.in-Some.ensures.items c.requires

pub loop-root-preserved : goal.loop-root-preserved
loop-root-preserved c =
    record {
      left = popped_left c.args.diagrams.now.state c.loop-root.diagrams.state c.release.new.self.state c.args.roots.items c.loop-root.roots.items c.pop.new.self.items c.in-Some.root c.loop-root.invariant.left c.in-Some.ensures.items c.release.ensures.released;
      nodes = same_then _ _ _ c.loop-root.invariant.nodes c.release.ensures.nodes;
    }

pub returns-clause-released : goal.returns-clause-released
returns-clause-released c = all_popped c.args.diagrams.now.state c.loop-root.diagrams.state c.args.roots.items c.loop-root.roots.items c.loop-root.invariant.left (none_left c.loop-root.roots c.in_default.ensures.cases.0)
