use Rattle.bdd_bits.proofs.CallLemmas.{same_then}
use Rattle.bit_compile.proofs.Between.{popped_root, popped_left, all_popped, none_left}
use Rattle.bit_compile.proofs.cases.release_all.Goals as goal

pub release-requires : goal.release-requires
release-requires c = popped_root c.args.diagrams.now.state c.loop-case.diagrams.state c.loop-case.diagrams.state c.args.cases.items c.loop-case.cases.items c.pop.new.self.items c.in-Some.case c.loop-case.invariant.left c.in-Some.ensures.items c.requires

pub loop-case-preserved : goal.loop-case-preserved
loop-case-preserved c =
    record {
      left = popped_left c.args.diagrams.now.state c.loop-case.diagrams.state c.release.new.self.state c.args.cases.items c.loop-case.cases.items c.pop.new.self.items c.in-Some.case c.loop-case.invariant.left c.in-Some.ensures.items c.release.ensures.released;
      nodes = same_then _ _ _ c.loop-case.invariant.nodes c.release.ensures.nodes;
    }

pub returns-clause-released : goal.returns-clause-released
returns-clause-released c = all_popped c.args.diagrams.now.state c.loop-case.diagrams.state c.args.cases.items c.loop-case.cases.items c.loop-case.invariant.left (none_left c.loop-case.cases c.in_default.ensures.cases.0)
