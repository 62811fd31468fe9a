use Rattle.std.proofs.Common.{ℕ, ◌∙◌, ap}
use Rattle.bdd_reorder.specs.Keeping.{times_in}
use Rattle.bdd_reorder.proofs.ReleasingLemmas.{none_left, popped_root, popped_left, times_popped, all_released}
use Rattle.bdd_reorder.proofs.copying.release_all.Goals as goal

pub release-requires : goal.release-requires
release-requires c =
    popped_root c.args.diagrams.now.state c.loop-root.diagrams.state c.loop-root.diagrams.state (λ (n : ℕ). times_in n c.args.roots.items) (λ (n : ℕ). times_in n c.loop-root.roots.items) (λ (n : ℕ). times_in n c.pop.new.self.items) c.in-Some.root c.loop-root.invariant.left
    (times_popped c.loop-root.roots.items c.pop.new.self.items c.in-Some.root c.in-Some.ensures.items) c.requires

pub loop-root-preserved : goal.loop-root-preserved
loop-root-preserved c =
    record {
      left = popped_left c.args.diagrams.now.state c.loop-root.diagrams.state c.release.new.self.state (λ (n : ℕ). times_in n c.args.roots.items) (λ (n : ℕ). times_in n c.loop-root.roots.items) (λ (n : ℕ). times_in n c.pop.new.self.items) c.in-Some.root c.loop-root.invariant.left
          (times_popped c.loop-root.roots.items c.pop.new.self.items c.in-Some.root c.in-Some.ensures.items) c.release.ensures.released;
      table = c.release.ensures.table ∙ c.loop-root.invariant.table;
    }

pub returns-clause-released : goal.returns-clause-released
returns-clause-released c =
    all_released c.args.diagrams.now.state c.loop-root.diagrams.state (λ (n : ℕ). times_in n c.args.roots.items) (λ (n : ℕ). times_in n c.loop-root.roots.items) c.loop-root.invariant.left (λ n. ap (times_in n) (none_left c.loop-root.roots c.in_default.ensures.cases.0))
