use Rattle.std.proofs.Common.{ℕ, ◌∙◌, ap}
use Rattle.bdd_reorder.specs.Copying.{copies_at}
use Rattle.bdd_reorder.proofs.ReleasingLemmas.{none_left, popped_root, popped_left, copies_popped, all_released}
use Rattle.bdd_reorder.proofs.memo.Memo.clear.Goals as goal

pub release-requires : goal.release-requires
release-requires c =
    popped_root c.args.to.now.state c.loop-copied.to.state c.loop-copied.to.state (λ (n : ℕ). copies_at n c.args.self.now.copies.items) (λ (n : ℕ). copies_at n c.loop-copied.self.copies.items) (λ (n : ℕ). copies_at n c.pop.new.self.items) c.in-Some.copied.root c.loop-copied.invariant.left
    (copies_popped c.loop-copied.self.copies.items c.pop.new.self.items c.in-Some.copied c.in-Some.ensures.items) c.requires

pub loop-copied-preserved : goal.loop-copied-preserved
loop-copied-preserved c =
    record {
      left = popped_left c.args.to.now.state c.loop-copied.to.state c.release.new.self.state (λ (n : ℕ). copies_at n c.args.self.now.copies.items) (λ (n : ℕ). copies_at n c.loop-copied.self.copies.items) (λ (n : ℕ). copies_at n c.pop.new.self.items) c.in-Some.copied.root c.loop-copied.invariant.left
          (copies_popped c.loop-copied.self.copies.items c.pop.new.self.items c.in-Some.copied c.in-Some.ensures.items) c.release.ensures.released;
      table = c.release.ensures.table ∙ c.loop-copied.invariant.table;
    }

pub returns-clause-released : goal.returns-clause-released
returns-clause-released c =
    all_released c.args.to.now.state c.loop-copied.to.state (λ (n : ℕ). copies_at n c.args.self.now.copies.items) (λ (n : ℕ). copies_at n c.loop-copied.self.copies.items) c.loop-copied.invariant.left (λ n. ap (copies_at n) (none_left c.loop-copied.self.copies c.in_default.ensures.cases.0))

pub returns-clause-empty : goal.returns-clause-empty
returns-clause-empty c = none_left c.pop.new.self c.in_default.ensures.cases.1
