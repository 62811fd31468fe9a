use Rattle.std.proofs.Common.{◌≤◌, ◌+◌, ◌*◌, ◌∙◌, ◌++◌, ℕ, List, [], ◌∷◌, sym, subst}
use Rattle.node_table.specs.Table.{Table, diagram_at}
use Rattle.bdd_reorder.specs.Keeping.{times_in}
use Rattle.bdd_reorder.specs.Copying.{size_of}
use Rattle.bdd_reorder.specs.Searching.{IsSearched, turns_over}
use Rattle.bdd_reorder.proofs.ReleasingLemmas.{none_left, popped_root, times_popped}
use Rattle.bdd_reorder.proofs.LookLemmas.{still_kept, left_then, fewer_then}
use Rattle.bdd_reorder.proofs.counting.look_on.Goals as goal

pub look-looked-requires : goal.look-looked-requires
look-looked-requires c =
    popped_root c.args.from.now.state c.loop-root.from.state c.loop-root.from.state (λ (n : ℕ). times_in n c.args.waiting.now.items) (λ (n : ℕ). times_in n c.loop-root.waiting.items) (λ (n : ℕ). times_in n c.pop.new.self.items) c.in-Some.root c.loop-root.invariant.left
    (times_popped c.loop-root.waiting.items c.pop.new.self.items c.in-Some.root c.in-Some.ensures.items) c.requires

pub release-requires : goal.release-requires
release-requires c =
    still_kept c.args.from.now.state c.loop-root.from.state c.look-looked.new.from.state c.look-looked.new.from.state c.args.waiting.now.items c.loop-root.waiting.items c.pop.new.self.items c.look-looked.new.waiting.items c.in-Some.root c.loop-root.invariant.left c.in-Some.ensures.items c.look-looked.ensures.roots c.requires

pub returns-in_err-looked-clause-roots : goal.returns-in_err-looked-clause-roots
returns-in_err-looked-clause-roots c =
    left_then c.args.from.now.state c.loop-root.from.state c.look-looked.new.from.state c.release.new.self.state c.args.waiting.now.items c.loop-root.waiting.items c.pop.new.self.items c.look-looked.new.waiting.items c.in-Some.root c.loop-root.invariant.left c.in-Some.ensures.items c.look-looked.ensures.roots c.release.ensures.released

pub loop-root-preserved : goal.loop-root-preserved
loop-root-preserved c =
    let t = c.args.from.now.state.table in
    let inv = c.loop-root.invariant in
    record {
      searched = λ ds s.
          let before : IsSearched t ds c.loop-root.found (c.pop.new.self.items ++ c.in-Some.root ∷ []) = subst (λ (ws : List ℕ). IsSearched t ds c.loop-root.found ws) c.in-Some.ensures.items (inv.searched ds s) in
          subst (λ (x : Table). IsSearched x ds c.look-looked.new.found c.look-looked.new.waiting.items) inv.table (c.in_ok-looked.ensures.searched ds (subst (λ (x : Table). IsSearched x ds c.loop-root.found (c.pop.new.self.items ++ c.in-Some.root ∷ [])) (sym inv.table) before));
      table = c.release.ensures.table ∙ (c.look-looked.ensures.table ∙ inv.table);
      left = left_then c.args.from.now.state c.loop-root.from.state c.look-looked.new.from.state c.release.new.self.state c.args.waiting.now.items c.loop-root.waiting.items c.pop.new.self.items c.look-looked.new.waiting.items c.in-Some.root inv.left c.in-Some.ensures.items c.look-looked.ensures.roots c.release.ensures.released;
    }

pub loop-root-smaller : goal.loop-root-smaller
loop-root-smaller c =
    let later = c.look-looked.new.waiting.items in
    let rest = c.pop.new.self.items in
    fewer_then c.args.from.now.state.table c.loop-root.waiting.items rest later c.in-Some.root c.in-Some.ensures.items
    (subst (λ (x : Table). turns_over x later ≤ turns_over x rest + 2 * size_of (diagram_at x c.in-Some.root)) c.loop-root.invariant.table c.in_ok-looked.ensures.fewer)

pub returns-clause-searched : goal.returns-clause-searched
returns-clause-searched c = λ ds s.
    subst (λ (ws : List ℕ). IsSearched c.args.from.now.state.table ds c.loop-root.found ws) (none_left c.loop-root.waiting c.in_default.ensures.cases.0) (c.loop-root.invariant.searched ds s)
