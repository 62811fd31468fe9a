use Rattle.std.proofs.Common.{◌∙◌, List, sym, subst, arith}
use Rattle.std.specs.List.{AllByRecursion}
use Rattle.spec_model.specs.Diagrams.{Diagram}
use Rattle.bdd_store.specs.State.{IsRoot}
use Rattle.bdd_reorder.specs.declared.memo.Copied.{Copied}
use Rattle.bdd_reorder.specs.Making.{MakesCopies}
use Rattle.bdd_reorder.specs.Copying.{IsCopy}
use Rattle.bdd_reorder.proofs.KeepingLemmas.{one_itself}
use Rattle.bdd_reorder.proofs.CrowdingLemmas.{all_wider}
use Rattle.bdd_reorder.proofs.ListCopyLemmas.{diagrams_stay}
use Rattle.bdd_reorder.proofs.copying.copy.Goals as goal

pub each-made-requires-clause-ready : goal.each-made-requires-clause-ready
each-made-requires-clause-ready c =
    let from = c.constant.new.self in
    let truth = c.in_ok-truth.truth in
    let given = c.in_ok-truth.ensures.given in
    record {
      fits = record { each = c.requires.fits.each ∙ sym given.keeps.levels; below = c.requires.fits.below };
      truth_kept = (let more = given.added truth in let one = one_itself truth in omega (arith, more, one));
      truth_is = given.meaning;
      copies = subst (λ (xs : List Copied). AllByRecursion (IsCopy from.state.table c.args.to.now c.args.levels.now) xs) (sym c.new.ensures.items) tt;
    }

pub each-made-requires-clause-kept : goal.each-made-requires-clause-kept
each-made-requires-clause-kept c =
    all_wider (IsRoot c.args.from.now.state) (IsRoot c.constant.new.self.state) (λ n root. (let more = c.in_ok-truth.ensures.given.added n in omega (arith, more, root))) c.args.roots.now c.requires.kept

pub returns-clause-copied : goal.returns-clause-copied
returns-clause-copied c =
    let same = diagrams_stay c.args.from.now c.constant.new.self c.args.roots.now c.requires.kept c.in_ok-truth.ensures.given.keeps in
    subst (λ (ds : List Diagram). MakesCopies c.args.to.now c.each-made.new.to c.each-made.result c.args.levels.now ds) same c.each-made.ensures.copied
