use Rattle.std.proofs.Common.{◌≡◌, ◌+◌, ◌∙◌, ◌++◌, ℕ, List, [], ◌∷◌, take, ap, sym, subst, refl, arith}
use Rattle.std.proofs.lemmas.List.{map-append}
use Rattle.spec_model.specs.Diagrams.{Diagram}
use Rattle.node_table.specs.Table.{Table}
use Rattle.bdd_store.specs.State.{IsRoot, diagram_of}
use Rattle.bdd_reorder.specs.Keeping.{times_in}
use Rattle.bdd_reorder.specs.Making.{diagrams_at}
use Rattle.bdd_reorder.specs.Searching.{IsSearched}
use Rattle.bdd_reorder.proofs.ElementLemmas.{all_at, take_next, take_all}
use Rattle.bdd_reorder.proofs.SearchLemmas.{nothing_searched, one_waits}
use Rattle.bdd_reorder.proofs.counting.look_at.Goals as goal

pub loop-root-init : goal.loop-root-init
loop-root-init c =
    let t = c.args.from.now.state.table in
    record {
      searched = subst (λ (ns : List ℕ). IsSearched t [] ns c.args.waiting.now.items) (sym c.requires.empty.0) (subst (λ (ws : List ℕ). IsSearched t [] [] ws) (sym c.requires.empty.1) (nothing_searched t));
      table = refl;
      kept = λ n. (let none = ap (times_in n) c.requires.empty.1 in omega (arith, none));
    }

pub look-requires : goal.look-requires
look-requires c =
    let from = c.args.from.now.state in
    let root = c.root-item.result in
    let kept : IsRoot from root = all_at (IsRoot from) c.args.roots.now root c.requires.kept (c.loop-root.root-index, c.loop-root-test.true, sym c.root-item.is) in
    let more = c.loop-root.invariant.kept root in
    omega (arith, kept, more)

pub loop-root-preserved : goal.loop-root-preserved
loop-root-preserved c =
    let from = c.args.from.now in
    let t = from.state.table in
    let l = c.loop-root in
    let inv = l.invariant in
    let root = c.root-item.result in
    let roots = c.args.roots.now in
    let ds = diagrams_at from (take l.root-index roots) in
    let before : IsSearched t (ds ++ diagram_of from.state root ∷ []) l.found (l.waiting.items ++ root ∷ []) = one_waits t ds l.found l.waiting.items root inv.searched in
    let longer : diagrams_at from (take (l.root-index + 1) roots) ≡ ds ++ diagram_of from.state root ∷ [] = ap (diagrams_at from) (take_next roots l.root-index root c.loop-root-test.true c.root-item.is) ∙ map-append (diagram_of from.state) (take l.root-index roots) (root ∷ []) in
    let after : IsSearched t (ds ++ diagram_of from.state root ∷ []) c.look.new.found c.look.new.waiting.items =
    subst (λ (x : Table). IsSearched x (ds ++ diagram_of from.state root ∷ []) c.look.new.found c.look.new.waiting.items) inv.table
    (c.in_ok-look.ensures.searched (ds ++ diagram_of from.state root ∷ []) (subst (λ (x : Table). IsSearched x (ds ++ diagram_of from.state root ∷ []) l.found (l.waiting.items ++ root ∷ [])) (sym inv.table) before)) in
    record {
      searched = subst (λ (es : List Diagram). IsSearched t es c.look.new.found c.look.new.waiting.items) (sym longer) after;
      table = c.look.ensures.table ∙ inv.table;
      kept = λ n. (let one = c.look.ensures.roots n in let two = inv.kept n in omega (arith, one, two));
    }

pub returns-in_err-look-clause-roots : goal.returns-in_err-look-clause-roots
returns-in_err-look-clause-roots c = λ n. let one = c.look.ensures.roots n in let two = c.loop-root.invariant.kept n in omega (arith, one, two)

pub returns-clause-searched : goal.returns-clause-searched
returns-clause-searched c =
    let from = c.args.from.now in
    let l = c.loop-root in
    subst (λ (rs : List ℕ). IsSearched from.state.table (diagrams_at from rs) l.found l.waiting.items) (take_all c.args.roots.now l.root-index c.loop-root-test.false) l.invariant.searched
