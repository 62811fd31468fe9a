use Rattle.std.proofs.Common.{◌≡◌, ℕ, List, ◌++◌, ◌∷◌, [], All, is_ok, true, map, string_bytes, ap, sym, subst, ◌∙◌, arith, rules}
use Rattle.std.proofs.lemmas.List.{map-append}
use Rattle.std.proofs.lemmas.List.Elements.{All-push}
use Rattle.sp_outside.specs.Causes.{Rose}
use Rattle.sp_outside.specs.Files.{told_file}
use Rattle.spectra_trees.specs.Views.{tree_data}
use Rattle.spectra_parser.specs.Shapes.{IsShaped}
use Rattle.spectra_files.specs.Reading.{FilesReadAs}
use Rattle.spectra_files.specs.Refusals.{StopsAt}
use Rattle.spectra_top.specs.Top as top
use Rattle.spectra_talks.proofs.Exchanges.{nothing_done}
use Rattle.spectra_top.proofs.Decided.{tree_together, tree_stops}
use Rattle.spectra_files.proofs.InOrder.{named_at, stop_within}
use Rattle.spectra_top.proofs.serving.serve_tree.Goals as goal

pub returns-in_default-clause-serves : goal.returns-in_default-clause-serves
returns-in_default-clause-serves g c = top.no_memory (nothing_done _)

pub returns-then-is_err-clause-serves : goal.returns-then-is_err-clause-serves
returns-then-is_err-clause-serves g c = top.no_memory (nothing_done _)

pub serve_trees-requires-clause-shaped : goal.serve_trees-requires-clause-shaped
serve_trees-requires-clause-shaped g c =
    let ok : is_ok c.push.result ≡ true = search rules in
    let pushed : c.push.new.self.items ≡ c.in-Ok-read_trees.imported.items ++ c.args.main ∷ [] = rw ok at c.push.ensures.items in
    let all = ap (map tree_data) (c.deref-in-Ok-read_trees-2.ensures.value ∙ pushed) ∙ map-append tree_data c.in-Ok-read_trees.imported.items (c.args.main ∷ []) in
    subst (All IsShaped) (sym all) (All-push IsShaped _ _ c.in-Ok-read_trees.ensures.shaped c.requires.shaped)

pub index-requires : goal.index-requires
index-requires g c =
    let below = stop_within string_bytes c.deref.result.now _ _ c.in-Err.stop c.in-Err.ensures.stops in
    let long = c.deref.ensures.len in
    omega (arith, below, long)

pub returns-else-is_err-clause-serves : goal.returns-else-is_err-clause-serves
returns-else-is_err-clause-serves g c =
    let ok : is_ok c.push.result ≡ true = search rules in
    let pushed : c.push.new.self.items ≡ c.in-Ok-read_trees.imported.items ++ c.args.main ∷ [] = rw ok at c.push.ensures.items in
    let all = ap (map tree_data) (c.deref-in-Ok-read_trees-2.ensures.value ∙ pushed) ∙ map-append tree_data c.in-Ok-read_trees.imported.items (c.args.main ∷ []) in
    let are = ap (map string_bytes) c.deref-in-Ok-read_trees.ensures.value ∙ c.in-Ok.ensures in
    let same = ap (map string_bytes) (c.deref.ensures.value ∙ sym c.deref-in-Ok-read_trees.ensures.value) in
    let read = subst (λ (ns : List (List ℕ)). FilesReadAs (told_file (g.F.Shelf.holds c.args.shelf.now)) ns (map tree_data c.in-Ok-read_trees.imported.items)) same c.in-Ok-read_trees.ensures.read in
    tree_together _ _ _ _ _ _ _ _ (tree_data c.args.main) (map string_bytes c.deref-in-Ok-read_trees.result.now) (map tree_data c.in-Ok-read_trees.imported.items) (map tree_data c.deref-in-Ok-read_trees-2.result.now) are read all c.serve_trees.ensures

pub returns-in-Err-clause-serves : goal.returns-in-Err-clause-serves
returns-in-Err-clause-serves g c =
    let failed = Rose (g.F.Shelf.faults c.args.shelf.now) (g.F.Shelf.faults c.read_trees.new.shelf) in
    let stops =
    subst (λ (ns : List (List ℕ)). StopsAt (told_file (g.F.Shelf.holds c.args.shelf.now)) (Rose (g.F.Shelf.faults c.args.shelf.now) (g.F.Shelf.faults c.read_trees.new.shelf)) ns c.in-Err.stop)
    (ap (map string_bytes) c.deref.ensures.value) c.in-Err.ensures.stops in
    let within = stop_within string_bytes c.in-Ok.names.items _ _ c.in-Err.stop stops in
    let named = named_at string_bytes c.in-Ok.names.items c.in-Err.stop.number c.index.result.now within c.index.ensures in
    tree_stops _ _ _ _ _ _ _ _ (tree_data c.args.main) (map string_bytes c.in-Ok.names.items) c.in-Err.stop (string_bytes c.index.result.now) c.in-Ok.ensures stops named (rw c.deref-in-Err.ensures at (c.say_stop.ensures (g.I.Source.left c.args.input.now) (g.I.Source.reads c.args.input.now) (g.I.Source.faults c.args.input.now)))
