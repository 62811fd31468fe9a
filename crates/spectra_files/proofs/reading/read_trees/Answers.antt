use Rattle.std.proofs.Common.{◌≡◌, ℕ, ◌+◌, List, ◌++◌, ◌∷◌, [], All, is_ok, true, take, map, string_bytes, ap, sym, subst, ◌∙◌, arith, rules}
use Rattle.std.proofs.lemmas.List.{map-append}
use Rattle.std.proofs.lemmas.List.Elements.{All-push}
use Rattle.sp_outside.specs.Causes.{Rose}
use Rattle.sp_outside.specs.Files.{told_file}
use Rattle.spectra_trees.specs.Data.{TreeData}
use Rattle.spectra_trees.specs.Views.{tree_data}
use Rattle.spectra_parser.specs.Shapes.{IsShaped}
use Rattle.spectra_files.specs.declared.reading.NoTree.TheVariants as files
use Rattle.spectra_files.specs.Reading.{FileReadsAs, FilesReadAs}
use Rattle.spectra_files.specs.Refusals.{HasNoTree, StopsAt}
use Rattle.spectra_files.proofs.InOrder.{rose_before, next_read, stops_here}
use Rattle.spectra_files.proofs.reading.read_trees.Goals as goal

pub returns-then-is_err-clause-stops : goal.returns-then-is_err-clause-stops
returns-then-is_err-clause-stops g c =
    let at : c.loop-name.name-index ≡ c.len-number.result = sym (c.len-number.ensures ∙ c.loop-name.invariant.count) in
    let failed = Rose (g.F.Shelf.faults c.args.shelf.now) (g.F.Shelf.faults c.read_tree.new.shelf) in
    subst (λ (n : ℕ). StopsAt (told_file (g.F.Shelf.holds c.args.shelf.now)) (Rose (g.F.Shelf.faults c.args.shelf.now) (g.F.Shelf.faults c.read_tree.new.shelf)) (map string_bytes c.args.names.now) (record { number = n; why = files.Memory })) at
    (stops_here string_bytes _ _ c.loop-name.invariant.keeps c.args.names.now c.loop-name.name-index c.name-item.result _ c.loop-name-test.true c.name-item.is c.loop-name.invariant.read failed failed (λ rose. rose) files.Memory tt)

pub returns-in-Err-clause-stops : goal.returns-in-Err-clause-stops
returns-in-Err-clause-stops g c =
    let at : c.loop-name.name-index ≡ c.len-number.result = sym (c.len-number.ensures ∙ c.loop-name.invariant.count) in
    let none = subst (λ (n : List ℕ). HasNoTree (told_file (g.F.Shelf.holds c.loop-name.shelf) n) (Rose (g.F.Shelf.faults c.loop-name.shelf) (g.F.Shelf.faults c.read_tree.new.shelf)) c.in-Err.why) c.deref.ensures c.in-Err.ensures.fault in
    subst (λ (n : ℕ). StopsAt (told_file (g.F.Shelf.holds c.args.shelf.now)) (Rose (g.F.Shelf.faults c.args.shelf.now) (g.F.Shelf.faults c.read_tree.new.shelf)) (map string_bytes c.args.names.now) (record { number = n; why = c.in-Err.why })) at
    (stops_here string_bytes _ _ c.loop-name.invariant.keeps c.args.names.now c.loop-name.name-index c.name-item.result _ c.loop-name-test.true c.name-item.is c.loop-name.invariant.read _ _
    (rose_before _ _ _ c.loop-name.invariant.later) c.in-Err.why none)

pub loop-name-preserved : goal.loop-name-preserved
loop-name-preserved g c =
    let ok : is_ok c.push.result ≡ true = search rules in
    let pushed : c.push.new.self.items ≡ c.loop-name.trees.items ++ c.in-Ok.tree ∷ [] = rw ok at c.push.ensures.items in
    let mapped : map tree_data c.push.new.self.items ≡ map tree_data c.loop-name.trees.items ++ tree_data c.in-Ok.tree ∷ [] = ap (map tree_data) pushed ∙ map-append tree_data c.loop-name.trees.items (c.in-Ok.tree ∷ []) in
    let one = subst (λ (n : List ℕ). FileReadsAs (told_file (g.F.Shelf.holds c.loop-name.shelf) n) (tree_data c.in-Ok.tree)) c.deref.ensures c.in-Ok.ensures.reads in
    record {
      read =
          subst (λ (ts : List TreeData). FilesReadAs (told_file (g.F.Shelf.holds c.args.shelf.now)) (take (c.loop-name.name-index + 1) (map string_bytes c.args.names.now)) ts) (sym mapped)
          (next_read string_bytes _ _ c.loop-name.invariant.keeps c.args.names.now c.loop-name.name-index c.name-item.result _ c.loop-name-test.true c.name-item.is c.loop-name.invariant.read (tree_data c.in-Ok.tree) one);
      count = (rw ok at c.push.ensures.len) ∙ ap (λ n. n + 1) c.loop-name.invariant.count;
      shaped = subst (All IsShaped) (sym mapped) (All-push IsShaped _ _ c.loop-name.invariant.shaped c.in-Ok.ensures.shaped);
      keeps = c.read_tree.ensures.keeps ∙ c.loop-name.invariant.keeps;
      later = let more = c.read_tree.ensures.later in let before = c.loop-name.invariant.later in omega (arith, more, before);
    }
