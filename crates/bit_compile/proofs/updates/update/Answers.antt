use Rattle.std.proofs.Common.{◌∙◌, List, ap, arith, get_or, length, subst, sym, ◌<◌, rules, inl, inr, map}
use Rattle.std.proofs.lemmas.List.{length-map}
use Rattle.spec_model.specs.declared.expr.Expr.{Expr}
use Rattle.spec_model.specs.declared.game.Hidden.{Hidden}
use Rattle.spec_model.specs.GameViews.{game_data, hidden_data}
use Rattle.spec_model.specs.Games.{GameData}
use Rattle.game_values.specs.Safety.{formulas_in}
use Rattle.game_values.specs.declared.seen.At.TheVariants.{Now}
use Rattle.bit_compile.specs.declared.scenes.Scene.{Scene}
use Rattle.bit_compile.specs.Compiled.{never, truths_in, updates_of}
use Rattle.bit_compile.specs.CaseRoots.{AddsCases, true_cases}
use Rattle.bit_compile.specs.CompileLaws.{IsUpdateOf}
use Rattle.bit_compile.specs.Known.{AreKnown}
use Rattle.bit_compile.specs.Scenes.{entries_seen, game_seen}
use Rattle.bit_compile.proofs.CompiledFormulas.{root_is}
use Rattle.bit_compile.proofs.Pairing.{seen_are, seen_kept}
use Rattle.bit_compile.proofs.SceneLemmas.{atoms_counted, readable_at, scene_before, update_made, whole_scene}
use Rattle.bit_compile.proofs.UpdateMeanings.{update_means}
use Rattle.bit_compile.proofs.Causes.{cause_wider}
use Rattle.bit_compile.proofs.NamedCases.{named_wider}
use Rattle.bit_compile.proofs.Outcomes.{named_among, named_handed}
use Rattle.bit_compile.proofs.NamedFormulas.{before_named, members_named, update_named}
use Rattle.bit_compile.specs.Crowding.{HasCause, MakesNamed}
use Rattle.bit_compile.specs.Named.{AreOfFormulas, IsNamedUpdate, IsOfTables, IsOfUpdate}
use Rattle.bit_compile.specs.NamedScenes.{AreNamedIn, IsOfTablesIn}
use Rattle.spec_model.specs.Diagrams.{Function}
use Rattle.bit_compile.specs.declared.cases.CaseRoot.{CaseRoot}
use Rattle.bdd_bits.specs.Contents.{function_at}
use Rattle.bit_compile.proofs.updates.update.Goals as goal

pub truth_cases-requires-clause-scene : goal.truth_cases-requires-clause-scene
truth_cases-requires-clause-scene c =
    let s : Scene = record { codes = c.args.codes; game = c.args.game; hidden = c.deref.result } in
    let is = c.before-2.ensures in
    scene_before s c.before-2.result c.args.k (whole_scene s c.requires.made c.requires.codes c.deref.ensures.value) is.codes is.game is.hidden

pub truth_cases-requires-clause-known : goal.truth_cases-requires-clause-known
truth_cases-requires-clause-known c =
    let s : Scene = record { codes = c.args.codes; game = c.args.game; hidden = c.deref.result } in
    let b = c.before-2.result in
    let x = c.index-h.result.now in
    let long = length-map c.args.game.now.hidden.items hidden_data in
    let same = ap length c.deref.ensures.value in
    let here = c.index-h.ensures ∙ ap (λ (hs : List Hidden). get_or hs c.args.k x) (sym c.deref.ensures.value) in
    let scene = whole_scene s c.requires.made c.requires.codes c.deref.ensures.value in
    let all = (readable_at s c.args.k x scene (omega (arith, c.requires.known, long, same)) here).1 in
    subst (λ (es : List Expr). AreKnown (game_seen b) (formulas_in es)) (sym c.deref-2.ensures.value) (subst (λ (g : GameData). AreKnown g (formulas_in x.atoms.items)) (sym c.before-2.ensures.game) all)

pub update_root-root-requires-clause-whole : goal.update_root-root-requires-clause-whole
update_root-root-requires-clause-whole c =
    let s : Scene = record { codes = c.args.codes; game = c.args.game; hidden = c.deref.result } in
    let x = c.index-h.result.now in
    let long = length-map c.args.game.now.hidden.items hidden_data in
    let same = ap length c.deref.ensures.value in
    let here = c.index-h.ensures ∙ ap (λ (hs : List Hidden). get_or hs c.args.k x) (sym c.deref.ensures.value) in
    (readable_at s c.args.k x (whole_scene s c.requires.made c.requires.codes c.deref.ensures.value) (omega (arith, c.requires.known, long, same)) here).0

pub update_root-root-requires-clause-counted : goal.update_root-root-requires-clause-counted
update_root-root-requires-clause-counted c =
    let s : Scene = record { codes = c.args.codes; game = c.args.game; hidden = c.deref.result } in
    let b = c.before-2.result in
    let x = c.index-h.result.now in
    let long = length-map c.args.game.now.hidden.items hidden_data in
    let same = ap length c.deref.ensures.value in
    let here = c.index-h.ensures ∙ ap (λ (hs : List Hidden). get_or hs c.args.k x) (sym c.deref.ensures.value) in
    let old = c.args.diagrams.now in
    let mid = c.truth_cases.new.diagrams in
    let first = c.in_ok-atoms.ensures in
    let items = c.in_ok-atoms.atoms.items in
    let adds = subst (λ (es : List Expr). AddsCases old mid items (true_cases (truths_in (game_seen b) (entries_seen b) Now (formulas_in es)))) c.deref-2.ensures.value first.made in
    atoms_counted s b c.args.k x (whole_scene s c.requires.made c.requires.codes c.deref.ensures.value) (omega (arith, c.requires.known, long, same)) here c.before-2.ensures.game c.before-2.ensures.hidden mid c.deref-3.result.now
    (seen_are old mid items c.deref-3.result.now _ adds first.leaves.keeps c.deref-3.ensures.value)

pub update_root-root-requires-clause-kept : goal.update_root-root-requires-clause-kept
update_root-root-requires-clause-kept c =
    let first = c.in_ok-atoms.ensures in
    seen_kept c.args.diagrams.now c.truth_cases.new.diagrams c.in_ok-atoms.atoms.items c.deref-3.result.now _ first.made first.leaves.keeps c.deref-3.ensures.value

pub returns-clause-compiled : goal.returns-clause-compiled
returns-clause-compiled c =
    let s : Scene = record { codes = c.args.codes; game = c.args.game; hidden = c.deref.result } in
    let b = c.before-2.result in
    let g = game_data c.args.game.now in
    let x = c.index-h.result.now in
    let k = c.args.k in
    let long = length-map c.args.game.now.hidden.items hidden_data in
    let same = ap length c.deref.ensures.value in
    let here = c.index-h.ensures ∙ ap (λ (hs : List Hidden). get_or hs k x) (sym c.deref.ensures.value) in
    let scene = whole_scene s c.requires.made c.requires.codes c.deref.ensures.value in
    let less : k < length c.deref.result.now = omega (arith, c.requires.known, long, same) in
    let old = c.args.diagrams.now in
    let mid = c.truth_cases.new.diagrams in
    let first = c.in_ok-atoms.ensures in
    let items = c.in_ok-atoms.atoms.items in
    let seen = c.deref-3.result.now in
    let es = formulas_in x.atoms.items in
    let fs = truths_in (game_seen b) (entries_seen b) Now es in
    let adds = subst (λ (ds : List Expr). AddsCases old mid items (true_cases (truths_in (game_seen b) (entries_seen b) Now (formulas_in ds)))) c.deref-2.ensures.value first.made in
    let are = seen_are old mid items seen (true_cases fs) adds first.leaves.keeps c.deref-3.ensures.value in
    let named = IsNamedUpdate g k in
    let all : (f : Function) → IsOfTablesIn s f → named f = λ f is. inl (subst (λ (hs : List Hidden). IsOfTables g (map hidden_data hs) f) c.deref.ensures.value is) in
    let before = before_named s b k x scene less here c.before-2.ensures.game c.before-2.ensures.hidden in
    let atoms = named_wider (AreOfFormulas (game_seen b) (entries_seen b) Now es) named (λ f is. all f (before f (inl is))) (true_cases fs) (members_named (game_seen b) (entries_seen b) Now es) in
    let step = IsOfUpdate c.args.codes.now k (hidden_data x) (map (λ (y : CaseRoot). function_at mid y.root) seen) in
    let whole = c.update_root-root.new.diagrams in
    let r = c.update_root-root.result in
    let is = update_made s b k x scene less here c.before-2.ensures.game c.before-2.ensures.hidden mid seen are c.deref.ensures.value in
    let then = subst (λ (f : Function). MakesNamed mid whole r f step) is c.update_root-root.ensures in
    named_among old mid items seen (true_cases fs) adds first.leaves.keeps c.deref-3.ensures.value step named (λ f is. inr (update_named s b k x scene less here c.before-2.ensures.game c.before-2.ensures.hidden c.deref.ensures.value mid seen are f is)) atoms
    whole c.release_all.new.diagrams c.release_all.ensures.released c.release_all.ensures.nodes r _ then

pub returns-clause-meaning : goal.returns-clause-meaning
returns-clause-meaning c =
    let g = game_data c.args.game.now in
    root_is (IsUpdateOf g c.args.k) c.args.diagrams.now c.release_all.new.diagrams c.update_root-root.result (get_or (updates_of g) c.args.k never) (update_means g c.requires.made c.args.k c.requires.known) (returns-clause-compiled c).made

pub returns-in_err-atoms-clause-compiled : goal.returns-in_err-atoms-clause-compiled
returns-in_err-atoms-clause-compiled c =
    let s : Scene = record { codes = c.args.codes; game = c.args.game; hidden = c.deref.result } in
    let b = c.before-2.result in
    let g = game_data c.args.game.now in
    let x = c.index-h.result.now in
    let long = length-map c.args.game.now.hidden.items hidden_data in
    let same = ap length c.deref.ensures.value in
    let here = c.index-h.ensures ∙ ap (λ (hs : List Hidden). get_or hs c.args.k x) (sym c.deref.ensures.value) in
    let scene = whole_scene s c.requires.made c.requires.codes c.deref.ensures.value in
    let old = c.args.diagrams.now in
    let new = c.truth_cases.new.diagrams in
    let r = c.truth_cases.result in
    let named = IsNamedUpdate g c.args.k in
    let step = AreNamedIn b Now (formulas_in x.atoms.items) in
    let cause = subst (λ (es : List Expr). HasCause old new r (AreNamedIn b Now (formulas_in es))) c.deref-2.ensures.value c.truth_cases.ensures.cause in
    let all : (f : Function) → IsOfTablesIn s f → named f = λ f is. inl (subst (λ (hs : List Hidden). IsOfTables g (map hidden_data hs) f) c.deref.ensures.value is) in
    let before = before_named s b c.args.k x scene (omega (arith, c.requires.known, long, same)) here c.before-2.ensures.game c.before-2.ensures.hidden in
    let handed = (cause_wider step named (λ f is. all f (before f is)) old new r cause) in
    named_handed old new r c.in_err-atoms.field-0.0 named c.in_err-atoms.was c.truth_cases.ensures.leaves handed c.from_residual.result _ (search rules)
