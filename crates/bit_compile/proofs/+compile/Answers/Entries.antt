-- What several formulas and a hidden table's entry make and name, one formula after the other.
use Rattle.std.proofs.Common.{ℕ, ◌+◌, ◌<◌, ◌≤◌, ◌++◌, [], ◌∷◌, List, map, length, get_or, refl, sym, ◌∙◌, ap, subst, arith, rules, take, Bool, Vec, true, inl, inr}
use Rattle.std.specs.declared.alloc.Global.{Global}
use Rattle.spec_model.specs.declared.expr.Expr.{Expr}
use Rattle.spec_model.specs.declared.value.Value.TheVariants as value
use Rattle.spec_model.specs.Views.{formula}
use Rattle.spec_model.specs.Values.{DomainData}
use Rattle.spec_model.specs.Games.{GameData}
use Rattle.spec_model.specs.FormulaSizes.{nodes_in_each}
use Rattle.spec_model.specs.Diagrams.{Function}
use Rattle.spec_model.specs.GameViews.{hidden_data}
use Rattle.game_values.specs.Safety.{formulas_in}
use Rattle.game_values.specs.declared.seen.At.TheVariants.{Now}
use Rattle.bdd_bits.specs.Contents.{function_at}
use Rattle.bit_compile.specs.declared.cases.CaseRoot.{CaseRoot}
use Rattle.bit_compile.specs.Domains.{level_count}
use Rattle.bit_compile.specs.Making.{Makes}
use Rattle.bit_compile.specs.Compiled.{Case, truth_in, truths_in}
use Rattle.bit_compile.specs.CaseRoots.{AddsCases, true_cases}
use Rattle.bit_compile.specs.Known.{AreKnown}
use Rattle.bit_compile.specs.Scenes.{IsScene, codes_seen, entries_seen, game_seen}
use Rattle.bit_compile.proofs.Between.{between_cases, keeps_more, leaves_refusal, makes_between, no_cases, ok_leaves, one_more, together, together_after}
use Rattle.std.proofs.lemmas.List.{length-map, map-append}
use Rattle.bit_compile.proofs.CyclesLemmas.{atoms_before, atoms_left, got, heavier_next, known_next, take_all, take_next, truth_case, truths-each}
use Rattle.bit_compile.proofs.EntryLemmas.{get-mapped, no_entry, no_table}
use Rattle.bit_compile.proofs.SceneLemmas.{atoms_counted, entry_made, readable_at, scene_before, table_slot}
use Rattle.bit_compile.proofs.Pairing.{made_together, seen_are, seen_kept}
use Rattle.bit_compile.proofs.Causes.{cause_among, cause_handed, cause_never, cause_ok, cause_wider}
use Rattle.bit_compile.proofs.NamedCases.{named_wider}
use Rattle.bit_compile.proofs.Outcomes.{named_among, named_handed}
use Rattle.bit_compile.proofs.NamedFormulas.{before_named, first_named, members_named, one_named, part_named, table_named}
use Rattle.bit_compile.specs.Crowding.{HasCause, MakesNamed}
use Rattle.bit_compile.specs.Named.{AreOfFormulas, IsOfTable}
use Rattle.bit_compile.specs.NamedScenes.{AreNamedIn, IsNamedIn, IsOfTablesIn}
use Rattle.std.specs.List.{Contains}
use Rattle.bit_compile.proofs.+compile.Goals as goal

pub compiling::truth_cases-loop-e-init : goal.compiling::truth_cases-loop-e-init
compiling::truth_cases-loop-e-init t c =
    let first = c.args.diagrams.now in
    record {
      made = subst (λ (xs : List CaseRoot). AddsCases first first xs []) (sym c.in-Ok.ensures.items) (no_cases first);
      keeps = record { levels = refl; budget = refl; order = refl; meaning = λ n root. refl };
      known = c.requires.known;
      lighter = omega arith;
      counted = c.in-Ok.ensures.len;
      room = omega (arith, c.in-Ok.ensures.capacity);
    }

pub compiling::truth_cases-loop-e-preserved : goal.compiling::truth_cases-loop-e-preserved
compiling::truth_cases-loop-e-preserved t c =
    let first = c.args.diagrams.now in
    let l = c.loop-e.diagrams in
    let new = c.truth_root.new.diagrams in
    let inv = c.loop-e.invariant in
    let g = game_seen c.args.scene.now in
    let entries = entries_seen c.args.scene.now in
    let es = c.args.es.now in
    let i = c.loop-e.e-index in
    let e = c.e-item.result in
    let x : CaseRoot = record { value = value.Bool true; root = c.in-Ok-truth_root.root } in
    let one = truth_case g entries c.args.at in
    let before = map one (take i es) in
    let more = one_more first l new c.loop-e.cases.items before x (truth_in g entries c.args.at (formula e)) inv.made inv.keeps c.in-Ok-truth_root.ensures.made in
    let longer = ap (map one) (take_next es i e c.loop-e-test.true c.e-item.is) ∙ map-append one (take i es) (e ∷ []) in
    let heavy = heavier_next es i e c.loop-e-test.true c.e-item.is in
    record {
      made = subst (λ (xs : List CaseRoot). AddsCases first new xs (map one (take (i + 1) es))) (sym c.push_reserved.ensures.items)
          (subst (λ (cs : List Case). AddsCases first new (c.loop-e.cases.items ++ x ∷ []) cs) (sym longer) more);
      keeps = keeps_more first l new c.loop-e.cases.items before inv.made inv.keeps c.in-Ok-truth_root.ensures.made.keeps;
      known = (known_next g es i e c.loop-e-test.true c.e-item.is inv.known).1;
      lighter = omega (arith, heavy, inv.lighter);
      counted = c.push_reserved.ensures.len ∙ ap (λ n. n + 1) inv.counted;
      room = omega (arith, inv.room, c.push_reserved.ensures.capacity);
    }

pub compiling::truth_cases-release_all-requires : goal.compiling::truth_cases-release_all-requires
compiling::truth_cases-release_all-requires t c = together_after c.loop-e.diagrams c.truth_root.new.diagrams c.loop-e.cases.items _ _ (together c.args.diagrams.now c.loop-e.diagrams c.loop-e.cases.items _ c.loop-e.invariant.made) c.in-Err.ensures.made

pub compiling::truth_cases-returns-in-Err : goal.compiling::truth_cases-returns-in-Err
compiling::truth_cases-returns-in-Err t c =
    let s = c.args.scene.now in
    let g = game_seen s in
    let entries = entries_seen s in
    let at = c.args.at in
    let old = c.args.diagrams.now in
    let l = c.loop-e.diagrams in
    let inv = c.loop-e.invariant in
    let es = c.args.es.now in
    let i = c.loop-e.e-index in
    let e = c.e-item.result in
    let xs = c.loop-e.cases.items in
    let cs = map (truth_case g entries at) (take i es) in
    let mid = c.truth_root.new.diagrams in
    let new = c.release_all.new.diagrams in
    let named = AreNamedIn s at (formulas_in es) in
    let wider = part_named s at (formula e) (formula e) named (λ f is. inl (one_named g entries at es i e c.loop-e-test.true c.e-item.is f is)) (λ f is. inr is) in
    record {
      made = tt;
      leaves = leaves_refusal old new c.in-Err.halt _ (makes_between old l mid new _ (between_cases old l xs cs inv.made inv.keeps) c.release_all.ensures.released c.release_all.ensures.nodes _ _ c.in-Err.ensures.made);
      cause = cause_handed old new _ _ c.in-Err.halt named refl refl
          (cause_among (IsNamedIn s at (formula e)) named wider old l xs cs inv.made inv.keeps (named_wider (AreOfFormulas g entries at (formulas_in es)) named (λ f is. inl is) cs (first_named g entries at es i)) mid new _ c.release_all.ensures.nodes c.in-Err.ensures.cause);
    }

pub compiling::truth_cases-returns : goal.compiling::truth_cases-returns
compiling::truth_cases-returns t c =
    let s = c.args.scene.now in
    let g = game_seen s in
    let entries = entries_seen s in
    let at = c.args.at in
    let old = c.args.diagrams.now in
    let l = c.loop-e.diagrams in
    let es = c.args.es.now in
    let all = ap (map (truth_case g entries at)) (take_all es c.loop-e.e-index c.loop-e-test.false) ∙ truths-each g entries at es in
    record {
      made = subst (λ (cs : List Case). AddsCases old l c.loop-e.cases.items cs) all c.loop-e.invariant.made;
      leaves = ok_leaves old l _ c.loop-e.invariant.keeps;
      cause = cause_ok old l c.loop-e.cases (AreNamedIn s at (formulas_in es));
    }

pub compiling::entry_root-returns-then-h-scene : goal.compiling::entry_root-returns-then-h-scene
compiling::entry_root-returns-then-h-scene t c =
    let s = c.args.scene.now in
    let old = c.args.diagrams.now in
    let new = c.constant.new.diagrams in
    let r = c.constant.result in
    record {
      made = subst (λ (f : Function). Makes old new r f) (sym (no_table (game_seen s) s.hidden.now c.args.h c.args.n c.if-h-scene.true)) c.constant.ensures.made;
      cause = cause_never old new r (IsOfTablesIn s) c.constant.ensures.never;
    }

pub compiling::entry_root-returns-then-n-len : goal.compiling::entry_root-returns-then-n-len
compiling::entry_root-returns-then-n-len t c =
    let s = c.args.scene.now in
    let old = c.args.diagrams.now in
    let new = c.constant-then-n-len.new.diagrams in
    let r = c.constant-then-n-len.result in
    let x = get_or s.hidden.now c.args.h c.index-scene-h.result in
    let here = got s.hidden.now c.args.h c.index-scene-h.result x c.if-h-scene.false in
    let past : length (hidden_data x).tables ≤ c.args.n = let long = length-map x.tables.items (λ (v : Vec Bool Global). v.items) in omega (arith, long, c.if-n-len.true, c.len.ensures) in
    record {
      made = subst (λ (f : Function). Makes old new r f) (sym (no_entry (game_seen s) s.hidden.now c.args.h c.args.n x c.if-h-scene.false here past)) c.constant-then-n-len.ensures.made;
      cause = cause_never old new r (IsOfTablesIn s) c.constant-then-n-len.ensures.never;
    }

pub compiling::entry_root-truth_cases-requires : goal.compiling::entry_root-truth_cases-requires
compiling::entry_root-truth_cases-requires t c =
    let s = c.args.scene.now in
    let b = c.before-2.result in
    let x = get_or s.hidden.now c.args.h c.index-scene-h.result in
    let here = got s.hidden.now c.args.h c.index-scene-h.result x c.if-h-scene.false in
    let is = c.before-2.ensures in
    let scene : IsScene b = scene_before s b c.args.h c.requires.scene is.codes is.game is.hidden in
    let levels : level_count (codes_seen b) ≤ c.args.diagrams.now.state.table.levels = subst (λ (ds : List DomainData). level_count ds ≤ c.args.diagrams.now.state.table.levels) (sym is.codes) c.requires.levels in
    let all : AreKnown (game_seen b) (formulas_in x.atoms.items) = subst (λ (g : GameData). AreKnown g (formulas_in x.atoms.items)) (sym is.game) (readable_at s c.args.h x c.requires.scene c.if-h-scene.false here).1 in
    let known : AreKnown (game_seen b) (formulas_in c.deref.result.now) = subst (λ (es : List Expr). AreKnown (game_seen b) (formulas_in es)) (sym c.deref.ensures.value) all in
    let fewer = atoms_before s.hidden.now c.args.h x c.if-h-scene.false here in
    let left = ap atoms_left is.hidden in
    let same = ap (λ (es : List Expr). nodes_in_each (formulas_in es)) c.deref.ensures.value in
    search rules

pub compiling::entry_root-table_root-root-requires-clause-known : goal.compiling::entry_root-table_root-root-requires-clause-known
compiling::entry_root-table_root-root-requires-clause-known t c = table_slot c.args.scene.now c.args.h c.requires.scene c.if-h-scene.false

pub compiling::entry_root-table_root-root-requires-clause-levels : goal.compiling::entry_root-table_root-root-requires-clause-levels
compiling::entry_root-table_root-root-requires-clause-levels t c = subst (λ (n : ℕ). level_count (codes_seen c.args.scene.now) ≤ n) (sym c.in_ok-atoms.ensures.leaves.keeps.levels) c.requires.levels

pub compiling::entry_root-table_root-root-requires-clause-whole : goal.compiling::entry_root-table_root-root-requires-clause-whole
compiling::entry_root-table_root-root-requires-clause-whole t c =
    let s = c.args.scene.now in
    let x = get_or s.hidden.now c.args.h c.index-scene-h.result in
    (readable_at s c.args.h x c.requires.scene c.if-h-scene.false (got s.hidden.now c.args.h c.index-scene-h.result x c.if-h-scene.false)).0

pub compiling::entry_root-table_root-root-requires-clause-counted : goal.compiling::entry_root-table_root-root-requires-clause-counted
compiling::entry_root-table_root-root-requires-clause-counted t c =
    let s = c.args.scene.now in
    let b = c.before-2.result in
    let x = get_or s.hidden.now c.args.h c.index-scene-h.result in
    let here = got s.hidden.now c.args.h c.index-scene-h.result x c.if-h-scene.false in
    let old = c.args.diagrams.now in
    let mid = c.truth_cases.new.diagrams in
    let first = c.in_ok-atoms.ensures in
    let items = c.in_ok-atoms.atoms.items in
    let adds = subst (λ (es : List Expr). AddsCases old mid items (true_cases (truths_in (game_seen b) (entries_seen b) Now (formulas_in es)))) c.deref.ensures.value first.made in
    let are = seen_are old mid items c.deref-3.result.now _ adds first.leaves.keeps c.deref-3.ensures.value in
    atoms_counted s b c.args.h x c.requires.scene c.if-h-scene.false here c.before-2.ensures.game c.before-2.ensures.hidden mid c.deref-3.result.now are

pub compiling::entry_root-table_root-root-requires-clause-kept : goal.compiling::entry_root-table_root-root-requires-clause-kept
compiling::entry_root-table_root-root-requires-clause-kept t c =
    let first = c.in_ok-atoms.ensures in
    seen_kept c.args.diagrams.now c.truth_cases.new.diagrams c.in_ok-atoms.atoms.items c.deref-3.result.now _ first.made first.leaves.keeps c.deref-3.ensures.value

pub compiling::entry_root-release_all-requires : goal.compiling::entry_root-release_all-requires
compiling::entry_root-release_all-requires t c =
    let first = c.in_ok-atoms.ensures in
    made_together c.args.diagrams.now c.truth_cases.new.diagrams c.in_ok-atoms.atoms.items c.deref-3.result.now _ first.made first.leaves.keeps c.deref-3.ensures.value c.table_root-root.new.diagrams c.table_root-root.result _ c.table_root-root.ensures.made

pub compiling::entry_root-returns-in_err-atoms : goal.compiling::entry_root-returns-in_err-atoms
compiling::entry_root-returns-in_err-atoms t c =
    let s = c.args.scene.now in
    let b = c.before-2.result in
    let x = get_or s.hidden.now c.args.h c.index-scene-h.result in
    let here = got s.hidden.now c.args.h c.index-scene-h.result x c.if-h-scene.false in
    let old = c.args.diagrams.now in
    let new = c.truth_cases.new.diagrams in
    let r = c.truth_cases.result in
    let named = IsOfTablesIn s in
    let before = subst (λ (es : List Expr). HasCause old new r (AreNamedIn b Now (formulas_in es))) c.deref.ensures.value c.truth_cases.ensures.cause in
    let cause = cause_wider (AreNamedIn b Now (formulas_in x.atoms.items)) named (before_named s b c.args.h x c.requires.scene c.if-h-scene.false here c.before-2.ensures.game c.before-2.ensures.hidden) old new r before in
    named_handed old new r c.in_err-atoms.field-0.0 named c.in_err-atoms.was c.truth_cases.ensures.leaves cause c.from_residual.result _ (search rules)

pub compiling::entry_root-returns : goal.compiling::entry_root-returns
compiling::entry_root-returns t c =
    let s = c.args.scene.now in
    let b = c.before-2.result in
    let h = c.args.h in
    let n = c.args.n in
    let x = get_or s.hidden.now h c.index-scene-h.result in
    let here = got s.hidden.now h c.index-scene-h.result x c.if-h-scene.false in
    let old = c.args.diagrams.now in
    let mid = c.truth_cases.new.diagrams in
    let first = c.in_ok-atoms.ensures in
    let items = c.in_ok-atoms.atoms.items in
    let seen = c.deref-3.result.now in
    let es = formulas_in x.atoms.items in
    let cs : List Case = true_cases (truths_in (game_seen b) (entries_seen b) Now es) in
    let adds = subst (λ (ds : List Expr). AddsCases old mid items (true_cases (truths_in (game_seen b) (entries_seen b) Now (formulas_in ds)))) c.deref.ensures.value first.made in
    let are = seen_are old mid items seen cs adds first.leaves.keeps c.deref-3.ensures.value in
    let d = c.index.result.now in
    let t' = c.deref-2.result.now in
    let tables = (hidden_data x).tables in
    let there : n < length tables = let long = length-map x.tables.items (λ (v : Vec Bool Global). v.items) in omega (arith, long, c.if-n-len.false, c.len.ensures) in
    let at = c.deref-2.ensures.value ∙ (ap (λ (v : Vec Bool Global). v.items) c.index.ensures ∙ sym (get-mapped (λ (v : Vec Bool Global). v.items) x.tables.items n d)) in
    let among : Contains tables t' = (n, there, got tables n t' d.items there ∙ sym at) in
    let named = IsOfTablesIn s in
    let before = before_named s b h x c.requires.scene c.if-h-scene.false here c.before-2.ensures.game c.before-2.ensures.hidden in
    let step = IsOfTable (codes_seen s) h (hidden_data x) (map (λ (y : CaseRoot). function_at mid y.root) seen) t' in
    let entry = table_named s b h x c.requires.scene c.if-h-scene.false here c.before-2.ensures.game c.before-2.ensures.hidden mid seen t' are among in
    let atoms = named_wider (AreOfFormulas (game_seen b) (entries_seen b) Now es) named (λ f is. before f (inl is)) cs (members_named (game_seen b) (entries_seen b) Now es) in
    let whole = c.table_root-root.new.diagrams in
    let r = c.table_root-root.result in
    let is = entry_made s b h x c.requires.scene c.if-h-scene.false here c.before-2.ensures.game c.before-2.ensures.hidden mid seen n t' d.items are there at in
    let then = subst (λ (f : Function). MakesNamed mid whole r f step) is c.table_root-root.ensures in
    named_among old mid items seen cs adds first.leaves.keeps c.deref-3.ensures.value step named entry atoms whole c.release_all.new.diagrams c.release_all.ensures.released c.release_all.ensures.nodes r _ then

pub compiling::truth_cases-truth_root-requires : goal.compiling::truth_cases-truth_root-requires
compiling::truth_cases-truth_root-requires t c =
    let g = game_seen c.args.scene.now in
    let es = c.args.es.now in
    let i = c.loop-e.e-index in
    let e = c.e-item.result in
    let inv = c.loop-e.invariant in
    let known = (known_next g es i e c.loop-e-test.true c.e-item.is inv.known).0 in
    let heavy = heavier_next es i e c.loop-e-test.true c.e-item.is in
    let levels : level_count (codes_seen c.args.scene.now) ≤ c.loop-e.diagrams.state.table.levels = subst (λ (n : ℕ). level_count (codes_seen c.args.scene.now) ≤ n) (sym inv.keeps.levels) c.requires.levels in
    search rules
