use Rattle.std.proofs.Common.{◌+◌, ◌∙◌, ◌++◌, [], ◌∷◌, Ok, List, ap, refl, sym, subst, arith, take, get_or, false, inr}
use Rattle.std.proofs.lemmas.List.{map-append}
use Rattle.spec_model.specs.declared.value.Value.{Value}
use Rattle.spec_model.specs.declared.value.Value.TheVariants as value
use Rattle.spec_model.specs.Diagrams.{Function}
use Rattle.bit_compile.specs.Making.{Makes}
use Rattle.bit_compile.specs.Compiled.{Case}
use Rattle.bit_compile.specs.CaseRoots.{AddsCases, IsReady, had_by, cases_by}
use Rattle.bit_compile.specs.declared.cases.CaseRoot.{CaseRoot}
use Rattle.bit_compile.proofs.Between.{root_before, together, together_after, no_cases, one_more, keeps_more, between_cases, makes_between, leaves_refusal, ok_leaves}
use Rattle.bit_compile.proofs.Readiness.{ready_stays, had_stays}
use Rattle.bit_compile.proofs.Folding.{all_next}
use Rattle.bit_compile.proofs.CyclesLemmas.{take_next, take_all, got}
use Rattle.bit_compile.proofs.Causes.{cause_among, cause_handed, cause_ok}
use Rattle.bit_compile.proofs.NamedCases.{source_named}
use Rattle.bit_compile.proofs.NamedSteps.{first_named}
use Rattle.bit_compile.specs.Named.{IsOfEach}
use Rattle.bit_compile.specs.NamedScenes.{IsOfSource}
use Rattle.std.proofs.lemmas.List.Elements.{Contains-get_or}
use Rattle.bit_compile.proofs.cases.cases_from.Goals as goal

pub loop-value-init : goal.loop-value-init
loop-value-init c =
    let first = c.args.diagrams.now in
    record {
      made = subst (λ (xs : List CaseRoot). AddsCases first first xs []) (sym c.in-Ok.ensures.items) (no_cases first);
      keeps = record { levels = refl; budget = refl; order = refl; meaning = λ n root. refl };
      ready = c.requires;
      counted = c.in-Ok.ensures.len;
      room = omega (arith, c.in-Ok.ensures.capacity);
    }

pub case_root-requires : goal.case_root-requires
case_root-requires c =
    let first = c.args.diagrams.now in
    let l = c.loop-value.diagrams in
    let inv = c.loop-value.invariant in
    let v = get_or c.args.values.now c.loop-value.value-index (value.Bool false) in
    let is = got c.args.values.now c.loop-value.value-index (value.Bool false) v c.loop-value-test.true in
    let parts = all_next (IsReady first c.args.source.now) c.args.values.now c.loop-value.value-index v c.loop-value-test.true is inv.ready in
    ready_stays first l inv.keeps (root_before first l c.loop-value.cases.items _ inv.made) c.args.source.now v parts.0

pub loop-value-preserved : goal.loop-value-preserved
loop-value-preserved c =
    let first = c.args.diagrams.now in
    let l = c.loop-value.diagrams in
    let new = c.case_root.new.diagrams in
    let inv = c.loop-value.invariant in
    let src = c.args.source.now in
    let vs = c.args.values.now in
    let i = c.loop-value.value-index in
    let v = get_or vs i (value.Bool false) in
    let is = got vs i (value.Bool false) v c.loop-value-test.true in
    let parts = all_next (IsReady first src) vs i v c.loop-value-test.true is inv.ready in
    let x : CaseRoot = record { value = v; root = c.in-Ok-case_root.root } in
    let f = had_by first src v in
    let before = cases_by first src (take i vs) in
    let step = subst (λ (g : Function). Makes l new (Ok x.root) g) (had_stays first l inv.keeps src v parts.0) c.in-Ok-case_root.ensures.made in
    let more = one_more first l new c.loop-value.cases.items before x f inv.made inv.keeps step in
    let longer = ap (cases_by first src) (take_next vs i v c.loop-value-test.true is) ∙ map-append (λ (w : Value). record { value = w; holds = had_by first src w }) (take i vs) (v ∷ []) in
    record {
      made = subst (λ (xs : List CaseRoot). AddsCases first new xs (cases_by first src (take (i + 1) vs))) (sym c.push_reserved.ensures.items)
          (subst (λ (cs : List Case). AddsCases first new (c.loop-value.cases.items ++ x ∷ []) cs) (sym longer) more);
      keeps = keeps_more first l new c.loop-value.cases.items before inv.made inv.keeps step.keeps;
      ready = parts.1;
      counted = c.push_reserved.ensures.len ∙ ap (λ n. n + 1) inv.counted;
      room = omega (arith, inv.room, c.push_reserved.ensures.capacity);
    }

pub release_all-requires : goal.release_all-requires
release_all-requires c = together_after c.loop-value.diagrams c.case_root.new.diagrams c.loop-value.cases.items _ _ (together c.args.diagrams.now c.loop-value.diagrams c.loop-value.cases.items _ c.loop-value.invariant.made) c.in-Err.ensures.made

pub returns-in-Err : goal.returns-in-Err
returns-in-Err c =
    let first = c.args.diagrams.now in
    let l = c.loop-value.diagrams in
    let inv = c.loop-value.invariant in
    let src = c.args.source.now in
    let vs = c.args.values.now in
    let i = c.loop-value.value-index in
    let xs = c.loop-value.cases.items in
    let v = get_or vs i (value.Bool false) in
    let is = got vs i (value.Bool false) v c.loop-value-test.true in
    let parts = all_next (IsReady first src) vs i v c.loop-value-test.true is inv.ready in
    let named = IsOfEach vs (had_by first src) (IsOfSource first src) in
    let step = IsOfSource l src v in
    let wider : (f : Function) → step f → named f = λ f is. (v, Contains-get_or vs i (value.Bool false) c.loop-value-test.true, inr (source_named first l inv.keeps src v parts.0 f is)) in
    let mid = c.case_root.new.diagrams in
    let new = c.release_all.new.diagrams in
    record {
      made = tt;
      leaves = leaves_refusal first new c.in-Err.halt _ (makes_between first l mid new _ (between_cases first l xs _ inv.made inv.keeps) c.release_all.ensures.released c.release_all.ensures.nodes _ _ c.in-Err.ensures.made);
      cause = cause_handed first new _ _ c.in-Err.halt named refl refl
          (cause_among step named wider first l xs (cases_by first src (take i vs)) inv.made inv.keeps (first_named vs (had_by first src) (IsOfSource first src) i) mid new _ c.release_all.ensures.nodes c.in-Err.ensures.cause);
    }

pub returns : goal.returns
returns c =
    let first = c.args.diagrams.now in
    let l = c.loop-value.diagrams in
    let src = c.args.source.now in
    let vs = c.args.values.now in
    record {
      made = subst (λ (ws : List Value). AddsCases first l c.loop-value.cases.items (cases_by first src ws)) (take_all vs c.loop-value.value-index c.loop-value-test.false) c.loop-value.invariant.made;
      leaves = ok_leaves first l _ c.loop-value.invariant.keeps;
      cause = cause_ok first l c.loop-value.cases (IsOfEach vs (had_by first src) (IsOfSource first src));
    }
