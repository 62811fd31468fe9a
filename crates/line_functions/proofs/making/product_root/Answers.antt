use Rattle.std.proofs.Common.{◌+◌, ◌≤◌, ◌<◌, ◌&&◌, ℕ, Ok, List, ap, get_or, length, take, refl, rules, subst, sym, ◌∙◌, inl, inr}
use Rattle.std.specs.List.{Contains}
use Rattle.spec_model.specs.Views.{formula}
use Rattle.spec_model.specs.Values.{DomainData}
use Rattle.spec_model.specs.Diagrams.{Bits, Function}
use Rattle.game_values.specs.declared.seen.At.TheVariants.{Now}
use Rattle.bit_compile.specs.Domains.{level_count}
use Rattle.bit_compile.specs.Making.{Makes}
use Rattle.bit_compile.specs.Compiled.{compiled, has_some_value}
use Rattle.bit_compile.specs.Named.{IsNamedOf, IsOfSlot}
use Rattle.bit_compile.proofs.MakingLemmas.{is_root}
use Rattle.bit_compile.proofs.Between.{root_after}
use Rattle.bit_compile.proofs.CyclesLemmas.{got, take_all}
use Rattle.bit_compile.proofs.Folding.{own, refused_makes, turn}
use Rattle.bit_compile.proofs.Causes.{cause_back, cause_handed, cause_ok, cause_wider}
use Rattle.bdd_sets.proofs.CauseLemmas.{cause_by}
use Rattle.bdd_sets.proofs.NamedLemmas.{contains_got}
use Rattle.bdd_sets.proofs.SpentLemmas.{refused_by}
use Rattle.line_functions.specs.declared.slots.TimedSlot.{TimedSlot}
use Rattle.line_functions.specs.Functions.{IsOfLine}
use Rattle.line_functions.specs.Asking.{game_seen}
use Rattle.line_functions.proofs.NamingLemmas.{slot_there}
use Rattle.line_functions.proofs.ProductLemmas.{product_of, product-none, product-more, product_first}
use Rattle.line_functions.proofs.making.product_root.Goals as goal

-- what would be read past the end
abbrev nothing : TimedSlot
nothing = record { at = Now; slot = 0 }

pub loop-one-init : goal.loop-one-init
loop-one-init c =
    let g = game_seen c.args.scene.now in
    subst (λ (f : Function). Makes c.args.diagrams.now c.compile.new.diagrams (Ok c.in_ok-product.product) f) (product-none g (formula c.args.e.now)) c.in_ok-product.ensures.compiled.made

pub returns-in_err-product-clause-made : goal.returns-in_err-product-clause-made
returns-in_err-product-clause-made c =
    refused_by c.args.diagrams.now c.compile.new.diagrams c.from_residual.result c.in_err-product.field-0.0 (compiled (game_seen c.args.scene.now) (formula c.args.e.now)) _
    c.from_residual.ensures.1 c.in_err-product.ensures.compiled.made

pub and_some_value-more-requires-clause-known : goal.and_some_value-more-requires-clause-known
and_some_value-more-requires-clause-known c =
    let g = game_seen c.args.scene.now in
    let i = c.loop-one.one-index in
    let named = c.args.named.now in
    let one = get_or named i nothing in
    let is_one = got named i nothing one c.loop-one-test.true in
    subst (λ (ds : List DomainData). one.slot < length ds) (sym c.requires.scene.codes) (slot_there g (formula c.args.e.now) named i one c.requires.named c.loop-one-test.true is_one)

pub and_some_value-more-requires-clause-levels : goal.and_some_value-more-requires-clause-levels
and_some_value-more-requires-clause-levels c = subst (λ (n : ℕ). level_count c.args.scene.now.codes.now ≤ n) (sym c.loop-one.invariant.keeps.levels) c.requires.levels

pub and_some_value-more-requires-clause-kept : goal.and_some_value-more-requires-clause-kept
and_some_value-more-requires-clause-kept c = is_root c.args.diagrams.now c.loop-one.diagrams c.loop-one.product _ c.loop-one.invariant

pub release-requires : goal.release-requires
release-requires c = root_after c.loop-one.diagrams c.and_some_value-more.new.diagrams c.and_some_value-more.result _ c.and_some_value-more.ensures.made c.loop-one.product
    (is_root c.args.diagrams.now c.loop-one.diagrams c.loop-one.product _ c.loop-one.invariant)

pub loop-one-preserved : goal.loop-one-preserved
loop-one-preserved c =
    let g = game_seen c.args.scene.now in
    let e = formula c.args.e.now in
    let first = c.args.diagrams.now in
    let l = c.loop-one.diagrams in
    let inv = c.loop-one.invariant in
    let i = c.loop-one.one-index in
    let named = c.args.named.now in
    let one = get_or named i nothing in
    let is_one = got named i nothing one c.loop-one-test.true in
    let is =
    ap (λ (f : Function). (λ (s : Bits). f s && has_some_value c.args.scene.now.codes.now one.at one.slot s)) inv.meaning
    ∙ (ap (λ (ds : List DomainData). (λ (s : Bits). product_of g e (take i named) s && has_some_value ds one.at one.slot s)) c.requires.scene.codes
    ∙ product-more g e named i one c.loop-one-test.true is_one) in
    let made = turn first l c.and_some_value-more.new.diagrams c.release.new.self c.loop-one.product c.and_some_value-more.result _ (product_of g e (take (i + 1) named))
    (own first l c.loop-one.product _ inv) c.and_some_value-more.ensures.made is c.release.ensures.released c.release.ensures.nodes in
    subst (λ r. Makes first c.release.new.self r (product_of g e (take (i + 1) named))) c.in_ok-next.was made

pub returns-in_err-next-clause-made : goal.returns-in_err-next-clause-made
returns-in_err-next-clause-made c =
    let first = c.args.diagrams.now in
    let l = c.loop-one.diagrams in
    let made = turn first l c.and_some_value-more.new.diagrams c.release.new.self c.loop-one.product c.and_some_value-more.result _ _ (own first l c.loop-one.product _ c.loop-one.invariant)
    c.and_some_value-more.ensures.made refl c.release.ensures.released c.release.ensures.nodes in
    refused_makes first c.release.new.self c.and_some_value-more.result c.from_residual-in_err-next.result c.in_err-next.field-0.0 _ _ made c.in_err-next.was (search rules)

pub returns-clause-made : goal.returns-clause-made
returns-clause-made c =
    let g = game_seen c.args.scene.now in
    let e = formula c.args.e.now in
    subst (λ (ss : List TimedSlot). Makes c.args.diagrams.now c.loop-one.diagrams (Ok c.loop-one.product) (product_of g e ss))
    (take_all c.args.named.now c.loop-one.one-index c.loop-one-test.false ∙ c.requires.named) c.loop-one.invariant

pub returns-in_err-product-clause-cause : goal.returns-in_err-product-clause-cause
returns-in_err-product-clause-cause c =
    let g = game_seen c.args.scene.now in
    let e = formula c.args.e.now in
    let old = c.args.diagrams.now in
    let new = c.compile.new.diagrams in
    cause_by old new c.from_residual.result c.in_err-product.field-0.0 (IsOfLine g e) c.from_residual.ensures.1
    (cause_wider (IsNamedOf g e) (IsOfLine g e) (λ f is. inl is) old new _ c.in_err-product.ensures.compiled.cause)

pub returns-in_err-next-clause-cause : goal.returns-in_err-next-clause-cause
returns-in_err-next-clause-cause c =
    let g = game_seen c.args.scene.now in
    let e = formula c.args.e.now in
    let old = c.args.diagrams.now in
    let l = c.loop-one.diagrams in
    let inv = c.loop-one.invariant in
    let i = c.loop-one.one-index in
    let named = c.args.named.now in
    let one = get_or named i nothing in
    let is_one = got named i nothing one c.loop-one-test.true in
    let codes = c.args.scene.now.codes.now in
    let there = subst (λ (ss : List TimedSlot). Contains ss one) c.requires.named (contains_got named i one c.loop-one-test.true is_one) in
    let slot : (f : Function) → IsOfSlot codes one.at one.slot f →
    IsOfLine g e f = λ f is. inr (inl (one, there, subst (λ (ds : List DomainData). IsOfSlot ds one.at one.slot f) c.requires.scene.codes is)) in
    let so_far = product_of g e (take i named) in
    cause_handed old c.release.new.self c.and_some_value-more.result c.from_residual-in_err-next.result c.in_err-next.field-0.0 (IsOfLine g e) c.in_err-next.was (search rules)
    (cause_back (IsOfSlot codes one.at one.slot) (IsOfLine g e) slot old l c.loop-one.product so_far inv (inr (inr (product_first g e named i so_far c.requires.named refl))) c.and_some_value-more.new.diagrams c.release.new.self c.and_some_value-more.result c.release.ensures.nodes c.and_some_value-more.ensures.cause)

pub returns-clause-cause : goal.returns-clause-cause
returns-clause-cause c = cause_ok c.args.diagrams.now c.loop-one.diagrams c.loop-one.product (IsOfLine (game_seen c.args.scene.now) (formula c.args.e.now))
