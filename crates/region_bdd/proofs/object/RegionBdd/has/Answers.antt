use Rattle.std.proofs.Common.{◌≡◌, ℕ, Bool, true, List, sym, ◌∙◌, ap, subst, arith}
use Rattle.std.proofs.lemmas.Bool.{false≢true}
use Rattle.spec_model.specs.GameViews.{game_data}
use Rattle.spec_model.specs.declared.value.Value.{Value}
use Rattle.spec_model.specs.Values.{DomainData, is_assignment}
use Rattle.spec_model.specs.Games.{listed}
use Rattle.spec_model.specs.DiagramReads.{bits_of}
use Rattle.game_values.specs.declared.seen.At.TheVariants.{Now}
use Rattle.bdd_bits.specs.Contents.{function_at}
use Rattle.bit_compile.specs.Domains.{state_domains}
use Rattle.bit_compile.specs.Codes.{HasValues}
use Rattle.bit_compile.proofs.LawLemmas.{state_listed}
use Rattle.bdd_sets.proofs.SetLemmas.{told_at}
use Rattle.bdd_search.specs.Parts.{ArePart}
use Rattle.bdd_search.proofs.PartLemmas.{whole_of, whole_assignment}
use Rattle.region_bdd.specs.Object.{kept_of}
use Rattle.region_bdd.proofs.ObjectLaws.{region_root}
use Rattle.region_bdd.proofs.SetCalls.{held_root, region_tells}
use Rattle.region_bdd.proofs.FindCalls.{written}
use Rattle.region_bdd.proofs.object.RegionBdd.has.Goals as goal

pub returns-then-not-fit-clause-answer : goal.returns-then-not-fit-clause-answer
returns-then-not-fit-clause-answer c = λ s here is.
    let o = c.args.self.now in
    let g = game_data o.game in
    let part = whole_of o.codes c.args.state.now (subst (λ (ds : List DomainData). is_assignment ds c.args.state.now ≡ true) (sym o.coded) (subst (λ (vs : List Value). is_assignment (state_domains g) vs ≡ true) is (state_listed g s here))) in
    let part' : ArePart o.codes 0 c.count.result c.args.state.now = subst (λ (n : ℕ). ArePart o.codes 0 n c.args.state.now) (sym c.count.ensures) part in
    absurd (false≢true (sym c.if-not-fit.true ∙ c.fit.ensures.1 part'))

pub write-requires-clause-state : goal.write-requires-clause-state
write-requires-clause-state c =
    let o = c.args.self.now in
    whole_assignment o.codes c.args.state.now (subst (λ (n : ℕ). ArePart o.codes 0 n c.args.state.now) c.count.ensures (c.fit.ensures.0 c.if-not-fit.false))

pub region-root-requires : goal.region-root-requires
region-root-requires c =
    let o = c.args.self.now in
    region_root (game_data o.game) o.diagrams o.slots.slots.items o.refused c.args.a.now c.requires.a

pub eval-requires-clause-kept : goal.eval-requires-clause-kept
eval-requires-clause-kept c =
    let o = c.args.self.now in
    held_root (game_data o.game) o.own o.levels o.diagrams o.slots.slots.items o.refused o.whole c.args.a.now c.region-root.result.now c.region-root.ensures

pub returns-clause-answer : goal.returns-clause-answer
returns-clause-answer c = λ s here is.
    let o = c.args.self.now in
    let g = game_data o.game in
    let slots = o.slots.slots.items in
    let d = o.diagrams in
    let root = c.region-root.result.now in
    let f = function_at d root in
    let tells = region_tells g o.own o.levels d slots o.refused o.whole c.args.a.now root c.region-root.ensures in
    let bits = bits_of c.write.new.bits in
    let shown : HasValues (state_domains g) Now c.args.state.now bits = subst (λ (ds : List DomainData). HasValues ds Now c.args.state.now bits) o.coded c.write.ensures.written in
    let has : HasValues (state_domains g) Now (listed s) bits = subst (λ (vs : List Value). HasValues (state_domains g) Now vs bits) (sym is) shown in
    c.eval.ensures.value ∙ (ap (λ (bs : List Bool). f (bits_of bs)) (c.deref.ensures.value ∙ written _ c.write.new.bits _ (let a = c.write.auto.bits in let b = c.deref_mut.ensures.len in omega (arith, a, b))) ∙ told_at g Now f ((kept_of g d slots o.refused).set c.args.a.now) tells s bits here has)
