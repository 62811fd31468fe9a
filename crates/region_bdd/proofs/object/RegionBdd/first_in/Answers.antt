use Rattle.std.proofs.Common.{◌≡◌, ℕ, Bool, List, Option, length, find, Some, None, sym, ◌∙◌, ap, subst, arith}
use Rattle.std.proofs.lemmas.Bool.{false≢true}
use Rattle.std.proofs.lemmas.List.{length-map}
use Rattle.std.specs.List.{All}
use Rattle.spec_model.specs.declared.value.Value.{Value}
use Rattle.spec_model.specs.GameViews.{game_data, hidden_data}
use Rattle.spec_model.specs.Diagrams.{Function}
use Rattle.spec_model.specs.DiagramReads.{bits_of}
use Rattle.spec_model.specs.Games.{inputs_of}
use Rattle.regions.specs.Rules.{AreBefore, inputs_into}
use Rattle.game_values.specs.declared.seen.At.TheVariants.{Now, Next}
use Rattle.bdd_store.specs.State.{IsRoot}
use Rattle.bdd_bits.specs.Contents.{function_at}
use Rattle.bdd_ops.specs.Paths.{IsFirst, HasNone}
use Rattle.bdd_ops.specs.Together.{Together}
use Rattle.bdd_bits.specs.Paths.{all_of}
use Rattle.bit_compile.specs.Domains.{state_domains, level_count}
use Rattle.bdd_sets.specs.declared.moves.Members.{Members}
use Rattle.bdd_sets.specs.StateBits.{set_at}
use Rattle.bdd_sets.specs.Members.{AreMembers}
use Rattle.bdd_search.specs.Parts.{AreOf, HaveValues}
use Rattle.region_bdd.specs.declared.slots.Content.{Content}
use Rattle.region_bdd.specs.declared.slots.Content.TheVariants.{Inputs}
use Rattle.region_bdd.specs.Slots.{HasContent}
use Rattle.region_bdd.specs.Leading.{members_at}
use Rattle.region_bdd.specs.Finding.{inputs_asked}
use Rattle.region_bdd.proofs.SlotLaws.{fit_here}
use Rattle.bdd_sets.proofs.ListLemmas.{one_itself}
use Rattle.region_bdd.proofs.ObjectLaws.{within_root}
use Rattle.region_bdd.proofs.MoveLaws.{moves_held}
use Rattle.region_bdd.proofs.LeadingLaws.{members_kept}
use Rattle.region_bdd.proofs.FindCalls.{written, inputs_kept, are_state, state_at, state_fixed, state_allows, input_read, in_found, in_nothing, moves_shown, inputs_content, of_inputs}
use Rattle.region_bdd.proofs.object.RegionBdd.first_in.Goals as goal

pub content-requires : goal.content-requires
content-requires c =
    let o = c.args.self.now in
    let g = game_data o.game in
    let slots = o.slots.slots.items in
    let d = o.diagrams in
    let held = moves_held g d slots o.refused c.args.m.now c.requires.m in
    (held.content, held.here)

pub unreachable-requires : goal.unreachable-requires
unreachable-requires c =
    let o = c.args.self.now in
    let g = game_data o.game in
    let slots = o.slots.slots.items in
    let d = o.diagrams in
    let kind = c.requires.kind in
    let is = inputs_content g d c.content.result.now kind.0 kind.1 (sym (moves_shown g d slots o.refused c.args.m.now c.content.result.now c.content.ensures) ∙ kind.2) in
    c.in_default.not-Inputs is.0 is.1 is.2 is.3

pub ask_inputs-requires-clause-members : goal.ask_inputs-requires-clause-members
ask_inputs-requires-clause-members c =
    let o = c.args.self.now in
    let g = game_data o.game in
    let slots = o.slots.slots.items in
    let d = o.diagrams in
    let when = c.in-Inputs.when in
    let root = c.in-Inputs.field-1 in
    let leads = c.in-Inputs.leads in
    let here : HasContent slots c.args.m.now.slot (Inputs when root leads) = subst (λ (x : Content). HasContent slots c.args.m.now.slot x) c.in-Inputs.is c.content.ensures in
    subst (λ (m : Members). AreMembers d m) (sym c.members-members.ensures) (members_kept g o.own o.levels d slots o.refused o.whole when)

pub ask_inputs-requires-clause-leads : goal.ask_inputs-requires-clause-leads
ask_inputs-requires-clause-leads c =
    let o = c.args.self.now in
    let g = game_data o.game in
    let slots = o.slots.slots.items in
    let d = o.diagrams in
    let when = c.in-Inputs.when in
    let root = c.in-Inputs.field-1 in
    let leads = c.in-Inputs.leads in
    let here : HasContent slots c.args.m.now.slot (Inputs when root leads) = subst (λ (x : Content). HasContent slots c.args.m.now.slot x) c.in-Inputs.is c.content.ensures in
    within_root g o.own d slots o.whole.sound c.args.m.now.slot (Inputs when root leads) here leads (let one = one_itself leads in omega (arith, one))

pub first_common_path-requires-clause-kept : goal.first_common_path-requires-clause-kept
first_common_path-requires-clause-kept c =
    let o = c.args.self.now in
    let g = game_data o.game in
    let slots = o.slots.slots.items in
    let d = o.diagrams in
    let when = c.in-Inputs.when in
    let root = c.in-Inputs.field-1 in
    let leads = c.in-Inputs.leads in
    let here : HasContent slots c.args.m.now.slot (Inputs when root leads) = subst (λ (x : Content). HasContent slots c.args.m.now.slot x) c.in-Inputs.is c.content.ensures in
    let kept = inputs_kept d (members_at o.own when) leads (members_kept g o.own o.levels d slots o.refused o.whole when) (within_root g o.own d slots o.whole.sound c.args.m.now.slot (Inputs when root leads) here leads (let one = one_itself leads in omega (arith, one))) in
    let kept' = subst (λ (m : Members). All (λ n. IsRoot d.state n) (inputs_asked m leads)) (sym c.members-members.ensures) kept in
    subst (λ (x : Together). All (λ n. IsRoot d.state n) x.roots) (sym c.ask_inputs.ensures) kept'

pub returns-then-not-fix_before-clause-first : goal.returns-then-not-fix_before-clause-first
returns-then-not-fix_before-clause-first c = λ when' t b choice are.
    let o = c.args.self.now in
    let g = game_data o.game in
    let slots = o.slots.slots.items in
    let d = o.diagrams in
    let when = c.in-Inputs.when in
    let root = c.in-Inputs.field-1 in
    let leads = c.in-Inputs.leads in
    let here : HasContent slots c.args.m.now.slot (Inputs when root leads) = subst (λ (x : Content). HasContent slots c.args.m.now.slot x) c.in-Inputs.is c.content.ensures in
    let set = set_at g Now (function_at d root) in
    let fits = fit_here g d slots c.args.m.now.slot (Inputs when root leads) here o.whole.sound.slots_fit in
    let both = sym (moves_shown g d slots o.refused c.args.m.now (Inputs when root leads) here) ∙ choice in
    of_inputs (λ w u. AreBefore g w b c.args.state.now → find (inputs_into g w u b) (inputs_of g) ≡ None) when when' set t both
    (λ are. absurd (false≢true (sym c.if-not-fix_before.true ∙ c.fix_before.ensures.answer.1 (state_at g o.codes o.coded when c.args.state.now (are_state g when b c.args.state.now are)))))
    are

pub returns-then-not-first_common_path-clause-first : goal.returns-then-not-first_common_path-clause-first
returns-then-not-first_common_path-clause-first c = λ when' t b choice are.
    let o = c.args.self.now in
    let g = game_data o.game in
    let slots = o.slots.slots.items in
    let d = o.diagrams in
    let when = c.in-Inputs.when in
    let root = c.in-Inputs.field-1 in
    let leads = c.in-Inputs.leads in
    let here : HasContent slots c.args.m.now.slot (Inputs when root leads) = subst (λ (x : Content). HasContent slots c.args.m.now.slot x) c.in-Inputs.is c.content.ensures in
    let set = set_at g Now (function_at d root) in
    let fits = fit_here g d slots c.args.m.now.slot (Inputs when root leads) here o.whole.sound.slots_fit in
    let both = sym (moves_shown g d slots o.refused c.args.m.now (Inputs when root leads) here) ∙ choice in
    let fixes = state_fixed g o.codes o.coded when c.args.state.now c.fix_before.new.fixed (c.fix_before.ensures.fixes c.if-not-fix_before.false) in
    let allows = state_allows g o.codes o.coded when c.args.state.now c.fix_before.new.fixed (c.fix_before.ensures.allows c.if-not-fix_before.false) in
    let asked : all_of d c.ask_inputs.new.all.roots ≡ all_of d (inputs_asked (members_at o.own when) leads) = ap (λ (a : Together). all_of d a.roots) c.ask_inputs.ensures ∙ ap (λ (m : Members). all_of d (inputs_asked m leads)) c.members-members.ensures in
    let none = subst (λ (f : Function). HasNone c.fix_before.new.fixed f 0) asked (subst (λ (fx : List (Option Bool)). HasNone fx (all_of d c.ask_inputs.new.all.roots) 0) (c.deref.ensures.value ∙ written _ c.fix_before.new.fixed _ (let a = c.fix_before.auto.fixed in let b = c.deref_mut.ensures.len in omega (arith, a, b))) (c.first_common_path.ensures.none c.if-not-first_common_path.true)) in
    of_inputs (λ w u. AreBefore g w b c.args.state.now → find (inputs_into g w u b) (inputs_of g) ≡ None) when when' set t both
    (λ are. in_nothing g o.own o.levels d slots o.refused o.whole when b c.args.state.now are set leads fits.1 c.fix_before.new.fixed fixes allows none)
    are

pub returns-clause-first : goal.returns-clause-first
returns-clause-first c = λ when' t b choice are.
    let o = c.args.self.now in
    let g = game_data o.game in
    let slots = o.slots.slots.items in
    let d = o.diagrams in
    let when = c.in-Inputs.when in
    let root = c.in-Inputs.field-1 in
    let leads = c.in-Inputs.leads in
    let here : HasContent slots c.args.m.now.slot (Inputs when root leads) = subst (λ (x : Content). HasContent slots c.args.m.now.slot x) c.in-Inputs.is c.content.ensures in
    let set = set_at g Now (function_at d root) in
    let fits = fit_here g d slots c.args.m.now.slot (Inputs when root leads) here o.whole.sound.slots_fit in
    let both = sym (moves_shown g d slots o.refused c.args.m.now (Inputs when root leads) here) ∙ choice in
    let fixes = state_fixed g o.codes o.coded when c.args.state.now c.fix_before.new.fixed (c.fix_before.ensures.fixes c.if-not-fix_before.false) in
    let allows = state_allows g o.codes o.coded when c.args.state.now c.fix_before.new.fixed (c.fix_before.ensures.allows c.if-not-fix_before.false) in
    let hidden = length-map o.game.hidden.items hidden_data in
    let from_is = c.len-from.ensures in
    let asked : all_of d c.ask_inputs.new.all.roots ≡ all_of d (inputs_asked (members_at o.own when) leads) = ap (λ (a : Together). all_of d a.roots) c.ask_inputs.ensures ∙ ap (λ (m : Members). all_of d (inputs_asked m leads)) c.members-members.ensures in
    let s = bits_of c.first_common_path.new.out in
    let there = c.first_common_path.ensures.first c.if-not-first_common_path.false in
    let first = subst (λ (f : Function). IsFirst c.fix_before.new.fixed f 0 (level_count (state_domains g)) s) asked
    (subst (λ (fx : List (Option Bool)). IsFirst fx (all_of d c.ask_inputs.new.all.roots) 0 (level_count (state_domains g)) s) (c.deref.ensures.value ∙ written _ c.fix_before.new.fixed _ (let a = c.fix_before.auto.fixed in let b = c.deref_mut.ensures.len in omega (arith, a, b)))
    (subst (λ (n : ℕ). IsFirst c.deref.result.now (all_of d c.ask_inputs.new.all.roots) 0 n s) o.whole.fits.levels there)) in
    let read = subst (λ (bs : List Bool). (vs : List Value) → length vs ≡ length c.args.input.now → AreOf o.codes c.len-from.result vs → HaveValues o.codes Next c.len-from.result vs (bits_of bs) → c.read.new.values ≡ vs) (c.deref-2.ensures.value ∙ written _ c.first_common_path.new.out _ (let a = c.first_common_path.auto.out in let b = c.deref_mut-2.ensures.len in omega (arith, a, b))) c.read.ensures in
    of_inputs (λ w u. AreBefore g w b c.args.state.now → find (inputs_into g w u b) (inputs_of g) ≡ Some c.read.new.values) when when' set t both
    (λ are. input_read g o.codes o.coded c.len-from.result (omega (arith, from_is, hidden)) (inputs_into g when set b) s c.args.input.now c.read.new.values
    (in_found g o.own o.levels d slots o.refused o.whole when b c.args.state.now are set leads fits.1 c.fix_before.new.fixed fixes allows s first) c.requires.room read)
    are
