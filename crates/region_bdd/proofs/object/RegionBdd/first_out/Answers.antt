use Rattle.std.proofs.Common.{◌≡◌, ◌-◌, ℕ, Bool, List, Option, length, find, Some, None, sym, ◌∙◌, ap, subst, arith}
use Rattle.std.proofs.lemmas.Bool.{false≢true}
use Rattle.std.proofs.lemmas.List.{length-map}
use Rattle.std.specs.List.{All}
use Rattle.spec_model.specs.declared.value.Value.{Value}
use Rattle.spec_model.specs.GameViews.{game_data, hidden_data}
use Rattle.spec_model.specs.Values.{DomainData}
use Rattle.spec_model.specs.Diagrams.{Function}
use Rattle.spec_model.specs.DiagramReads.{bits_of}
use Rattle.spec_model.specs.Games.{outputs_of}
use Rattle.regions.specs.Rules.{AreBefore, outputs_into}
use Rattle.game_values.specs.declared.seen.At.TheVariants.{Next}
use Rattle.bdd_store.specs.State.{IsRoot}
use Rattle.bdd_bits.specs.Contents.{function_at}
use Rattle.bdd_ops.specs.Paths.{IsFirst, HasNone}
use Rattle.bdd_ops.specs.Together.{Together}
use Rattle.bdd_bits.specs.Paths.{all_of}
use Rattle.bit_compile.specs.Domains.{state_domains, level_count}
use Rattle.bdd_sets.specs.StateBits.{TellsStates, set_at}
use Rattle.bdd_products.proofs.KeepingLemmas.{keeps_itself}
use Rattle.bdd_search.specs.Parts.{AreOf, HaveValues}
use Rattle.region_bdd.specs.declared.slots.Content.{Content}
use Rattle.region_bdd.specs.declared.slots.Content.TheVariants.{Outputs}
use Rattle.region_bdd.specs.Slots.{HasContent}
use Rattle.region_bdd.specs.Finding.{outputs_sought}
use Rattle.region_bdd.proofs.SlotLaws.{fit_here}
use Rattle.bdd_sets.proofs.ListLemmas.{one_itself}
use Rattle.region_bdd.proofs.ObjectLaws.{within_root, early_roots}
use Rattle.region_bdd.proofs.MoveLaws.{moves_held}
use Rattle.region_bdd.proofs.LeadingLaws.{members_kept}
use Rattle.region_bdd.proofs.FindLaws.{slots_long}
use Rattle.region_bdd.proofs.FindCalls.{written, sought_kept, state_at, spans_part, part_spans, spans_fixed, output_read, out_none, out_found, out_nothing, moves_shown, outputs_content, of_outputs}
use Rattle.region_bdd.proofs.object.RegionBdd.first_out.Goals as goal

pub content-requires : goal.content-requires
content-requires c =
    let o = c.args.self.now in
    let g = game_data o.game in
    let slots = o.slots.slots.items in
    let d = o.diagrams in
    let held = moves_held g d slots o.refused c.args.m.now c.requires.m in
    (held.content, held.here)

pub unreachable-requires : goal.unreachable-requires
unreachable-requires c =
    let o = c.args.self.now in
    let g = game_data o.game in
    let slots = o.slots.slots.items in
    let d = o.diagrams in
    let kind = c.requires.kind in
    let is = outputs_content g d c.content.result.now kind.0 kind.1 (sym (moves_shown g d slots o.refused c.args.m.now c.content.result.now c.content.ensures) ∙ kind.2) in
    c.in_default.not-Outputs is.0 is.1 is.2

pub ask_outputs-requires-clause-members : goal.ask_outputs-requires-clause-members
ask_outputs-requires-clause-members c =
    let o = c.args.self.now in
    members_kept (game_data o.game) o.own o.levels o.diagrams o.slots.slots.items o.refused o.whole c.in-Outputs.when

pub ask_outputs-requires-clause-early : goal.ask_outputs-requires-clause-early
ask_outputs-requires-clause-early c =
    let o = c.args.self.now in
    early_roots (game_data o.game) o.own o.diagrams o.diagrams o.slots.slots.items o.whole.sound (keeps_itself o.diagrams)

pub ask_outputs-requires-clause-target : goal.ask_outputs-requires-clause-target
ask_outputs-requires-clause-target c =
    let o = c.args.self.now in
    let g = game_data o.game in
    let slots = o.slots.slots.items in
    let d = o.diagrams in
    let when = c.in-Outputs.when in
    let root = c.in-Outputs.target in
    let here : HasContent slots c.args.m.now.slot (Outputs when root) = subst (λ (x : Content). HasContent slots c.args.m.now.slot x) c.in-Outputs.is c.content.ensures in
    within_root g o.own d slots o.whole.sound c.args.m.now.slot (Outputs when root) here root (let one = one_itself root in omega (arith, one))

pub first_common_path-requires-clause-kept : goal.first_common_path-requires-clause-kept
first_common_path-requires-clause-kept c =
    let o = c.args.self.now in
    let g = game_data o.game in
    let slots = o.slots.slots.items in
    let d = o.diagrams in
    let when = c.in-Outputs.when in
    let root = c.in-Outputs.target in
    let here : HasContent slots c.args.m.now.slot (Outputs when root) = subst (λ (x : Content). HasContent slots c.args.m.now.slot x) c.in-Outputs.is c.content.ensures in
    let kept = sought_kept d o.own when root (members_kept g o.own o.levels d slots o.refused o.whole when) (early_roots g o.own d d slots o.whole.sound (keeps_itself d)) (within_root g o.own d slots o.whole.sound c.args.m.now.slot (Outputs when root) here root (let one = one_itself root in omega (arith, one))) in
    subst (λ (x : Together). All (λ n. IsRoot d.state n) x.roots) (sym c.ask_outputs.ensures) kept

pub returns-then-not-fix_move-clause-first : goal.returns-then-not-fix_move-clause-first
returns-then-not-fix_move-clause-first c = λ when' t b choice are.
    let o = c.args.self.now in
    let g = game_data o.game in
    let slots = o.slots.slots.items in
    let d = o.diagrams in
    let when = c.in-Outputs.when in
    let root = c.in-Outputs.target in
    let here : HasContent slots c.args.m.now.slot (Outputs when root) = subst (λ (x : Content). HasContent slots c.args.m.now.slot x) c.in-Outputs.is c.content.ensures in
    let x = c.args.input.now in
    let set = set_at g Next (function_at d root) in
    let states : TellsStates g Next (function_at d root) = fit_here g d slots c.args.m.now.slot (Outputs when root) here o.whole.sound.slots_fit in
    let both = sym (moves_shown g d slots o.refused c.args.m.now (Outputs when root) here) ∙ choice in
    let hidden = length-map o.game.hidden.items hidden_data in
    let long = slots_long g in
    let coded = ap (λ (ds : List DomainData). length ds) o.coded in
    let from_is = c.len-from.ensures in
    let count_is = c.count-count.ensures in
    of_outputs (λ w u. AreBefore g w b c.args.state.now → find (outputs_into g w u b x) (outputs_of g) ≡ None) when when' set t both
    (λ are. out_none g o.own o.levels d slots o.refused o.whole when b c.args.state.now are root states x (λ fit.
    absurd (false≢true (sym c.if-not-fix_move.true ∙ c.fix_move.ensures.answer.1 (state_at g o.codes o.coded when c.args.state.now fit.0, part_spans g o.codes o.coded c.len-from.result (c.count-count.result - length c.args.out.now) (omega (arith, from_is, hidden)) (omega (arith, count_is, coded, long, c.requires.room)) x fit.1)))))
    are

pub returns-then-not-first_common_path-clause-first : goal.returns-then-not-first_common_path-clause-first
returns-then-not-first_common_path-clause-first c = λ when' t b choice are.
    let o = c.args.self.now in
    let g = game_data o.game in
    let slots = o.slots.slots.items in
    let d = o.diagrams in
    let when = c.in-Outputs.when in
    let root = c.in-Outputs.target in
    let here : HasContent slots c.args.m.now.slot (Outputs when root) = subst (λ (x : Content). HasContent slots c.args.m.now.slot x) c.in-Outputs.is c.content.ensures in
    let x = c.args.input.now in
    let set = set_at g Next (function_at d root) in
    let states : TellsStates g Next (function_at d root) = fit_here g d slots c.args.m.now.slot (Outputs when root) here o.whole.sound.slots_fit in
    let both = sym (moves_shown g d slots o.refused c.args.m.now (Outputs when root) here) ∙ choice in
    let hidden = length-map o.game.hidden.items hidden_data in
    let long = slots_long g in
    let coded = ap (λ (ds : List DomainData). length ds) o.coded in
    let from_is = c.len-from.ensures in
    let count_is = c.count-count.ensures in
    let yes = c.fix_move.ensures.answer.0 c.if-not-fix_move.false in
    let part = spans_part g o.codes o.coded c.len-from.result (c.count-count.result - length c.args.out.now) (omega (arith, from_is, hidden)) (omega (arith, count_is, coded, long, c.requires.room)) x yes.1 in
    let fixes = spans_fixed g o.codes o.coded c.len-from.result (c.count-count.result - length c.args.out.now) (omega (arith, from_is, hidden)) (omega (arith, count_is, coded, long, c.requires.room)) when c.args.state.now x c.fix_move.new.fixed (c.fix_move.ensures.fixes c.if-not-fix_move.false) in
    let asked : all_of d c.ask_outputs.new.all.roots ≡ all_of d (outputs_sought o.own when root) = ap (λ (a : Together). all_of d a.roots) c.ask_outputs.ensures in
    let none = subst (λ (f : Function). HasNone c.fix_move.new.fixed f 0) asked (subst (λ (fx : List (Option Bool)). HasNone fx (all_of d c.ask_outputs.new.all.roots) 0) (c.deref.ensures.value ∙ written _ c.fix_move.new.fixed _ (let a = c.fix_move.auto.fixed in let b = c.deref_mut.ensures.len in omega (arith, a, b))) (c.first_common_path.ensures.none c.if-not-first_common_path.true)) in
    of_outputs (λ w u. AreBefore g w b c.args.state.now → find (outputs_into g w u b x) (outputs_of g) ≡ None) when when' set t both
    (λ are. out_nothing g o.own o.levels d slots o.refused o.whole when b c.args.state.now are root states x part c.fix_move.new.fixed fixes none)
    are

pub returns-clause-first : goal.returns-clause-first
returns-clause-first c = λ when' t b choice are.
    let o = c.args.self.now in
    let g = game_data o.game in
    let slots = o.slots.slots.items in
    let d = o.diagrams in
    let when = c.in-Outputs.when in
    let root = c.in-Outputs.target in
    let here : HasContent slots c.args.m.now.slot (Outputs when root) = subst (λ (x : Content). HasContent slots c.args.m.now.slot x) c.in-Outputs.is c.content.ensures in
    let x = c.args.input.now in
    let set = set_at g Next (function_at d root) in
    let states : TellsStates g Next (function_at d root) = fit_here g d slots c.args.m.now.slot (Outputs when root) here o.whole.sound.slots_fit in
    let both = sym (moves_shown g d slots o.refused c.args.m.now (Outputs when root) here) ∙ choice in
    let hidden = length-map o.game.hidden.items hidden_data in
    let long = slots_long g in
    let coded = ap (λ (ds : List DomainData). length ds) o.coded in
    let from_is = c.len-from.ensures in
    let count_is = c.count-count.ensures in
    let yes = c.fix_move.ensures.answer.0 c.if-not-fix_move.false in
    let part = spans_part g o.codes o.coded c.len-from.result (c.count-count.result - length c.args.out.now) (omega (arith, from_is, hidden)) (omega (arith, count_is, coded, long, c.requires.room)) x yes.1 in
    let fixes = spans_fixed g o.codes o.coded c.len-from.result (c.count-count.result - length c.args.out.now) (omega (arith, from_is, hidden)) (omega (arith, count_is, coded, long, c.requires.room)) when c.args.state.now x c.fix_move.new.fixed (c.fix_move.ensures.fixes c.if-not-fix_move.false) in
    let asked : all_of d c.ask_outputs.new.all.roots ≡ all_of d (outputs_sought o.own when root) = ap (λ (a : Together). all_of d a.roots) c.ask_outputs.ensures in
    let s = bits_of c.first_common_path.new.out in
    let there = c.first_common_path.ensures.first c.if-not-first_common_path.false in
    let first = subst (λ (f : Function). IsFirst c.fix_move.new.fixed f 0 (level_count (state_domains g)) s) asked
    (subst (λ (fx : List (Option Bool)). IsFirst fx (all_of d c.ask_outputs.new.all.roots) 0 (level_count (state_domains g)) s) (c.deref.ensures.value ∙ written _ c.fix_move.new.fixed _ (let a = c.fix_move.auto.fixed in let b = c.deref_mut.ensures.len in omega (arith, a, b)))
    (subst (λ (n : ℕ). IsFirst c.deref.result.now (all_of d c.ask_outputs.new.all.roots) 0 n s) o.whole.fits.levels there)) in
    let read = subst (λ (bs : List Bool). (vs : List Value) → length vs ≡ length c.args.out.now → AreOf o.codes (c.count-count.result - length c.args.out.now) vs → HaveValues o.codes Next (c.count-count.result - length c.args.out.now) vs (bits_of bs) → c.read.new.values ≡ vs) (c.deref-2.ensures.value ∙ written _ c.first_common_path.new.out _ (let a = c.first_common_path.auto.out in let b = c.deref_mut-2.ensures.len in omega (arith, a, b))) c.read.ensures in
    of_outputs (λ w u. AreBefore g w b c.args.state.now → find (outputs_into g w u b x) (outputs_of g) ≡ Some c.read.new.values) when when' set t both
    (λ are. output_read g o.codes o.coded c.len-from.result (c.count-count.result - length c.args.out.now) (omega (arith, from_is, hidden)) (omega (arith, count_is, coded, long, c.requires.room)) (outputs_into g when set b x) s c.args.out.now c.read.new.values
    (out_found g o.own o.levels d slots o.refused o.whole when b c.args.state.now are root states x part c.fix_move.new.fixed fixes s first) c.requires.room read)
    are
