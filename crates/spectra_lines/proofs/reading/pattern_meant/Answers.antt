use Rattle.std.proofs.Common.{◌≡◌, true, false, not, [], map, flat_map, is_some, option_map, option_to_list, OnOk, refl, sym, ap, subst, ◌∙◌}
use Rattle.spec_model.specs.Views.{pattern_data as model_pattern}
use Rattle.spectra_resolved.specs.Findings.{with_faults, first_of_faults}
use Rattle.spectra_resolved.specs.Reports.{found_in}
use Rattle.spectra_resolved.specs.TextViews.{pattern_line_data}
use Rattle.spectra_judge.specs.KindViews.{kind_data}
use Rattle.spectra_patterns.specs.Patterns.{pattern_known, with_lines, line_faults, lines_faults, pattern_faults, meant}
use Rattle.spectra_patterns.specs.SoundPatterns.{IsSound}
use Rattle.spectra_lines.specs.Parts.{PatternPart, put_lines, part_patterns}
use Rattle.spectra_lines.specs.Views.{facts_data, typed_data}
use Rattle.spectra_lines.proofs.PatternParts.{part_found, whole_is, sound_is, lines_put, whole_rest, whole_meant, nothing_more}
use Rattle.spectra_lines.proofs.Puts.{if_ok}
use Rattle.spectra_lines.proofs.reading.pattern_meant.Goals as goal

pub returns-then-is_none-clause-found : goal.returns-then-is_none-clause-found
returns-then-is_none-clause-found c =
    let f = facts_data c.args.facts.now in
    let p = typed_data c.args.typed.now in
    let room = c.args.room.now in
    let first : c.in_ok-first.first ≡ first_of_faults (lines_faults p.own p.pattern) =
    c.in_ok-first.ensures
    ∙ (λ i. first_of_faults (flat_map (line_faults (pattern_known p.pattern.params (map kind_data (c.deref.ensures.value i)))) (map pattern_line_data (c.deref-2.ensures.value i)))) in
    let not_so = whole_is f p room c.put_lines.new.room false c.in_ok-lines.ensures.room (c.is_none.ensures ∙ ap not c.if-is_none.true) in
    part_found f p room (found_in c.args.findings.now) (found_in c.report_first.new.findings) (found_in c.put_lines.new.findings) (found_in c.put_lines.new.findings) []
    (c.report_first.ensures (lines_faults p.own p.pattern) first) c.in_ok-lines.ensures.found refl (nothing_more f p room not_so)

pub pattern-requires : goal.pattern-requires
pattern-requires c =
    let f = facts_data c.args.facts.now in
    let p = typed_data c.args.typed.now in
    let room = c.args.room.now in
    let first : c.in_ok-first.first ≡ first_of_faults (lines_faults p.own p.pattern) =
    c.in_ok-first.ensures
    ∙ (λ i. first_of_faults (flat_map (line_faults (pattern_known p.pattern.params (map kind_data (c.deref.ensures.value i)))) (map pattern_line_data (c.deref-2.ensures.value i)))) in
    let has : is_some c.put_lines.new.room ≡ true = c.is_none.ensures ∙ ap not c.if-is_none.false in
    let own : map kind_data c.deref-3.result.now ≡ p.own = ap (map kind_data) c.deref-3.ensures.value in
    let lines : map pattern_line_data c.deref-4.result.now ≡ put_lines f p = ap (map pattern_line_data) c.deref-4.ensures.value ∙ c.in_ok-lines.ensures.lines has in
    let sound = sound_is f p c.in_ok-first.first c.is_sound-sound.result first c.is_sound-sound.ensures in
    let put = lines_put f p (map pattern_line_data c.deref-4.result.now) lines in
    record {
      sound = λ is none.
          subst (λ o. IsSound o (with_lines p.pattern (map pattern_line_data c.deref-4.result.now))) (sym own)
          (subst (λ q. IsSound p.own q) (sym put) (c.requires.sound (sym sound ∙ is) ((λ i. lines_faults (sym own i) (sym put i)) ∙ none)));
    }

pub returns-clause-found : goal.returns-clause-found
returns-clause-found c =
    let f = facts_data c.args.facts.now in
    let p = typed_data c.args.typed.now in
    let room = c.args.room.now in
    let first : c.in_ok-first.first ≡ first_of_faults (lines_faults p.own p.pattern) =
    c.in_ok-first.ensures
    ∙ (λ i. first_of_faults (flat_map (line_faults (pattern_known p.pattern.params (map kind_data (c.deref.ensures.value i)))) (map pattern_line_data (c.deref-2.ensures.value i)))) in
    let has : is_some c.put_lines.new.room ≡ true = c.is_none.ensures ∙ ap not c.if-is_none.false in
    let own : map kind_data c.deref-3.result.now ≡ p.own = ap (map kind_data) c.deref-3.ensures.value in
    let lines : map pattern_line_data c.deref-4.result.now ≡ put_lines f p = ap (map pattern_line_data) c.deref-4.ensures.value ∙ c.in_ok-lines.ensures.lines has in
    let sound = sound_is f p c.in_ok-first.first c.is_sound-sound.result first c.is_sound-sound.ensures in
    let q = with_lines p.pattern (map pattern_line_data c.deref-4.result.now) in
    let whole = whole_is f p room c.put_lines.new.room true c.in_ok-lines.ensures.room has in
    let rest = pattern_faults c.is_sound-sound.result (map kind_data c.deref-3.result.now) q in
    let large = found_in c.put_lines.new.findings in
    subst (λ x. OnOk c.pattern.result (found_in c.pattern.new.findings ≡ x))
    (part_found f p room (found_in c.args.findings.now) (found_in c.report_first.new.findings) large (with_faults large rest) rest
    (c.report_first.ensures (lines_faults p.own p.pattern) first) c.in_ok-lines.ensures.found refl
    (ap (λ o. pattern_faults c.is_sound-sound.result o q) own ∙ whole_rest f p room c.is_sound-sound.result (map pattern_line_data c.deref-4.result.now) whole sound lines))
    c.pattern.ensures.found

pub returns-clause-meant : goal.returns-clause-meant
returns-clause-meant c =
    let f = facts_data c.args.facts.now in
    let p = typed_data c.args.typed.now in
    let room = c.args.room.now in
    let first : c.in_ok-first.first ≡ first_of_faults (lines_faults p.own p.pattern) =
    c.in_ok-first.ensures
    ∙ (λ i. first_of_faults (flat_map (line_faults (pattern_known p.pattern.params (map kind_data (c.deref.ensures.value i)))) (map pattern_line_data (c.deref-2.ensures.value i)))) in
    let has : is_some c.put_lines.new.room ≡ true = c.is_none.ensures ∙ ap not c.if-is_none.false in
    let own : map kind_data c.deref-3.result.now ≡ p.own = ap (map kind_data) c.deref-3.ensures.value in
    let lines : map pattern_line_data c.deref-4.result.now ≡ put_lines f p = ap (map pattern_line_data) c.deref-4.ensures.value ∙ c.in_ok-lines.ensures.lines has in
    let sound = sound_is f p c.in_ok-first.first c.is_sound-sound.result first c.is_sound-sound.ensures in
    let q = with_lines p.pattern (map pattern_line_data c.deref-4.result.now) in
    let whole = whole_is f p room c.put_lines.new.room true c.in_ok-lines.ensures.room has in
    if_ok c.pattern.result (λ made. option_map model_pattern made ≡ meant c.is_sound-sound.result (map kind_data c.deref-3.result.now) q)
    (λ made. option_to_list (option_map model_pattern made) ≡ part_patterns f room (PatternPart p))
    (λ made is.
    ap option_to_list (is ∙ ap (λ o. meant c.is_sound-sound.result o q) own) ∙ whole_meant f p room c.is_sound-sound.result (map pattern_line_data c.deref-4.result.now) whole sound lines)
    c.pattern.ensures.meant
