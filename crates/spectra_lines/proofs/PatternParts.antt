-- What is found of a pattern, by its lines as they are written and with everything put in, and what it means.
use Rattle.std.proofs.Common.{◌≡◌, ℕ, Bool, true, false, ◌&&◌, if◌then◌else◌, List, [], Option, is_some, is_none, option_to_list, sym, ap, ◌∙◌}
use Rattle.spectra_resolved.specs.declared.findings.Finding.{Finding}
use Rattle.spectra_resolved.specs.Findings.{with_faults, first_of_faults}
use Rattle.spectra_resolved.specs.Texts.{ResolvedPatternLine}
use Rattle.spectra_resolved.proofs.First.{three_lists}
use Rattle.spectra_patterns.specs.Patterns.{lines_faults, pattern_faults, meant, with_lines}
use Rattle.spectra_lines.specs.Contents.{Facts, pattern_put}
use Rattle.spectra_lines.specs.Parts.{TypedPattern, PatternPart, large_lines, room_behind_lines, put_lines, is_whole, is_sound, part_faults, part_patterns}
use Rattle.spectra_lines.proofs.Firsts.{none_empty}

module _ (f : Facts) (p : TypedPattern) where
  -- what is found as it is written, of the sizes of its lines, and then with everything put in are its faults
  pub part_found : (room : Option ℕ) (old written large found : Option Finding) (rest : List Finding) → written ≡ with_faults old (lines_faults p.own p.pattern)
      → large ≡ with_faults written (large_lines p room (put_lines f p)) → found ≡ with_faults large rest
      → rest ≡ (if is_whole f room p then pattern_faults (is_sound p) p.own (pattern_put f p.pattern) else []) → found ≡ with_faults old (part_faults f room (PatternPart p))
  part_found room old written large found rest first next is same =
      is
      ∙ (λ i. with_faults ((next ∙ ap (λ o. with_faults o (large_lines p room (put_lines f p))) first) i) (same i))
      ∙ sym (three_lists old (lines_faults p.own p.pattern) (large_lines p room (put_lines f p)) (if is_whole f room p then pattern_faults (is_sound p) p.own (pattern_put f p.pattern) else []))

  -- it is whole where room is left
  pub whole_is : (room new : Option ℕ) (some : Bool) → new ≡ room_behind_lines p room (put_lines f p) → is_some new ≡ some → is_whole f room p ≡ some
  whole_is room new some is has = sym (ap is_some is) ∙ has

  -- it is sound where it is said to be so, and nothing was found as it is written
  pub sound_is : (first : Option Finding) (sound : Bool) → first ≡ first_of_faults (lines_faults p.own p.pattern) → sound ≡ (p.sound && is_none first) → sound ≡ is_sound p
  sound_is first sound is e = e ∙ ap (λ b. p.sound && b) (none_empty (lines_faults p.own p.pattern) first is)

  -- where it is whole, its lines are those with everything put in
  pub lines_put : (ls : List ResolvedPatternLine) → ls ≡ put_lines f p → with_lines p.pattern ls ≡ pattern_put f p.pattern
  lines_put ls is = ap (with_lines p.pattern) is

  pub whole_rest : (room : Option ℕ) (sound : Bool) (ls : List ResolvedPatternLine) → is_whole f room p ≡ true → sound ≡ is_sound p → ls ≡ put_lines f p
      → pattern_faults sound p.own (with_lines p.pattern ls) ≡ (if is_whole f room p then pattern_faults (is_sound p) p.own (pattern_put f p.pattern) else [])
  whole_rest room sound ls whole same is =
      (λ i. pattern_faults (same i) p.own (with_lines p.pattern (is i))) ∙ (λ i. if sym whole i then pattern_faults (is_sound p) p.own (pattern_put f p.pattern) else [])

  pub whole_meant : (room : Option ℕ) (sound : Bool) (ls : List ResolvedPatternLine) → is_whole f room p ≡ true → sound ≡ is_sound p → ls ≡ put_lines f p
      → option_to_list (meant sound p.own (with_lines p.pattern ls)) ≡ part_patterns f room (PatternPart p)
  whole_meant room sound ls whole same is =
      (λ i. option_to_list (meant (same i) p.own (with_lines p.pattern (is i)))) ∙ (λ i. if sym whole i then option_to_list (meant (is_sound p) p.own (pattern_put f p.pattern)) else [])

  pub nothing_more : (room : Option ℕ) → is_whole f room p ≡ false → [] ≡ (if is_whole f room p then pattern_faults (is_sound p) p.own (pattern_put f p.pattern) else [])
  nothing_more room not_so = λ i. if sym not_so i then pattern_faults (is_sound p) p.own (pattern_put f p.pattern) else []
