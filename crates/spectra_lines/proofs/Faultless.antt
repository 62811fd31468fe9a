-- Where lines and patterns have no fault, all of them mean something.
use Rattle.std.proofs.Common.{◌≡◌, ℕ, zero, suc, ◌+◌, ◌≤◌, nat_lt, Bool, true, false, ◌&&◌, if◌then◌else◌, List, [], ◌∷◌, ◌++◌, length, map, take, drop, Some, None, is_some, option_to_list, refl, sym, ap, subst, ◌∙◌, append_assoc, append-nil, arith}
use Rattle.std.specs.List.{list_all}
use Rattle.std.proofs.lemmas.Bool.{and_parts, and_from, not-false}
use Rattle.std.proofs.lemmas.Bool.Decides.{nat_tests}
use Rattle.std.proofs.lemmas.List.{length-map}
use Rattle.spec_model.specs.Syntax.{PatternData, Statement, TriggerData}
use Rattle.spec_model.specs.WellTyped.{all_hidden}
use Rattle.spectra_resolved.specs.declared.spot.Spot.{Spot}
use Rattle.spectra_resolved.specs.declared.findings.Finding.{Finding}
use Rattle.spectra_resolved.specs.Resolved.{ResolvedTree}
use Rattle.spectra_resolved.specs.Texts.{ResolvedPatternLine, ResolvedLine}
use Rattle.spectra_judge.specs.Known.{Known}
use Rattle.spectra_judge.proofs.Empty.{empty_parts, no_fault, not_empty}
use Rattle.spectra_patterns.specs.Patterns.{line_tree, is_empty, lines_faults, pattern_faults, pattern_of, meant}
use Rattle.spectra_lines.specs.Contents.{Facts, line_put, pattern_put}
use Rattle.spectra_lines.specs.Limits.{most_nodes, nodes_of, is_flat, are_flat, is_small}
use Rattle.spectra_lines.specs.Lines.{as_written, own_faults, put_trees, as_put, whole_faults, put_faults, line_faults}
use Rattle.spectra_lines.specs.Parts.{TypedPattern, TextPart, LinePart, PatternPart, leading, in_text_order, known_inside, line_room, large_line, large_lines, room_behind_lines, put_lines, is_whole, part_room, is_sound, part_faults, parts_faults, parts_lines, parts_patterns}
use Rattle.spectra_lines.specs.Meanings.{statements, triggers}
use Rattle.spectra_patterns.specs.Hidden.{alone, most_hidden, are_many, hidden_faults}
use Rattle.spectra_lines.specs.Said.{all_room, small_lines, tables_faults}
use Rattle.spectra_lines.specs.Laws.{nodes_of_lines, put_trees_of, nodes_of_patterns, are_all_sound, HasNoFault, HaveNoFault, PatternsHaveNoFault, FaultlessAreMeant}
use Rattle.spectra_lines.proofs.Rooms.{some_room}
use Rattle.spectra_lines.proofs.Stated.{length_statements}

-- ---- the parts of a text are its lines and its patterns

abbrev lines_among : List TextPart → List ResolvedLine
lines_among [] = []
lines_among (LinePart l ∷ ps) = l ∷ lines_among ps
lines_among (PatternPart p ∷ ps) = lines_among ps

abbrev patterns_among : List TextPart → List TypedPattern
patterns_among [] = []
patterns_among (LinePart l ∷ ps) = patterns_among ps
patterns_among (PatternPart p ∷ ps) = p ∷ patterns_among ps

no_lines : (ps : List TypedPattern) → lines_among (map PatternPart ps) ≡ []
no_lines [] = refl
no_lines (p ∷ ps) = no_lines ps

only_patterns : (ps : List TypedPattern) → patterns_among (map PatternPart ps) ≡ ps
only_patterns [] = refl
only_patterns (p ∷ ps) = ap (λ qs. p ∷ qs) (only_patterns ps)

lines_behind : (ps : List TypedPattern) (rest : List TextPart) → lines_among (map PatternPart ps ++ rest) ≡ lines_among rest
lines_behind [] rest = refl
lines_behind (p ∷ ps) rest = lines_behind ps rest

patterns_behind : (ps : List TypedPattern) (rest : List TextPart) → patterns_among (map PatternPart ps ++ rest) ≡ ps ++ patterns_among rest
patterns_behind [] rest = refl
patterns_behind (p ∷ ps) rest = ap (λ qs. p ∷ qs) (patterns_behind ps rest)

take-drop : {A : Type 0} (n : ℕ) (xs : List A) → take n xs ++ drop n xs ≡ xs
take-drop zero [] = refl
take-drop zero (x ∷ xs) = refl
take-drop (suc n) [] = refl
take-drop (suc n) (x ∷ xs) = ap (λ ys. x ∷ ys) (take-drop n xs)

ordered_lines : (ps : List TypedPattern) (ls : List ResolvedLine) → lines_among (in_text_order ps ls) ≡ ls
ordered_lines ps [] = no_lines ps
ordered_lines ps (l ∷ ls) =
    let n = leading l.at ps in
    lines_behind (take n ps) (LinePart l ∷ in_text_order (drop n ps) ls) ∙ ap (λ ms. l ∷ ms) (ordered_lines (drop n ps) ls)

ordered_patterns : (ps : List TypedPattern) (ls : List ResolvedLine) → patterns_among (in_text_order ps ls) ≡ ps
ordered_patterns ps [] = only_patterns ps
ordered_patterns ps (l ∷ ls) =
    let n = leading l.at ps in
    patterns_behind (take n ps) (LinePart l ∷ in_text_order (drop n ps) ls) ∙ ap (λ qs. take n ps ++ qs) (ordered_patterns (drop n ps) ls) ∙ take-drop n ps

-- ---- what isn't too large

-- the trees of a pattern's lines
abbrev trees_of : List ResolvedPatternLine → List ResolvedTree
trees_of ls = map line_tree ls

module _ (p : TypedPattern) where
  abbrev known : Known
  known = known_inside p

  abbrev params : ℕ
  params = p.pattern.params

  line_small : (r : ℕ) (l : ResolvedPatternLine) → large_line p (Some r) l ≡ [] → is_some (line_room p (Some r) l) ≡ true
  line_small r l none = not-false (is_some (line_room p (Some r) l)) (no_fault _ _ _ none)

  lines_room : (r : ℕ) (ls : List ResolvedPatternLine) → large_lines p (Some r) ls ≡ []
      → (left : ℕ) × (Some left ≡ room_behind_lines p (Some r) ls) × (left + nodes_of known params (trees_of ls) ≡ r) × (are_flat known params (trees_of ls) ≡ true)
  lines_room r [] none = (r, refl, omega arith, refl)
  lines_room r (l ∷ ls) none =
      let parts = empty_parts (large_line p (Some r) l) (large_lines p (line_room p (Some r) l) ls) none in
      let here = some_room known params r (line_tree l ∷ []) (line_small r l parts.0) in
      let flat = (and_parts (is_flat known params (line_tree l)) true here.3).0 in
      let rest = lines_room here.0 ls (ap (λ room. large_lines p room ls) here.1 ∙ parts.1) in
      (rest.0, rest.1 ∙ ap (λ room. room_behind_lines p room ls) here.1, (let a = rest.2 in let b = here.2 in omega (arith, a, b)), and_from _ _ flat rest.3)

-- ---- all parts

-- all nodes of parts
abbrev nodes_among : Facts → List TextPart → ℕ
nodes_among f [] = 0
nodes_among f (LinePart l ∷ ps) = nodes_of f.known 0 (put_trees f l) + nodes_among f ps
nodes_among f (PatternPart p ∷ ps) = nodes_of (known_inside p) p.pattern.params (put_trees_of f p) + nodes_among f ps

all_nodes : (f : Facts) (ps : List TextPart) → nodes_among f ps ≡ nodes_of_lines f (lines_among ps) + nodes_of_patterns f (patterns_among ps)
all_nodes f [] = refl
all_nodes f (LinePart l ∷ ps) = let rest = all_nodes f ps in omega (arith, rest)
all_nodes f (PatternPart p ∷ ps) = let rest = all_nodes f ps in omega (arith, rest)

abbrev meaning : Facts → TypedPattern → PatternData
meaning f p = pattern_of p.own (pattern_put f p.pattern)

abbrev is_flat_pattern : Facts → TypedPattern → Bool
is_flat_pattern f p = are_flat (known_inside p) p.pattern.params (put_trees_of f p)

record PartsMeant (f : Facts) (r : ℕ) (ps : List TextPart) : Type 0 where
  pub lines : parts_lines f (Some r) ps ≡ map (line_put f) (lines_among ps)
  pub patterns : are_all_sound (patterns_among ps) ≡ true → parts_patterns f (Some r) ps ≡ map (meaning f) (patterns_among ps)
  pub nodes : nodes_among f ps ≤ r
  pub levels : list_all (λ l. are_flat f.known 0 (put_trees f l)) (lines_among ps) ≡ true
  pub pattern_levels : list_all (is_flat_pattern f) (patterns_among ps) ≡ true
  pub lines_right : HaveNoFault f (lines_among ps)
  pub patterns_right : PatternsHaveNoFault f (patterns_among ps)

line_right : (f : Facts) (l : ResolvedLine) → as_written f l ≡ [] → own_faults l.body ≡ [] → put_faults f l ≡ [] → HasNoFault f l
line_right f l written own none =
    let parts = empty_parts (as_put f l) (if is_empty (as_written f l) && is_empty (as_put f l) then whole_faults f.known (line_put f l).body else []) none in
    record {
      written = written;
      own = own;
      put = parts.0;
      whole = (λ i. if is_empty (sym written i) && is_empty (sym parts.0 i) then whole_faults f.known (line_put f l).body else []) ∙ parts.1;
    }

-- a pattern whose names, types and lines have no fault, by what is found of it
module _ (f : Facts) (p : TypedPattern) (written : lines_faults p.own p.pattern ≡ []) (none : pattern_faults (is_sound p) p.own (pattern_put f p.pattern) ≡ []) (sound : p.sound ≡ true) where
  sound_is : is_sound p ≡ true
  sound_is = λ i. sound i && is_empty (written i)

  one_right : pattern_faults true p.own (pattern_put f p.pattern) ≡ []
  one_right = ap (λ b. pattern_faults b p.own (pattern_put f p.pattern)) (sym sound_is) ∙ none

  one_meant : option_to_list (meant (is_sound p) p.own (pattern_put f p.pattern)) ≡ meaning f p ∷ []
  one_meant = ap option_to_list ((λ i. meant (sound_is i) p.own (pattern_put f p.pattern)) ∙ (λ i. if true && is_empty (one_right i) then Some (meaning f p) else None))

-- what is left behind a part
abbrev PartRight : Facts → ℕ → TextPart → Type 0
PartRight f r (LinePart l) =
    (left : ℕ) × (Some left ≡ part_room f (Some r) (LinePart l)) × (left + nodes_of f.known 0 (put_trees f l) ≡ r) × (are_flat f.known 0 (put_trees f l) ≡ true) × HasNoFault f l
PartRight f r (PatternPart p) =
    (left : ℕ) × (Some left ≡ part_room f (Some r) (PatternPart p)) × (left + nodes_of (known_inside p) p.pattern.params (put_trees_of f p) ≡ r) × (is_flat_pattern f p ≡ true)
    × (lines_faults p.own p.pattern ≡ []) × (pattern_faults (is_sound p) p.own (pattern_put f p.pattern) ≡ [])

part_right : (f : Facts) (r : ℕ) (p : TextPart) → part_faults f (Some r) p ≡ [] → PartRight f r p
part_right f r (LinePart l) none =
    let ts = put_trees f l in
    let written = empty_parts (as_written f l) _ none in
    let own = empty_parts (own_faults l.body) _ written.1 in
    let large = empty_parts _ (if is_small f.known 0 (Some r) ts then put_faults f l else []) own.1 in
    let small = not-false (is_small f.known 0 (Some r) ts) (no_fault _ _ _ large.0) in
    let here = some_room f.known 0 r ts small in
    (here.0, here.1, here.2, here.3, line_right f l written.0 own.0 (sym (ap (λ b. if b then put_faults f l else []) small) ∙ large.1))
part_right f r (PatternPart p) none =
    let written = empty_parts (lines_faults p.own p.pattern) _ none in
    let large = empty_parts (large_lines p (Some r) (put_lines f p)) _ written.1 in
    let here = lines_room p r (put_lines f p) large.0 in
    let whole : is_whole f (Some r) p ≡ true = ap is_some (sym here.1) in
    (here.0, here.1, here.2, here.3, written.0, sym (ap (λ b. if b then pattern_faults (is_sound p) p.own (pattern_put f p.pattern) else []) whole) ∙ large.1)

parts_meant : (f : Facts) (r : ℕ) (ps : List TextPart) → parts_faults f (Some r) ps ≡ [] → PartsMeant f r ps
parts_meant f r [] none = record { lines = refl; patterns = λ sound. refl; nodes = omega arith; levels = refl; pattern_levels = refl; lines_right = tt; patterns_right = tt }
parts_meant f r (LinePart l ∷ ps) none =
    let parts = empty_parts (line_faults f (Some r) l) (parts_faults f (part_room f (Some r) (LinePart l)) ps) none in
    let here = part_right f r (LinePart l) parts.0 in
    let small : is_small f.known 0 (Some r) (put_trees f l) ≡ true = ap is_some (sym here.1) in
    let rest = parts_meant f here.0 ps (ap (λ room. parts_faults f room ps) here.1 ∙ parts.1) in
    record {
      lines = (λ i. (if small i then line_put f l ∷ [] else []) ++ parts_lines f (sym here.1 i) ps) ∙ ap (λ ms. line_put f l ∷ ms) rest.lines;
      patterns = λ sound. ap (λ room. parts_patterns f room ps) (sym here.1) ∙ rest.patterns sound;
      nodes = (let a = rest.nodes in let b = here.2 in omega (arith, a, b));
      levels = and_from _ _ here.3 rest.levels;
      pattern_levels = rest.pattern_levels;
      lines_right = (here.4, rest.lines_right);
      patterns_right = rest.patterns_right;
    }
parts_meant f r (PatternPart p ∷ ps) none =
    let parts = empty_parts (part_faults f (Some r) (PatternPart p)) (parts_faults f (part_room f (Some r) (PatternPart p)) ps) none in
    let here = part_right f r (PatternPart p) parts.0 in
    let whole : is_whole f (Some r) p ≡ true = ap is_some (sym here.1) in
    let rest = parts_meant f here.0 ps (ap (λ room. parts_faults f room ps) here.1 ∙ parts.1) in
    record {
      lines = ap (λ room. parts_lines f room ps) (sym here.1) ∙ rest.lines;
      patterns = λ sound.
          let sounds = and_parts p.sound (are_all_sound (patterns_among ps)) sound in
          (λ i. (if whole i then option_to_list (meant (is_sound p) p.own (pattern_put f p.pattern)) else []) ++ parts_patterns f (sym here.1 i) ps)
          ∙ (λ i. one_meant f p here.4 here.5 sounds.0 i ++ rest.patterns sounds.1 i);
      nodes = (let a = rest.nodes in let b = here.2 in omega (arith, a, b));
      levels = rest.levels;
      pattern_levels = and_from _ _ here.3 rest.pattern_levels;
      lines_right = rest.lines_right;
      patterns_right = (here.4, λ sound. one_right f p here.4 here.5 sound, rest.patterns_right);
    }

-- ---- hidden tables

not_less : (m n : ℕ) → nat_lt m n ≡ false → n ≤ m
not_less m n less = grind (arith, nat_tests)

no_more : (b : Bool) (f : Finding) (fs : List Finding) → (if b then f ∷ [] else fs) ≡ [] → (b ≡ false) × (fs ≡ [])
no_more true f fs none = absurd (not_empty f [] none)
no_more false f fs none = (refl, none)

few_hidden : (ts : List TriggerData) (before : List Statement) (places : List Spot) (ls : List Statement) → length places ≡ length ls → hidden_faults ts before places ls ≡ [] →
    all_hidden (alone ts before) ≤ most_hidden → all_hidden (alone ts (before ++ ls)) ≤ most_hidden
few_hidden ts before places [] same none few = subst (λ ls. all_hidden (alone ts ls) ≤ most_hidden) (sym (append-nil before)) few
few_hidden ts before [] (l ∷ ls) same none few = absurd (omega (arith, same))
few_hidden ts before (at ∷ places) (l ∷ ls) same none few =
    let here = no_more (are_many ts (before ++ l ∷ [])) _ (hidden_faults ts (before ++ l ∷ []) places ls) none in
    subst (λ ms. all_hidden (alone ts ms) ≤ most_hidden) (append_assoc before (l ∷ []) ls)
    (few_hidden ts (before ++ l ∷ []) places ls (omega (arith, same)) here.1 (not_less _ _ here.0))

all_few : (f : Facts) (ls : List ResolvedLine) → tables_faults f ls ≡ [] → all_hidden (alone (triggers f.known ls) (statements f.known ls)) ≤ most_hidden
all_few f ls none =
    few_hidden (triggers f.known ls) [] (map (λ (l : ResolvedLine). l.item) ls) (statements f.known ls)
    (length-map ls (λ (l : ResolvedLine). l.item) ∙ sym (length_statements f.known 1 0 ls)) none (omega arith)

-- ---- whole texts

pub faultless : FaultlessAreMeant
faultless f ps ls none =
    let parts = empty_parts (parts_faults f all_room (in_text_order ps ls)) (tables_faults f (small_lines f ps ls)) none in
    let all = parts_meant f most_nodes (in_text_order ps ls) parts.0 in
    let lines = ordered_lines ps ls in
    let patterns = ordered_patterns ps ls in
    record {
      lines = all.lines ∙ ap (map (line_put f)) lines;
      patterns = λ sound. all.patterns (ap are_all_sound patterns ∙ sound) ∙ ap (map (meaning f)) patterns;
      nodes = subst (λ n. n ≤ most_nodes) (all_nodes f (in_text_order ps ls) ∙ (λ i. nodes_of_lines f (lines i) + nodes_of_patterns f (patterns i))) all.nodes;
      levels = ap (list_all (λ l. are_flat f.known 0 (put_trees f l))) (sym lines) ∙ all.levels;
      pattern_levels = ap (list_all (is_flat_pattern f)) (sym patterns) ∙ all.pattern_levels;
      hidden = all_few f (small_lines f ps ls) parts.1;
      lines_right = subst (HaveNoFault f) lines all.lines_right;
      patterns_right = subst (PatternsHaveNoFault f) patterns all.patterns_right;
    }
