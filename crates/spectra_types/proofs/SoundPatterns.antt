-- A pattern that is said to be sound is so with everything put in, where its lines have no fault, whatever else is wrong in its
-- files.
use Rattle.std.proofs.Common.{◌≡◌, ℕ, ℤ, true, not, List, [], ◌∷◌, ◌++◌, Option, length, map, flat_map, refl, ap, ◌∙◌}
use Rattle.std.specs.Prelude.{All}
use Rattle.std.specs.List.{list_all}
use Rattle.std.proofs.lemmas.Bool.{and_parts, and_from, false≢true}
use Rattle.std.proofs.lemmas.List.{length-map}
use Rattle.std.proofs.lemmas.List.Elements.{All-head, All-tail}
use Rattle.spec_model.proofs.AllStates.{Every}
use Rattle.spectra_trees.specs.declared.tree.Place.{Place}
use Rattle.spectra_trees.specs.Data.{Expression, TypeData, PartData, PartShape, PatternData, ItemData, TreeData}
use Rattle.spectra_resolved.specs.declared.stand.Stand.{Stand}
use Rattle.spectra_resolved.specs.declared.stand.Stand.TheVariants as stand
use Rattle.spectra_resolved.specs.declared.findings.Finding.{Finding}
use Rattle.spectra_resolved.specs.Resolved.{ResolvedTree}
use Rattle.spectra_resolved.specs.Enums.{enum_names}
use Rattle.spectra_resolved.specs.Looks.{Looking, Names}
use Rattle.spectra_resolved.specs.Resolving.{resolved, misuses}
use Rattle.spectra_resolved.specs.Texts.{ResolvedAlias, ResolvedPatternLine, Initial, Safety, Recurring, ResolvedPattern, ResolvedText}
use Rattle.spectra_copies.specs.Copies.{written}
use Rattle.spectra_copies.specs.Texts.{each_in_turn, tree_out, pattern_line_out, pattern_out, written_text}
use Rattle.spectra_items.specs.Meanings.{at_large, aliases_in, in_pattern, own_types, own_names, pattern_lines, pattern_of, patterns_in}
use Rattle.spectra_declared.specs.Items.{FiledItem, items_from, part_enum_names, enum_names_of}
use Rattle.spectra_declared.specs.Declarations.{names_of}
use Rattle.spectra_declared.specs.Wholes.{text_of_items, text_of}
use Rattle.spectra_parser.specs.Shapes.{IsShapedType, IsShapedItem, IsShaped, part_types}
use Rattle.spectra_judge.specs.PutIn as judged
use Rattle.spectra_judge.specs.PutIn.{is_put_in}
use Rattle.spectra_judge.specs.Known.{Known}
use Rattle.spectra_judge.specs.Judged.{faults_of}
use Rattle.spectra_judge.proofs.Empty.{empty_parts}
use Rattle.spectra_elaboration.proofs.OutWhole.{written_whole}
use Rattle.spectra_bounds.specs.Numbers.{constants}
use Rattle.spectra_patterns.specs.Patterns.{pattern_known, line_tree, line_faults, lines_faults, is_empty}
use Rattle.spectra_patterns.proofs.Named.{resolved_put}
use Rattle.spectra_lines.specs.Contents.{Facts}
use Rattle.spectra_lines.specs.SoundParts.{IsSoundTyped, AreSound}
use Rattle.spectra_sound.specs.Sound.{Sizes}
use Rattle.spectra_sound.proofs.Empty.{every_parts}
use Rattle.spectra_sound.proofs.Sizes.{sizes_in}
use Rattle.spectra_sound.proofs.Numbers.{IsThere, AreThere, items_there}
use Rattle.spectra_sound.proofs.Variables.{IsShapedFiled}
use Rattle.spectra_sound.proofs.Patterns.{same_count, stand as leaves_stand}
use Rattle.spectra_sound.proofs.Whole.{shaped_items}
use Rattle.spectra_sound.proofs.Allowed.{covers_itself}
use Rattle.spectra_sound.proofs.WrittenSound.{tree_made}
use Rattle.spectra_types.specs.Meanings.{facts_of, own_kinds, is_sound, typed_pattern, typed_patterns, judged_text}
use Rattle.spectra_types.proofs.Misused.{no_misuse}
use Rattle.spectra_types.proofs.MisusedOut.{none_before}
use Rattle.spectra_types.proofs.PatternsPut.{lines_put, lines_out}
use Rattle.spectra_types.proofs.OwnTypes.{has_names, type_named, kinds_domains, room_kinds}

module _ (c : List (Option ℤ)) (items : List FiledItem) where
  abbrev s : Names
  s = names_of items

  -- the text as it is judged
  abbrev text : ResolvedText
  text = written_text c (text_of_items s items)

  abbrev f : Facts
  f = facts_of text

  abbrev count : ℕ
  count = length s.enums

  abbrev IsShapedOne : TypeData → Type 0
  IsShapedOne t = IsShapedType t.form

  -- ---- types

  aliases_named : (rest : List FiledItem) → Every IsShapedFiled rest → Every (AreThere s.enums) rest → list_all (λ (a : ResolvedAlias). has_names count a.body) (flat_map (λ (i : FiledItem). aliases_in s i.0 i.1) rest) ≡ true
  aliases_named [] shaped there = refl
  aliases_named (i ∷ rest) shaped there = by (aliases_named rest shaped.1 there.1) i.0 i.1 shaped.0 there.0
    where
      by : list_all (λ (a : ResolvedAlias). has_names count a.body) (flat_map (λ (i : FiledItem). aliases_in s i.0 i.1) rest) ≡ true → (file : ℕ) (item : ItemData) → IsShapedItem item → Every (IsThere s.enums) (enum_names_of item) →
          list_all (λ (a : ResolvedAlias). has_names count a.body) (aliases_in s file item ++ flat_map (λ (i : FiledItem). aliases_in s i.0 i.1) rest) ≡ true
      by more file (ItemData.Alias t) one mentions = and_from _ _ (type_named s (at_large s) file t.body (All-head IsShapedOne t.body [] one.types) mentions) more
      by more file (ItemData.Variable x) one mentions = more
      by more file (ItemData.Monitor x) one mentions = more
      by more file (ItemData.Define x) one mentions = more
      by more file (ItemData.Predicate x) one mentions = more
      by more file (ItemData.Pattern x) one mentions = more
      by more file (ItemData.Statement x) one mentions = more

  own_named : (look : Looking) (file : ℕ) (parts : List PartData) → All IsShapedOne (flat_map part_types parts) → Every (IsThere s.enums) (flat_map part_enum_names parts) → list_all (has_names count) (flat_map (own_types s look file) parts) ≡ true
  own_named look file [] shaped there = refl
  own_named look file (part ∷ parts) shaped there = by (λ shaped there. own_named look file parts shaped there) part.at part.form shaped there
    where
      by : (All IsShapedOne (flat_map part_types parts) → Every (IsThere s.enums) (flat_map part_enum_names parts) → list_all (has_names count) (flat_map (own_types s look file) parts) ≡ true) →
          (at : Place) (form : PartShape) → All IsShapedOne (part_types (record { at = at; form = form }) ++ flat_map part_types parts) → Every (IsThere s.enums) (part_enum_names (record { at = at; form = form }) ++ flat_map part_enum_names parts) →
          list_all (has_names count) (own_types s look file (record { at = at; form = form }) ++ flat_map (own_types s look file) parts) ≡ true
      by more at (PartShape.Own t n) shaped there =
          let mentions = every_parts (IsThere s.enums) (enum_names t) _ there in
          and_from _ _ (type_named s look file t (All-head IsShapedOne t (flat_map part_types parts) shaped) mentions.0) (more (All-tail IsShapedOne t (flat_map part_types parts) shaped) mentions.1)
      by more at (PartShape.Initial e) shaped there = more shaped there
      by more at (PartShape.Always e) shaped there = more shaped there
      by more at (PartShape.Recurring e) shaped there = more shaped there

  -- ---- lines

  module _ (file : ℕ) (p : PatternData) where
    abbrev look : Looking
    look = in_pattern s file p

    abbrev z : Sizes
    z = sizes_in items

    abbrev fits : judged.Parts
    fits = judged.in_pattern count (length p.params) (length (flat_map own_names p.parts))

    -- a line whose names are not misused has everything put in
    abbrev IsRight : ResolvedPatternLine → Type 0
    IsRight l = misuses (line_tree l) ≡ [] → is_put_in fits (line_tree l) ≡ true

    tree_right : (e : Expression) → misuses (resolved look file e) ≡ [] → is_put_in fits (resolved look file e) ≡ true
    tree_right e none = resolved_put look fits (leaves_stand z s refl file p) file e none

    parts_right : (parts : List PartData) → Every IsRight (flat_map (pattern_lines look file) parts)
    parts_right [] = tt
    parts_right (part ∷ parts) = by part.at part.form (parts_right parts)
      where
        by : (at : Place) (form : PartShape) → Every IsRight (flat_map (pattern_lines look file) parts) → Every IsRight (pattern_lines look file (record { at = at; form = form }) ++ flat_map (pattern_lines look file) parts)
        by at (PartShape.Own t n) more = more
        by at (PartShape.Initial e) more = (tree_right e, more)
        by at (PartShape.Always e) more = (tree_right e, more)
        by at (PartShape.Recurring e) more = (tree_right e, more)

    -- so it has written out, where it has no fault
    out_right : (st : Stand) (known : Known) (room : Option ℕ) (t : ResolvedTree) → (misuses t ≡ [] → is_put_in fits t ≡ true) → faults_of known st (tree_out c room t).made ≡ [] → is_put_in fits (tree_out c room t).made ≡ true
    out_right st known room t right none = tree_made c P room t before after (no_misuse known st (tree_out c room t).made none)
      where
        P : ResolvedTree → Type 0
        P u = misuses u ≡ [] → is_put_in fits u ≡ true

        before : P t
        before = right

        after : P (written c [] t)
        after none = written_whole c [] fits fits (covers_itself fits (λ n. refl)) t (right (none_before c [] t none))

    line_right : (known : Known) (room : Option ℕ) (l : ResolvedPatternLine) → IsRight l → line_faults known (pattern_line_out c room l).made ≡ [] → is_put_in fits (line_tree (pattern_line_out c room l).made) ≡ true
    line_right known room (Initial at t) right none = out_right stand.PatternInitial known room t right none
    line_right known room (Safety at t) right none = out_right stand.PatternSafety known room t right none
    line_right known room (Recurring at t) right none = out_right stand.PatternRecurring known room t right none

    lines_right : (known : Known) (room : Option ℕ) (ls : List ResolvedPatternLine) → Every IsRight ls → flat_map (line_faults known) (each_in_turn (pattern_line_out c) room ls).made ≡ [] →
        list_all (λ l. is_put_in fits (line_tree l)) (each_in_turn (pattern_line_out c) room ls).made ≡ true
    lines_right known room [] right none = refl
    lines_right known room (l ∷ ls) right none =
        let each = empty_parts (line_faults known (pattern_line_out c room l).made) _ none in
        and_from _ _ (line_right known room l right.0 each.0) (lines_right known (pattern_line_out c room l).room ls right.1 each.1)

    -- ---- the whole

    abbrev pattern : ResolvedPattern
    pattern = pattern_of s file p

    module _ (room : Option ℕ) where
      abbrev out : ResolvedPattern
      out = (pattern_out c room pattern).made

      pattern_right : list_all (λ (a : ResolvedAlias). has_names count a.body) text.types ≡ true → IsShapedItem (ItemData.Pattern p) → Every (IsThere s.enums) (enum_names_of (ItemData.Pattern p)) → IsSoundTyped f (typed_pattern text out)
      pattern_right types shaped there said none =
          let known = pattern_known pattern.params (own_kinds text pattern) in
          let whole = and_parts (is_sound text out) (is_empty (lines_faults (own_kinds text out) out)) said in
          let rooms = (and_parts (not pattern.doubled) _ whole.0).1 in
          let kinds = kinds_domains text.definitions count text.types types pattern.own (own_named look file p.parts shaped.types there) rooms in
          let long = length-map pattern.own _ ∙ same_count z s refl file look p.parts in
          let lines = lines_right known room pattern.lines (parts_right p.parts) (nothing (lines_faults (own_kinds text out) out) whole.1) in
          record {
            names = count;
            types = kinds;
            few = room_kinds count (own_kinds text pattern) kinds rooms;
            lines = lines_put f count pattern.params (length (own_kinds text pattern)) out.lines (ap (λ n. list_all (λ l. is_put_in (judged.in_pattern count (length p.params) n) (line_tree l)) out.lines) long ∙ lines);
            out = lines_out f out.lines;
          }
        where
          nothing : (fs : List Finding) → is_empty fs ≡ true → fs ≡ []
          nothing [] is = refl
          nothing (g ∷ gs) is = absurd (false≢true is)

  abbrev patterns_from : Option ℕ → List FiledItem → List ResolvedPattern
  patterns_from room rest = (each_in_turn (pattern_out c) room (flat_map (λ (i : FiledItem). patterns_in s i.0 i.1) rest)).made

  patterns_right : list_all (λ (a : ResolvedAlias). has_names count a.body) text.types ≡ true → (room : Option ℕ) (rest : List FiledItem) → Every IsShapedFiled rest → Every (AreThere s.enums) rest → AreSound f (map (typed_pattern text) (patterns_from room rest))
  patterns_right types room [] shaped there = tt
  patterns_right types room (i ∷ rest) shaped there = by (λ room. patterns_right types room rest shaped.1 there.1) i.0 i.1 shaped.0 there.0
    where
      by : ((room : Option ℕ) → AreSound f (map (typed_pattern text) (patterns_from room rest))) → (file : ℕ) (item : ItemData) → IsShapedItem item → Every (IsThere s.enums) (enum_names_of item) →
          AreSound f (map (typed_pattern text) (each_in_turn (pattern_out c) room (patterns_in s file item ++ flat_map (λ (i : FiledItem). patterns_in s i.0 i.1) rest)).made)
      by more file (ItemData.Pattern p) one mentions = (pattern_right file p room types one mentions, more (pattern_out c room (pattern_of s file p)).room)
      by more file (ItemData.Alias x) one mentions = more room
      by more file (ItemData.Variable x) one mentions = more room
      by more file (ItemData.Monitor x) one mentions = more room
      by more file (ItemData.Define x) one mentions = more room
      by more file (ItemData.Predicate x) one mentions = more room
      by more file (ItemData.Statement x) one mentions = more room

pub all_sound : (trees : List TreeData) → All IsShaped trees → AreSound (facts_of (judged_text trees)) (typed_patterns (judged_text trees))
all_sound trees shaped =
    let items = items_from 0 trees in
    let c = (constants (text_of trees).definitions).numbers in
    let each = shaped_items 0 trees shaped in
    let there = items_there [] items in patterns_right c items (aliases_named c items items each there) _ items each there
