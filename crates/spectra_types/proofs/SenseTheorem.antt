-- A specification says what its text says, and definitions have one sense.
use Rattle.std.proofs.Common.{◌≡◌, ◌⊎◌, inl, inr, ℕ, zero, suc, ◌<◌, ℤ, Bool, true, false, not, ◌&&◌, List, [], ◌∷◌, Option, Some, length, map, get_or, option_map, unwrap_or, slice_get, refl, sym, ap, subst, ◌∙◌, arith}
use Rattle.std.specs.Prelude.{Contains, All}
use Rattle.std.specs.List.{list_all, list_any}
use Rattle.std.proofs.lemmas.Bool.{and_parts, or_parts}
use Rattle.std.proofs.lemmas.List.{length-map}
use Rattle.std.proofs.lemmas.Option.{same_Some, slice_get-map, slice_get_within}
use Rattle.spec_model.specs.Syntax.{Specification}
use Rattle.spec_model.specs.Meaning.{Reading}
use Rattle.spectra_resolved.specs.Resolved.{ResolvedTree}
use Rattle.spectra_resolved.specs.Texts.{ResolvedDefinition, ResolvedLine, ResolvedText}
use Rattle.spectra_declared.specs.Wholes.{text_of}
use Rattle.spectra_declared.specs.Wholes as names
use Rattle.spectra_trees.specs.Data.{TreeData}
use Rattle.spectra_parser.specs.Shapes.{IsShaped}
use Rattle.spectra_judge.proofs.Empty.{empty_parts}
use Rattle.spectra_copies.specs.Texts.{definition_out, pattern_out, each_in_turn, all_room}
use Rattle.spectra_uses.specs.Uses.{uses_in}
use Rattle.spectra_uses.specs.Orders.{StandsBefore, IsUse}
use Rattle.spectra_elaboration.specs.Written.{AreWritten, is_written}
use Rattle.spectra_bounds.specs.Numbers.{constants}
use Rattle.spectra_bodies.specs.Faults.{declared_faults}
use Rattle.spectra_lines.specs.Contents.{Facts, trees_in}
use Rattle.spectra_lines.specs.Parts.{TypedPattern}
use Rattle.spectra_lines.specs.Meanings.{statements, triggers}
use Rattle.spectra_lines.specs.Said.{lines_faults}
use Rattle.spectra_lines.specs.Laws.{AreMeant}
use Rattle.spectra_lines.proofs.Faultless.{faultless}
use Rattle.spectra_meant.proofs.Numbers.{none_some}
use Rattle.spectra_sound.specs.Sound.{Sizes, sizes_of, is_part, is_type, is_sound_definition, is_sound_tree, IsSound}
use Rattle.spectra_sound.proofs.Whole.{faultless_sound}
use Rattle.spectra_sound.proofs.WrittenSound.{written_sound, turn_length}
use Rattle.spectra_types.specs.Meanings.{facts_of, typed_patterns, text_faults, judged_text, specification_of, Means}
use Rattle.spectra_types.proofs.Bodies.{body_at}
use Rattle.spectra_types.proofs.Domains.{variables_meant, own_meant}
use Rattle.spectra_types.proofs.Patterned.{patterns_said}
use Rattle.spectra_types.specs.Senses.{Sense, Senses, inside, sense, AreOf, HaveOneSense}
use Rattle.spectra_types.specs.SameText.{ArePatternsOf, AreLinesOf, SaysSameText}
use Rattle.spectra_types.specs.Conditions.{has_index, FitsText}
use Rattle.spectra_types.proofs.Placed.{HasOwnPlaces}
use Rattle.spectra_types.specs.Laws.{DefinitionsHaveOneSense}
use Rattle.spectra_types.proofs.Orders.{AreOrdered, AreBodies, IsThere, is_there, used_at}
use Rattle.spectra_types.proofs.Deep.{found_senses, are_bodies, only_found}
use Rattle.spectra_types.proofs.OutParts.{uses_out}
use Rattle.spectra_types.proofs.Judged as out
use Rattle.spectra_types.proofs.Judged.{IsOut, definition_at}
use Rattle.spectra_types.proofs.Trees.{IsLineTree, trees, as_many, ordered}
use Rattle.spectra_types.proofs.SenseLines.{lines_same}
use Rattle.spectra_types.proofs.SenseDomains.{variables_have}
use Rattle.spectra_types.proofs.SensePatterns.{patterns_same}
use Rattle.spectra_types.proofs.OwnPlaces.{own_places}

contains_at : {X : Type 0} (xs : List X) (i : ℕ) (x : X) → slice_get xs i ≡ Some x → Contains xs x
contains_at [] i x there = absurd (none_some there)
contains_at (y ∷ xs) zero x there = (0, omega arith, same_Some y x there)
contains_at (y ∷ xs) (suc i) x there = let rest = contains_at xs i x there in let below = rest.1 in (suc rest.0, omega (arith, below), rest.2)

-- a test that fails for each of several
none_of : {X : Type 0} (p : X → Bool) (xs : List X) (x : X) → list_any p xs ≡ false → Contains xs x → p x ≡ false
none_of {X} p xs x none is = ap p (sym is.2) ∙ at xs is.0 x none is.1
  where
    at : (ys : List X) (i : ℕ) (d : X) → list_any p ys ≡ false → i < length ys → p (get_or ys i d) ≡ false
    at [] i d none below = absurd (omega (arith, below))
    at (y ∷ ys) zero d none below = (or_parts (p y) (list_any p ys) none).0
    at (y ∷ ys) (suc i) d none below = at ys i d (or_parts (p y) (list_any p ys) none).1 (omega (arith, below))

module _ (text : ResolvedText) (first_sound : IsSound text) (sound : IsSound (out.judged text)) (none : text_faults (out.judged text) ≡ []) where
  abbrev judged : ResolvedText
  judged = out.judged text

  abbrev c : List (Option ℤ)
  c = (constants text.definitions).numbers

  abbrev f : Facts
  f = facts_of judged

  abbrev ps : List TypedPattern
  ps = typed_patterns judged

  abbrev s : Specification
  s = specification_of judged

  parts : (declared_faults judged ≡ []) × (lines_faults f ps judged.lines ≡ [])
  parts = empty_parts (declared_faults judged) (lines_faults f ps judged.lines) none

  meant : AreMeant f ps judged.lines
  meant = faultless f ps judged.lines parts.1

  abbrev definitions_room : Option ℕ
  definitions_room = (each_in_turn (definition_out c) all_room text.definitions).room

  abbrev patterns_room : Option ℕ
  patterns_room = (each_in_turn (pattern_out c) definitions_room text.patterns).room

  line_tree_is : HasOwnPlaces text → (l : ResolvedLine) → Contains text.lines l → (t : ResolvedTree) → Contains (trees_in l.body) t → IsLineTree text sound parts.0 t
  line_tree_is own l in_text t in_line =
      record {
        apart = own.in_lines l in_text t in_line;
        away = λ k d there. own.of_lines k d there l in_text t in_line;
        unread = λ unread. none_of has_index (trees_in l.body) t (none_of (λ (l : ResolvedLine). list_any has_index (trees_in l.body)) text.lines l (or_parts _ _ unread).1 in_text) in_line;
      }

  says_same : HasOwnPlaces text → SaysSameText text s
  says_same own =
      let kinds = own_meant judged sound parts.0 in
      let said = patterns_said judged sound.few_names judged.patterns sound.patterns kinds in
      record {
        names = refl;
        variables = variables_have text sound parts.0 own (length judged.names) text.variables (variables_meant judged sound parts.0);
        patterns = subst (λ qs. ArePatternsOf text text.patterns qs) (sym (meant.patterns said)) (patterns_same text sound parts.0 own definitions_room text.patterns first_sound.patterns sound.patterns kinds said meant.patterns_right);
        lines =
            subst (λ ls. AreLinesOf (FitsText text s.variables) text.definitions s.triggers 1 text.lines ls) (sym (ap (statements f.known) meant.lines))
            (lines_same text sound parts.0 own s 1 0 [] patterns_room text.lines (line_tree_is own) (ap (triggers f.known) meant.lines, refl) sound.lines meant.lines_right);
      }

  -- ---- definitions

  abbrev written_trees : List ResolvedTree
  written_trees = map (λ (d : ResolvedDefinition). d.body) text.definitions

  abbrev z : Sizes
  z = sizes_of text

  same_count : length written_trees ≡ length (trees text sound parts.0)
  same_count = length-map text.definitions (λ (d : ResolvedDefinition). d.body) ∙ (sym (turn_length (definition_out c) all_room text.definitions) ∙ sym (as_many text sound parts.0))

  written_one : (ds : List ResolvedDefinition) → list_all (is_sound_definition z) ds ≡ true → (k : ℕ) (body : ResolvedTree) → slice_get (map (λ (d : ResolvedDefinition). d.body) ds) k ≡ Some body →
      is_written z.arities (is_part z) (get_or (map (λ (d : ResolvedDefinition). length d.params) ds) k 0) body ≡ true
  written_one [] all k body there = absurd (none_some there)
  written_one (d ∷ ds) all zero body there =
      let own = and_parts (not d.doubled) _ (and_parts (is_sound_definition z d) _ all).0 in
      subst (λ t. is_written z.arities (is_part z) (length d.params) t ≡ true) (same_Some d.body body there) (and_parts (list_all (is_type z) d.params) (is_sound_tree z (length d.params) d.body) own.1).1
  written_one (d ∷ ds) all (suc k) body there = written_one ds (and_parts (is_sound_definition z d) _ all).1 k body there

  all_written : AreWritten z.arities (is_part z) written_trees
  all_written =
      record {
        size = length-map text.definitions (λ (d : ResolvedDefinition). length d.params) ∙ sym (length-map text.definitions (λ (d : ResolvedDefinition). d.body));
        each = written_one text.definitions first_sound.definitions;
      }

  contains_out : (t made : ResolvedTree) → IsOut c t made → (u : ℕ) → Contains (uses_in t) u → Contains (uses_in made) u
  contains_out t made (inl same) u is = subst (λ t. Contains (uses_in t) u) (sym same) is
  contains_out t made (inr out) u is = subst (λ t. Contains (uses_in t) u) (sym out) (uses_out c [] t u is)

  -- a use in a body is one in it written out
  use_out : (user used : ℕ) → user < length (trees text sound parts.0) → IsUse (map uses_in written_trees) user used → IsUse (map uses_in (trees text sound parts.0)) user used
  use_out user used below use' =
      let there = is_there (trees text sound parts.0) user below in
      let found = body_at (out.judged text).definitions user there.body there.there in
      let one = definition_at text user found.0 found.1 in
      let uses_here : slice_get (map uses_in written_trees) user ≡ Some (uses_in one.definition.body) =
      slice_get-map uses_in written_trees user ∙ ap (option_map uses_in) (slice_get-map (λ (d : ResolvedDefinition). d.body) text.definitions user ∙ ap (option_map (λ (d : ResolvedDefinition). d.body)) one.there) in
      let within = contains_at (uses_in one.definition.body) use'.at used (sym (ap (λ us. slice_get (unwrap_or us []) use'.at) uses_here) ∙ use'.there) in
      let place = used_at (uses_in there.body) used (subst (λ t. Contains (uses_in t) used) found.2 (contains_out one.definition.body found.0.body one.out used within)) in
      record { at = place.0; there = ap (λ us. slice_get us place.0) there.uses ∙ place.1 }

  all_ordered : AreOrdered z.arities (is_part z) written_trees
  all_ordered =
      let judged_order = ordered text sound parts.0 in
      let same = same_count in
      record {
        written = all_written;
        order = judged_order.order;
        size = judged_order.size ∙ sym same;
        whole = λ k below. judged_order.whole k (omega (arith, below, same));
        within = λ i k there. let below = judged_order.within i k there in omega (arith, below, same);
        behind = λ i user used there use' small. judged_order.behind i user used there (use_out user used (judged_order.within i user there) use') (omega (arith, small, same));
      }

  bodies_are : (r : Reading) (s : Senses) → AreOf text.definitions r s → AreBodies written_trees s
  bodies_are r s are k body there as' p =
      let found = body_at text.definitions k body there in are.definitions k found.0 found.1 as' p ∙ ap (λ t. sense (inside s as') t p) found.2

  have_one_sense : (r : Reading) → HaveOneSense text.definitions r
  have_one_sense r =
      let many = length-map text.definitions (λ (d : ResolvedDefinition). d.body) in
      record {
        senses = found_senses r.variable z.arities (is_part z) (λ k. refl) written_trees all_ordered;
        are =
            record {
              variables = refl;
              definitions = λ k d there arguments p.
                  are_bodies r.variable z.arities (is_part z) (λ k. refl) written_trees all_ordered k d.body
                  (slice_get-map (λ (d : ResolvedDefinition). d.body) text.definitions k ∙ ap (option_map (λ (d : ResolvedDefinition). d.body)) there)
                  (let within = slice_get_within text.definitions k d there in omega (arith, within, many)) arguments p;
            };
        only = λ s are k below arguments p. only_found r.variable z.arities (is_part z) (λ k. refl) written_trees all_ordered s are.variables (bodies_are r s are) k (omega (arith, below, many)) arguments p;
      }

-- each line of the specification that trees mean has the value of the line that is written
pub lines_mean_what_is_written : (trees : List TreeData) (s : Specification) → All IsShaped trees → Means trees s → SaysSameText (text_of trees) s
lines_mean_what_is_written trees s shaped means =
    let both = empty_parts (names.faults_of trees) (text_faults (judged_text trees)) means.faultless in
    let sound = faultless_sound trees shaped both.0 in
    subst (SaysSameText (text_of trees)) (sym means.meaning) (says_same (text_of trees) sound (written_sound _ (text_of trees) sound) both.1 (own_places trees shaped))

pub definitions_have_one_sense : DefinitionsHaveOneSense
definitions_have_one_sense trees shaped none r =
    let both = empty_parts (names.faults_of trees) (text_faults (judged_text trees)) none in
    let sound = faultless_sound trees shaped both.0 in have_one_sense (text_of trees) sound (written_sound _ (text_of trees) sound) both.1 r
