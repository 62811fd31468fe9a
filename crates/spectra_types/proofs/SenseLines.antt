-- In a text without faults the lines of the specification say what the text's lines say.
use Rattle.std.proofs.Common.{◌≡◌, ℕ, suc, ◌+◌, Bool, true, false, if◌then◌else◌, ◌⊎◌, inl, inr, List, [], ◌∷◌, ◌++◌, Option, Some, None, option_map, length, map, flat_map, slice_get, refl, sym, ap, ◌∙◌, arith}
use Rattle.std.proofs.lemmas.List.Elements.{Contains-append_left, Contains-append_right}
use Rattle.std.specs.Prelude.{Contains, ℤ, pos, negsuc, nat_abs, int_le}
use Rattle.std.specs.List.{list_all}
use Rattle.std.proofs.lemmas.Bool.{false≢true, and_parts, not-false}
use Rattle.std.proofs.lemmas.Grind.{flat_map-append}
use Rattle.spec_model.specs.Syntax.{TriggerData, Specification}
use Rattle.spec_model.specs.Meaning.{Reading}
use Rattle.spectra_resolved.specs.declared.stand.Stand.{Stand}
use Rattle.spectra_resolved.specs.declared.stand.Stand.TheVariants as stand
use Rattle.spectra_resolved.specs.declared.text.PatternUse as code
use Rattle.spectra_resolved.specs.declared.text.PatternUse.TheVariants as uses
use Rattle.spectra_resolved.specs.Resolved.{ResolvedTree, ResolvedRegex, ResolvedRegexes}
use Rattle.spectra_resolved.specs.Texts.{ResolvedBody, Initial, Safety, Recurring, Trigger, Pattern, ResolvedLine, ResolvedText}
use Rattle.spectra_judge.specs.Kinds.{Kind, is_truth}
use Rattle.spectra_judge.specs.Standings.{is_wanted}
use Rattle.spectra_judge.specs.Judged.{faults_of}
use Rattle.spectra_cases.specs.Formulas.{formula_of}
use Rattle.spectra_copies.specs.Texts.{tree_out, regex_out, regexes_out, body_out, line_out, each_in_turn}
use Rattle.spectra_bounds.specs.Numbers.{constants}
use Rattle.spectra_judge.proofs.Empty.{empty_parts, no_fault}
use Rattle.spectra_bodies.specs.Faults.{declared_faults}
use Rattle.spectra_patterns.specs.Triggers.{is_count, are_counts, counts_well, each_counts_well, count_of, regular_of, regulars_of, trigger_of}
use Rattle.spectra_lines.specs.Contents.{brackets_in, brackets_of_each, trees_in, initial_stand, safety_stand, stand_in, is_asm, Facts, tree_put, regex_put, each_regex_put, body_put, line_put}
use Rattle.spectra_lines.specs.Lines.{own_faults}
use Rattle.spectra_lines.specs.Laws.{HaveNoFault}
use Rattle.spectra_lines.specs.Meanings.{pattern_number, triggers_in, content_of, statements_from}
use Rattle.spectra_sound.specs.Sound as sounds
use Rattle.spectra_sound.specs.Sound.{Sizes, sizes_of, is_sound_tree, is_sound_regex, are_sound_regexes, is_pattern_use, is_sound_body, is_sound_line, fits_role, IsSound}
use Rattle.spectra_types.specs.Meanings.{facts_of, specification_of}
use Rattle.spectra_types.proofs.Formulas.{trigger_at, AreBefore, next_before}
use Rattle.spectra_sound.proofs.WrittenSound.{tree_made}
use Rattle.spectra_types.specs.Senses.{Senses, AreOf}
use Rattle.spectra_types.specs.Conditions.{FitsText}
use Rattle.spectra_types.proofs.Placed.{HasOwnPlaces}
use Rattle.spectra_types.specs.SameText.{HasSense, HaveSenses, IsSame, AreSame, SaysSame, AreLinesOf}
use Rattle.spectra_types.proofs.Judged as out
use Rattle.spectra_types.proofs.Judged.{IsOut}
use Rattle.spectra_types.proofs.Trees.{IsLineTree, tree_has}

-- ---- repeats

count_is : (n : ℤ) → is_count n ≡ true → n ≡ pos (count_of n)
count_is n is = at_least n (and_parts (int_le (pos 0) n) _ is).0 ∙ ap pos (chosen (is_count n) is)
  where
    at_least : (n : ℤ) → int_le (pos 0) n ≡ true → n ≡ pos (nat_abs n)
    at_least (pos k) e = refl
    at_least (negsuc k) e = absurd (false≢true e)

    chosen : (b : Bool) → b ≡ true → nat_abs n ≡ (if b then nat_abs n else 0)
    chosen true e = refl
    chosen false e = absurd (false≢true e)

counts_are : (least : ℤ) (most : Option ℤ) → are_counts least most ≡ true → (least ≡ pos (count_of least)) × (most ≡ option_map pos (option_map count_of most))
counts_are least None is = (count_is least is, refl)
counts_are least (Some n) is =
    let parts = and_parts (is_count least) _ is in
    let more = and_parts (is_count n) _ parts.1 in (count_is least parts.0, ap Some (count_is n more.0))

module _ (text : ResolvedText) (sound : IsSound (out.judged text)) (none : declared_faults (out.judged text) ≡ []) (own : HasOwnPlaces text) where
  abbrev judged : ResolvedText
  judged = out.judged text

  abbrev c : List (Option ℤ)
  c = (constants text.definitions).numbers

  abbrev z : Sizes
  z = sizes_of judged

  abbrev f : Facts
  f = facts_of judged

  abbrev IsTree : ResolvedTree → Type 0
  IsTree t = IsLineTree text sound none t

  abbrev AreTrees : List ResolvedTree → Type 0
  AreTrees ts = (t : ResolvedTree) → Contains ts t → IsTree t

  first_tree : (t : ResolvedTree) (ts : List ResolvedTree) → AreTrees (t ∷ ts) → IsTree t
  first_tree t ts all = all t (0, omega arith, refl)

  left_trees : (ts us : List ResolvedTree) → AreTrees (ts ++ us) → AreTrees ts
  left_trees ts us all t is = all t (Contains-append_left ts us t is)

  right_trees : (ts us : List ResolvedTree) → AreTrees (ts ++ us) → AreTrees us
  right_trees ts us all t is = all t (Contains-append_right ts us t is)

  is_out : (room : Option ℕ) (t : ResolvedTree) → IsOut c t (tree_out c room t).made
  is_out room t = tree_made c (IsOut c t) room t (inl refl) (inr refl)

  module _ (r : Reading) (s : Senses) (are : AreOf text.definitions r s) (fits : FitsText text (specification_of judged).variables r) where
    -- ---- expressions

    one_has : (at : Stand) → ((k : Kind) → is_wanted at k ≡ true → is_truth k ≡ true) → (room : Option ℕ) (t : ResolvedTree) → IsTree t → is_sound_tree z 0 (tree_out c room t).made ≡ true →
        faults_of f.known at (tree_out c room t).made ≡ [] → faults_of f.known at (tree_put f at (tree_out c room t).made) ≡ [] → HasSense r s t (formula_of f.known 0 (tree_put f at (tree_out c room t).made))
    one_has at truth room t is written first put = tree_has text sound none own r s are fits at truth t (tree_out c room t).made (is_out room t) is written first put

    trees_have : (at : Stand) → ((k : Kind) → is_wanted at k ≡ true → is_truth k ≡ true) → (room : Option ℕ) (ts : List ResolvedTree) → AreTrees ts → list_all (is_sound_tree z 0) (each_in_turn (tree_out c) room ts).made ≡ true →
        flat_map (faults_of f.known at) (each_in_turn (tree_out c) room ts).made ≡ [] → flat_map (faults_of f.known at) (map (tree_put f at) (each_in_turn (tree_out c) room ts).made) ≡ [] →
        HaveSenses r s ts (map (formula_of f.known 0) (map (tree_put f at) (each_in_turn (tree_out c) room ts).made))
    trees_have at truth room [] all written first put = tt
    trees_have at truth room (t ∷ ts) all written first put =
        let tests = and_parts (is_sound_tree z 0 (tree_out c room t).made) _ written in
        let parts = empty_parts (faults_of f.known at (tree_out c room t).made) _ first in
        let puts = empty_parts (faults_of f.known at (tree_put f at (tree_out c room t).made)) _ put in
        (one_has at truth room t (first_tree t ts all) tests.0 parts.0 puts.0, trees_have at truth (tree_out c room t).room ts (right_trees (t ∷ []) ts all) tests.1 parts.1 puts.1)

    mutual
      regex_same : (room : Option ℕ) (x : ResolvedRegex) → AreTrees (brackets_in x) → is_sound_regex z (regex_out c room x).made ≡ true → counts_well (regex_out c room x).made ≡ true →
          flat_map (faults_of f.known stand.Atom) (brackets_in (regex_out c room x).made) ≡ [] → flat_map (faults_of f.known stand.Atom) (brackets_in (regex_put f (regex_out c room x).made)) ≡ [] →
          IsSame r s x (regular_of f.known (regex_put f (regex_out c room x).made))
      regex_same room (ResolvedRegex.Atom t) all is well first put =
          one_has stand.Atom (λ k e. e) room t (first_tree t [] all) is (empty_parts (faults_of f.known stand.Atom (tree_out c room t).made) [] first).0 (empty_parts (faults_of f.known stand.Atom (tree_put f stand.Atom (tree_out c room t).made)) [] put).0
      regex_same room (ResolvedRegex.Sequence xs) all is well first put = each_same room xs all is well first put
      regex_same room (ResolvedRegex.Choice xs) all is well first put = each_same room xs all (and_parts (sounds.has_some (regexes_out c room xs).made) (are_sound_regexes z (regexes_out c room xs).made) is).1 well first put
      regex_same room (ResolvedRegex.Repetition x times) all is well first put =
          let parts = and_parts (are_counts times.least times.most) (counts_well (regex_out c room x).made) well in
          let counts = counts_are times.least times.most parts.0 in (regex_same room x all is parts.1 first put, counts.0, counts.1)

      each_same : (room : Option ℕ) (xs : ResolvedRegexes) → AreTrees (brackets_of_each xs) → are_sound_regexes z (regexes_out c room xs).made ≡ true → each_counts_well (regexes_out c room xs).made ≡ true →
          flat_map (faults_of f.known stand.Atom) (brackets_of_each (regexes_out c room xs).made) ≡ [] → flat_map (faults_of f.known stand.Atom) (brackets_of_each (each_regex_put f (regexes_out c room xs).made)) ≡ [] →
          AreSame r s xs (regulars_of f.known (each_regex_put f (regexes_out c room xs).made))
      each_same room ResolvedRegexes.none all is well first put = tt
      each_same room (ResolvedRegexes.one_more x xs) all is well first put =
          let one = regex_out c room x in
          let more = regexes_out c one.room xs in
          let tests = and_parts (is_sound_regex z one.made) (are_sound_regexes z more.made) is in
          let counts = and_parts (counts_well one.made) (each_counts_well more.made) well in
          let parts = empty_parts _ _ (sym (flat_map-append (faults_of f.known stand.Atom) (brackets_in one.made) (brackets_of_each more.made)) ∙ first) in
          let puts = empty_parts _ _ (sym (flat_map-append (faults_of f.known stand.Atom) (brackets_in (regex_put f one.made)) (brackets_of_each (each_regex_put f more.made))) ∙ put) in (
            regex_same room x (left_trees (brackets_in x) (brackets_of_each xs) all) tests.0 counts.0 parts.0 puts.0,
            each_same one.room xs (right_trees (brackets_in x) (brackets_of_each xs) all) tests.1 counts.1 parts.1 puts.1,
          )

    -- ---- what a line says

    used_is : (used : code.PatternUse) (n : ℕ) → is_pattern_use z used n ≡ true → used ≡ uses.Pattern (pattern_number used)
    used_is (uses.Pattern k) n is = refl
    used_is uses.Unknown n is = absurd (false≢true is)
    used_is (uses.Arity k) n is = absurd (false≢true is)

    initial_truth : (asm : Bool) (k : Kind) → is_wanted (initial_stand asm) k ≡ true → is_truth k ≡ true
    initial_truth true k e = e
    initial_truth false k e = e

    safety_truth : (asm : Bool) (k : Kind) → is_wanted (safety_stand asm) k ≡ true → is_truth k ≡ true
    safety_truth true k e = e
    safety_truth false k e = e

    body_same : (asm : Bool) (triggers before rest : List TriggerData) (n : ℕ) (room : Option ℕ) (b : ResolvedBody) → AreTrees (trees_in b) → is_sound_body z (body_out c room b).made ≡ true →
        flat_map (faults_of f.known (stand_in asm (body_out c room b).made)) (trees_in (body_out c room b).made) ≡ [] → own_faults (body_out c room b).made ≡ [] →
        flat_map (faults_of f.known (stand_in asm (body_out c room b).made)) (trees_in (body_put f asm (body_out c room b).made)) ≡ [] →
        triggers ≡ before ++ (triggers_in f.known (body_put f asm (body_out c room b).made) ++ rest) → n ≡ length before → SaysSame r s triggers b (content_of f.known n (body_put f asm (body_out c room b).made))
    body_same asm triggers before rest n room (Initial t) trees body first repeats put all at =
        one_has (initial_stand asm) (initial_truth asm) room t (first_tree t [] trees) body (empty_parts (faults_of f.known (initial_stand asm) (tree_out c room t).made) [] first).0
        (empty_parts (faults_of f.known (initial_stand asm) (tree_put f (initial_stand asm) (tree_out c room t).made)) [] put).0
    body_same asm triggers before rest n room (Safety t) trees body first repeats put all at =
        one_has (safety_stand asm) (safety_truth asm) room t (first_tree t [] trees) body (empty_parts (faults_of f.known (safety_stand asm) (tree_out c room t).made) [] first).0
        (empty_parts (faults_of f.known (safety_stand asm) (tree_put f (safety_stand asm) (tree_out c room t).made)) [] put).0
    body_same asm triggers before rest n room (Recurring t) trees body first repeats put all at =
        one_has stand.Recurring (λ k e. e) room t (first_tree t [] trees) body (empty_parts (faults_of f.known stand.Recurring (tree_out c room t).made) [] first).0
        (empty_parts (faults_of f.known stand.Recurring (tree_put f stand.Recurring (tree_out c room t).made)) [] put).0
    body_same asm triggers before rest n room (Pattern place used ts) trees body first repeats put all at =
        let made = (each_in_turn (tree_out c) room ts).made in
        let tests = and_parts (is_pattern_use z used (length made)) (list_all (is_sound_tree z 0) made) body in
        (used_is used (length made) tests.0, trees_have stand.Argument (λ k e. e) room ts trees tests.1 first put)
    body_same asm triggers before rest n room (Trigger place cause effect) trees body first repeats put all at =
        let x = (regex_out c room cause).made in
        let later = (regex_out c room cause).room in
        let y = (regex_out c later effect).made in
        let tests = and_parts (is_sound_regex z x) (is_sound_regex z y) body in
        let parts = empty_parts _ _ (sym (flat_map-append (faults_of f.known stand.Atom) (brackets_in x) (brackets_in y)) ∙ first) in
        let puts = empty_parts _ _ (sym (flat_map-append (faults_of f.known stand.Atom) (brackets_in (regex_put f x)) (brackets_in (regex_put f y))) ∙ put) in
        let counts = and_parts (counts_well x) (counts_well y) (not-false _ (no_fault _ _ _ repeats)) in
        record {
          trigger = trigger_of f.known (regex_put f x) (regex_put f y);
          there = (λ i. slice_get (all i) (at i)) ∙ trigger_at before (trigger_of f.known (regex_put f x) (regex_put f y)) rest;
          cause = regex_same room cause (left_trees (brackets_in cause) (brackets_in effect) trees) tests.0 counts.0 parts.0 puts.0;
          effect = regex_same later effect (right_trees (brackets_in cause) (brackets_in effect) trees) tests.1 counts.1 parts.1 puts.1;
        }

  -- ---- lines

  module _ (given : Specification) where
    pub lines_same : (number n : ℕ) (before : List TriggerData) (room : Option ℕ) (ls : List ResolvedLine) → ((l : ResolvedLine) → Contains ls l → AreTrees (trees_in l.body)) →
        AreBefore f.known given before n (map (line_put f) (each_in_turn (line_out c) room ls).made) → list_all (is_sound_line z) (each_in_turn (line_out c) room ls).made ≡ true → HaveNoFault f (each_in_turn (line_out c) room ls).made →
        AreLinesOf (FitsText text (specification_of judged).variables) text.definitions given.triggers number ls (statements_from f.known number n (map (line_put f) (each_in_turn (line_out c) room ls).made))
    lines_same number n before room [] trees at all right = tt
    lines_same number n before room (l ∷ ls) trees at all right =
        let one = (line_out c room l).made in
        let later = (line_out c room l).room in
        let more = (each_in_turn (line_out c) later ls).made in
        let parts = and_parts (is_sound_line z one) (list_all (is_sound_line z) more) all in
        let sound_one = and_parts (fits_role one.role one.body) (is_sound_body z one.body) parts.0 in
        let after = flat_map (λ (l : ResolvedLine). triggers_in f.known l.body) (map (line_put f) more) in (
          record {
            number = refl;
            name = refl;
            role = refl;
            content = λ r fits s are.
                body_same r s are fits (is_asm l) given.triggers before after n room l.body (trees l (0, omega arith, refl)) sound_one.1 right.0.written right.0.own right.0.put at.0 at.1;
          },
          lines_same (suc number) (n + length (triggers_in f.known (line_put f one).body)) (before ++ triggers_in f.known (line_put f one).body) later ls (λ m is. trees m (Contains-append_right (l ∷ []) ls m is))
              (next_before f.known given before n (line_put f one) (map (line_put f) more) at) parts.1 right.1,
        )
