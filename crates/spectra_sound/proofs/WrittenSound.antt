-- A sound text is sound written out.
use Rattle.std.proofs.Common.{◌≡◌, ℕ, ℤ, suc, ◌-◌, nat_le, Bool, true, false, not, if◌then◌else◌, List, [], ◌∷◌, length, map, Option, Some, None, refl, ap, ◌∙◌, arith}
use Rattle.std.specs.List.{list_all}
use Rattle.std.proofs.lemmas.Bool.{and_parts, and_from}
use Rattle.spec_model.specs.declared.spec.Role.{Role}
use Rattle.spec_model.specs.declared.spec.Role.TheVariants as roles
use Rattle.spectra_resolved.specs.declared.tree.Leaf.TheVariants as leaf
use Rattle.spectra_resolved.specs.Resolved.{ResolvedTree, ResolvedRegex, ResolvedRegexes}
use Rattle.spectra_resolved.specs.Texts.{ResolvedVariable, ResolvedAlias, ResolvedDefinition, ResolvedPatternLine, ResolvedPattern, ResolvedBody, ResolvedLine, ResolvedText}
use Rattle.spectra_copies.specs.Copies.{written, has_quantifier}
use Rattle.spectra_copies.specs.Nodes.{tree_nodes}
use Rattle.spectra_copies.specs.Texts.{Out, unchanged, each_in_turn, fitted, tree_out, regex_out, regexes_out, definition_out, pattern_line_out, pattern_out, body_out, line_out, all_room, written_text}
use Rattle.spectra_judge.specs.PutIn.{Parts, is_put_in, in_pattern}
use Rattle.spectra_sound.specs.Sound.{Sizes, sizes_of, is_type, is_part, is_sound_tree, is_sound_definition, is_sound_pattern_line, is_sound_pattern, has_some, is_sound_regex, are_sound_regexes, is_pattern_use, is_sound_body, fits_role, is_sound_line, IsSound}
use Rattle.spectra_sound.specs.Laws.{WrittenIsSound}
use Rattle.spectra_elaboration.proofs.OutWhole.{written_whole}
use Rattle.spectra_sound.proofs.Allowed.{covers_itself, stays_written}

-- ---- several, one behind another

pub turn_all : {A : Type 0} (p r : A → Bool) (step : Option ℕ → A → Out A) → ((room : Option ℕ) (x : A) → p x ≡ true → r (step room x).made ≡ true) → (room : Option ℕ) (xs : List A) →
    list_all p xs ≡ true → list_all r (each_in_turn step room xs).made ≡ true
turn_all p r step each room [] all = refl
turn_all p r step each room (x ∷ xs) all = let parts = and_parts (p x) (list_all p xs) all in and_from _ _ (each room x parts.0) (turn_all p r step each (step room x).room xs parts.1)

pub turn_same : {A B : Type 0} (f : A → B) (step : Option ℕ → A → Out A) → ((room : Option ℕ) (x : A) → f (step room x).made ≡ f x) → (room : Option ℕ) (xs : List A) → map f (each_in_turn step room xs).made ≡ map f xs
turn_same f step each room [] = refl
turn_same f step each room (x ∷ xs) = λ i. each room x i ∷ turn_same f step each (step room x).room xs i

pub turn_length : {A : Type 0} (step : Option ℕ → A → Out A) (room : Option ℕ) (xs : List A) → length (each_in_turn step room xs).made ≡ length xs
turn_length step room [] = refl
turn_length step room (x ∷ xs) = ap suc (turn_length step (step room x).room xs)

module _ (c : List (Option ℤ)) where
  -- ---- expressions

  -- an expression is written out, or stays as it is
  pub tree_made : (P : ResolvedTree → Type 0) (room : Option ℕ) (t : ResolvedTree) → P t → P (written c [] t) → P (tree_out c room t).made
  tree_made P room t before after = by (has_quantifier t) room
    where
      small : (b : Bool) (left : ℕ) → Out ResolvedTree
      small b left = if b then record { made = written c [] t; room = Some (left - tree_nodes (written c [] t)) } else unchanged None t

      fit : (b : Bool) (left : ℕ) → P (small b left).made
      fit true left = after
      fit false left = before

      by : (b : Bool) (room : Option ℕ) → P (if b then fitted room t (written c [] t) else unchanged room t).made
      by false room = before
      by true None = before
      by true (Some left) = fit (nat_le (tree_nodes (written c [] t)) left) left

  module _ (z : Sizes) where
    sound_out : (params : ℕ) (room : Option ℕ) (t : ResolvedTree) → is_sound_tree z params t ≡ true → is_sound_tree z params (tree_out c room t).made ≡ true
    sound_out params room t is = tree_made (λ t. is_sound_tree z params t ≡ true) room t is (stays_written z.arities params c (is_part z) (λ n. refl) t is)

    some_out : (room : Option ℕ) (rs : ResolvedRegexes) → has_some rs ≡ true → has_some (regexes_out c room rs).made ≡ true
    some_out room ResolvedRegexes.none is = is
    some_out room (ResolvedRegexes.one_more r rs) is = refl

    mutual
      regex_sound : (room : Option ℕ) (r : ResolvedRegex) → is_sound_regex z r ≡ true → is_sound_regex z (regex_out c room r).made ≡ true
      regex_sound room (ResolvedRegex.Atom t) is = sound_out 0 room t is
      regex_sound room (ResolvedRegex.Sequence rs) is = regexes_sound room rs is
      regex_sound room (ResolvedRegex.Choice rs) is = let parts = and_parts (has_some rs) (are_sound_regexes z rs) is in and_from _ _ (some_out room rs parts.0) (regexes_sound room rs parts.1)
      regex_sound room (ResolvedRegex.Repetition r times) is = regex_sound room r is

      regexes_sound : (room : Option ℕ) (rs : ResolvedRegexes) → are_sound_regexes z rs ≡ true → are_sound_regexes z (regexes_out c room rs).made ≡ true
      regexes_sound room ResolvedRegexes.none is = refl
      regexes_sound room (ResolvedRegexes.one_more r rs) is =
          let parts = and_parts (is_sound_regex z r) (are_sound_regexes z rs) is in and_from _ _ (regex_sound room r parts.0) (regexes_sound (regex_out c room r).room rs parts.1)

    -- ---- definitions, patterns and lines

    definition_sound : (room : Option ℕ) (d : ResolvedDefinition) → is_sound_definition z d ≡ true → is_sound_definition z (definition_out c room d).made ≡ true
    definition_sound room d is =
        let own = and_parts (not d.doubled) _ is in
        let parts = and_parts (list_all (is_type z) d.params) (is_sound_tree z (length d.params) d.body) own.1 in
        and_from _ _ own.0 (and_from _ _ parts.0 (sound_out (length d.params) room d.body parts.1))

    pattern_line_sound : (good : Parts) → ((n : ℤ) → good.leaf (leaf.Number n) ≡ true) → (room : Option ℕ) (l : ResolvedPatternLine) → is_sound_pattern_line good l ≡ true → is_sound_pattern_line good (pattern_line_out c room l).made ≡ true
    pattern_line_sound good number room l = by l
      where
        put : (t : ResolvedTree) → is_put_in good t ≡ true → is_put_in good (tree_out c room t).made ≡ true
        put t is = tree_made (λ t. is_put_in good t ≡ true) room t is (written_whole c [] good good (covers_itself good number) t is)

        by : (l : ResolvedPatternLine) → is_sound_pattern_line good l ≡ true → is_sound_pattern_line good (pattern_line_out c room l).made ≡ true
        by (ResolvedPatternLine.Initial at t) is = put t is
        by (ResolvedPatternLine.Safety at t) is = put t is
        by (ResolvedPatternLine.Recurring at t) is = put t is

    pattern_sound : (room : Option ℕ) (p : ResolvedPattern) → is_sound_pattern z p ≡ true → is_sound_pattern z (pattern_out c room p).made ≡ true
    pattern_sound room p is =
        let good = in_pattern z.names p.params (length p.own) in
        let own = and_parts (not p.doubled) _ is in
        let parts = and_parts (list_all (is_type z) p.own) (list_all (is_sound_pattern_line good) p.lines) own.1 in
        and_from _ _ own.0 (and_from _ _ parts.0
        (turn_all (is_sound_pattern_line good) (is_sound_pattern_line good) (pattern_line_out c) (pattern_line_sound good (λ n. refl)) room p.lines parts.1))

    body_sound : (room : Option ℕ) (b : ResolvedBody) → is_sound_body z b ≡ true → is_sound_body z (body_out c room b).made ≡ true
    body_sound room (ResolvedBody.Initial t) is = sound_out 0 room t is
    body_sound room (ResolvedBody.Safety t) is = sound_out 0 room t is
    body_sound room (ResolvedBody.Recurring t) is = sound_out 0 room t is
    body_sound room (ResolvedBody.Trigger at cause effect) is =
        let parts = and_parts (is_sound_regex z cause) (is_sound_regex z effect) is in and_from _ _ (regex_sound room cause parts.0) (regex_sound (regex_out c room cause).room effect parts.1)
    body_sound room (ResolvedBody.Pattern at used ts) is =
        let parts = and_parts (is_pattern_use z used (length ts)) (list_all (is_sound_tree z 0) ts) is in
        and_from _ _ (ap (is_pattern_use z used) (turn_length (tree_out c) room ts) ∙ parts.0) (turn_all (is_sound_tree z 0) (is_sound_tree z 0) (tree_out c) (sound_out 0) room ts parts.1)

    role_stays : (r : Role) (room : Option ℕ) (b : ResolvedBody) → fits_role r (body_out c room b).made ≡ fits_role r b
    role_stays roles.Assumption room b = refl
    role_stays roles.Guarantee room b = refl
    role_stays roles.Monitor room (ResolvedBody.Initial t) = refl
    role_stays roles.Monitor room (ResolvedBody.Safety t) = refl
    role_stays roles.Monitor room (ResolvedBody.Recurring t) = refl
    role_stays roles.Monitor room (ResolvedBody.Trigger at cause effect) = refl
    role_stays roles.Monitor room (ResolvedBody.Pattern at used ts) = refl

    line_sound : (room : Option ℕ) (l : ResolvedLine) → is_sound_line z l ≡ true → is_sound_line z (line_out c room l).made ≡ true
    line_sound room l is =
        let parts = and_parts (fits_role l.role l.body) (is_sound_body z l.body) is in and_from _ _ (role_stays l.role room l.body ∙ parts.0) (body_sound room l.body parts.1)

  -- ---- whole texts

  pub sizes_stay : (text : ResolvedText) → sizes_of (written_text c text) ≡ sizes_of text
  sizes_stay text =
      let definitions = each_in_turn (definition_out c) all_room text.definitions in
      let arities = turn_same (λ (d : ResolvedDefinition). length d.params) (definition_out c) (λ room d. refl) all_room text.definitions in
      let patterns = turn_same (λ (p : ResolvedPattern). p.params) (pattern_out c) (λ room p. refl) definitions.room text.patterns in
      λ k. record { names = length text.names; counts = map (λ (v : ResolvedVariable). v.count) text.variables; types = length text.types; arities = arities k; patterns = patterns k }

  module _ (text : ResolvedText) (sound : IsSound text) where
    abbrev z : Sizes
    z = sizes_of text

    abbrev definitions : Out (List ResolvedDefinition)
    definitions = each_in_turn (definition_out c) all_room text.definitions

    abbrev patterns : Out (List ResolvedPattern)
    patterns = each_in_turn (pattern_out c) definitions.room text.patterns

    abbrev lines : Out (List ResolvedLine)
    lines = each_in_turn (line_out c) patterns.room text.lines

    stays : (test : Sizes → Bool) → test z ≡ true → test (sizes_of (written_text c text)) ≡ true
    stays test is = ap test (sizes_stay text) ∙ is

    pub text_sound : IsSound (written_text c text)
    text_sound =
        record {
          few_names = sound.few_names;
          different_names = sound.different_names;
          spelled_names = sound.spelled_names;
          few_variables = sound.few_variables;
          some_elements = sound.some_elements;
          few_elements = sound.few_elements;
          alone = sound.alone;
          different_variables = sound.different_variables;
          spelled_variables = sound.spelled_variables;
          variables = stays (λ z. list_all (λ (v : ResolvedVariable). is_type z v.domain) text.variables) sound.variables;
          types = stays (λ z. list_all (λ (a : ResolvedAlias). is_type z a.body) text.types) sound.types;
          definitions = stays (λ z. list_all (is_sound_definition z) definitions.made) (turn_all (is_sound_definition z) (is_sound_definition z) (definition_out c) (definition_sound z) all_room text.definitions sound.definitions);
          patterns = stays (λ z. list_all (is_sound_pattern z) patterns.made) (turn_all (is_sound_pattern z) (is_sound_pattern z) (pattern_out c) (pattern_sound z) definitions.room text.patterns sound.patterns);
          lines = stays (λ z. list_all (is_sound_line z) lines.made) (turn_all (is_sound_line z) (is_sound_line z) (line_out c) (line_sound z) patterns.room text.lines sound.lines);
          few_lines = (let long = turn_length (line_out c) patterns.room text.lines in let few = sound.few_lines in omega (arith, long, few));
        }

pub written_sound : WrittenIsSound
written_sound c text sound = text_sound c text sound
