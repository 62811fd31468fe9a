-- Which hidden tables read an output at present, and which assumptions wait for it: those that the specification tells.
use Rattle.std.proofs.Common.{◌≡◌, ◌^◌, Bool, true, false, ◌&&◌, ◌||◌, ◌==◌, List, [], ◌∷◌, ◌++◌, length, map, get_or, refl, sym, ap, ◌∙◌, append_assoc, append-nil}
use Rattle.std.specs.List.{list_any}
use Rattle.std.proofs.lemmas.Bool.{and_parts, false≢true}
use Rattle.std.proofs.lemmas.List.{map-append}
use borrow.Author.Tests.{eqb-true}
use Rattle.spec_model.specs.declared.expr.Past.{Past}
use Rattle.spec_model.specs.declared.expr.Past.TheVariants.{Prev, Once, Historically, Since, Triggered}
use Rattle.spec_model.specs.Syntax.{Formula, PastOf, Formulas, listed, VariableData, Specification}
use Rattle.spec_model.specs.Moves.{present_variables, present_in_each, has_next, reads_present_output}
use Rattle.spec_model.specs.Sizes.{same_formula, past_trees_of_all, past_operators}
use Rattle.spec_model.specs.Steps.{is_output_variable, reads_output, some_reads_output, varies, reads_letter, tables_reading_output, waits_for_output}
use Rattle.spec_model.specs.Typing.{count_of, operands_of}
use Rattle.spec_model.specs.Games.{HiddenData}
use Rattle.past_bits.specs.Tables.{entry_cells}
use Rattle.past_bits.specs.Entries.{place_of, each_with_entries}
use Rattle.past_bits.specs.Bits.{table_with, table_of}
use Rattle.past_bits.proofs.Plain.{is_plain, are_plain}
use Rattle.past_bits.proofs.Ordered.{covers, is_in_order, AreOrdered}
use Rattle.past_bits.proofs.Made.{length-listed}
use Rattle.past_bits.proofs.Walk.{at_place}
use Rattle.hidden_game.specs.GameOf.{entered, hidden_of, tables_for, game_of}
use Rattle.hidden_game.proofs.Entered.{has_next-entered, reads_same, each_reads_same}
use Rattle.hidden_game.proofs.Known.{is_known, known_plain, known_covered, known_nested}

-- ---- one operator's table

-- whether the entries depend on the letter: those of `PREV` don't
abbrev depends : Past → Bool
depends Prev = false
depends Once = true
depends Historically = true
depends Since = true
depends Triggered = true

reads_letter-is : (op : Past) (atoms : List Formula) → length atoms ≡ operands_of op → reads_letter (table_with op atoms) ≡ depends op
reads_letter-is Prev atoms long = ap (λ n. list_any (varies (2 ^ n)) (entry_cells Prev ∷ [])) long
reads_letter-is Once atoms long = ap (λ n. list_any (varies (2 ^ n)) (entry_cells Once ∷ [])) long
reads_letter-is Historically atoms long = ap (λ n. list_any (varies (2 ^ n)) (entry_cells Historically ∷ [])) long
reads_letter-is Since atoms long = ap (λ n. list_any (varies (2 ^ n)) (entry_cells Since ∷ [])) long
reads_letter-is Triggered atoms long = ap (λ n. list_any (varies (2 ^ n)) (entry_cells Triggered ∷ [])) long

any_listed : (vs : List VariableData) (flags : List Bool) (es : Formulas) → list_any (reads_output vs flags) (listed es) ≡ some_reads_output vs flags es
any_listed vs flags Formulas.none = refl
any_listed vs flags (Formulas.one_more e es) = ap (λ b. reads_output vs flags e || b) (any_listed vs flags es)

-- ---- all operators' tables

module _ (vs : List VariableData) where
  -- whether a formula reads an output at present
  abbrev pub present : Formula → Bool
  present e = list_any (is_output_variable vs) (present_variables e)

  operands_tell : (op : Past) (es : Formulas) (b : Bool) → b ≡ list_any (is_output_variable vs) (present_in_each es) → (depends op && b) ≡ present (PastOf op es)
  operands_tell Prev es b is = refl
  operands_tell Once es b is = is
  operands_tell Historically es b is = is
  operands_tell Since es b is = is
  operands_tell Triggered es b is = is

  module _ (ops : List Formula) where
    flag_is : (pre post : List Formula) (op : Past) (es : Formulas) (flags : List Bool) → ops ≡ pre ++ post → flags ≡ map present pre → is_plain false (PastOf op es) ≡ true → covers pre (past_trees_of_all es) ≡ true →
        (reads_letter (table_of ops (PastOf op es)) && list_any (reads_output vs flags) (table_of ops (PastOf op es)).atoms) ≡ present (PastOf op es)
    flag_is pre post op es flags split so_far plain inner =
        let parts = and_parts (count_of es == operands_of op) (are_plain false es) plain in
        ap (λ b. b && list_any (reads_output vs flags) (listed (each_with_entries ops es)))
        (reads_letter-is op (listed (each_with_entries ops es)) (length-listed [] ops es ∙ eqb-true (count_of es) (operands_of op) parts.0))
        ∙ operands_tell op es (list_any (reads_output vs flags) (listed (each_with_entries ops es)))
        (any_listed vs flags (each_with_entries ops es)
        ∙ each_reads_same vs ops pre flags
        (λ inside fs there.
        ap (λ fl. get_or fl (place_of ops (PastOf inside fs)) false) (so_far ∙ sym (append-nil (map present pre)))
        ∙ (ap (λ os. get_or (map present pre ++ []) (place_of os (PastOf inside fs)) false) split ∙ at_place present pre post [] false (PastOf inside fs) there))
        false es parts.1 inner)

    walk : (pre post : List Formula) (more : List HiddenData) (flags : List Bool) → ops ≡ pre ++ post → is_in_order pre post ≡ true → flags ≡ map present pre →
        tables_reading_output vs flags (map (table_of ops) post ++ more) ≡ tables_reading_output vs (flags ++ map present post) more
    walk pre [] more flags split order so_far = ap (λ fl. tables_reading_output vs fl more) (sym (append-nil flags))
    walk pre (PastOf op es ∷ post) more flags split order so_far =
        let first = and_parts (is_plain false (PastOf op es)) (covers pre (past_trees_of_all es) && is_in_order (pre ++ PastOf op es ∷ []) post) order in
        let second = and_parts (covers pre (past_trees_of_all es)) (is_in_order (pre ++ PastOf op es ∷ []) post) first.1 in
        ap (λ b. tables_reading_output vs (flags ++ b ∷ []) (map (table_of ops) post ++ more)) (flag_is pre (PastOf op es ∷ post) op es flags split so_far first.0 second.0)
        ∙ (walk (pre ++ PastOf op es ∷ []) post more (flags ++ present (PastOf op es) ∷ []) (split ∙ sym (append_assoc pre (PastOf op es ∷ []) post)) second.1
        (ap (λ fl. fl ++ present (PastOf op es) ∷ []) so_far ∙ sym (map-append present pre (PastOf op es ∷ [])))
        ∙ ap (λ fl. tables_reading_output vs fl more) (append_assoc flags (present (PastOf op es) ∷ []) (map present post)))
    walk pre (_ ∷ post) more flags split order so_far = absurd (false≢true order)

  more_flags : (flags : List Bool) (hs : List HiddenData) → (xs : List Bool) × (tables_reading_output vs flags hs ≡ flags ++ xs)
  more_flags flags [] = ([], sym (append-nil flags))
  more_flags flags (h ∷ hs) =
      let flag = reads_letter h && list_any (reads_output vs flags) h.atoms in
      let rest = more_flags (flags ++ flag ∷ []) hs in
      (flag ∷ rest.0, rest.1 ∙ append_assoc flags (flag ∷ []) rest.0)

-- ---- the game

module _ (s : Specification) (ordered : AreOrdered s) where
  flag_at : (e : Formula) → list_any (same_formula e) (past_operators s) ≡ true →
      get_or (tables_reading_output s.variables [] (hidden_of s)) (place_of (past_operators s) e) false ≡ present s.variables e
  flag_at e there =
      let ops = past_operators s in
      let mine = map (present s.variables) ops in
      let rest = more_flags s.variables mine (tables_for s s.lines) in
      ap (λ fl. get_or fl (place_of ops e) false) (walk s.variables ops [] ops (tables_for s s.lines) [] refl ordered.order refl ∙ rest.1)
      ∙ (ap (λ os. get_or (mine ++ rest.0) (place_of os e) false) (sym (append-nil ops)) ∙ at_place (present s.variables) ops [] rest.0 false e there)

  -- a formula of a line reads an output at present in the game exactly where it does in the specification
  pub reads_present : (e : Formula) → is_known s e ≡ true → reads_output s.variables (tables_reading_output s.variables [] (hidden_of s)) (entered s e) ≡ reads_present_output s e
  reads_present e known =
      reads_same s.variables (past_operators s) (past_operators s) (tables_reading_output s.variables [] (hidden_of s)) (λ op es there. flag_at (PastOf op es) there) true e (known_plain s e known) (known_covered s e known)

  pub next_same : (e : Formula) → is_known s e ≡ true → has_next (entered s e) ≡ has_next e
  next_same e known = has_next-entered (past_operators s) (length s.names) false false e (known_nested s e known)

  -- and it waits for the output exactly where it does there
  pub waits_same : (e : Formula) → is_known s e ≡ true → waits_for_output (game_of s) (entered s e) ≡ (has_next e || reads_present_output s e)
  waits_same e known = (λ i. next_same e known i || reads_present e known i)
