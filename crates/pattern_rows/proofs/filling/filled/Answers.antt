use Rattle.std.proofs.Common.{◌==◌, length, map, sym, ap, ◌∙◌}
use Rattle.std.specs.List.{list_all}
use Rattle.std.proofs.lemmas.List.{length-map}
use Rattle.spec_model.specs.Values.{is_assignment}
use Rattle.spec_model.specs.Views.{pattern_data}
use Rattle.pattern_rows.specs.declared.fault.RowFault.TheVariants.{Open}
use Rattle.pattern_rows.specs.Blocks.{is_letter}
use Rattle.pattern_rows.proofs.Handed.{handed_on}
use Rattle.pattern_rows.proofs.Letters.{letters_there, first_is_none, letters_long, letters_are}
use Rattle.pattern_rows.proofs.Sizes.{owns_fit, open_later, determined_by, rows_are}
use Rattle.pattern_rows.proofs.filling.filled.Goals as goal

pub bounds-letters-0 : goal.bounds-letters-0
bounds-letters-0 c = letters_there (λ c. c.items) (pattern_data c.args.pattern.now).params c.args.letters.now c.requires.letters

pub first_own-requires-clause-letter : goal.first_own-requires-clause-letter
first_own-requires-clause-letter c = c.deref.ensures.value ∙ first_is_none (λ c. c.items) (pattern_data c.args.pattern.now).params c.args.letters.now c.index-letters-0.result c.requires.letters c.index-letters-0.is

pub first_own-requires-clause-owns : goal.first_own-requires-clause-owns
first_own-requires-clause-owns c = ap (λ xs. list_all (is_assignment (pattern_data c.args.pattern.now).domains) xs) c.requires.owns ∙ owns_fit (pattern_data c.args.pattern.now).domains

pub block_words-requires : goal.block_words-requires
block_words-requires c = ap (λ ls. list_all (is_letter (pattern_data c.args.pattern.now).params) ls) c.requires.letters ∙ letters_are (pattern_data c.args.pattern.now).params

pub next_values-requires-clause-owns : goal.next_values-requires-clause-owns
next_values-requires-clause-owns c = ap (λ xs. list_all (is_assignment (pattern_data c.args.pattern.now).domains) xs) c.requires.owns ∙ owns_fit (pattern_data c.args.pattern.now).domains

pub next_values-requires-clause-letters : goal.next_values-requires-clause-letters
next_values-requires-clause-letters c = ap (λ ls. list_all (λ l. length l == (pattern_data c.args.pattern.now).params) ls) c.requires.letters ∙ letters_long (pattern_data c.args.pattern.now).params

pub tables-requires-clause-owns : goal.tables-requires-clause-owns
tables-requires-clause-owns c = ap (λ xs. list_all (is_assignment (pattern_data c.args.pattern.now).domains) xs) c.requires.owns ∙ owns_fit (pattern_data c.args.pattern.now).domains

pub tables-requires-clause-letters : goal.tables-requires-clause-letters
tables-requires-clause-letters c = ap (λ ls. list_all (λ l. length l == (pattern_data c.args.pattern.now).params) ls) c.requires.letters ∙ letters_long (pattern_data c.args.pattern.now).params

pub returns-in_err-next-in-Some-clause-open : goal.returns-in_err-next-in-Some-clause-open
returns-in_err-next-in-Some-clause-open c = λ is.
    open_later (pattern_data c.args.pattern.now) (map (λ c. c.items) c.args.owns.now) (map (λ c. c.items) c.args.letters.now) c.requires.owns c.requires.letters
    (c.in_err-next-in-Some.ensures.open (handed_on c.from_residual-in_err-next-in-Some.result c.in_err-next-in-Some.field-0.0 Open c.from_residual-in_err-next-in-Some.ensures.1 is))

pub returns-in_ok-parameters-in-Some-clause-rows : goal.returns-in_ok-parameters-in-Some-clause-rows
returns-in_ok-parameters-in-Some-clause-rows c =
    rows_are (pattern_data c.args.pattern.now) (map (λ c. c.items) c.args.owns.now) (map (λ c. c.items) c.args.letters.now) _ _ _ _ _ c.requires.owns c.requires.letters
    (sym (length-map c.args.owns.now (λ c. c.items))) c.in-Some.ensures.1 c.in_ok-parameters-in-Some.ensures c.in_ok-next-in-Some.ensures.next c.in_ok-tables-in-Some.ensures

pub returns-in_ok-parameters-in-Some-clause-determined : goal.returns-in_ok-parameters-in-Some-clause-determined
returns-in_ok-parameters-in-Some-clause-determined c =
    determined_by (pattern_data c.args.pattern.now) (map (λ c. c.items) c.args.owns.now) (map (λ c. c.items) c.args.letters.now) c.requires.owns c.requires.letters c.in-Some.ensures.0 c.in_ok-next-in-Some.ensures.told
