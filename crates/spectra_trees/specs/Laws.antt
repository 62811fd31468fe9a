-- Laws of the table of faults, each of which the function of its name in src/laws.rt proves.
use Rattle.std.specs.Prelude.{◌≡◌, ℕ, List, [], ◌∷◌, map}
use Rattle.spectra_trees.specs.declared.faults.TheConstants.{NOT_UTF8, BAD_CHARACTER, TOO_LONG, UNEXPECTED, TOO_DEEP, PARENTHESES, UNKNOWN, TWICE, WRONG_TYPE, NEXT_HERE, NEXT_NESTED, NEXT_OF_SYSTEM, SYSTEM_IN_INITIAL, WIDE_INT, CYCLE, ARITY, IMPORTED_LINE, TOO_MANY, TOO_LARGE, PATTERN_OPEN, PATTERN_WIDE, TRIGGER_WIDE, OUT_OF_BOUNDS, WIDE_ARRAY}
use Rattle.spectra_trees.specs.Faults.{Fault, number_of, all_faults, shown, fault_text}

-- the program's constants, in the order of the faults
abbrev pub constants : List ℕ
constants =
    NOT_UTF8 ∷ BAD_CHARACTER ∷ TOO_LONG ∷ UNEXPECTED ∷ TOO_DEEP ∷ PARENTHESES ∷ UNKNOWN ∷ TWICE
    ∷ WRONG_TYPE ∷ NEXT_HERE ∷ NEXT_NESTED ∷ NEXT_OF_SYSTEM ∷ SYSTEM_IN_INITIAL ∷ WIDE_INT ∷ CYCLE ∷ ARITY
    ∷ IMPORTED_LINE ∷ TOO_MANY ∷ TOO_LARGE ∷ PATTERN_OPEN ∷ PATTERN_WIDE ∷ TRIGGER_WIDE
    ∷ OUT_OF_BOUNDS ∷ WIDE_ARRAY ∷ []

abbrev pub ConstantsAreNumbers : Type 0
ConstantsAreNumbers = constants ≡ map number_of all_faults

abbrev pub EachIsShown : Type 0
EachIsShown = (f : Fault) → fault_text (number_of f) ≡ shown f
