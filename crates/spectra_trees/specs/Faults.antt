-- The faults of texts, with the number and the word of each. docs/LANGUAGE.md says where each comes.
use Rattle.std.specs.Prelude.{ℕ, ◌==◌, List, [], ◌∷◌, ◌++◌, codes, if◌then◌else◌}
use Rattle.std.specs.Fmt.{decimal}

pub data Fault : Type 0 where
  NotUtf8 : Fault
  BadCharacter : Fault
  TooLong : Fault
  Unexpected : Fault
  TooDeep : Fault
  Parentheses : Fault
  Unknown : Fault
  Twice : Fault
  WrongType : Fault
  NextHere : Fault
  NextNested : Fault
  NextOfSystem : Fault
  SystemInInitial : Fault
  WideInt : Fault
  Cycle : Fault
  Arity : Fault
  ImportedLine : Fault
  TooMany : Fault
  TooLarge : Fault
  PatternOpen : Fault
  PatternWide : Fault
  TriggerWide : Fault
  OutOfBounds : Fault
  WideArray : Fault

-- ---- the table

abbrev pub row : Fault → ℕ × List ℕ
row NotUtf8 = (1, codes "NotUtf8")
row BadCharacter = (2, codes "BadCharacter")
row TooLong = (3, codes "TooLong")
row Unexpected = (4, codes "Unexpected")
row TooDeep = (5, codes "TooDeep")
row Parentheses = (6, codes "Parentheses")
row Unknown = (7, codes "Unknown")
row Twice = (8, codes "Twice")
row WrongType = (9, codes "WrongType")
row NextHere = (10, codes "NextHere")
row NextNested = (11, codes "NextNested")
row NextOfSystem = (12, codes "NextOfSystem")
row SystemInInitial = (13, codes "SystemInInitial")
row WideInt = (14, codes "WideInt")
row Cycle = (15, codes "Cycle")
row Arity = (16, codes "Arity")
row ImportedLine = (17, codes "ImportedLine")
row TooMany = (18, codes "TooMany")
row TooLarge = (19, codes "TooLarge")
row PatternOpen = (20, codes "PatternOpen")
row PatternWide = (21, codes "PatternWide")
row TriggerWide = (22, codes "TriggerWide")
row OutOfBounds = (25, codes "OutOfBounds")
row WideArray = (26, codes "WideArray")

abbrev pub number_of : Fault → ℕ
number_of f = (row f).0

abbrev pub word_of : Fault → List ℕ
word_of f = (row f).1

-- ---- how a fault is shown

-- its number and its word, with a blank between them
abbrev pub shown : Fault → List ℕ
shown f = decimal (number_of f) ++ 32 ∷ word_of f

-- all faults, by their numbers
abbrev pub all_faults : List Fault
all_faults =
    NotUtf8 ∷ BadCharacter ∷ TooLong ∷ Unexpected ∷ TooDeep ∷ Parentheses ∷ Unknown ∷ Twice
    ∷ WrongType ∷ NextHere ∷ NextNested ∷ NextOfSystem ∷ SystemInInitial ∷ WideInt ∷ Cycle ∷ Arity
    ∷ ImportedLine ∷ TooMany ∷ TooLarge ∷ PatternOpen ∷ PatternWide ∷ TriggerWide
    ∷ OutOfBounds ∷ WideArray ∷ []

-- what is shown of the fault of a number among these; the last one is shown of a number that none of them has
abbrev pub shown_among : List Fault → ℕ → List ℕ
shown_among [] n = shown TriggerWide
shown_among (f ∷ fs) n = if n == number_of f then shown f else shown_among fs n

unfoldable pub fault_text : ℕ → List ℕ
fault_text n = shown_among all_faults n
