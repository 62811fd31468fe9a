-- What is shown of a fault's number is the number and the word of that fault.
use Rattle.std.proofs.Common.{refl}
use Rattle.spectra_trees.specs.Faults.{NotUtf8, BadCharacter, TooLong, Unexpected, TooDeep, Parentheses, Unknown, Twice, WrongType, NextHere, NextNested, NextOfSystem, SystemInInitial, WideInt, Cycle, Arity, ImportedLine, TooMany, TooLarge, PatternOpen, PatternWide, TriggerWide, OutOfBounds, WideArray, fault_text}
use Rattle.spectra_trees.specs.Laws.{EachIsShown}

pub each_shown : EachIsShown
unfolding fault_text
each_shown NotUtf8 = refl
each_shown BadCharacter = refl
each_shown TooLong = refl
each_shown Unexpected = refl
each_shown TooDeep = refl
each_shown Parentheses = refl
each_shown Unknown = refl
each_shown Twice = refl
each_shown WrongType = refl
each_shown NextHere = refl
each_shown NextNested = refl
each_shown NextOfSystem = refl
each_shown SystemInInitial = refl
each_shown WideInt = refl
each_shown Cycle = refl
each_shown Arity = refl
each_shown ImportedLine = refl
each_shown TooMany = refl
each_shown TooLarge = refl
each_shown PatternOpen = refl
each_shown PatternWide = refl
each_shown TriggerWide = refl
each_shown OutOfBounds = refl
each_shown WideArray = refl
