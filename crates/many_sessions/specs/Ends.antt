-- How a talk of many sessions ends.
use Rattle.std.specs.Prelude.{◌≡◌, ℕ, List, length, Option, None}
use Rattle.session.specs.declared.talking.End.{End}
use Rattle.session.specs.declared.talking.End.TheVariants as ends
use Rattle.session.specs.Ends.{Ends}
use Rattle.many_sessions.specs.declared.talking.ManyEnd.{ManyEnd}
use Rattle.many_sessions.specs.declared.talking.ManyEnd.TheVariants as many
use Rattle.many_sessions.specs.Numbered.{IsNumbered}

-- likewise as the end of a talk in which no line is broken
abbrev pub end_of : ManyEnd → End
end_of many.Finished = ends.Finished
end_of (many.BadLine n) = ends.BadLine n
end_of many.LineLimit = ends.StateLimit
end_of many.ReadFault = ends.ReadFault
end_of many.WriteFault = ends.WriteFault

-- How the talk ends, once these lines were handed out and answered: the input gave its end and no other line; the next line has
-- no session's number, or is too long; the limit was reached; or something outside failed.
abbrev pub ManyEnds : (limit : ℕ) → (given : List ℕ) → (left : Option (List ℕ)) → (handed : List (List ℕ)) → (rose_in rose_out : Type 0) → ManyEnd → Type 0
ManyEnds limit given left handed rose_in rose_out end = Ends IsNumbered (λ m. None) limit given left handed (length handed) rose_in rose_out (end_of end)

-- no line of the specification was broken
abbrev pub IsUnbroken : End → Type 0
IsUnbroken (ends.Broken label) = ⊥
IsUnbroken _ = Unit {0}
