-- How talks end, and what is then written.
use Rattle.std.specs.Prelude.{◌≡◌, ℕ, ◌+◌, ◌<◌, true, false, List, map, Option, Some}
use Rattle.std.specs.Io.KnownBytes.{Appends, IsAtEnd}
use Rattle.sp_outside.specs.Written.{AppendsFront}
use Rattle.spec_model.specs.declared.game.Label.{Label}
use Rattle.session_lines.specs.InputLines.{Line, input_lines}
use Rattle.session_lines.specs.Handing.{IsNext, AreFirst}
use Rattle.session.specs.declared.talking.End.{End}
use Rattle.session.specs.declared.talking.End.TheVariants as ends

module _ {Read : Type 0} where
  -- nothing is read of the line: it is too long, or reads as nothing
  abbrev pub IsRefused : (List ℕ → Read → Type 0) → Line → Type 0
  IsRefused ReadsAs (Some line) = (x : Read) → ReadsAs line x → ⊥
  IsRefused ReadsAs _ = Unit {0}

  -- How a talk ends, once so many lines were handed out and answered, the first of what the input gave: the input gave its end
  -- and no other line; the next line breaks one of the specification, or is refused; the limit was reached; or something
  -- outside failed.
  abbrev pub Ends : (ReadsAs : List ℕ → Read → Type 0) → (first_broken : Read → Option Label) → (limit : ℕ) → (given : List ℕ) → (left : Option (List ℕ)) → (handed : List (List ℕ)) → (count : ℕ) → (rose_in rose_out : Type 0) → End → Type 0
  Ends ReadsAs first_broken limit given left handed count rose_in rose_out ends.Finished = IsAtEnd left × (input_lines true given ≡ map (λ l. Some l) handed) × (count < limit)
  Ends ReadsAs first_broken limit given left handed count rose_in rose_out (ends.Broken label) =
      (line : List ℕ) × (x : Read) × IsNext given left handed (Some line) × ReadsAs line x × (first_broken x ≡ Some label) × (count < limit)
  Ends ReadsAs first_broken limit given left handed count rose_in rose_out (ends.BadLine n) =
      (line : Line) × IsNext given left handed line × IsRefused ReadsAs line × (n ≡ count + 1) × (count < limit)
  Ends ReadsAs first_broken limit given left handed count rose_in rose_out ends.StateLimit = (count ≡ limit) × AreFirst given left handed
  Ends ReadsAs first_broken limit given left handed count rose_in rose_out ends.ReadFault = rose_in × (input_lines false given ≡ map (λ l. Some l) handed) × (count < limit)
  Ends ReadsAs first_broken limit given left handed count rose_in rose_out ends.WriteFault = rose_out × AreFirst given left handed

-- what is written: all of it, or a front of it where the output failed
abbrev pub Wrote : End → Option (List ℕ) → Option (List ℕ) → List ℕ → Type 0
Wrote ends.WriteFault old new text = AppendsFront old new text
Wrote _ old new text = Appends old new text
