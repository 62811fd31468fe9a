-- What was read of a file serves for the file: one byte more than a text may have is read, if it is there.
use Rattle.std.proofs.Common.{◌≡◌, ℕ, ◌+◌, ◌<◌, List, length, take, Option, Some, None, ap, sym, refl, ◌∙◌, arith, inl, inr, ◌⊎◌, length-take}
use Rattle.std.proofs.lemmas.List.{take_all}
use Rattle.std.proofs.lemmas.Bool.{cases_lt}
use Rattle.sp_outside.specs.Files.{HasFile}
use Rattle.sp_outside.specs.Parts.{IsFrontOf}
use Rattle.spectra_trees.specs.Data.{TreeData}
use Rattle.spectra_files.specs.declared.placing.TextFault.{TextFault}
use Rattle.spectra_files.specs.declared.placing.TextFault.TheVariants as texts
use Rattle.spectra_files.specs.Refusals.{RefusesText, file_fault, HasNoTree}
use Rattle.spectra_files.specs.Reading.{ReadsAs, IsRefusedAt, not_utf8, bad_character, too_long, ungrammatical, FileReadsAs}

-- the greatest length of a text
abbrev most_bytes : ℕ
most_bytes = 1048576

-- the front is the file, or both are too long
front : (file bytes : List ℕ) → bytes ≡ take (most_bytes + 1) file → (file ≡ bytes) ⊎ ((most_bytes < length bytes) × (most_bytes < length file))
front file bytes is = elim (cases_lt most_bytes (length file)) [
  | inl long ↦ inr (let e = ap length is in omega (arith, length-take (most_bytes + 1) file), long)
  | inr short ↦ inl (sym (is ∙ take_all (most_bytes + 1) file (omega arith)))
]

-- one text that is too long is refused as another is
of_long : (bytes file : List ℕ) (number line column : ℕ) → most_bytes < length bytes → most_bytes < length file → IsRefusedAt bytes line column number → IsRefusedAt file line column number
of_long bytes file _ line column long long' (not_utf8 is) = absurd (let short = is.short in omega arith)
of_long bytes file _ line column long long' (bad_character is) = absurd (let short = is.short in omega arith)
of_long bytes file _ line column long long' (too_long is first begin) = too_long long' first begin
of_long bytes file number line column long long' (ungrammatical is) = absurd (let short = is.lexed.short in omega arith)

-- the tree of what was read of a file is the file's
pub file_reads : (told : Option (Option (List ℕ))) (bytes : List ℕ) (tree : TreeData) → IsFrontOf told (most_bytes + 1) bytes → ReadsAs bytes tree → FileReadsAs told tree
file_reads None bytes tree is reads = record { text = bytes; holds = tt; reads = reads }
file_reads (Some None) bytes tree is reads = absurd (let none = is.0 in omega arith)
file_reads (Some (Some file)) bytes tree is reads = elim (front file bytes is) [
  | inl same ↦ record { text = bytes; holds = same; reads = reads }
  | inr long ↦ absurd (let short = reads.lexed.short in omega (arith, short, long.0))
]

-- and so is what refuses it
pub file_refused : (told : Option (Option (List ℕ))) (bytes : List ℕ) (number line column : ℕ) → IsFrontOf told (most_bytes + 1) bytes → IsRefusedAt bytes line column number →
    (text : List ℕ) × HasFile told (λ held. held ≡ text) × IsRefusedAt text line column number
file_refused None bytes number line column is refused = (bytes, tt, refused)
file_refused (Some None) bytes number line column is refused = absurd (let none = is.0 in omega arith)
file_refused (Some (Some file)) bytes number line column is refused = elim (front file bytes is) [
  | inl same ↦ (bytes, same, refused)
  | inr long ↦ (file, refl, of_long bytes file number line column long.0 long.1 refused)
]

pub front_refused : (told : Option (Option (List ℕ))) (failed : Type 0) (bytes : List ℕ) (fault : TextFault) → IsFrontOf told (most_bytes + 1) bytes → RefusesText bytes fault → HasNoTree told failed (file_fault fault)
front_refused told failed bytes (texts.Refused number line column) is refuses = file_refused told bytes number line column is refuses
front_refused told failed bytes texts.Memory is refuses = tt
