-- Declarations behind others.
use Rattle.std.proofs.Common.{◌≡◌, ℕ, Bool, true, false, cond, if◌then◌else◌, List, [], ◌∷◌, ◌++◌, Option, Some, None, option_map, refl, sym, ◌∙◌}
use Rattle.std.specs.Option.{option_or}
use Rattle.std.specs.Str.{bytes_eq}
use Rattle.spectra_resolved.specs.declared.table.Named.{Named}
use Rattle.spectra_resolved.specs.declared.findings.Finding.{Finding}
use Rattle.spectra_resolved.specs.Findings.{with_faults}
use Rattle.spectra_resolved.specs.Spaces.{Entry, declared, and_name, clash, clashes_after, clashes, no_names}
use Rattle.spectra_resolved.specs.SpaceViews.{Told, with_entry, with_entries}
use Rattle.spectra_resolved.proofs.Entered.{or-none}
use Rattle.spectra_resolved.proofs.First.{with_faults_append}

pub with_entries_append : (t : Told) (ds es : List Entry) → with_entries t (ds ++ es) ≡ with_entries (with_entries t ds) es
with_entries_append t [] es = refl
with_entries_append t (d ∷ ds) es = with_entries_append (with_entry t d) ds es

or-first : (o : Option Named) (b : Bool) (d : Entry) (rest : Option Entry)
    → option_or (option_or o (if b then Some d.1 else None)) (option_map (λ e. e.1) rest) ≡ option_or o (option_map (λ e. e.1) (cond b (Some d) rest))
or-first (Some x) b d rest = refl
or-first None true d rest = refl
or-first None false d rest = refl

-- a look-up with several more names finds what it found, and else the first of those
look-at : (t : Told) (ds : List Entry) (text : List ℕ) → (with_entries t ds).look text ≡ option_or (t.look text) (declared ds text)
look-at t [] text = sym (or-none (t.look text))
look-at t (d ∷ ds) text = look-at (with_entry t d) ds text ∙ or-first (t.look text) (bytes_eq text d.0.text) d _

found-with : (t : Told) (ds : List Entry) → (with_entries t ds).found ≡ with_faults t.found (clashes_after t.look ds)
found-with t [] = refl
found-with t (d ∷ ds) = found-with (with_entry t d) ds ∙ sym (with_faults_append t.found (clash (t.look d.0.text) d) (clashes_after (and_name t.look d.0.text d.1) ds))

abbrev pub start : Option Finding → Told
start found = record { look = no_names; found = found }

-- names behind none stand for their first declarations
pub first_look : (found : Option Finding) (ds : List Entry) → (with_entries (start found) ds).look ≡ declared ds
first_look found ds = λ i text. look-at (start found) ds text i

pub first_found : (found : Option Finding) (ds : List Entry) → (with_entries (start found) ds).found ≡ with_faults found (clashes ds)
first_found found ds = found-with (start found) ds
