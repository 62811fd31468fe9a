-- Parts of a text that are written out one behind another.
use Rattle.std.proofs.Common.{◌≡◌, ℕ, ℤ, List, [], ◌∷◌, ◌++◌, length, map, Option, refl, sym, ap, ◌∙◌, append_assoc, append-nil, arith}
use Rattle.spectra_resolved.proofs.Mapped.{map_push}
use Rattle.spectra_resolved.specs.Resolved.{ResolvedRegex, ResolvedRegexes}
use Rattle.spectra_resolved.specs.declared.tree.Times.{Times}
use Rattle.spectra_resolved.specs.Chained.{regexes, repeated}
use Rattle.spectra_copies.specs.Texts.{Out, within, each_in_turn, regex_out, regexes_out}

module _ {A B : Type 0} (view : A → B) (step : Option ℕ → B → Out B) where
  -- what is made already, and what is left becomes
  abbrev pub with_rest : List A → Option ℕ → List A → Out (List B)
  with_rest done room left = record { made = map view done ++ (each_in_turn step room (map view left)).made; room = (each_in_turn step room (map view left)).room }

  pub first_turn : (done : List A) (room : Option ℕ) (left : List A) → done ≡ [] → with_rest done room left ≡ each_in_turn step room (map view left)
  first_turn done room left none = ap (λ xs. with_rest xs room left) none

  pub next_turn : (done more : List A) (room after : Option ℕ) (left rest : List A) (x y : A) → left ≡ x ∷ rest → more ≡ done ++ y ∷ []
      → ◌≡◌ {A = Out B} (record { made = view y; room = after }) (step room (view x)) → with_rest more after rest ≡ with_rest done room left
  next_turn done more room after left rest x y here pushed own =
      ap (λ xs. with_rest xs after rest) pushed
      ∙ (λ i. record { made = map_push view done y i ++ (each_in_turn step after (map view rest)).made; room = (each_in_turn step after (map view rest)).room })
      ∙ (λ i. record { made = append_assoc (map view done) (view y ∷ []) (each_in_turn step after (map view rest)).made i; room = (each_in_turn step after (map view rest)).room })
      ∙ ap (λ (o : Out B). record { made = map view done ++ o.made ∷ (each_in_turn step o.room (map view rest)).made; room = (each_in_turn step o.room (map view rest)).room }) own
      ∙ ap (λ xs. with_rest done room xs) (sym here)

  pub last_turn : (done : List A) (room : Option ℕ) (left : List A) → length left ≡ 0 → ◌≡◌ {A = Out (List B)} (record { made = map view done; room = room }) (with_rest done room left)
  last_turn done room [] none = λ i. record { made = sym (append-nil (map view done)) i; room = room }
  last_turn done room (x ∷ left) none = absurd (omega arith)

-- regular expressions, as a list
pub regexes_in_turn : (c : List (Option ℤ)) (room : Option ℕ) (rs : List ResolvedRegex) → within regexes (each_in_turn (regex_out c) room rs) ≡ regexes_out c room (regexes rs)
regexes_in_turn c room [] = refl
regexes_in_turn c room (r ∷ rs) =
    let first = regex_out c room r in
    ap (λ (o : Out ResolvedRegexes). record { made = ResolvedRegexes.one_more first.made o.made; room = o.room }) (regexes_in_turn c first.room rs)

pub repeated_out : (c : List (Option ℤ)) (room : Option ℕ) (r : ResolvedRegex) (times : List Times) → regex_out c room (repeated r times) ≡ within (λ made. repeated made times) (regex_out c room r)
repeated_out c room r [] = refl
repeated_out c room r (t ∷ times) = repeated_out c room (ResolvedRegex.Repetition r t) times
