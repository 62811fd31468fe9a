-- Where the files lie that a file imports.
use Rattle.std.proofs.Common.{◌≡◌, ◌≢◌, ◌<◌, ℕ, suc, ◌==◌, Bool, true, false, ◌||◌, if◌then◌else◌, List, [], ◌∷◌, ◌++◌, length, take, drop, get_or, Some, None, refl, sym, ap, ◌∙◌, arith}
use Rattle.std.specs.List.{list_any}
use Rattle.std.specs.Str.Pattern.{RFindsChar}
use Rattle.std.proofs.lemmas.Bool.{eqb-true, or_from}
use Rattle.std.proofs.lemmas.List.{take-append-drop}
use Rattle.std.proofs.lemmas.Str.Pattern.{NoCharPasses-char, drop_at_char}
use Rattle.spectra_files.specs.Reading.{folder_of}

abbrev is_slash : ℕ → Bool
is_slash b = b == 47

none_any : (bs : List ℕ) → ((i : ℕ) → i < length bs → get_or bs i 0 ≢ 47) → list_any is_slash bs ≡ false
none_any [] none = refl
none_any (c ∷ cs) none = or_from _ _ (by (c == 47) refl) (none_any cs (λ i below. none (suc i) (omega (arith, below))))
  where
    by : (b : Bool) → (c == 47) ≡ b → b ≡ false
    by true is = absurd (none 0 (omega arith) (eqb-true c 47 is))
    by false is = refl

no_folder : (cs : List ℕ) → list_any is_slash cs ≡ false → folder_of cs ≡ []
no_folder [] none = refl
no_folder (c ∷ cs) none = ap (λ b. if b then c ∷ folder_of cs else []) none

some_any : (front back : List ℕ) → list_any is_slash (front ++ 47 ∷ back) ≡ true
some_any [] back = refl
some_any (c ∷ front) back = by (c == 47) (some_any front back)
  where
    by : (b : Bool) → list_any is_slash (front ++ 47 ∷ back) ≡ true → (b || list_any is_slash (front ++ 47 ∷ back)) ≡ true
    by true some = refl
    by false some = some

folder_at : (front back : List ℕ) → list_any is_slash back ≡ false → folder_of (front ++ 47 ∷ back) ≡ front ++ 47 ∷ []
folder_at [] back none = ap (λ folder. 47 ∷ folder) (no_folder back none)
folder_at (c ∷ front) back none =
    ap (λ b. if b then c ∷ folder_of (front ++ 47 ∷ back) else []) (some_any (c ∷ front) back) ∙ ap (λ folder. c ∷ folder) (folder_at front back none)

-- the folder is the front of the name up to its last slash, and with it
pub of_split : (file front : List ℕ) (i j : ℕ) → RFindsChar 47 file (Some (i, j)) → front ≡ take i file → folder_of file ≡ front ++ 47 ∷ []
of_split file front i j finds is =
    let none = none_any (drop j file) (λ k below. NoCharPasses-char 47 (drop j file) k finds.0 (omega arith) below) in
    let parts : file ≡ take i file ++ 47 ∷ drop j file = sym (take-append-drop i file) ∙ ap (λ behind. take i file ++ behind) (drop_at_char 47 file i j finds.1 (omega arith)) in
    ap folder_of parts ∙ (folder_at (take i file) (drop j file) none ∙ ap (λ before. before ++ 47 ∷ []) (sym is))

-- a name without a slash has none
pub of_none : (file : List ℕ) → RFindsChar 47 file None → folder_of file ≡ []
of_none file finds = no_folder file (none_any file (λ k below. NoCharPasses-char 47 file k finds (omega arith) below))
