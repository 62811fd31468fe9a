-- The line of a note, and what stands written where one of two lines was cut short.
use Rattle.std.proofs.Common.{◌≡◌, ◌≤◌, Bool, ℕ, ◌==◌, if◌then◌else◌, min, List, ◌∷◌, [], ◌++◌, length, Option, Result, Ok, Err, OnErr, codes, sym, ap, subst, ◌∙◌, arith}
use Rattle.std.proofs.lemmas.Bool.{ne_eqb}
use Rattle.std.proofs.lemmas.List.{take_min, take-append-le}
use Rattle.std.specs.Fmt.{decimal}
use Rattle.std.specs.Io.KnownBytes.{Appends}
use Rattle.sp_outside.specs.Written.{AppendsFront}
use Rattle.spec_model.specs.declared.game.Label.{Label}
use Rattle.spec_model.specs.Values.{Assignment}
use Rattle.spec_model.specs.Syntax.{VariableData}
use Rattle.session_lines.specs.declared.lines.Lines.{Lines}
use Rattle.session_lines.specs.Shown.{show}
use Rattle.session_lines.specs.Views.{KeepsTables, names_of, shown_variables, shown_of}
use Rattle.session.specs.CounterTalks.{denial_line}
use Rattle.session.proofs.Turns.{front_more}

-- a front of the first text is one of both
pub front_first : (a b : Option (List ℕ)) (text more : List ℕ) → AppendsFront a b text → AppendsFront a b (text ++ more)
front_first a b text more front =
    let n = min front.0 (length text) in
    let within : n ≤ length text = omega arith in
    (n, subst (Appends a b) (sym (take-append-le n text more within ∙ take_min front.0 text)) front.1)

-- what an error leaves
pub on_err : {T E P : Type 0} (r : Result T E) → P → OnErr r P
on_err (Ok x) p = tt
on_err (Err e) p = p

-- where the first of two lines is written, a front of the second leaves one of both
pub front_of_both : {T E : Type 0} (a b c : Option (List ℕ)) (text more : List ℕ) (r : Result T E) → Appends a b text → OnErr r (AppendsFront b c more) → OnErr r (AppendsFront a c (text ++ more))
front_of_both a b c text more (Ok x) first front = tt
front_of_both a b c text more (Err e) first front = front_more a b c text more first front

-- the same line is shown
pub same_shown : (old new : Lines) → KeepsTables old new → shown_of new ≡ shown_of old → show (names_of new) (shown_variables new) (shown_of new) ++ 10 ∷ [] ≡ show (names_of old) (shown_variables old) (shown_of old) ++ 10 ∷ []
same_shown old new keeps same =
    ap (λ (names : List (List ℕ)). show names (shown_variables new) (shown_of new) ++ 10 ∷ []) keeps.names
    ∙ (ap (λ (vs : List VariableData). show (names_of old) vs (shown_of new) ++ 10 ∷ []) keeps.shown ∙ ap (λ (x : Assignment). show (names_of old) (shown_variables old) x ++ 10 ∷ []) same)

-- the only goal of a line is told by the line's number
pub denial_whole : (l : Label) → l.part ≡ 0 → codes "deny #" ++ (decimal l.line ++ codes "\n") ≡ denial_line l
denial_whole l only = ap (λ (n : ℕ). codes "deny #" ++ (decimal l.line ++ (if n == 0 then codes "\n" else (codes "." ++ (decimal n ++ codes "\n"))))) (sym only)

-- one of several by its part, too
pub denial_part : (l : Label) → (l.part ≡ 0 → ⊥) → codes "deny #" ++ (decimal l.line ++ (codes "." ++ (decimal l.part ++ codes "\n"))) ≡ denial_line l
denial_part l some =
    ap (λ (b : Bool). codes "deny #" ++ (decimal l.line ++ (if b then codes "\n" else (codes "." ++ (decimal l.part ++ codes "\n"))))) (sym (ne_eqb l.part 0 some))
