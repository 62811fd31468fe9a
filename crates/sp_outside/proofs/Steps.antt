-- The steps of the loops that write a line and read a file.
use Rattle.std.proofs.Common.{◌≡◌, ℕ, ◌+◌, ◌-◌, ◌≤◌, List, ◌++◌, length, take, drop, Option, None, Some, Ok, sym, ap, subst, ◌∙◌, arith, append_assoc, length-take, length-drop}
use Rattle.std.proofs.lemmas.List.{take_all, take-append-le}
use Rattle.std.proofs.Math.Seq.{take-add, take-append-add}
use Rattle.std.specs.Io.KnownBytes.{Appends}
use borrow.Rule.Slice.PartMut.{put_mid, post_of}
use Rattle.sp_outside.specs.Files.{Files, told_file}
use Rattle.sp_outside.specs.Parts.{GivesPart, IsFrontOf}

-- one write more
pub appends_more : (a b c : Option (List ℕ)) (line : List ℕ) (t n : ℕ) → Appends a b (take t line) → Appends b c (take n (take (length line - t) (drop t line))) → Appends a c (take (t + n) line)
appends_more None b c line t n first second = tt
appends_more (Some xs) None c line t n first second = absurd first
appends_more (Some xs) (Some ys) None line t n first second = absurd second
appends_more (Some xs) (Some ys) (Some zs) line t n first second =
    let rest : take (length line - t) (drop t line) ≡ drop t line = take_all (length line - t) (drop t line) (omega (arith, length-drop t line)) in
    second ∙ ap (λ (l : List ℕ). ys ++ take n l) rest ∙ ap (λ (l : List ℕ). l ++ take n (drop t line)) first ∙ append_assoc xs (take t line) (take n (drop t line)) ∙ ap (λ (l : List ℕ). xs ++ l) (sym (take-add t n line))

-- one part more
front_more : (E : Type 0) (file : Option (Option (List ℕ))) (at n k : ℕ) (buf part : List ℕ) → at ≤ length buf → n ≤ length part → IsFrontOf file at (take at buf) → GivesPart {E = E} file at (Ok (Some n)) part → IsFrontOf file (at + n) (take (at + n) (put_mid at k buf part))
front_more E None at n k buf part room fits front gives = tt
front_more E (Some None) at n k buf part room fits front gives = absurd gives
front_more E (Some (Some file)) at n k buf part room fits front gives =
    let long : length (take at buf) ≡ at = omega (arith, length-take at buf) in
    ap (λ (m : ℕ). take (m + n) (put_mid at k buf part)) (sym long)
    ∙ take-append-add (take at buf) (part ++ post_of at k buf) n
    ∙ ap (λ (l : List ℕ). take at buf ++ l) (take-append-le n part (post_of at k buf) fits ∙ gives.same)
    ∙ ap (λ (l : List ℕ). l ++ take n (drop at file)) front
    ∙ sym (take-add at n file)

pub front_step : (E : Type 0) (now then : Option Files) (name : List ℕ) (got : Option ℕ) (at n k : ℕ) (buf part : List ℕ) → at ≤ length buf → n ≤ length part → now ≡ then → got ≡ Some n → IsFrontOf (told_file then name) at (take at buf) → GivesPart {E = E} (told_file now name) at (Ok got) part → IsFrontOf (told_file then name) (at + n) (take (at + n) (put_mid at k buf part))
front_step E now then name got at n k buf part room fits same some front gives =
    front_more E (told_file then name) at n k buf part room fits front
    (subst (λ (h : Option Files). GivesPart {E = E} (told_file h name) at (Ok (Some n)) part) same
    (subst (λ (r : Option ℕ). GivesPart {E = E} (told_file now name) at (Ok r) part) some gives))
