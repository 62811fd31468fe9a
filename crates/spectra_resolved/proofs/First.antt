-- The fault that comes first, in whatever order faults are found.
use Rattle.std.proofs.Common.{◌≡◌, ℕ, ◌==◌, nat_lt, Bool, true, false, if◌then◌else◌, List, [], ◌∷◌, ◌++◌, Option, Some, None, refl, sym, ap, ◌∙◌, arith}
use Rattle.std.proofs.lemmas.Bool.{false≢true}
use Rattle.std.proofs.lemmas.Bool.Decides.{nat_tests}
use Rattle.spectra_resolved.specs.declared.findings.Finding.{Finding}
use Rattle.spectra_resolved.specs.Findings.{precedes, with_fault, with_faults}

-- one number decides, and where it is the same, a test
abbrev pub lex : ℕ → ℕ → Bool → Bool
lex x y inner = if x == y then inner else nat_lt x y

lex-trans : (x y z : ℕ) (p q r : Bool) → (p ≡ true → q ≡ true → r ≡ true) → lex x y p ≡ true → lex y z q ≡ true → lex x z r ≡ true
lex-trans x y z p q r inner a b = grind (arith, nat_tests)

lex-same : (x y : ℕ) (p q : Bool) → lex x y p ≡ lex y x q → (x ≡ y) × (p ≡ q)
lex-same x y p q same = grind (arith, nat_tests)

pub precedes-trans : (f g h : Finding) → precedes f g ≡ true → precedes g h ≡ true → precedes f h ≡ true
precedes-trans f g h =
    lex-trans f.at.file g.at.file h.at.file _ _ _
    (lex-trans f.at.line g.at.line h.at.line _ _ _
    (lex-trans f.at.column g.at.column h.at.column _ _ _ (λ a b. grind (arith, nat_tests))))

-- two that come alike are one
same-finding : (f g : Finding) → precedes f g ≡ precedes g f → f ≡ g
same-finding f g same =
    let file = lex-same f.at.file g.at.file _ _ same in
    let line = lex-same f.at.line g.at.line _ _ file.1 in
    let column = lex-same f.at.column g.at.column _ _ line.1 in
    let number : f.number ≡ g.number = numbers f.number g.number column.1 in
    λ i. record { number = number i; at = record { file = file.0 i; line = line.0 i; column = column.0 i } }
  where
    numbers : (m n : ℕ) → nat_lt m n ≡ nat_lt n m → m ≡ n
    numbers m n alike = grind (arith, nat_tests)

lesser-turned : (f g : Finding) (p q : Bool) → precedes f g ≡ p → precedes g f ≡ q → (if q then g else f) ≡ (if p then f else g)
lesser-turned f g true true a b = same-finding g f (b ∙ sym a)
lesser-turned f g true false a b = refl
lesser-turned f g false true a b = refl
lesser-turned f g false false a b = same-finding f g (a ∙ sym b)

never-both : (p : Bool) → p ≡ true → p ≡ false → ⊥
never-both true a b = false≢true (sym b)
never-both false a b = false≢true a

-- the least of three, where `p` and `q` say which of the later two comes before the first one
least-turned : (o f g : Finding) (p q r s : Bool) → precedes f o ≡ p → precedes g o ≡ q → precedes f g ≡ r → precedes g f ≡ s
    → (if p then (if s then g else f) else (if q then g else o)) ≡ (if q then (if r then f else g) else (if p then f else o))
least-turned o f g true true r s a b c d = lesser-turned f g r s c d
least-turned o f g true false r true a b c d = absurd (never-both (precedes g o) (precedes-trans g f o d a) b)
least-turned o f g true false r false a b c d = refl
least-turned o f g false true true s a b c d = absurd (never-both (precedes f o) (precedes-trans f g o c b) a)
least-turned o f g false true false s a b c d = refl
least-turned o f g false false r s a b c d = refl

least-of-three : (o f g : Finding) (p : Bool)
    → (if precedes g (if p then f else o) then g else (if p then f else o)) ≡ (if p then (if precedes g f then g else f) else (if precedes g o then g else o))
least-of-three o f g true = refl
least-of-three o f g false = refl

with_fault-turned : (found : Option Finding) (f g : Finding) → with_fault (with_fault found f) g ≡ with_fault (with_fault found g) f
with_fault-turned None f g = ap Some (lesser-turned f g (precedes f g) (precedes g f) refl refl)
with_fault-turned (Some o) f g =
    ap Some (least-of-three o f g (precedes f o) ∙ least-turned o f g (precedes f o) (precedes g o) (precedes f g) (precedes g f) refl refl refl refl ∙ sym (least-of-three o g f (precedes g o)))

with_faults-one : (found : Option Finding) (f : Finding) (gs : List Finding) → with_faults (with_fault found f) gs ≡ with_fault (with_faults found gs) f
with_faults-one found f [] = refl
with_faults-one found f (g ∷ gs) = ap (λ o. with_faults o gs) (with_fault-turned found f g) ∙ with_faults-one (with_fault found g) f gs

-- the first fault is the same in either order
with_faults-turned : (found : Option Finding) (fs gs : List Finding) → with_faults (with_faults found fs) gs ≡ with_faults (with_faults found gs) fs
with_faults-turned found [] gs = refl
with_faults-turned found (f ∷ fs) gs = with_faults-turned (with_fault found f) fs gs ∙ ap (λ o. with_faults o fs) (with_faults-one found f gs)

pub with_faults_append : (found : Option Finding) (fs gs : List Finding) → with_faults found (fs ++ gs) ≡ with_faults (with_faults found fs) gs
with_faults_append found [] gs = refl
with_faults_append found (f ∷ fs) gs = with_faults_append (with_fault found f) fs gs

-- what is found later may stand earlier in a list
pub found_later : (found : Option Finding) (fs gs : List Finding) → with_faults found (fs ++ gs) ≡ with_faults (with_faults found gs) fs
found_later found fs gs = with_faults_append found fs gs ∙ with_faults-turned found fs gs

pub three_lists : (found : Option Finding) (fs gs hs : List Finding) → with_faults found (fs ++ (gs ++ hs)) ≡ with_faults (with_faults (with_faults found fs) gs) hs
three_lists found fs gs hs = with_faults_append found fs (gs ++ hs) ∙ with_faults_append (with_faults found fs) gs hs
