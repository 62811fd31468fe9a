-- What frames lead to, as they come and go.
use Rattle.std.proofs.Common.{◌≡◌, ℕ, zero, suc, ◌<◌, ◌≤◌, ◌+◌, ◌-◌, sym, ◌∙◌, ap, subst, refl, arith, min, List, [], ◌∷◌, ◌++◌, length, length-append, take, set, slice_get, Some}
use Rattle.std.proofs.Math.Seq.{take-append_seam}
use Rattle.std.proofs.lemmas.List.{set-append_right}
use Rattle.bdd_ops.specs.declared.frames.Frame.{Frame}
use Rattle.bdd_ops.specs.declared.frames.Waits.{Waits}
use Rattle.bdd_ops.specs.declared.frames.Waits.TheVariants.{Low, High}
use Rattle.bdd_ops.specs.Frames.{Leads, IsTop, turns, turns_waiting, turns_of_frames}

-- one frame more leads to a part of what was asked
pub leads_more : {Q : Type 0} (Awaits : Frame Q → Q → Type 0) (whole : Q) (frames : List (Frame Q)) (frame : Frame Q) (part : Q) → Leads Awaits whole frames frame.asked → Awaits frame part → Leads Awaits whole (frames ++ frame ∷ []) part
leads_more Awaits whole [] frame part leads awaits = (part, leads, awaits, refl)
leads_more Awaits whole (first ∷ frames) frame part leads awaits =
    (leads.0, leads.1, leads.2, leads_more Awaits leads.0 frames frame part leads.3 awaits)

-- without it they lead to its question
pub leads_less : {Q : Type 0} (Awaits : Frame Q → Q → Type 0) (whole : Q) (frames : List (Frame Q)) (frame : Frame Q) (part : Q) → Leads Awaits whole (frames ++ frame ∷ []) part → Leads Awaits whole frames frame.asked × Awaits frame part
leads_less Awaits whole [] frame part leads = (leads.1, subst (Awaits frame) (sym leads.3) leads.2)
leads_less Awaits whole (first ∷ frames) frame part leads =
    let rest = leads_less Awaits leads.0 frames frame part leads.3 in
    ((leads.0, leads.1, leads.2, rest.0), rest.1)

-- where no frame waits, the question is the whole one
pub leads_none : {Q : Type 0} (Awaits : Frame Q → Q → Type 0) (whole : Q) (frames : List (Frame Q)) (part : Q) → length frames ≡ 0 → Leads Awaits whole frames part → part ≡ whole
leads_none Awaits whole [] part none leads = leads
leads_none Awaits whole (first ∷ frames) part none leads = absurd (omega arith)

-- ---- the frame on top

-- one more in front leaves it there
top_behind : {X : Type 0} (xs : List X) (x y : X) → IsTop xs x → IsTop (y ∷ xs) x
top_behind {X} xs x y top = record { rest = y ∷ top.rest; is = ap (λ (l : List X). y ∷ l) top.is }

-- a list's last item is on top
pub ends_in : {X : Type 0} (xs : List X) (x : X) → slice_get xs (length xs - 1) ≡ Some x → IsTop xs x
ends_in [] x is = absurd (cc)
ends_in {X} (y ∷ []) x is =
    let same : y ≡ x = cc in record { rest = []; is = ap (λ (z : X). z ∷ []) same }
ends_in {X} (y ∷ z ∷ zs) x is =
    let one : length (y ∷ z ∷ zs) - 1 ≡ suc (length (z ∷ zs) - 1) = omega arith in
    top_behind (z ∷ zs) x y (ends_in (z ∷ zs) x (subst (λ (n : ℕ). slice_get (y ∷ z ∷ zs) n ≡ Some x) one is))

top_length : {X : Type 0} (rest : List X) (x : X) → length (rest ++ x ∷ []) ≡ length rest + 1
top_length rest x = length-append rest (x ∷ [])

pub top_some : {X : Type 0} (xs : List X) (x : X) → IsTop xs x → 1 ≤ length xs
top_some xs x top = let long : length xs ≡ length top.rest + 1 = ap length top.is ∙ top_length top.rest x in omega (arith, long)

-- the list without it
pub top_dropped : {X : Type 0} (xs rest : List X) (x : X) → xs ≡ rest ++ x ∷ [] → take (length xs - 1) xs ≡ rest
top_dropped {X} xs rest x is =
    let long : length xs - 1 ≡ length rest = let all : length xs ≡ length rest + 1 = ap length is ∙ top_length rest x in omega (arith, all) in
    ap (λ (n : ℕ). take n xs) long ∙ (ap (take (length rest)) is ∙ take-append_seam rest (x ∷ []))

-- the list with another in its place
pub top_changed : {X : Type 0} (xs rest : List X) (x y : X) → xs ≡ rest ++ x ∷ [] → set xs (length xs - 1) y ≡ rest ++ y ∷ []
top_changed {X} xs rest x y is =
    let long : length xs - 1 ≡ length rest = let all : length xs ≡ length rest + 1 = ap length is ∙ top_length rest x in omega (arith, all) in
    let none : length rest - length rest ≡ 0 = omega arith in
    ap (λ (n : ℕ). set xs n y) long ∙ (ap (λ (l : List X). set l (length rest) y) is ∙ (set-append_right rest (x ∷ []) (length rest) (length rest) y refl (omega arith) ∙ ap (λ (n : ℕ). rest ++ set (x ∷ []) n y) none))

-- ---- turns

pub turns_some : (n : ℕ) → 1 ≤ turns n
turns_some zero = omega arith
turns_some (suc n) = omega arith

pub turns_more : (m n : ℕ) → m ≤ n → turns m ≤ turns n
turns_more zero n le = turns_some n
turns_more (suc m) zero le = absurd (omega arith)
turns_more (suc m) (suc n) le =
    let less : turns m ≤ turns n = turns_more m n (omega arith) in omega arith

-- a question at a level takes three turns more than two questions past it
pub turns_step : (levels level : ℕ) → level < levels → turns (levels - level) ≡ 3 + (turns (levels - (level + 1)) + turns (levels - (level + 1)))
turns_step levels level below =
    let same : levels - level ≡ suc (levels - (level + 1)) = omega arith in ap turns same

-- a question past a level takes no more turns than one just behind it
pub turns_past : (levels level first : ℕ) → level < first → turns (levels - first) ≤ turns (levels - (level + 1))
turns_past levels level first after = turns_more (levels - first) (levels - (level + 1)) (omega arith)

pub waiting_some : {Q : Type 0} (n : ℕ) (waits : Waits Q) → 1 ≤ turns_waiting n waits
waiting_some n (Low high) = omega arith
waiting_some n (High low) = omega arith

pub turns_pushed : {Q : Type 0} (levels : ℕ) (frames : List (Frame Q)) (frame : Frame Q) → turns_of_frames levels (frames ++ frame ∷ []) ≡ turns_of_frames levels frames + turns_waiting (levels - (frame.level + 1)) frame.waits
turns_pushed levels [] frame = omega arith
turns_pushed levels (first ∷ frames) frame =
    let rest : turns_of_frames levels (frames ++ frame ∷ []) ≡ turns_of_frames levels frames + turns_waiting (levels - (frame.level + 1)) frame.waits = turns_pushed levels frames frame in
    omega arith

-- ---- levels

pub least_after : (level x y z : ℕ) → level < x → level < y → level < z → level < min (min x y) z
least_after level x y z before_x before_y before_z = omega arith
