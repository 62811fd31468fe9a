-- What the stack holds while frames wait.
use Rattle.std.proofs.Common.{◌≡◌, ℕ, ◌<◌, sym, ◌∙◌, ap, subst, refl, arith, List, [], ◌∷◌, ◌++◌, length, take, ◌≤◌, Option, Some, None}
use Rattle.std.specs.Prelude.{MatchOption}
use Rattle.std.proofs.Math.Seq.{take-append_seam}
use Rattle.std.proofs.lemmas.List.{append-nil, append_assoc}
use Rattle.bdd_store.specs.declared.edge.Edge.{Edge}
use Rattle.bdd_ops.specs.declared.frames.Frame.{Frame}
use Rattle.bdd_ops.specs.declared.frames.Waits.{Waits}
use Rattle.bdd_ops.specs.declared.frames.Waits.TheVariants.{Low, High}
use Rattle.bdd_ops.specs.declared.frames.Turn.{Turn}
use Rattle.bdd_ops.specs.declared.frames.Turn.TheVariants.{Ask, Given}
use Rattle.bdd_ops.specs.Frames.{IsTop, DropsTop, AwaitsHighFrom, IsOver, MovesStack, answer_of, answers_of}
use Rattle.bdd_ops.specs.Questions.{Operation, Asks}
use Rattle.bdd_ops.proofs.FrameLemmas.{top_some, top_dropped}

-- one frame more keeps one answer more, or none
pub answers_of-pushed : {Q : Type 0} (frames : List (Frame Q)) (frame : Frame Q) → answers_of (frames ++ frame ∷ []) ≡ answers_of frames ++ answer_of frame.waits
answers_of-pushed [] frame = append-nil (answer_of frame.waits)
answers_of-pushed (first ∷ frames) frame =
    ap (λ (xs : List ℕ). answer_of first.waits ++ xs) (answers_of-pushed frames frame) ∙ sym (append_assoc (answer_of first.waits) (answers_of frames) (answer_of frame.waits))

-- nothing waits at first
pub stack_begins : {Q : Type 0} (stack : List ℕ) (frames : List (Frame Q)) → frames ≡ [] → stack ≡ stack ++ answers_of frames
stack_begins {Q} stack frames none = subst (λ (fs : List (Frame Q)). stack ≡ stack ++ answers_of fs) (sym none) (sym (append-nil stack))

-- a question that waits for its low part keeps no answer
pub asked_answers : {Q : Type 0} (op : Operation Q) (asked : Q) (before after : List (Frame Q)) (turn : Turn Q) → Asks op asked before after turn → answers_of after ≡ answers_of before
asked_answers {Q} op asked before after (Ask low) is =
    ap answers_of is.pushed ∙ (answers_of-pushed before (record { asked = asked; level = is.level; waits = Low is.high }) ∙ append-nil (answers_of before))
asked_answers {Q} op asked before after (Given edge) is = ap answers_of is.0

pub stack_asked : {Q : Type 0} (op : Operation Q) (asked : Q) (base stack : List ℕ) (before after : List (Frame Q)) (turn : Turn Q) → stack ≡ base ++ answers_of before → Asks op asked before after turn → stack ≡ base ++ answers_of after
stack_asked op asked base stack before after turn is asks = is ∙ ap (λ (xs : List ℕ). base ++ xs) (sym (asked_answers op asked before after turn asks))

-- the frame on top
answers_on_top : {Q : Type 0} (before rest : List (Frame Q)) (frame : Frame Q) (waits : Waits Q) → before ≡ rest ++ frame ∷ [] → frame.waits ≡ waits → answers_of before ≡ answers_of rest ++ answer_of waits
answers_on_top {Q} before rest frame waits is_top is_waits = ap answers_of is_top ∙ (answers_of-pushed rest frame ∙ ap (λ (w : Waits Q). answers_of rest ++ answer_of w) is_waits)

-- it gets the answer of its low part, which is put on the stack
pub moves_low : {Q : Type 0} (frame : Frame Q) (low : Edge) (high : Q) (before after : List (Frame Q)) (old new : List ℕ) → IsTop before frame → frame.waits ≡ Low high → AwaitsHighFrom frame low before after → new ≡ old ++ low.0 ∷ [] → MovesStack before after old new
moves_low {Q} frame low high before after old new top waits awaits pushed base is =
    let next : Frame Q = record { asked = frame.asked; level = frame.level; waits = High low } in
    let had : answers_of before ≡ answers_of top.rest = answers_on_top before top.rest frame (Low high) top.is waits ∙ append-nil (answers_of top.rest) in
    let has : answers_of after ≡ answers_of top.rest ++ low.0 ∷ [] = ap answers_of (awaits top.rest top.is) ∙ answers_of-pushed top.rest next in
    pushed ∙ (ap (λ (xs : List ℕ). xs ++ low.0 ∷ []) (is ∙ ap (λ (xs : List ℕ). base ++ xs) had) ∙ (append_assoc base (answers_of top.rest) (low.0 ∷ []) ∙ ap (λ (xs : List ℕ). base ++ xs) (sym has)))

-- it goes, and with it the answer that it kept
pub moves_high : {Q : Type 0} (frame : Frame Q) (low : Edge) (before after : List (Frame Q)) (old mid new : List ℕ) → IsTop before frame → frame.waits ≡ High low → DropsTop before after → mid ≡ old → ((base : List ℕ) (e : ℕ) → mid ≡ base ++ e ∷ [] → new ≡ base) → MovesStack before after old new
moves_high {Q} frame low before after old mid new top waits drops same popped base is =
    let had : answers_of before ≡ answers_of top.rest ++ low.0 ∷ [] = answers_on_top before top.rest frame (High low) top.is waits in
    let left : answers_of after ≡ answers_of top.rest = ap answers_of (drops top.rest frame top.is) in
    popped (base ++ answers_of top.rest) low.0 (same ∙ (is ∙ (ap (λ (xs : List ℕ). base ++ xs) had ∙ sym (append_assoc base (answers_of top.rest) (low.0 ∷ [])))))
    ∙ ap (λ (xs : List ℕ). base ++ xs) (sym left)

-- it goes, and kept none
pub moves_settled : {Q : Type 0} (frame : Frame Q) (high : Q) (before after : List (Frame Q)) (old new : List ℕ) → IsTop before frame → frame.waits ≡ Low high → DropsTop before after → new ≡ old → MovesStack before after old new
moves_settled {Q} frame high before after old new top waits drops same base is =
    let had : answers_of before ≡ answers_of top.rest = answers_on_top before top.rest frame (Low high) top.is waits ∙ append-nil (answers_of top.rest) in
    let left : answers_of after ≡ answers_of top.rest = ap answers_of (drops top.rest frame top.is) in
    same ∙ (is ∙ ap (λ (xs : List ℕ). base ++ xs) (had ∙ sym left))

-- what came on top of the stack is cut off
pub cut_back : (old mid new : List ℕ) (depth : ℕ) → depth ≡ length old → IsOver old mid → new ≡ take depth mid → new ≡ old
cut_back old mid new depth is_depth over cut =
    cut ∙ (ap (λ (n : ℕ). take n mid) is_depth ∙ (ap (take (length old)) over.1 ∙ take-append_seam old over.0))

-- the last that was taken off is the last that was put on
pub popped_rest : (old new : List ℕ) (r : Option Edge) → MatchOption r ((old ≡ []) × (new ≡ [])) (λ e. old ≡ new ++ e.0 ∷ []) → (base : List ℕ) (e : ℕ) → old ≡ base ++ e ∷ [] → new ≡ base
popped_rest old new (Some last) popped base e is = sym (top_dropped old new last.0 popped) ∙ top_dropped old base e is
popped_rest old new None none base e is =
    let some : 1 ≤ length old = top_some old e (record { rest = base; is = is }) in
    let long : length old ≡ 0 = ap length none.0 in
    absurd (omega (arith, some, long))
