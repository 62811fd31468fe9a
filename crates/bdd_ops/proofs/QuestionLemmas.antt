-- What questions that wait lead to, for any operation over parts.
use Rattle.std.proofs.Common.{◌≡◌, ◌⊎◌, inl, inr, ℕ, ◌<◌, ◌≤◌, ◌+◌, ◌-◌, sym, ◌∙◌, ap, subst, refl, arith, List, [], ◌∷◌, ◌++◌, length}
use Rattle.bdd_store.specs.declared.edge.Edge.{Edge}
use Rattle.bdd_ops.specs.declared.frames.Frame.{Frame}
use Rattle.bdd_ops.specs.declared.frames.Waits.{Waits}
use Rattle.bdd_ops.specs.declared.frames.Waits.TheVariants.{Low, High}
use Rattle.bdd_ops.specs.declared.frames.Turn.{Turn}
use Rattle.bdd_ops.specs.declared.frames.Turn.TheVariants.{Ask, Given}
use Rattle.std.specs.List.{Contains}
use Rattle.std.proofs.lemmas.List.Elements.{Contains-append_left, Contains-append_right, Contains-append_cases, Contains-push, Contains-push_cases}
use Rattle.spec_model.specs.Diagrams.{Diagram}
use Rattle.bdd_store.specs.State.{IsEdge, IsHeldBy, diagram_of}
use Rattle.bdd_store.proofs.Held.{start_held}
use Rattle.bdd_ops.specs.Contents.{Contents}
use Rattle.bdd_ops.specs.Steps.{Works, IsSpent}
use Rattle.bdd_ops.specs.Frames.{Leads, turns, turns_waiting, turns_of_frames, turns_next, DropsTop, AwaitsHighFrom, answer_of, answers_of}
use Rattle.bdd_ops.specs.Questions.{Operation, SplitsFirst, AwaitsHigh, AwaitsPart, Awaits, Asks, AreHalves, IsAnswered, Gives, GivesTop, IsUnderWay}
use Rattle.bdd_ops.proofs.FrameLemmas.{leads_more, leads_less, leads_none, turns_some, turns_step, turns_past, waiting_some, turns_pushed}
use Rattle.bdd_ops.proofs.SpentLemmas.{spent_more, spent_less}
use Rattle.bdd_ops.proofs.StackLemmas.{answers_of-pushed}

-- ---- what is known of an operation

-- parts are live, and look at later levels
pub record HasParts {Q : Type 0} (op : Operation Q) : Type 0 where
  pub low_live : (level : ℕ) (asked low high : Q) → op.Splits level asked low high → op.IsLive low
  pub high_live : (level : ℕ) (asked low high : Q) → op.Splits level asked low high → op.IsLive high
  pub low_after : (level : ℕ) (asked low high : Q) → op.Splits level asked low high → level < op.first low
  pub high_after : (level : ℕ) (asked low high : Q) → op.Splits level asked low high → level < op.first high

-- what holds of a question and itself, and of parts of parts
pub record IsOfParts {Q : Type 0} (op : Operation Q) (R : Q → Q → Type 0) : Type 0 where
  pub itself : (q : Q) → R q q
  pub on : (a b c : Q) → R a b → R b c → R a c
  pub low : (level : ℕ) (asked low high : Q) → op.Splits level asked low high → R low asked
  pub high : (level : ℕ) (asked low high : Q) → op.Splits level asked low high → R high asked

-- parts of held questions are held
pub record IsClosed {Q : Type 0} (op : Operation Q) (Held : Q → Type 0) : Type 0 where
  pub low : (level : ℕ) (asked low high : Q) → Held asked → op.Splits level asked low high → Held low
  pub high : (level : ℕ) (asked low high : Q) → Held asked → op.Splits level asked low high → Held high

-- held questions stay with their parts, and so do their answers where these hold them
pub record Carries {Q : Type 0} (old new : Operation Q) (Held : Q → Type 0) (starts : List ℕ) : Type 0 where
  pub closed : IsClosed old Held
  pub parts_after : HasParts new
  pub levels : new.levels ≡ old.levels
  pub first : (q : Q) → Held q → new.first q ≡ old.first q
  pub live : (q : Q) → Held q → old.IsLive q → new.IsLive q
  pub splits : (level : ℕ) (asked low high : Q) → Held asked → old.Splits level asked low high → new.Splits level asked low high
  pub answers : (q : Q) (n : ℕ) → Held q → Contains starts n → old.Answers q n → new.Answers q n

-- ---- an answer for a frame

pub answered_low : {Q : Type 0} (op : Operation Q) (frame : Frame Q) (high : Q) (n : ℕ) → frame.waits ≡ Low high → IsAnswered op frame n → AwaitsHigh op frame.level frame.asked n high
answered_low {Q} op frame high n waits has = record {
  low_part = has.part;
  parts = subst (λ (w : Waits Q). AwaitsPart op frame.level frame.asked w has.part) waits has.awaits;
  low_is = has.answer_is;
}

pub answered_high : {Q : Type 0} (op : Operation Q) (frame : Frame Q) (low : Edge) (n : ℕ) → frame.waits ≡ High low → IsAnswered op frame n → AreHalves op frame.level frame.asked low.0 n
answered_high {Q} op frame low n waits has = record {
  high_part = has.part;
  awaits = subst (λ (w : Waits Q). AwaitsPart op frame.level frame.asked w has.part) waits has.awaits;
  high_is = has.answer_is;
}

-- ---- what a frame awaits is a part of its question

awaited_within : {Q : Type 0} (op : Operation Q) (R : Q → Q → Type 0) (level : ℕ) (asked : Q) (waits : Waits Q) (part : Q) → IsOfParts op R → AwaitsPart op level asked waits part → R part asked
awaited_within op R level asked (Low high) part of is = of.low level asked part high is.splits
awaited_within op R level asked (High low) part of is = of.high level asked is.low_part part is.parts.splits

-- what frames lead to is a part of the whole question
led_within : {Q : Type 0} (op : Operation Q) (R : Q → Q → Type 0) (whole : Q) (frames : List (Frame Q)) (part : Q) → IsOfParts op R → Leads (Awaits op) whole frames part → R part whole
led_within {Q} op R whole [] part of leads = subst (λ (q : Q). R q whole) (sym leads) (of.itself whole)
led_within {Q} op R whole (frame ∷ frames) part of leads =
    let next : R leads.0 whole = subst (λ (q : Q). R leads.0 q) leads.1 (awaited_within op R frame.level frame.asked frame.waits leads.0 of leads.2) in
    of.on part leads.0 whole (led_within op R leads.0 frames part of leads.3) next

-- ---- what is held

awaited_held : {Q : Type 0} (op : Operation Q) (Held : Q → Type 0) (level : ℕ) (asked : Q) (waits : Waits Q) (part : Q) → IsClosed op Held → Held asked → AwaitsPart op level asked waits part → Held part
awaited_held op Held level asked (Low high) part closed held is = closed.low level asked part high held is.splits
awaited_held op Held level asked (High low) part closed held is = closed.high level asked is.low_part part held is.parts.splits

-- what frames lead to is held where the whole question is
led_held : {Q : Type 0} (op : Operation Q) (Held : Q → Type 0) (whole : Q) (frames : List (Frame Q)) (part : Q) → IsClosed op Held → Held whole → Leads (Awaits op) whole frames part → Held part
led_held op Held whole [] part closed held leads = subst Held (sym leads) held
led_held op Held whole (frame ∷ frames) part closed held leads =
    led_held op Held leads.0 frames part closed (awaited_held op Held frame.level frame.asked frame.waits leads.0 closed (subst Held (sym leads.1) held) leads.2) leads.3

-- ---- what is kept while nodes come

parts_stay : {Q : Type 0} (old new : Operation Q) (Held : Q → Type 0) (starts : List ℕ) (level : ℕ) (asked low high : Q) → Carries old new Held starts → Held asked → SplitsFirst old level asked low high → SplitsFirst new level asked low high
parts_stay old new Held starts level asked low high carries held is = record {
  below = subst (λ (n : ℕ). level < n) (sym carries.levels) is.below;
  is_first = is.is_first ∙ sym (carries.first asked held);
  live = carries.live asked held is.live;
  splits = carries.splits level asked low high held is.splits;
}

pub awaits_stays : {Q : Type 0} (old new : Operation Q) (Held : Q → Type 0) (starts : List ℕ) (level : ℕ) (asked : Q) (waits : Waits Q) (part : Q) → Carries old new Held starts → Held asked → ((n : ℕ) → Contains (answer_of waits) n → Contains starts n) → AwaitsPart old level asked waits part → AwaitsPart new level asked waits part
awaits_stays old new Held starts level asked (Low high) part carries held among is = parts_stay old new Held starts level asked part high carries held is
awaits_stays old new Held starts level asked (High low) part carries held among is = record {
  low_part = is.low_part;
  parts = parts_stay old new Held starts level asked is.low_part part carries held is.parts;
  low_is = carries.answers is.low_part low.0 (carries.closed.low level asked is.low_part part held is.parts.splits) (among low.0 (Contains-push [] low.0)) is.low_is;
}

led_stays : {Q : Type 0} (old new : Operation Q) (Held : Q → Type 0) (starts : List ℕ) (whole : Q) (frames : List (Frame Q)) (part : Q) → Carries old new Held starts → Held whole → ((n : ℕ) → Contains (answers_of frames) n → Contains starts n) → Leads (Awaits old) whole frames part → Leads (Awaits new) whole frames part
led_stays old new Held starts whole [] part carries held among leads = leads
led_stays old new Held starts whole (frame ∷ frames) part carries held among leads =
    let asked : Held frame.asked = subst Held (sym leads.1) held in (
      leads.0,
      leads.1,
      awaits_stays old new Held starts frame.level frame.asked frame.waits leads.0 carries asked (λ n there. among n (Contains-append_left (answer_of frame.waits) (answers_of frames) n there)) leads.2,
      led_stays old new Held starts leads.0 frames part carries (awaited_held old Held frame.level frame.asked frame.waits leads.0 carries.closed asked leads.2) (λ n there. among n (Contains-append_right (answer_of frame.waits) (answers_of frames) n there)) leads.3,
    )

-- ---- the answers that frames keep

no_entry : (n : ℕ) → Contains [] n → ⊥
no_entry n there = omega (arith, there.1)

own_result : {Q : Type 0} (op : Operation Q) (R : Q → Q → Type 0) (level : ℕ) (asked : Q) (waits : Waits Q) (part : Q) (n : ℕ) → IsOfParts op R → AwaitsPart op level asked waits part → Contains (answer_of waits) n → (q : Q) × R q asked × op.Answers q n
own_result op R level asked (Low high) part n of is there = absurd (no_entry n there)
own_result op R level asked (High low) part n of is there =
    let one : low.0 ≡ n = elim (Contains-push_cases [] low.0 n there) [ inl before ↦ absurd (no_entry n before) | inr same ↦ same ] in
    (is.low_part, of.low level asked is.low_part part is.parts.splits, subst (op.Answers is.low_part) one is.low_is)

-- each is the answer of a part of the whole question
pub kept_results : {Q : Type 0} (op : Operation Q) (R : Q → Q → Type 0) (whole : Q) (frames : List (Frame Q)) (part : Q) (n : ℕ) → IsOfParts op R → Leads (Awaits op) whole frames part → Contains (answers_of frames) n → (q : Q) × R q whole × op.Answers q n
kept_results op R whole [] part n of leads there = absurd (no_entry n there)
kept_results {Q} op R whole (frame ∷ frames) part n of leads there = elim (Contains-append_cases (answer_of frame.waits) (answers_of frames) n there) [
  | inl own ↦
      let is = own_result op R frame.level frame.asked frame.waits leads.0 n of leads.2 own in
      (is.0, subst (λ (q : Q). R is.0 q) leads.1 is.1, is.2)
  | inr behind ↦
      let is = kept_results op R leads.0 frames part n of leads.3 behind in
      let next : R leads.0 whole = subst (λ (q : Q). R leads.0 q) leads.1 (awaited_within op R frame.level frame.asked frame.waits leads.0 of leads.2) in
      (is.0, of.on is.0 leads.0 whole is.1 next, is.2)
]

-- ---- the turns

-- after a question
asked_on : {Q : Type 0} (op : Operation Q) (whole asked : Q) (before after : List (Frame Q)) (turn : Turn Q) → HasParts op → Leads (Awaits op) whole before asked → Asks op asked before after turn → IsUnderWay op whole after turn
asked_on {Q} op whole asked before after (Ask low) has leads is = (
  has.low_live is.level asked low is.high is.parts.splits,
  subst (λ (fs : List (Frame Q)). Leads (Awaits op) whole fs low) (sym is.pushed) (leads_more (Awaits op) whole before (record { asked = asked; level = is.level; waits = Low is.high }) low leads is.parts),
)
asked_on {Q} op whole asked before after (Given edge) has leads is =
    (asked, subst (λ (fs : List (Frame Q)). Leads (Awaits op) whole fs asked) (sym is.0) leads, is.1)

-- after an answer
given_on : {Q : Type 0} (op : Operation Q) (whole : Q) (frame : Frame Q) (before after : List (Frame Q)) (turn : Turn Q) → HasParts op → Leads (Awaits op) whole before frame.asked → Gives op frame before after turn → IsUnderWay op whole after turn
given_on {Q} op whole frame before after (Ask high) has leads is = (
  has.high_live frame.level frame.asked is.awaits.low_part high is.awaits.parts.splits,
  subst (λ (fs : List (Frame Q)). Leads (Awaits op) whole fs high) (sym is.pushed)
      (leads_more (Awaits op) whole before (record { asked = frame.asked; level = frame.level; waits = High is.low }) high leads is.awaits),
)
given_on {Q} op whole frame before after (Given edge) has leads is =
    (frame.asked, subst (λ (fs : List (Frame Q)). Leads (Awaits op) whole fs frame.asked) (sym is.0) leads, is.1)

-- ---- fewer turns are left

asked_fewer : {Q : Type 0} (op : Operation Q) (asked : Q) (before after : List (Frame Q)) (turn : Turn Q) → HasParts op → Asks op asked before after turn →
    turns_next op.levels op.first turn + turns_of_frames op.levels after < turns (op.levels - op.first asked) + turns_of_frames op.levels before
asked_fewer {Q} op asked before after (Ask low) has is =
    let frame : Frame Q = record { asked = asked; level = is.level; waits = Low is.high } in
    let now : turns_of_frames op.levels after ≡ turns_of_frames op.levels before + (2 + turns (op.levels - (is.level + 1))) = ap (turns_of_frames op.levels) is.pushed ∙ turns_pushed op.levels before frame in
    let here : turns (op.levels - op.first asked) ≡ 3 + (turns (op.levels - (is.level + 1)) + turns (op.levels - (is.level + 1))) = ap (λ k. turns (op.levels - k)) (sym is.parts.is_first) ∙ turns_step op.levels is.level is.parts.below in
    let past : turns (op.levels - op.first low) ≤ turns (op.levels - (is.level + 1)) = turns_past op.levels is.level (op.first low) (has.low_after is.level asked low is.high is.parts.splits) in
    rw (now, here) (omega arith)
asked_fewer op asked before after (Given edge) has is =
    let some : 1 ≤ turns (op.levels - op.first asked) = turns_some (op.levels - op.first asked) in
    rw is.0 (omega arith)

given_fewer : {Q : Type 0} (op : Operation Q) (frame : Frame Q) (rest after : List (Frame Q)) (turn : Turn Q) → HasParts op → Gives op frame rest after turn →
    turns_next op.levels op.first turn + turns_of_frames op.levels after < turns_of_frames op.levels (rest ++ frame ∷ [])
given_fewer {Q} op frame rest after (Ask high) has is =
    let next : Frame Q = record { asked = frame.asked; level = frame.level; waits = High is.low } in
    let now : turns_of_frames op.levels after ≡ turns_of_frames op.levels rest + 1 = ap (turns_of_frames op.levels) is.pushed ∙ turns_pushed op.levels rest next in
    let here : turns_of_frames op.levels (rest ++ frame ∷ []) ≡ turns_of_frames op.levels rest + (2 + turns (op.levels - (frame.level + 1))) = turns_pushed op.levels rest frame ∙ ap (λ (w : Waits Q). turns_of_frames op.levels rest + turns_waiting (op.levels - (frame.level + 1)) w) is.waited in
    let past : turns (op.levels - op.first high) ≤ turns (op.levels - (frame.level + 1)) = turns_past op.levels frame.level (op.first high) (has.high_after frame.level frame.asked is.awaits.low_part high is.awaits.parts.splits) in
    rw (now, here) (omega arith)
given_fewer op frame rest after (Given edge) has is =
    let some : 1 ≤ turns_waiting (op.levels - (frame.level + 1)) frame.waits = waiting_some (op.levels - (frame.level + 1)) frame.waits in
    rw (is.0, turns_pushed op.levels rest frame) (omega arith)

-- ---- the loop's steps

-- nothing waits at first
pub begins : {Q : Type 0} (op : Operation Q) (whole : Q) (frames : List (Frame Q)) → op.IsLive whole → frames ≡ [] → IsUnderWay op whole frames (Ask whole)
begins {Q} op whole frames live none = (live, subst (λ (fs : List (Frame Q)). Leads (Awaits op) whole fs whole) (sym none) refl)

is_asked : {Q : Type 0} (op : Operation Q) (whole asked : Q) (frames : List (Frame Q)) (turn : Turn Q) → turn ≡ Ask asked → IsUnderWay op whole frames turn → op.IsLive asked × Leads (Awaits op) whole frames asked
is_asked {Q} op whole asked frames turn is under_way = subst (λ (t : Turn Q). IsUnderWay op whole frames t) is under_way

is_given : {Q : Type 0} (op : Operation Q) (whole : Q) (edge : Edge) (frames : List (Frame Q)) (turn : Turn Q) → turn ≡ Given edge → IsUnderWay op whole frames turn → (asked : Q) × Leads (Awaits op) whole frames asked × op.Answers asked edge.0
is_given {Q} op whole edge frames turn is under_way = subst (λ (t : Turn Q). IsUnderWay op whole frames t) is under_way

pub asked_live : {Q : Type 0} (op : Operation Q) (whole asked : Q) (frames : List (Frame Q)) (turn : Turn Q) → turn ≡ Ask asked → IsUnderWay op whole frames turn → op.IsLive asked
asked_live op whole asked frames turn is under_way = (is_asked op whole asked frames turn is under_way).0

pub asked_within : {Q : Type 0} (op : Operation Q) (R : Q → Q → Type 0) (whole asked : Q) (frames : List (Frame Q)) (turn : Turn Q) → IsOfParts op R → turn ≡ Ask asked → IsUnderWay op whole frames turn → R asked whole
asked_within op R whole asked frames turn of is under_way = led_within op R whole frames asked of (is_asked op whole asked frames turn is under_way).1

pub asked_held : {Q : Type 0} (op : Operation Q) (Held : Q → Type 0) (whole asked : Q) (frames : List (Frame Q)) (turn : Turn Q) → IsClosed op Held → Held whole → turn ≡ Ask asked → IsUnderWay op whole frames turn → Held asked
asked_held op Held whole asked frames turn closed held is under_way = led_held op Held whole frames asked closed held (is_asked op whole asked frames turn is under_way).1

-- where nothing changes
pub asked_goes_on : {Q : Type 0} (op : Operation Q) (whole asked : Q) (before after : List (Frame Q)) (turn next : Turn Q) → HasParts op → turn ≡ Ask asked → IsUnderWay op whole before turn → Asks op asked before after next → IsUnderWay op whole after next
asked_goes_on op whole asked before after turn next has is under_way asks = asked_on op whole asked before after next has (is_asked op whole asked before turn is under_way).1 asks

-- and where nodes come
pub asked_goes_behind : {Q : Type 0} (old new : Operation Q) (Held : Q → Type 0) (starts : List ℕ) (whole asked : Q) (before after : List (Frame Q)) (turn next : Turn Q) → Carries old new Held starts → Held whole → ((n : ℕ) → Contains (answers_of before) n → Contains starts n) → turn ≡ Ask asked → IsUnderWay old whole before turn → Asks new asked before after next → IsUnderWay new whole after next
asked_goes_behind old new Held starts whole asked before after turn next carries held among is under_way asks =
    asked_on new whole asked before after next carries.parts_after (led_stays old new Held starts whole before asked carries held among (is_asked old whole asked before turn is under_way).1) asks

asked_less : {Q : Type 0} (old new : Operation Q) (asked : Q) (before after : List (Frame Q)) (turn next : Turn Q) → HasParts new → new.levels ≡ old.levels → new.first asked ≡ old.first asked → turn ≡ Ask asked → Asks new asked before after next →
    turns_next new.levels new.first next + turns_of_frames new.levels after < turns_next old.levels old.first turn + turns_of_frames old.levels before
asked_less {Q} old new asked before after turn next has levels first is asks =
    let left : ℕ = turns_next new.levels new.first next + turns_of_frames new.levels after in
    let same_levels : left < turns (old.levels - new.first asked) + turns_of_frames old.levels before = subst (λ (n : ℕ). left < turns (n - new.first asked) + turns_of_frames n before) levels (asked_fewer new asked before after next has asks) in
    let here : left < turns (old.levels - old.first asked) + turns_of_frames old.levels before = subst (λ (n : ℕ). left < turns (old.levels - n) + turns_of_frames old.levels before) first same_levels in
    subst (λ (t : Turn Q). left < turns_next old.levels old.first t + turns_of_frames old.levels before) (sym is) here

pub asked_ends : {Q : Type 0} (op : Operation Q) (asked : Q) (before after : List (Frame Q)) (turn next : Turn Q) → HasParts op → turn ≡ Ask asked → Asks op asked before after next →
    turns_next op.levels op.first next + turns_of_frames op.levels after < turns_next op.levels op.first turn + turns_of_frames op.levels before
asked_ends op asked before after turn next has is asks = asked_less op op asked before after turn next has refl refl is asks

pub asked_ends_behind : {Q : Type 0} (old new : Operation Q) (Held : Q → Type 0) (starts : List ℕ) (whole asked : Q) (before after : List (Frame Q)) (turn next : Turn Q) → Carries old new Held starts → Held whole → turn ≡ Ask asked → IsUnderWay old whole before turn → Asks new asked before after next →
    turns_next new.levels new.first next + turns_of_frames new.levels after < turns_next old.levels old.first turn + turns_of_frames old.levels before
asked_ends_behind old new Held starts whole asked before after turn next carries held is under_way asks =
    asked_less old new asked before after turn next carries.parts_after carries.levels (carries.first asked (asked_held old Held whole asked before turn carries.closed held is under_way)) is asks

-- where no frame waits, the answer is the whole question's
pub whole_given : {Q : Type 0} (op : Operation Q) (whole : Q) (edge : Edge) (frames : List (Frame Q)) (turn : Turn Q) → length frames ≡ 0 → turn ≡ Given edge → IsUnderWay op whole frames turn → op.Answers whole edge.0
whole_given {Q} op whole edge frames turn none is under_way =
    let at = is_given op whole edge frames turn is under_way in
    subst (λ (q : Q). op.Answers q edge.0) (leads_none (Awaits op) whole frames at.0 none at.1) at.2

given_leads : {Q : Type 0} (op : Operation Q) (whole : Q) (edge : Edge) (all rest : List (Frame Q)) (frame : Frame Q) (turn : Turn Q) → turn ≡ Given edge → all ≡ rest ++ frame ∷ [] → IsUnderWay op whole all turn → Leads (Awaits op) whole rest frame.asked × IsAnswered op frame edge.0
given_leads {Q} op whole edge all rest frame turn is popped under_way =
    let at = is_given op whole edge all turn is under_way in
    let less = leads_less (Awaits op) whole rest frame at.0 (subst (λ (fs : List (Frame Q)). Leads (Awaits op) whole fs at.0) popped at.1) in
    (less.0, record { part = at.0; awaits = less.1; answer_is = at.2 })

-- the frame on top is answered
pub given_answers : {Q : Type 0} (op : Operation Q) (whole : Q) (edge : Edge) (all rest : List (Frame Q)) (frame : Frame Q) (turn : Turn Q) → turn ≡ Given edge → all ≡ rest ++ frame ∷ [] → IsUnderWay op whole all turn → IsAnswered op frame edge.0
given_answers op whole edge all rest frame turn is popped under_way = (given_leads op whole edge all rest frame turn is popped under_way).1

pub given_within : {Q : Type 0} (op : Operation Q) (R : Q → Q → Type 0) (whole : Q) (edge : Edge) (all rest : List (Frame Q)) (frame : Frame Q) (turn : Turn Q) → IsOfParts op R → turn ≡ Given edge → all ≡ rest ++ frame ∷ [] → IsUnderWay op whole all turn → R frame.asked whole
given_within op R whole edge all rest frame turn of is popped under_way =
    led_within op R whole rest frame.asked of (given_leads op whole edge all rest frame turn is popped under_way).0

pub given_held : {Q : Type 0} (op : Operation Q) (Held : Q → Type 0) (whole : Q) (edge : Edge) (all rest : List (Frame Q)) (frame : Frame Q) (turn : Turn Q) → IsClosed op Held → Held whole → turn ≡ Given edge → all ≡ rest ++ frame ∷ [] → IsUnderWay op whole all turn → Held frame.asked
given_held op Held whole edge all rest frame turn closed held is popped under_way =
    led_held op Held whole rest frame.asked closed held (given_leads op whole edge all rest frame turn is popped under_way).0

-- what the rest keeps is among what all keep
rest_among : {Q : Type 0} (all rest : List (Frame Q)) (frame : Frame Q) (starts : List ℕ) → all ≡ rest ++ frame ∷ [] → ((n : ℕ) → Contains (answers_of all) n → Contains starts n) → (n : ℕ) → Contains (answers_of rest) n → Contains starts n
rest_among all rest frame starts popped among n there =
    among n (subst (λ (xs : List ℕ). Contains xs n) (sym (ap answers_of popped ∙ answers_of-pushed rest frame)) (Contains-append_left (answers_of rest) (answer_of frame.waits) n there))

pub given_goes_on : {Q : Type 0} (old new : Operation Q) (Held : Q → Type 0) (starts : List ℕ) (whole : Q) (edge : Edge) (all rest after : List (Frame Q)) (frame : Frame Q) (turn next : Turn Q) → Carries old new Held starts → Held whole → ((n : ℕ) → Contains (answers_of all) n → Contains starts n) → turn ≡ Given edge → all ≡ rest ++ frame ∷ [] → IsUnderWay old whole all turn → Gives new frame rest after next → IsUnderWay new whole after next
given_goes_on old new Held starts whole edge all rest after frame turn next carries held among is popped under_way gives =
    given_on new whole frame rest after next carries.parts_after (led_stays old new Held starts whole rest frame.asked carries held (rest_among all rest frame starts popped among) (given_leads old whole edge all rest frame turn is popped under_way).0) gives

pub given_ends : {Q : Type 0} (old new : Operation Q) (edge : Edge) (all rest after : List (Frame Q)) (frame : Frame Q) (turn next : Turn Q) → HasParts new → new.levels ≡ old.levels → turn ≡ Given edge → all ≡ rest ++ frame ∷ [] → Gives new frame rest after next →
    turns_next new.levels new.first next + turns_of_frames new.levels after < turns_next old.levels old.first turn + turns_of_frames old.levels all
given_ends {Q} old new edge all rest after frame turn next has levels is popped gives =
    let left : ℕ = turns_next new.levels new.first next + turns_of_frames new.levels after in
    let same_levels : left < turns_of_frames old.levels (rest ++ frame ∷ []) = subst (λ (n : ℕ). left < turns_of_frames n (rest ++ frame ∷ [])) levels (given_fewer new frame rest after next has gives) in
    let before : left < turns_of_frames old.levels all = subst (λ (fs : List (Frame Q)). left < turns_of_frames old.levels fs) (sym popped) same_levels in
    let here : left < 0 + turns_of_frames old.levels all = omega (arith, before) in
    subst (λ (t : Turn Q). left < turns_next old.levels old.first t + turns_of_frames old.levels all) (sym is) here

-- what frames keep is on the stack
pub on_stack : {Q : Type 0} (base stack : List ℕ) (frames : List (Frame Q)) → stack ≡ base ++ answers_of frames → (n : ℕ) → Contains (answers_of frames) n → Contains stack n
on_stack base stack frames is n there = subst (λ (xs : List ℕ). Contains xs n) (sym is) (Contains-append_right base (answers_of frames) n there)

-- ---- a store that is spent

-- while frames wait for what frames lead to: what they keep are results of the whole question's parts
pub spent_below : {Q : Type 0} (op : Operation Q) (R : Q → Q → Type 0) (whole part : Q) (frames : List (Frame Q)) (now new : Contents) (base stack : List ℕ) (First MayMake : Diagram → Type 0) → IsOfParts op R → Leads (Awaits op) whole frames part → stack ≡ base ++ answers_of frames → Works now new stack →
    ((q : Q) (n : ℕ) → R q whole → op.Answers q n → IsEdge now.state n × MayMake (diagram_of now.state n)) → ((d : Diagram) → First d → MayMake d) → IsSpent new stack First → IsSpent new base MayMake
spent_below {Q} op R whole part frames now new base stack First MayMake of leads is_stack works result more spent =
    spent_less new base (answers_of frames) MayMake each (subst (λ (xs : List ℕ). IsSpent new xs MayMake) is_stack (spent_more new stack First MayMake more spent))
  where
    each : (n : ℕ) → Contains (answers_of frames) n → IsEdge new.state n → IsHeldBy new.state base n ⊎ MayMake (diagram_of new.state n)
    each n there live =
        let kept = kept_results op R whole frames part n of leads there in
        let is = result kept.0 n kept.1 kept.2 in
        let stays = works.keeps.held n (start_held now.state stack n (inr (on_stack base stack frames is_stack n there)) is.0) in
        inr (subst MayMake (sym stays.1) is.1)

pub spent_asking : {Q : Type 0} (op : Operation Q) (R : Q → Q → Type 0) (whole asked : Q) (frames : List (Frame Q)) (turn : Turn Q) (now new : Contents) (base stack : List ℕ) (First MayMake : Diagram → Type 0) → IsOfParts op R → turn ≡ Ask asked → IsUnderWay op whole frames turn → stack ≡ base ++ answers_of frames → Works now new stack →
    ((q : Q) (n : ℕ) → R q whole → op.Answers q n → IsEdge now.state n × MayMake (diagram_of now.state n)) → (R asked whole → (d : Diagram) → First d → MayMake d) → IsSpent new stack First → IsSpent new base MayMake
spent_asking op R whole asked frames turn now new base stack First MayMake of is under_way is_stack works result more spent =
    let leads = (is_asked op whole asked frames turn is under_way).1 in
    spent_below op R whole asked frames now new base stack First MayMake of leads is_stack works result (more (led_within op R whole frames asked of leads)) spent

pub spent_giving : {Q : Type 0} (op : Operation Q) (R : Q → Q → Type 0) (whole : Q) (edge : Edge) (all rest : List (Frame Q)) (frame : Frame Q) (turn : Turn Q) (now new : Contents) (base stack : List ℕ) (First MayMake : Diagram → Type 0) → IsOfParts op R → turn ≡ Given edge → all ≡ rest ++ frame ∷ [] → IsUnderWay op whole all turn → stack ≡ base ++ answers_of all → Works now new stack →
    ((q : Q) (n : ℕ) → R q whole → op.Answers q n → IsEdge now.state n × MayMake (diagram_of now.state n)) → (R frame.asked whole → (d : Diagram) → First d → MayMake d) → IsSpent new stack First → IsSpent new base MayMake
spent_giving op R whole edge all rest frame turn now new base stack First MayMake of is popped under_way is_stack works result more spent =
    let at = is_given op whole edge all turn is under_way in
    spent_below op R whole at.0 all now new base stack First MayMake of at.1 is_stack works result (more (given_within op R whole edge all rest frame turn of is popped under_way)) spent

-- ---- what a frame gives

-- the low part's answer is put on the stack
pub gives_low : {Q : Type 0} (old new : Operation Q) (Held : Q → Type 0) (base : List ℕ) (frame : Frame Q) (edge : Edge) (high : Q) (before after : List (Frame Q)) → Carries old new Held (base ++ edge.0 ∷ []) → Held frame.asked → frame.waits ≡ Low high → IsAnswered old frame edge.0 → AwaitsHighFrom frame edge before after → GivesTop new frame before after (Ask high)
gives_low old new Held base frame edge high before after carries held waits answered awaits rest is_top = record {
  low = edge;
  pushed = awaits rest is_top;
  waited = waits;
  awaits = awaits_stays old new Held (base ++ edge.0 ∷ []) frame.level frame.asked (High edge) high carries held (λ n there. Contains-append_right base (edge.0 ∷ []) n there) (answered_low old frame high edge.0 waits answered);
}

-- the frame's question is answered
pub gives_whole : {Q : Type 0} (new : Operation Q) (frame : Frame Q) (edge : Edge) (before after : List (Frame Q)) → DropsTop before after → new.Answers frame.asked edge.0 → GivesTop new frame before after (Given edge)
gives_whole new frame edge before after drops is rest is_top = (drops rest frame is_top, is)
