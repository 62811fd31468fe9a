-- One line more of a log, and how its audit ends.
use Rattle.std.proofs.Common.{◌≡◌, inl, inr, ◌↔◌, ℕ, Bool, ◌+◌, ◌<◌, ◌≤◌, not, true, false, List, [], ◌∷◌, ◌++◌, length, map, Option, Some, None, is_none, option_map, refl, sym, ap, subst, ◌∙◌, arith, append-nil, length-append}
use Rattle.std.proofs.lemmas.Bool.{and_parts, and_from}
use Rattle.std.proofs.lemmas.List.{map-append}
use Rattle.std.specs.List.{list_any}
use Rattle.std.specs.Io.KnownBytes.{Consumes}
use Rattle.spec_model.specs.declared.game.Label.{Label}
use Rattle.spec_model.specs.Values.{Assignment, DomainData, is_assignment, values_of, same_value}
use Rattle.spec_model.specs.Syntax.{VariableData, Specification}
use Rattle.spec_model.specs.Rules.{Run, Rules, Position, after}
use Rattle.spec_model.specs.Plays.{IsPlay}
use Rattle.spec_model.specs.Moves.{is_env, domains_of, input_domains, output_domains, broken_assumption, rules_of}
use Rattle.spec_model.specs.Games.{GameData}
use Rattle.spec_model.specs.Agreement.{Agrees}
use Rattle.spec_model.specs.GameRules.{last_state, rules_of_game}
use Rattle.spec_model.specs.FirstBroken.{line_label, first_broken_output}
use Rattle.session_lines.specs.declared.reader.Taken.{Taken}
use Rattle.session_lines.specs.declared.reader.Taken.TheVariants as taken
use Rattle.session_lines.specs.Room.{domains}
use Rattle.session_lines.specs.InputLines.{Line}
use Rattle.session_lines.specs.Shown.{inputs_of, outputs_of}
use Rattle.session_lines.specs.Reading.{Reads}
use Rattle.session_lines.specs.declared.lines.Lines.{Lines}
use Rattle.session_lines.specs.Views.{AreUnread, ended_of, pending_of}
use Rattle.session_lines.specs.Handing.{IsNext, AreFirst}
use Rattle.session_lines.proofs.HandingLemmas.{first_with, none_handed, handed_first, last_handed, Asked, tells_line, tells_long, tells_end, tells_fault}
use Rattle.trace_planes.specs.declared.audit.Audit.{Audit}
use Rattle.trace_planes.specs.declared.finding.Finding.{Finding}
use Rattle.trace_planes.specs.Audits.{IsPosition, Stands, OfEachRun, room_of}
use Rattle.trace_planes.specs.Findings.{or_else, broken_in, found_after, first_from, first_finding_in}
use Rattle.trace_planes.specs.GameFindings.{broken_in_game, first_finding}
use Rattle.session.specs.declared.auditing.AuditEnd.{AuditEnd}
use Rattle.session.specs.declared.auditing.AuditEnd.TheVariants as ends
use Rattle.session.specs.AuditTalks.{ReadsAll, ReadsPosition, ArePositions, Stops, AuditEnds, AuditTalk}
use Rattle.session.specs.Audits.{IsAuditOf, IsTold, IsPushed, IsTaken, HasRead, ReadsOn}
use Rattle.session.proofs.RunTalks.{input_domains_are, output_domains_are}

-- ---- the two parts of what a line reads as

pub record Parted (ds es : List DomainData) (z : Assignment) : Type 0 where
  pub front : Assignment
  pub back : Assignment
  pub whole : z ≡ front ++ back
  pub first : is_assignment ds front ≡ true
  pub second : is_assignment es back ≡ true

parted : (ds es : List DomainData) (z : Assignment) → is_assignment (ds ++ es) z ≡ true → Parted ds es z
parted [] es z are = record { front = []; back = z; whole = refl; first = refl; second = are }
parted (d ∷ ds) es [] are = absurd (cc)
parted (d ∷ ds) es (v ∷ vs) are =
    let parts = and_parts (list_any (same_value v) (values_of d)) (is_assignment (ds ++ es) vs) are in
    let rest = parted ds es vs parts.1 in
    record {
      front = v ∷ rest.front;
      back = rest.back;
      whole = ap (λ (l : Assignment). v ∷ l) rest.whole;
      first = and_from (list_any (same_value v) (values_of d)) (is_assignment ds rest.front) parts.0 rest.first;
      second = rest.second;
    }

-- what a line of a log reads as is a position
pub position_in : (s : Specification) (vs : List VariableData) (z : Assignment) → vs ≡ inputs_of s ++ outputs_of s → is_assignment (domains vs) z ≡ true → Parted (input_domains s) (output_domains s) z
position_in s vs z are fits =
    let of_both : domains vs ≡ domains (inputs_of s) ++ domains (outputs_of s) = ap domains are ∙ map-append (λ (v : VariableData). v.domain) (inputs_of s) (outputs_of s) in
    let split : domains vs ≡ input_domains s ++ output_domains s =
    of_both ∙ (ap (λ (ds : List DomainData). ds ++ domains (outputs_of s)) (input_domains_are s) ∙ ap (λ (ds : List DomainData). input_domains s ++ ds) (output_domains_are s)) in
    parted (input_domains s) (output_domains s) z (ap (λ (ds : List DomainData). is_assignment ds z) (sym split) ∙ fits)

pub reads_position : (s : Specification) (names : List (List ℕ)) (vs : List VariableData) (line : List ℕ) (z : Assignment) → names ≡ s.names → vs ≡ inputs_of s ++ outputs_of s → Reads names vs line z →
    (p : Parted (input_domains s) (output_domains s) z) → ReadsPosition s line p.front p.back
reads_position s names vs line z are_names are reads p =
    record {
      input = p.first;
      output = p.second;
      reads =
          subst (λ (z : Assignment). ReadsAll s line z) p.whole
          (subst (λ (vs : List VariableData). Reads s.names vs line z) are (subst (λ (names : List (List ℕ)). Reads names vs line z) are_names reads));
    }

-- ---- findings

-- where a game agrees with a specification, what is found is the specification's
found_from : (s : Specification) (g : GameData) → Agrees s g → (h ps : Run) → first_from (broken_in_game g) h ps ≡ first_from (broken_in s) h ps
found_from s g agrees h [] = refl
found_from s g agrees h (p ∷ ps) =
    let here : broken_in_game g h p ≡ broken_in s h p =
    ap (λ (l : Option Label). or_else l (first_broken_output g (last_state g h) p.input p.output)) (agrees.broken h p.input)
    ∙ ap (λ (l : Option Label). or_else (option_map line_label (broken_assumption s h p.input)) l) (agrees.broken_output h p.input p.output) in
    ap (λ (l : Option Label). or_else (found_after h l) (first_from (broken_in_game g) (h ++ p ∷ []) ps)) here
    ∙ ap (λ (f : Option Finding). or_else (found_after h (broken_in s h p)) f) (found_from s g agrees (h ++ p ∷ []) ps)

pub found_in : (s : Specification) (g : GameData) → Agrees s g → (h : Run) → first_finding g h ≡ first_finding_in s h
found_in s g agrees h = found_from s g agrees [] h

-- ---- the game of an audit

-- the end that a check gives
abbrev pub end_for : Option Finding → AuditEnd → AuditEnd
end_for None due = due
end_for (Some f) due = ends.Broken f

module _ (s : Specification) (a : Audit) (log : Run) (of : IsAuditOf a s log) where
  pub position_for : (x y z : Assignment) → z ≡ x ++ y → is_assignment (input_domains s) x ≡ true → is_assignment (output_domains s) y ≡ true → IsPosition of.0 (record { input = x; output = y }) z
  position_for x y z whole input output =
      record {
        input = ap (λ (vs : List VariableData). is_assignment (domains_of is_env vs) x) of.1.variables ∙ input;
        output = ap (λ (vs : List VariableData). is_assignment (domains_of (λ o. not (is_env o)) vs) y) of.1.variables ∙ output;
        listed = whole;
      }

  -- a check tells the first finding, or the end that is due
  pub tells : (found : Option Finding) → found ≡ first_finding of.0 log → ((is_none found ≡ true) ↔ IsPlay (rules_of_game of.0) log) → (due end : AuditEnd) → end ≡ end_for found due → IsTold s log due end
  tells None first legal due end same = inl (subst (λ (r : Rules). IsPlay r log) of.1.rules (legal.0 refl), same)
  tells (Some f) first legal due end same = inr (f, sym (first ∙ found_in s of.0 of.1 log), same)

-- ---- one position more

positions_more : (s : Specification) (lines : List (List ℕ)) (h : Run) (line : List ℕ) (x y : Assignment) → ArePositions s lines h → ReadsPosition s line x y → ArePositions s (lines ++ line ∷ []) (after h x y)
positions_more s [] [] line x y are reads = (reads, tt)
positions_more s [] (p ∷ h) line x y are reads = absurd are
positions_more s (l ∷ lines) [] line x y are reads = absurd are
positions_more s (l ∷ lines) (p ∷ h) line x y are reads = (are.0, positions_more s lines h line x y are.1 reads)

one_more : (h : Run) (x y : Assignment) → length (after h x y) ≡ length h + 1
one_more h x y = length-append h (record { input = x; output = y } ∷ [])

-- ---- how an audit ends

-- the line that follows stands behind the first ones
first_before : (given : List ℕ) (left : Option (List ℕ)) (handed : List (List ℕ)) (line : Line) → IsNext given left handed line → AreFirst given left handed
first_before given left handed line next = record { at_end = next.at_end; ended = next.ended; rest = line ∷ next.rest; follows = next.follows }

stops_first : (s : Specification) (limit : ℕ) (given : List ℕ) (left : Option (List ℕ)) (handed : List (List ℕ)) (count : ℕ) (rose_in : Type 0) (due : AuditEnd) → Stops s limit given left handed count rose_in due → AreFirst given left handed
stops_first s limit given left handed count rose_in (ends.Whole n) stops =
    record { at_end = true; ended = λ e. stops.0; rest = []; follows = stops.1 ∙ sym (append-nil (map (λ l. Some l) handed)) }
stops_first s limit given left handed count rose_in (ends.BadLine n) stops = first_before given left handed stops.0 stops.1
stops_first s limit given left handed count rose_in ends.StateLimit stops = stops.0
stops_first s limit given left handed count rose_in ends.ReadFault stops =
    record { at_end = false; ended = λ never. absurd (cc); rest = []; follows = stops.1 ∙ sym (append-nil (map (λ l. Some l) handed)) }
stops_first s limit given left handed count rose_in (ends.Broken f) stops = absurd stops

ends_legal : (s : Specification) (limit : ℕ) (given : List ℕ) (left : Option (List ℕ)) (handed : List (List ℕ)) (h : Run) (rose_in : Type 0) (due : AuditEnd) → IsPlay (rules_of s) h → Stops s limit given left handed (length h) rose_in due →
    AuditEnds s limit given left handed h rose_in due
ends_legal s limit given left handed h rose_in (ends.Whole n) play stops = (play, stops)
ends_legal s limit given left handed h rose_in (ends.BadLine n) play stops = (play, stops)
ends_legal s limit given left handed h rose_in ends.StateLimit play stops = (play, stops)
ends_legal s limit given left handed h rose_in ends.ReadFault play stops = (play, stops)
ends_legal s limit given left handed h rose_in (ends.Broken f) play stops = absurd stops

module _ (s : Specification) (limit : ℕ) (left0 left1 : Option (List ℕ)) (given : List ℕ) (taken_from : Consumes left0 left1 given) (handed : List (List ℕ)) (log : Run) (positions : ArePositions s handed log) (few : length log ≤ limit)
    (rose_in : Type 0) where
  is_broken : (f : Finding) (end : AuditEnd) → first_finding_in s log ≡ Some f → end ≡ ends.Broken f → AreFirst given left1 handed → AuditTalk s limit left0 left1 rose_in end
  is_broken f end found same first =
      subst (λ (e : AuditEnd). AuditTalk s limit left0 left1 rose_in e) (sym same)
      (record { given = given; taken_from = taken_from; handed = handed; log = log; positions = positions; few = few; ends = (found, first) })

  pub is_told : (due end : AuditEnd) → Stops s limit given left1 handed (length log) rose_in due → IsTold s log due end → AuditTalk s limit left0 left1 rose_in end
  is_told due end stops (inl legal) =
      subst (λ (e : AuditEnd). AuditTalk s limit left0 left1 rose_in e) (sym legal.1)
      (record {
        given = given;
        taken_from = taken_from;
        handed = handed;
        log = log;
        positions = positions;
        few = few;
        ends = ends_legal s limit given left1 handed log rose_in due legal.0 stops;
      })
  is_told due end stops (inr broken) = is_broken broken.0 end broken.1 broken.2 (stops_first s limit given left1 handed (length log) rose_in due stops)

-- ---- a turn

module _ (s : Specification) (a : Audit) (limit : ℕ) (left0 left1 left2 : Option (List ℕ)) (ended0 ended1 : Bool) (before line after_it : List ℕ) (count : ℕ) (so : HasRead s a ended0 left0 left1 before count) (what : Taken)
    (asks : Asked what ended1 left0 left2 so.handed line after_it) (below : count < limit) (rose_in : Type 0) where
  few_before : length so.log ≤ limit
  few_before = omega (arith, so.counted, below)

  -- no line more was read
  pub stops_at : (due end : AuditEnd) → Stops s limit asks.given left2 so.handed (length so.log) rose_in due → IsTold s so.log due end → AuditTalk s limit left0 left2 rose_in end
  stops_at due end stops told = is_told s limit left0 left2 asks.given asks.taken_from so.handed so.log so.positions few_before rose_in due end stops told

  -- what came of the line at hand ended the audit
  ends_at : (new : Audit) (end : AuditEnd) → IsNext asks.given left2 so.handed (Some line) → IsTaken s new so.log line count (Some end) → AuditTalk s limit left0 left2 rose_in end
  ends_at new end next (inl refused) =
      stops_at (ends.BadLine (count + 1)) end (Some line, next, refused.0, (omega (arith, so.counted)), (omega (arith, so.counted, below))) refused.1
  ends_at new end next (inr found) =
      let x = found.0 in
      let y = found.1 in
      let e = one_more so.log x y in
      is_broken s limit left0 left2 asks.given asks.taken_from (so.handed ++ line ∷ []) (after so.log x y) (positions_more s so.handed so.log line x y so.positions found.2) (omega (arith, e, so.counted, below)) rose_in
      found.3 end found.4 found.5 (first_with asks.given left2 so.handed line next)

  -- a line
  pub by_line : (what ≡ taken.Line) → (new : Audit) (r : Option AuditEnd) → IsTaken s new so.log line count r → ReadsOn s new limit ended1 left0 left2 after_it count rose_in r
  by_line is new None was =
      let x = was.0 in
      let y = was.1 in
      let e = one_more so.log x y in (
        record {
          handed = so.handed ++ line ∷ [];
          hands = record { given = asks.given; taken_from = asks.taken_from; so_far = tells_line what ended1 left0 left2 so.handed line after_it asks is };
          log = after so.log x y;
          positions = positions_more s so.handed so.log line x y so.positions was.2;
          counted = omega (arith, e, so.counted);
          stands = was.3.0;
        },
        was.3.1,
      )
  by_line is new (Some end) was = ends_at new end (last_handed ended1 asks.given left2 so.handed line after_it (tells_line what ended1 left0 left2 so.handed line after_it asks is)) was

  -- no line
  pub too_long : (what ≡ taken.TooLong) → (end : AuditEnd) → IsTold s so.log (ends.BadLine (count + 1)) end → AuditTalk s limit left0 left2 rose_in end
  too_long is end told =
      stops_at (ends.BadLine (count + 1)) end
      (None, tells_long what ended1 left0 left2 so.handed line after_it asks is, tt, (omega (arith, so.counted)), (omega (arith, so.counted, below))) told

  pub at_end : (what ≡ taken.Finish) → (end : AuditEnd) → IsTold s so.log (ends.Whole count) end → AuditTalk s limit left0 left2 rose_in end
  at_end is end told =
      let all = tells_end what ended1 left0 left2 so.handed line after_it asks is in
      stops_at (ends.Whole count) end (all.0, all.1, (omega (arith, so.counted)), (omega (arith, so.counted, below))) told

  pub failed : (what ≡ taken.Failed) → rose_in → (end : AuditEnd) → IsTold s so.log ends.ReadFault end → AuditTalk s limit left0 left2 rose_in end
  failed is rose end told =
      stops_at ends.ReadFault end (rose, tells_fault what ended1 left0 left2 so.handed line after_it asks is, (omega (arith, so.counted, below))) told

-- ---- the first turn, and after the last

pub nothing_read : (s : Specification) (a : Audit) (left : Option (List ℕ)) (lines : Lines) → AreUnread lines → IsAuditOf a s [] → HasRead s a (ended_of lines) left left (pending_of lines) 0
nothing_read s a left lines unread stands =
    record {
      handed = [];
      hands = none_handed left (ended_of lines) (pending_of lines) unread.not_ended unread.pending;
      log = [];
      positions = tt;
      counted = refl;
      stands = stands;
    }

-- as many lines were read as may be
pub at_limit : (s : Specification) (a : Audit) (limit count : ℕ) (ended : Bool) (left0 left1 : Option (List ℕ)) (pending : List ℕ) (rose_in : Type 0) (end : AuditEnd) → count ≡ limit → (so : HasRead s a ended left0 left1 pending count) → IsTold s so.log ends.StateLimit end →
    AuditTalk s limit left0 left1 rose_in end
at_limit s a limit count ended left0 left1 pending rose_in end reached so told =
    is_told s limit left0 left1 so.hands.given so.hands.taken_from so.handed so.log so.positions (omega (arith, so.counted, reached)) rose_in ends.StateLimit end
    (handed_first ended left0 left1 so.handed pending so.hands, so.counted ∙ reached) told

-- what rose in a part rose in the whole
stops_weaker : (s : Specification) (limit : ℕ) (given : List ℕ) (left : Option (List ℕ)) (handed : List (List ℕ)) (count : ℕ) (rose_in rose_in' : Type 0) → (rose_in → rose_in') → (due : AuditEnd) → Stops s limit given left handed count rose_in due →
    Stops s limit given left handed count rose_in' due
stops_weaker s limit given left handed count rose_in rose_in' from (ends.Whole n) so = so
stops_weaker s limit given left handed count rose_in rose_in' from (ends.BadLine n) so = so
stops_weaker s limit given left handed count rose_in rose_in' from ends.StateLimit so = so
stops_weaker s limit given left handed count rose_in rose_in' from ends.ReadFault so = (from so.0, so.1, so.2)
stops_weaker s limit given left handed count rose_in rose_in' from (ends.Broken f) so = so

audit_ends_weaker : (s : Specification) (limit : ℕ) (given : List ℕ) (left : Option (List ℕ)) (handed : List (List ℕ)) (h : Run) (rose_in rose_in' : Type 0) → (rose_in → rose_in') → (end : AuditEnd) → AuditEnds s limit given left handed h rose_in end →
    AuditEnds s limit given left handed h rose_in' end
audit_ends_weaker s limit given left handed h rose_in rose_in' from (ends.Whole n) so = so
audit_ends_weaker s limit given left handed h rose_in rose_in' from (ends.BadLine n) so = so
audit_ends_weaker s limit given left handed h rose_in rose_in' from ends.StateLimit so = so
audit_ends_weaker s limit given left handed h rose_in rose_in' from ends.ReadFault so = (so.0, stops_weaker s limit given left handed (length h) rose_in rose_in' from ends.ReadFault so.1)
audit_ends_weaker s limit given left handed h rose_in rose_in' from (ends.Broken f) so = so

pub audit_weaker : (s : Specification) (limit : ℕ) (left0 left1 : Option (List ℕ)) (rose_in rose_in' : Type 0) (end : AuditEnd) → (rose_in → rose_in') → AuditTalk s limit left0 left1 rose_in end → AuditTalk s limit left0 left1 rose_in' end
audit_weaker s limit left0 left1 rose_in rose_in' end from talk =
    record {
      given = talk.given;
      taken_from = talk.taken_from;
      handed = talk.handed;
      log = talk.log;
      positions = talk.positions;
      few = talk.few;
      ends = audit_ends_weaker s limit talk.given left1 talk.handed talk.log rose_in rose_in' from end talk.ends;
    }

-- ---- one call

-- where nothing was pushed there is room
pub room_at_first : (a : Audit) (g : GameData) → Stands a g [] → 0 < room_of a
room_at_first a g stands =
    let parts = stands.checked in
    let e = length-append parts.checked parts.waiting in
    let same = ap (λ (h : Run). length h) parts.parts in
    omega (arith, parts.counted, e, same)

-- a position was pushed
pub pushed_as : (s : Specification) (old new : Audit) (log : Run) (of : IsAuditOf old s log) (z : Assignment) → OfEachRun old (λ g h. (p : Position) → IsPosition g p z → Stands new g (h ++ p ∷ [])) → (x y : Assignment) → z ≡ x ++ y →
    is_assignment (input_domains s) x ≡ true → is_assignment (output_domains s) y ≡ true → IsAuditOf new s (after log x y)
pushed_as s old new log of z pushed x y whole input output = (of.0, of.1, pushed of.0 log of.2 (record { input = x; output = y }) (position_for s old log of x y z whole input output))

-- all positions were checked
pub checked : (s : Specification) (old new : Audit) (log : Run) (of : IsAuditOf old s log) (found : Option Finding) → found ≡ first_finding of.0 log → (found ≡ None → Stands new of.0 log) → room_of new ≡ 4096 → IsPushed s new log found
checked s old new log of None first goes_on room = ((of.0, of.1, goes_on refl), omega (arith, room))
checked s old new log of (Some f) first goes_on room = sym (first ∙ found_in s of.0 of.1 log)
