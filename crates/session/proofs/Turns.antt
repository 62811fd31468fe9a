-- One line more of a talk, and how a talk ends.
use Rattle.std.proofs.Common.{◌≡◌, ℕ, Bool, false, ◌+◌, ◌<◌, ◌≤◌, List, [], ◌∷◌, ◌++◌, length, take, Option, Some, None, refl, sym, subst, ◌∙◌, arith, append-nil, length-append}
use Rattle.std.proofs.KnownBytes.{Appends-nil, Appends-trans}
use Rattle.std.specs.Io.KnownBytes.{Appends}
use Rattle.std.proofs.Math.Seq.{take-append-add}
use Rattle.sp_outside.specs.Causes.{Rose}
use Rattle.sp_outside.specs.Written.{AppendsFront}
use Rattle.spec_model.specs.declared.game.Label.{Label}
use Rattle.session_lines.specs.declared.reader.Taken.{Taken}
use Rattle.session_lines.specs.declared.reader.Taken.TheVariants as taken
use Rattle.session_lines.specs.Handing.{IsNext}
use Rattle.session_lines.specs.Handed.{HasHanded}
use Rattle.session_lines.proofs.HandingLemmas.{first_with, none_handed, handed_first, last_handed, Asked, tells_line, tells_long, tells_end, tells_fault}
use Rattle.session.specs.declared.protocol.Reply.{Reply}
use Rattle.session.specs.declared.protocol.Reply.TheVariants as replies
use Rattle.session.specs.declared.talking.End.{End}
use Rattle.session.specs.declared.talking.End.TheVariants as ends
use Rattle.session.specs.Exchanges.{Terms, Ends, Wrote, Exchanges, opened, answered, Talk, SoFar, Answer, RepliesTo, Replies, IsMet, HasEnded, GoesOn}

one_longer : (handed : List (List ℕ)) (line : List ℕ) → length (handed ++ line ∷ []) ≡ length handed + 1
one_longer handed line = length-append handed (line ∷ [])

nothing_more : (a b c : Option (List ℕ)) (text : List ℕ) → Appends a b text → Appends b c [] → Appends a c text
nothing_more a b c text first second = subst (Appends a c) (append-nil text) (Appends-trans a b c text [] first second)

pub front_more : (a b c : Option (List ℕ)) (text more : List ℕ) → Appends a b text → AppendsFront b c more → AppendsFront a c (text ++ more)
front_more a b c text more first front = (
  length text + front.0,
  subst (Appends a c) (sym (take-append-add text more front.0)) (Appends-trans a b c text (take front.0 more) first front.1),
)

-- the whole text is written
abbrev WritesAll : End → Type 0
WritesAll ends.WriteFault = ⊥
WritesAll _ = Unit {0}

wrote_all : (end : End) → WritesAll end → (old new : Option (List ℕ)) (text : List ℕ) → Appends old new text → Wrote end old new text
wrote_all ends.Finished all old new text wrote = wrote
wrote_all (ends.Broken label) all old new text wrote = wrote
wrote_all (ends.BadLine n) all old new text wrote = wrote
wrote_all ends.StateLimit all old new text wrote = wrote
wrote_all ends.ReadFault all old new text wrote = wrote
wrote_all ends.WriteFault all old new text wrote = absurd all

module _ {State Read : Type 0} (t : Terms State Read) (first : State) (left0 left1 left2 written0 written1 : Option (List ℕ)) (ended0 ended1 : Bool) (before line after : List ℕ) (count limit : ℕ)
    (Stands : State → Type 0) (so : SoFar t Stands first ended0 left0 left1 written0 written1 before count) (what : Taken) (asks : Asked what ended1 left0 left2 so.handed line after) where
  -- ---- a line that is answered

  module _ (Stands' : State → Type 0) (x : Read) (reads : t.ReadsAs line x) (a : Answer t Stands' so.last x) where
    exchanges_more : Exchanges t first (so.handed ++ line ∷ []) (so.texts ++ a.text) a.next
    exchanges_more = answered so.handed so.texts so.last line x a.text a.next so.exchanges reads a.legal a.answers

    goes_on : HasHanded ended1 asks.given left2 (so.handed ++ line ∷ []) after → (written2 : Option (List ℕ)) → Appends written1 written2 a.text → SoFar t Stands' first ended1 left0 left2 written0 written2 after (count + 1)
    goes_on handed written2 wrote =
        record {
          handed = so.handed ++ line ∷ [];
          hands = record { given = asks.given; taken_from = asks.taken_from; so_far = handed };
          texts = so.texts ++ a.text;
          last = a.next;
          exchanges = exchanges_more;
          counted = (let e = one_longer so.handed line in omega (arith, e, so.counted));
          wrote = Appends-trans written0 written1 written2 so.texts a.text so.wrote wrote;
          stands = a.stands;
        }

    is_cut : IsNext asks.given left2 so.handed (Some line) → count < limit → (written2 : Option (List ℕ)) → AppendsFront written1 written2 a.text → (rose_in rose_out : Type 0) → rose_out → Talk t first limit left0 left2 written0 written2 rose_in rose_out ends.WriteFault
    is_cut next below written2 part rose_in rose_out rose =
        let e = one_longer so.handed line in
        record {
          given = asks.given;
          taken_from = asks.taken_from;
          handed = so.handed ++ line ∷ [];
          texts = so.texts ++ a.text;
          last = a.next;
          exchanges = exchanges_more;
          few = omega (arith, e, so.counted, below);
          wrote = front_more written0 written1 written2 so.texts a.text so.wrote part;
          ends = (rose, first_with asks.given left2 so.handed line next);
        }

  -- ---- no line more is answered

  stops : (written2 : Option (List ℕ)) → Appends written1 written2 [] → count < limit → (rose_in rose_out : Type 0) (end : End) → WritesAll end →
      Ends t.ReadsAs (t.first_broken so.last) limit asks.given left2 so.handed (length so.handed) rose_in rose_out end → Talk t first limit left0 left2 written0 written2 rose_in rose_out end
  stops written2 none below rose_in rose_out end all how =
      record {
        given = asks.given;
        taken_from = asks.taken_from;
        handed = so.handed;
        texts = so.texts;
        last = so.last;
        exchanges = so.exchanges;
        few = omega (arith, so.counted, below);
        wrote = wrote_all end all written0 written2 so.texts (nothing_more written0 written1 written2 so.texts so.wrote none);
        ends = how;
      }

  module _ (below : count < limit) where
    -- what came of the line at hand
    module _ (Stands' : State → Type 0) (written2 : Option (List ℕ)) (rose_in rose_out : Type 0) where
      met_last : IsNext asks.given left2 so.handed (Some line) → (end : End) → IsMet t Stands' so.last written1 written2 rose_out count line (Some end) → HasEnded t Stands' first limit left0 left2 written0 written2 rose_in rose_out end
      met_last next (ends.BadLine n) met =
          let reply = met.1 in
          record {
            talk = stops written2 reply.1 below rose_in rose_out (ends.BadLine n) tt (Some line, next, reply.0, (omega (arith, so.counted, met.0)), (omega (arith, so.counted, below)));
            state = so.last;
            stands = reply.2;
          }
      met_last next (ends.Broken label) met =
          let reply = met.2 in
          record {
            talk = stops written2 reply.1 below rose_in rose_out (ends.Broken label) tt (line, met.0, next, met.1, reply.0, (omega (arith, so.counted, below)));
            state = so.last;
            stands = reply.2;
          }
      met_last next ends.WriteFault met =
          let reply = met.2 in
          record { talk = is_cut Stands' met.0 met.1 reply.0 next below written2 reply.1 rose_in rose_out reply.2; state = reply.0.next; stands = reply.0.stands }
      met_last next ends.Finished met = absurd met
      met_last next ends.StateLimit met = absurd met
      met_last next ends.ReadFault met = absurd met

      pub by_line : (what ≡ taken.Line) → (r : Option End) → IsMet t Stands' so.last written1 written2 rose_out count line r → GoesOn t Stands' first limit ended1 left0 left2 written0 written2 rose_in rose_out after count r
      by_line is None met = let reply = met.2 in goes_on Stands' met.0 met.1 reply.0 (tells_line what ended1 left0 left2 so.handed line after asks is) written2 reply.1
      by_line is (Some end) met = met_last (last_handed ended1 asks.given left2 so.handed line after (tells_line what ended1 left0 left2 so.handed line after asks is)) end met

    -- no line
    module _ (rose_in rose_out : Type 0) where
      has_ended : (end : End) → Talk t first limit left0 left2 written0 written1 rose_in rose_out end → HasEnded t Stands first limit left0 left2 written0 written1 rose_in rose_out end
      has_ended end talk = record { talk = talk; state = so.last; stands = so.stands }

      pub too_long : (what ≡ taken.TooLong) → GoesOn t Stands first limit ended1 left0 left2 written0 written1 rose_in rose_out after count (Some (ends.BadLine (count + 1)))
      too_long is =
          has_ended (ends.BadLine (count + 1))
          (stops written1 (Appends-nil written1) below rose_in rose_out (ends.BadLine (count + 1)) tt
          (None, tells_long what ended1 left0 left2 so.handed line after asks is, tt, (omega (arith, so.counted)), (omega (arith, so.counted, below))))

      pub at_end : (what ≡ taken.Finish) → GoesOn t Stands first limit ended1 left0 left2 written0 written1 rose_in rose_out after count (Some ends.Finished)
      at_end is =
          let all = tells_end what ended1 left0 left2 so.handed line after asks is in
          has_ended ends.Finished (stops written1 (Appends-nil written1) below rose_in rose_out ends.Finished tt (all.0, all.1, (omega (arith, so.counted, below))))

      pub failed : (what ≡ taken.Failed) → rose_in → GoesOn t Stands first limit ended1 left0 left2 written0 written1 rose_in rose_out after count (Some ends.ReadFault)
      failed is rose =
          has_ended ends.ReadFault
          (stops written1 (Appends-nil written1) below rose_in rose_out ends.ReadFault tt (rose, tells_fault what ended1 left0 left2 so.handed line after asks is, (omega (arith, so.counted, below))))

-- what came of what was read came of the line
pub replied : {State Read : Type 0} (t : Terms State Read) (Stands : State → Type 0) (st : State) (old new : Option (List ℕ)) (rose_out : Type 0) (line : List ℕ) (x : Read) → t.ReadsAs line x → (r : Reply) →
    RepliesTo t Stands st old new rose_out x r → Replies t Stands st old new rose_out line r
replied t Stands st old new rose_out line x reads replies.Answered reply = (x, reads, reply)
replied t Stands st old new rose_out line x reads (replies.Broken label) reply = (x, reads, reply)
replied t Stands st old new rose_out line x reads replies.Failed reply = (x, reads, reply)
replied t Stands st old new rose_out line x reads replies.Refused reply = absurd reply

-- ---- before the first line, and at the limit

module _ {State Read : Type 0} (t : Terms State Read) (Stands : State → Type 0) (first : State) (left written0 written1 : Option (List ℕ)) (ended : Bool) (pending : List ℕ) (not_ended : ended ≡ false) (fresh : pending ≡ []) (text : List ℕ) (next : State) (opens : t.Opens first text next) where
  pub begun : Stands next → Appends written0 written1 text → SoFar t Stands first ended left left written0 written1 pending 0
  begun stands wrote =
      record {
        handed = [];
        hands = none_handed left ended pending not_ended fresh;
        texts = text;
        last = next;
        exchanges = opened text next opens;
        counted = refl;
        wrote = wrote;
        stands = stands;
      }

  pub cut_at_once : Stands next → (limit : ℕ) (rose_in rose_out : Type 0) → rose_out → AppendsFront written0 written1 text → HasEnded t Stands first limit left left written0 written1 rose_in rose_out ends.WriteFault
  cut_at_once stands limit rose_in rose_out rose part =
      let hands = none_handed left ended pending not_ended fresh in
      let talk : Talk t first limit left left written0 written1 rose_in rose_out ends.WriteFault =
      record {
        given = hands.given;
        taken_from = hands.taken_from;
        handed = [];
        texts = text;
        last = next;
        exchanges = opened text next opens;
        few = omega arith;
        wrote = part;
        ends = (rose, handed_first ended left left [] pending hands);
      } in
      record { talk = talk; state = next; stands = stands }

-- a talk that has the limit's number of lines
pub at_limit : {State Read : Type 0} (t : Terms State Read) (Stands : State → Type 0) (first : State) (ended : Bool) (left0 left1 written0 written1 : Option (List ℕ)) (pending : List ℕ) (count limit : ℕ) → count ≡ limit → (rose_in rose_out : Type 0) →
    SoFar t Stands first ended left0 left1 written0 written1 pending count → HasEnded t Stands first limit left0 left1 written0 written1 rose_in rose_out ends.StateLimit
at_limit t Stands first ended left0 left1 written0 written1 pending count limit reached rose_in rose_out so =
    let talk : Talk t first limit left0 left1 written0 written1 rose_in rose_out ends.StateLimit =
    record {
      given = so.hands.given;
      taken_from = so.hands.taken_from;
      handed = so.handed;
      texts = so.texts;
      last = so.last;
      exchanges = so.exchanges;
      few = omega (arith, so.counted, reached);
      wrote = so.wrote;
      ends = (so.counted ∙ reached, handed_first ended left0 left1 so.handed pending so.hands);
    } in
    record { talk = talk; state = so.last; stands = so.stands }

-- ---- causes

-- a count that rose since later rose since earlier
pub rose_earlier : (first before now : ℕ) → first ≤ before → Rose before now → Rose first now
rose_earlier first before now later rose = omega (arith, later, rose)

-- what rose in a part rose in the whole
pub ends_weaker : {Read : Type 0} (ReadsAs : List ℕ → Read → Type 0) (first_broken : Read → Option Label) (limit : ℕ) (given : List ℕ) (left : Option (List ℕ)) (handed : List (List ℕ)) (count : ℕ) (rose_in rose_out rose_in' rose_out' : Type 0) →
    (rose_in → rose_in') → (rose_out → rose_out') → (end : End) → Ends ReadsAs first_broken limit given left handed count rose_in rose_out end → Ends ReadsAs first_broken limit given left handed count rose_in' rose_out' end
ends_weaker ReadsAs first_broken limit given left handed count rose_in rose_out rose_in' rose_out' from_in from_out ends.Finished so = so
ends_weaker ReadsAs first_broken limit given left handed count rose_in rose_out rose_in' rose_out' from_in from_out (ends.Broken label) so = so
ends_weaker ReadsAs first_broken limit given left handed count rose_in rose_out rose_in' rose_out' from_in from_out (ends.BadLine n) so = so
ends_weaker ReadsAs first_broken limit given left handed count rose_in rose_out rose_in' rose_out' from_in from_out ends.StateLimit so = so
ends_weaker ReadsAs first_broken limit given left handed count rose_in rose_out rose_in' rose_out' from_in from_out ends.ReadFault so = (from_in so.0, so.1, so.2)
ends_weaker ReadsAs first_broken limit given left handed count rose_in rose_out rose_in' rose_out' from_in from_out ends.WriteFault so = (from_out so.0, so.1)

pub ended_since : {State Read : Type 0} (t : Terms State Read) (Stands : State → Type 0) (first : State) (left0 left1 written0 written1 : Option (List ℕ)) (limit in0 in1 in2 out0 out1 out2 : ℕ) (end : End) → in0 ≤ in1 → out0 ≤ out1 →
    HasEnded t Stands first limit left0 left1 written0 written1 (Rose in1 in2) (Rose out1 out2) end → HasEnded t Stands first limit left0 left1 written0 written1 (Rose in0 in2) (Rose out0 out2) end
ended_since t Stands first left0 left1 written0 written1 limit in0 in1 in2 out0 out1 out2 end later_in later_out ended =
    let talk = ended.talk in
    let since : Talk t first limit left0 left1 written0 written1 (Rose in0 in2) (Rose out0 out2) end =
    record {
      given = talk.given;
      taken_from = talk.taken_from;
      handed = talk.handed;
      texts = talk.texts;
      last = talk.last;
      exchanges = talk.exchanges;
      few = talk.few;
      wrote = talk.wrote;
      ends = ends_weaker t.ReadsAs (t.first_broken talk.last) limit talk.given left1 talk.handed (length talk.handed) (Rose in1 in2) (Rose out1 out2) (Rose in0 in2) (Rose out0 out2)
          (rose_earlier in0 in1 in2 later_in) (rose_earlier out0 out1 out2 later_out) end talk.ends;
    } in
    record { talk = since; state = ended.state; stands = ended.stands }
