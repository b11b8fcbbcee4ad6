-- A packet that is in a queue after the last frame was neither sent nor cleared: numbers that are past do not come back.
use Rattle.std.proofs.Common.{◌≡◌, ℕ, zero, suc, ◌+◌, ◌<◌, ◌≤◌, List, [], ◌∷◌, ◌++◌, Bool, true, false, cond, ◌==◌, Option, Some, None, AllPairs}
use Rattle.std.proofs.Common.{Contains, filter, filter_map, find, flat_map, fold, if◌then◌else◌, inl, inr, refl, sym, ◌∙◌, ap, subst, arith}
use Rattle.std.specs.Prelude.{slice_set}
use Rattle.std.specs.List.{slice_index_or}
use Rattle.std.specs.Option.{option_map_or}
use Rattle.std.proofs.lemmas.Bool.{and_from, and_parts, eq-eqb, eqb-true, false≢true}
use Rattle.std.proofs.lemmas.List.{append_assoc}
use Rattle.std.proofs.lemmas.List.Elements.{All-contains, Contains-append_right}
use Rattle.lwb_base.specs.Messages.{Plan}
use Rattle.lwb_base.proofs.Elements.{contains_cases, contains_head, contains_tail, filter_from, from_flat, not_in_none, pairs_head, pairs_tail}
use Rattle.lwb_base.proofs.NumbersOfRanges.{from_range}
use Rattle.scenario_text.specs.ScenarioFacts.{IsScriptLine, IsSoundScenario}
use Rattle.scenario_text.specs.ScenarioParts.{ScenarioParts}
use Rattle.scenario_text.specs.declared.script.ScriptLine.{ScriptLine}
use Rattle.bus_rules.specs.declared.act.Act.{Act}
use Rattle.bus_rules.specs.declared.act.Act.TheVariants.{On, Off, Declare, Leave, Put}
use Rattle.bus_rules.specs.States.{State, StateOff, StateOn, state_after_act}
use Rattle.bus_rules.specs.Streams.{Stream, WaitingPacket, emptied, no_stream, stream_at}
use Rattle.bus_terms.specs.Bus.{before_frame, frames_of, ranks_of, state_at}
use Rattle.bus_terms.specs.Fates.{clears, empties, is_packet, packet_delivered}
use Rattle.bus_terms.specs.Packets.{bus_sent, round_sent, sent_in_slot}
use Rattle.bus_terms.specs.Rounds.{round_plan, rounds, slots_of}
use Rattle.bus_terms.specs.ScriptedStates.{state_after_line}
use Rattle.bus_terms.specs.declared.packets.PacketId.{PacketId}
use Rattle.bus_terms.specs.declared.packets.SentPacket.{SentPacket}
use Rattle.bus_terms.proofs.NumberedStreams.{IsNumbered, Rises}
use Rattle.bus_terms.proofs.NumbersKept.{IsPast, ended_keeps, lines_keep}
use Rattle.bus_terms.proofs.OrderedDeliveries.{IsFrom, frames_keep, past_frame, rounds_keep}
use Rattle.bus_terms.proofs.SamePackets.{same_packet}
use Rattle.law_packets.specs.Waiting.{HasQueued}
use Rattle.law_packets.proofs.KeptPackets.{has_in, never_off}
use Rattle.law_packets.proofs.LaterPackets.{sent_by}
use Rattle.law_packets.proofs.ToldLines.{IsPutBy, is_told, state_told, told_more}
use Rattle.law_packets.proofs.UsedNumbers.{AreUsed, used_below}

-- what is found is there, and passes
pub found : {X : Type 0} (p : X → Bool) (xs : List X) (x : X) → find p xs ≡ Some x → Contains xs x × (p x ≡ true)
found p [] x is = absurd (cc)
found {X} p (z ∷ zs) x is = by_test (p z) refl is (found p zs x)
  where
    by_test : (b : Bool) → p z ≡ b → cond b (Some z) (find p zs) ≡ Some x → (find p zs ≡ Some x → Contains zs x × (p x ≡ true))
        → Contains (z ∷ zs) x × (p x ≡ true)
    by_test true at is rest = let same : z ≡ x = cc in (subst (Contains (z ∷ zs)) same (contains_head z zs), ap p (sym same) ∙ at)
    by_test false at is rest = let later = rest is in (contains_tail z zs x later.0, later.1)

-- those before it and those behind it
pub around : {X : Type 0} (xs : List X) (x : X) → Contains xs x → (before : List X) × (behind : List X) × (xs ≡ before ++ x ∷ behind)
around [] x there = absurd (not_in_none x there)
around {X} (z ∷ zs) x there =
    elim (contains_cases z zs x there) [
      | inl same ↦ ([], zs, ap (λ (w : X). w ∷ zs) same)
      | inr later ↦ (let rest = around zs x later in (z ∷ rest.0, rest.1, ap (λ (ws : List X). z ∷ ws) rest.2))
    ]

pub behind_of : {X : Type 0} (R : X → X → Type 0) (above rest : List X) (x z : X) → AllPairs R (above ++ x ∷ rest) → Contains rest z → R x z
behind_of R [] rest x z pairs there = pairs_head R x rest pairs z there
behind_of R (w ∷ above) rest x z pairs there = behind_of R above rest x z (pairs_tail R w (above ++ x ∷ rest) pairs) there

from_low : (low : ℕ) (ws : List WaitingPacket) (next : ℕ) → Rises low ws next → (w : WaitingPacket) → Contains ws w → low ≤ w.seq
from_low low [] next is w there = absurd (not_in_none w there)
from_low low (v ∷ vs) next is w there =
    elim (contains_cases v vs w there) [
      | inl same ↦ (let at = ap (λ (u : WaitingPacket). u.seq) same in let low_is = is.0 in omega (arith, at, low_is))
      | inr later ↦ (let above = from_low (v.seq + 1) vs next is.1 w later in let low_is = is.0 in omega (arith, above, low_is))
    ]

emptied_numbers : (low : ℕ) (xs : List Stream) (k : ℕ) → low ≤ (slice_index_or xs k no_stream).next
    → IsNumbered low (slice_index_or (slice_set xs k (emptied (slice_index_or xs k no_stream))) k no_stream)
emptied_numbers low [] k is = is
emptied_numbers low (x ∷ xs) zero is = is
emptied_numbers low (x ∷ xs) (suc k) is = emptied_numbers low xs k is

module _ (y : PacketId) where
  -- numbers of its boot are above its own
  abbrev pub IsOver : State → Type 0
  IsOver x = IsPast y.boot y.stream (y.seq + 1) x

  over_queue : (x : State) → IsOver x → HasQueued x y → ⊥
  over_queue (StateOff boots) over is = never_off y boots is
  over_queue (StateOn c) over is =
      let h = has_in y c is in
      let q = stream_at c.streams y.stream in
      let above = from_low (y.seq + 1) q.queue q.next (over.1 h.boot) h.waiting h.there in
      let number = h.number in
      omega (arith, above, number)

  -- an act that empties its queue, where its number is used
  act_over : (a : Act) (x : State) → empties y.stream a ≡ true → AreUsed y.boot y.stream (y.seq + 1) x → IsOver (state_after_act a x)
  act_over On x is used = absurd (false≢true is)
  act_over Off (StateOff boots) is used = used
  act_over Off (StateOn c) is used = used.0
  act_over (Declare k interval) x is used = absurd (false≢true is)
  act_over (Leave k) (StateOff boots) is used = used
  act_over (Leave k) (StateOn c) is used = (
    used.0,
    λ boot.
        subst (λ (i : ℕ). IsNumbered (y.seq + 1)
        (slice_index_or (slice_set c.streams.all i (emptied (slice_index_or c.streams.all i no_stream))) y.stream no_stream))
        (eqb-true y.stream k is) (emptied_numbers (y.seq + 1) c.streams.all y.stream (used.1 boot)),
  )
  act_over (Put k payload) x is used = absurd (false≢true is)

  module _ (s : ScenarioParts) where
    -- what is over in a frame is over at the end
    pub over_at_end : (f : ℕ) → f < s.frames → IsOver (before_frame s (suc f) y.node) → HasQueued (before_frame s s.frames y.node) y → ⊥
    over_at_end f early over =
        over_queue (before_frame s s.frames y.node)
        ((frames_keep s y.node (suc f) s.frames (omega (arith, early))).past y.boot y.stream (y.seq + 1) over)

    told_over : (f : ℕ) (above rest : List ScriptLine) → s.script ≡ above ++ rest → IsOver (state_told s y.node f above)
        → IsOver (before_frame s (suc f) y.node)
    unfolding before_frame
    told_over f above rest whole over =
        let v = y.node in
        let told : IsOver (fold state_after_line (state_told s v f above) (filter (is_told s v f) rest)) =
        (lines_keep (filter (is_told s v f) rest) (state_told s v f above)).past y.boot y.stream (y.seq + 1) over in
        let at : IsOver (state_at s f v) = subst IsOver (sym (ap (state_told s v f) whole ∙ told_more s v f above rest)) told in
        (ended_keeps s f v (rounds s f (state_at s f))).past y.boot y.stream (y.seq + 1)
        ((rounds_keep s f v (state_at s f)).past y.boot y.stream (y.seq + 1) at)

    -- line l puts it, and line m below empties its queue
    module _ (above mid rest : List ScriptLine) (l m : ScriptLine) (whole : s.script ≡ above ++ l ∷ (mid ++ m ∷ rest)) (ascends : l.frame ≤ m.frame)
        (puts : IsPutBy l (state_told s l.node l.frame above) y) (cleared : clears y m ≡ true) where
      at_node : m.node ≡ y.node
      at_node = eqb-true m.node y.node (and_parts (m.node == y.node) (empties y.stream m.act) cleared).0

      abbrev upper : List ScriptLine
      upper = above ++ l ∷ mid

      used : AreUsed y.boot y.stream (y.seq + 1) (state_told s y.node m.frame upper)
      used =
          subst (λ (v : ℕ). AreUsed y.boot y.stream (y.seq + 1) (state_told s v m.frame upper)) at_node
          (used_below s above mid rest l m y whole puts (sym puts.node ∙ sym at_node) ascends)

      emptied_then : IsOver (state_told s y.node m.frame (upper ++ m ∷ []))
      emptied_then =
          let before = state_told s y.node m.frame upper in
          let told : is_told s y.node m.frame m ≡ true =
          and_from (m.node == y.node) (m.frame == m.frame) (eq-eqb m.node y.node at_node) (eq-eqb m.frame m.frame refl) in
          subst IsOver
          (sym (told_more s y.node m.frame upper (m ∷ []) ∙ ap (λ (b : Bool). fold state_after_line before (if b then m ∷ [] else [])) told))
          (act_over m.act before (and_parts (m.node == y.node) (empties y.stream m.act) cleared).1 used)

      pub cleared_over : IsOver (before_frame s (suc m.frame) y.node)
      cleared_over =
          told_over m.frame (upper ++ m ∷ []) rest
          (whole ∙ sym (append_assoc above (l ∷ mid) (m ∷ rest)) ∙ sym (append_assoc upper (m ∷ []) rest)) emptied_then

    -- it is sent
    sent_over : (t : SentPacket) → Contains (bus_sent s) t → is_packet y t.packet ≡ true → (f : ℕ) × (f < s.frames) × IsOver (before_frame s (suc f) y.node)
    sent_over t there is =
        let frame = from_flat (λ f. flat_map (λ rank. round_sent s rank f (state_at s f)) (ranks_of s)) (frames_of s) t there in
        let rank = from_flat (λ rank. round_sent s rank frame.0 (state_at s frame.0)) (ranks_of s) t frame.2 in
        let early = from_range 0 s.frames frame.0 frame.1 in
        (frame.0, omega (arith, early), by_plan rank.0 frame.0 (round_plan s rank.0 frame.0 (state_at s frame.0)) refl rank.2)
      where
        by_plan : (rank f : ℕ) (o : Option Plan) → round_plan s rank f (state_at s f) ≡ o
            → Contains (option_map_or (λ p. filter_map (sent_in_slot s rank f p (state_at s f)) (slots_of p)) o []) t
            → IsOver (before_frame s (suc f) y.node)
        by_plan rank f None planned within = absurd (not_in_none t within)
        by_plan rank f (Some p) planned within =
            let slot = filter_from (sent_in_slot s rank f p (state_at s f)) (slots_of p) t within in
            let by = sent_by s rank f p slot.0 t slot.2 in
            let d = by.delivery in
            let same : packet_delivered d ≡ y = by.of.same ∙ sym (same_packet y t.packet is) in
            let from : IsFrom s rank f d = record { plan = p; planned = planned; slot = slot.0; said = by.said } in
            subst (λ (z : PacketId). IsPast z.boot z.stream (z.seq + 1) (before_frame s (suc f) z.node)) same (past_frame s rank f d from)

    -- what is queued at the end was not sent, and no line below the one that put it empties its queue
    module _ (queued : HasQueued (before_frame s s.frames y.node) y) where
      pub never_sent : find (λ t. is_packet y t.packet) (bus_sent s) ≡ None
      never_sent = by_find (find (λ t. is_packet y t.packet) (bus_sent s)) refl
        where
          by_find : (o : Option SentPacket) → find (λ t. is_packet y t.packet) (bus_sent s) ≡ o → o ≡ None
          by_find None is = refl
          by_find (Some t) is =
              let there = found (λ (u : SentPacket). is_packet y u.packet) (bus_sent s) t is in
              let over = sent_over t there.0 there.1 in
              absurd (over_at_end over.0 over.1 over.2 queued)

      pub never_cleared : IsSoundScenario s → (above rest : List ScriptLine) (l : ScriptLine) → s.script ≡ above ++ l ∷ rest
          → IsPutBy l (state_told s l.node l.frame above) y → find (clears y) rest ≡ None
      never_cleared sound above rest l whole puts = by_find (find (clears y) rest) refl
        where
          by_find : (o : Option ScriptLine) → find (clears y) rest ≡ o → o ≡ None
          by_find None is = refl
          by_find (Some m) is =
              let there = found (clears y) rest m is in
              let parts = around rest m there.0 in
              let pairs = subst (λ (ls : List ScriptLine). AllPairs (λ a b. a.frame ≤ b.frame) ls) whole sound.script_ascends in
              let ascends = behind_of (λ a b. a.frame ≤ b.frame) above rest l m pairs there.0 in
              let in_script : Contains s.script m =
              subst (λ (ls : List ScriptLine). Contains ls m) (sym whole) (Contains-append_right above (l ∷ rest) m (contains_tail l rest m there.0)) in
              let line : IsScriptLine s m = All-contains (IsScriptLine s) s.script m sound.script in_script in
              absurd (over_at_end m.frame line.in_run
              (cleared_over above parts.0 parts.1 l m (whole ∙ ap (λ (ls : List ScriptLine). above ++ l ∷ ls) parts.2) ascends puts there.1) queued)
