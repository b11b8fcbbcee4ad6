-- A packet stays in the queue of its stream through slots, rounds and the ends of frames, unless its node says it.
use Rattle.std.proofs.Common.{◌≡◌, ℕ, zero, suc, ◌+◌, ◌<◌, ◌≤◌, List, [], ◌∷◌, Bool, true, false, ◌==◌, if◌then◌else◌, Option, Some, None, Contains, drop}
use Rattle.std.proofs.Common.{filter_map, flat_map, is_some, length, option_map, slice_get, inl, inr, refl, sym, ◌∙◌, ap, subst, arith}
use Rattle.std.proofs.lemmas.Bool.{cases_eq, false≢true}
use Rattle.std.specs.List.{slice_index_or}
use Rattle.std.specs.Option.{option_map_or}
use Rattle.std.specs.Prelude.{slice_set}
use Rattle.lwb_base.specs.Messages.{Plan, node_of, stream_of}
use Rattle.lwb_base.proofs.Elements.{contains_cases, in_filter, in_flat, not_in_none}
use Rattle.lwb_base.proofs.NumbersOfRanges.{in_range}
use Rattle.scenario_text.specs.ScenarioParts.{ScenarioParts}
use Rattle.scenario_text.specs.Setups.{setup_of}
use Rattle.bus_rules.specs.declared.part.Part.{Part}
use Rattle.bus_rules.specs.declared.part.Part.TheVariants.{Opening, Data as DataSlot, Contention, Closing}
use Rattle.bus_rules.specs.Cores.{Core, Setup, as_host, begins_host, closing_accepted, frame_ended, is_fresh, is_member, opening_accepted}
use Rattle.bus_rules.specs.Plans.{last_slot}
use Rattle.bus_rules.specs.Slots.{Data, DataOf, Message, RequestOf, ScheduleOf, closed_slot, data_of, host_closes, hosts_now, is_own, opened_slot}
use Rattle.bus_rules.specs.Slots.{part_of, silent, slot_heard}
use Rattle.bus_rules.specs.States.{State, StateOff, StateOn}
use Rattle.bus_rules.specs.Streams.{Stream, Streams, WaitingPacket, after_contention, after_taking, first_waiting, no_stream, schedule_heard, stream_at}
use Rattle.bus_rules.specs.Streams.{without_first}
use Rattle.bus_rules.specs.Tuning.{next_tune, rank_of}
use Rattle.bus_terms.specs.Bus.{before_frame, frames_of, ranks_of, state_at}
use Rattle.bus_terms.specs.Fates.{is_packet}
use Rattle.bus_terms.specs.Packets.{bus_sent, packet_of, round_sent, sent_in_slot}
use Rattle.bus_terms.specs.Rounds.{accepted_at, after_round, before_slot, closed_slot_of, left_by, message_said, opened_at, rank_in, round_plan, rounds}
use Rattle.bus_terms.specs.Rounds.{slot_of_round, slots_of}
use Rattle.bus_terms.specs.ScriptedStates.{states_after_end}
use Rattle.bus_terms.specs.declared.packets.PacketId.{PacketId}
use Rattle.bus_terms.specs.declared.packets.SentPacket.{SentPacket}
use Rattle.bus_terms.proofs.KeptFields as fields
use Rattle.bus_terms.proofs.KeptRanks.{hosted as rank_of_node}
use Rattle.bus_terms.proofs.SamePackets.{packet_itself}
use Rattle.law_packets.specs.Waiting.{HasQueued}
use Rattle.law_packets.proofs.SentPackets.{owner_says}

abbrev queue_of : Stream → List WaitingPacket
queue_of x = x.queue

abbrev HaveSameQueues : Streams → Streams → Type 0
HaveSameQueues s t = (i : ℕ) → queue_of (stream_at t i) ≡ queue_of (stream_at s i)

-- where the first packet is taken from stream k, another one stays
left_in : (xs : List Stream) (k : ℕ) (w : WaitingPacket) → Contains (drop 1 (slice_index_or xs k no_stream).queue) w
    → Contains (slice_index_or (slice_set xs k (without_first (slice_index_or xs k no_stream))) k no_stream).queue w
left_in [] k w there = there
left_in (y ∷ ys) zero w there = there
left_in (y ∷ ys) (suc k) w there = left_in ys k w there

module _ (y : PacketId) where
  abbrev Has : Core → Type 0
  Has c = HasQueued (StateOn c) y

  pub has : (c : Core) → c.boot ≡ y.boot → (w : WaitingPacket) → w.seq ≡ y.seq → Contains (stream_at c.streams y.stream).queue w → Has c
  has c boot w number there = record { core = c; on = refl; boot = boot; waiting = w; number = number; there = there }

  -- what is known of a node that is on
  pub record HasIn (c : Core) : Type 0 where
    pub boot : c.boot ≡ y.boot
    pub waiting : WaitingPacket
    pub number : waiting.seq ≡ y.seq
    pub there : Contains (stream_at c.streams y.stream).queue waiting

  pub has_in : (c : Core) → Has c → HasIn c
  has_in c is = subst HasIn (same is.on) (record { boot = is.boot; waiting = is.waiting; number = is.number; there = is.there })
    where
      same : {d : Core} → StateOn c ≡ StateOn d → d ≡ c
      same on = cc

  same_queues : (c d : Core) → d.boot ≡ c.boot → HaveSameQueues c.streams d.streams → Has c → Has d
  same_queues c d boot same is =
      let h = has_in c is in
      has d (boot ∙ h.boot) h.waiting h.number (subst (λ (q : List WaitingPacket). Contains q h.waiting) (sym (same y.stream)) h.there)

  -- the first packet of stream k is taken: it is y, or y stays
  module _ (q : Setup) (at : q.id ≡ y.node) (c : Core) (k : ℕ) (is : Has c)
      (other : (d : Data) → option_map (data_of q.id c k) (first_waiting c.streams k) ≡ Some (DataOf d) → is_packet y (packet_of d) ≡ false) where
    abbrev taken : Core
    taken = record c { streams = after_taking k c.streams }

    own : k ≡ y.stream → Has taken
    own same =
        let h = has_in c is in
        let here : Contains (stream_at c.streams k).queue h.waiting =
        subst (λ (i : ℕ). Contains (stream_at c.streams i).queue h.waiting) (sym same) h.there in
        by_queue (stream_at c.streams k).queue refl here
      where
        by_queue : (ws : List WaitingPacket) → (stream_at c.streams k).queue ≡ ws → Contains ws (has_in c is).waiting → Has taken
        by_queue [] queue there = absurd (not_in_none (has_in c is).waiting there)
        by_queue (w ∷ ws) queue there =
            let h = has_in c is in
            elim (contains_cases w ws h.waiting there) [
              | inl first ↦ absurd (false≢true (sym (other (record { node = q.id; boot = c.boot; stream = k; seq = w.seq; payload = w.payload })
                  (ap (λ (l : List WaitingPacket). option_map (data_of q.id c k) (slice_get l 0)) queue)) ∙ is_y w first))
              | inr later ↦ has taken h.boot h.waiting h.number
                  (subst (λ (i : ℕ). Contains (stream_at (after_taking k c.streams) i).queue h.waiting) same
                  (left_in c.streams.all k h.waiting (subst (λ (l : List WaitingPacket). Contains (drop 1 l) h.waiting) (sym queue) later)))
            ]
          where
            is_y : (w : WaitingPacket) → w ≡ (has_in c is).waiting
                → is_packet y (packet_of (record { node = q.id; boot = c.boot; stream = k; seq = w.seq; payload = w.payload })) ≡ true
            is_y w first =
                let h = has_in c is in
                let seq : w.seq ≡ y.seq = ap (λ (u : WaitingPacket). u.seq) first ∙ h.number in
                let packet : record { node = q.id; boot = c.boot; stream = k; seq = w.seq } ≡ y =
                λ i. record { node = at i; boot = h.boot i; stream = same i; seq = seq i } in
                ap (is_packet y) packet ∙ packet_itself y

    pub taking_keeps : Has taken
    taking_keeps =
        elim (cases_eq k y.stream) [
          | inl same ↦ own same
          | inr others ↦
              (let h = has_in c is in
              has taken h.boot h.waiting h.number
              (subst (λ (x : Stream). Contains x.queue h.waiting)
              (sym (fields.other_stays c.streams.all k y.stream (without_first (stream_at c.streams k)) others)) h.there))
        ]

  module _ (q : Setup) (at : q.id ≡ y.node) (f : ℕ) where
    -- a window opens
    opened_keeps : (part : Part) (c : Core) → ((d : Data) → (opened_slot q f part c).message ≡ Some (DataOf d) → is_packet y (packet_of d) ≡ false)
        → Has c → Has (opened_slot q f part c).core
    opened_keeps Opening c other is = is
    opened_keeps (DataSlot owner) c other is = by_test (node_of owner == q.id) other
      where
        by_test : (b : Bool)
            → ((d : Data) → (if b then option_map (data_of q.id c (stream_of owner)) (first_waiting c.streams (stream_of owner)) else None) ≡ Some (DataOf d)
            → is_packet y (packet_of d) ≡ false)
            → Has (record c { streams = if b then after_taking (stream_of owner) c.streams else c.streams })
        by_test true other = taking_keeps q at c (stream_of owner) is other
        by_test false other = is
    opened_keeps (Contention k) c other is = by_own (is_own c.own_slot k)
      where
        by_own : (b : Bool) → Has (record c { streams = if b then after_contention q.id c.streams else c.streams })
        by_own true =
            same_queues c (record c { streams = after_contention q.id c.streams }) refl
            (fields.contention_keeps queue_of (λ n x. refl) (λ n f x. refl) (λ f x. refl) (λ f x. refl) q.id c.streams) is
        by_own false = is
    opened_keeps Closing c other is = by_test (hosts_now f c)
      where
        by_test : (b : Bool) → Has (if b then host_closes q f c else silent c).core
        by_test true =
            same_queues c (host_closes q f c).core refl
            (fields.plan_keeps queue_of (λ n x. refl) (λ n f x. refl) (λ f x. refl) (λ f x. refl) q.profile q.id c.boot (rank_of c.tune) f c.kept c.table
            c.streams) is
        by_test false = is

    -- and closes
    heard_keeps : (part : Part) (b : Bool) (c : Core) → Has c → Has (slot_heard f part b c)
    heard_keeps Opening b c is = is
    heard_keeps (DataSlot owner) b c is = same_queues c (slot_heard f (DataSlot owner) b c) refl (λ i. refl) is
    heard_keeps (Contention k) b c is = is
    heard_keeps Closing b c is = is

    closed_keeps : (part : Part) (b : Bool) (c : Core) (o : Option Message) → Has c → Has (closed_slot q f part b c o).core
    closed_keeps part b c None is = heard_keeps part b c is
    closed_keeps part b c (Some (DataOf d)) is = heard_keeps part true c is
    closed_keeps part b c (Some (RequestOf a)) is = same_queues c (closed_slot q f part b c (Some (RequestOf a))).core refl (λ i. refl) is
    closed_keeps part b c (Some (ScheduleOf x)) is = by_gap (x.gap == 0)
      where
        heard : HaveSameQueues c.streams (schedule_heard q.id c.boot f x c.streams)
        heard = fields.heard_keeps queue_of (λ n x. refl) (λ n f x. refl) (λ f x. refl) (λ f x. refl) q.id c.boot f x c.streams

        by_gap : (t : Bool) → Has (if t then opening_accepted q.id f x c else closing_accepted q.id f x c)
        by_gap true = same_queues c (opening_accepted q.id f x c) refl heard is
        by_gap false = same_queues c (closing_accepted q.id f x c) refl heard is

    -- the end of a frame
    ended_keeps : (c : Core) → Has c → Has (frame_ended q f c)
    ended_keeps c is = by_host (begins_host c.tune (next_tune c.tune f (is_fresh c) q.own q.ranks))
      where
        ended : Core
        ended = record c { tune = next_tune c.tune f (is_fresh c) q.own q.ranks; own_slot = None }

        by_host : (o : Option ℕ) → Has (as_host q.profile o ended)
        by_host None = same_queues c ended refl (λ i. refl) is
        by_host (Some rank) =
            same_queues c (as_host q.profile (Some rank) ended) refl
            (fields.unbound_keeps queue_of (λ n x. refl) (λ n f x. refl) (λ f x. refl) (λ f x. refl) c.streams) is

  -- a node that is off has nothing queued
  pub never_off : {A : Type 0} (boots : ℕ) → HasQueued (StateOff boots) y → A
  never_off boots is = absurd (off is.on)
    where
      off : {c : Core} → StateOff boots ≡ StateOn c → ⊥
      off on = cc

  module _ (s : ScenarioParts) where
    -- its node says another packet in this window, or none
    abbrev pub SaysOther : ℕ → ℕ → Part → State → Type 0
    SaysOther rank f part x = (d : Data) → message_said (opened_at s rank f part y.node x) ≡ Some (DataOf d) → is_packet y (packet_of d) ≡ false

    slot_keeps : (rank f : ℕ) (part : Part) (heard : Option Message) (x : State) → SaysOther rank f part x → HasQueued x y
        → HasQueued (left_by x (closed_slot_of s f part y.node (opened_at s rank f part y.node x) heard x)) y
    slot_keeps rank f part heard (StateOff boots) other is = never_off boots is
    slot_keeps rank f part heard (StateOn c) other is = by_member (is_member rank f c) heard other
      where
        q : Setup
        q = setup_of s y.node

        by_member : (b : Bool) (heard : Option Message)
            → ((d : Data) → message_said (if b then Some (opened_slot q f part c) else None) ≡ Some (DataOf d) → is_packet y (packet_of d) ≡ false)
            → HasQueued (left_by (StateOn c) (closed_slot_of s f part y.node (if b then Some (opened_slot q f part c) else None) heard (StateOn c))) y
        by_member true heard other =
            let o = opened_slot q f part c in
            closed_keeps q refl f part (is_some o.message) o.core heard (opened_keeps q refl f part c other is)
        by_member false None other = is
        by_member false (Some m) other = closed_keeps q refl f part false c (Some m) is

    slots_keep : (rank f : ℕ) (p : Plan) (states : ℕ → State)
        → ((j : ℕ) → j ≤ last_slot p → SaysOther rank f (part_of p j) (before_slot s rank f p states j y.node))
        → HasQueued (states y.node) y → (j : ℕ) → j ≤ last_slot p + 1 → HasQueued (before_slot s rank f p states j y.node) y
    unfolding before_slot
    slots_keep rank f p states others is zero within = is
    slots_keep rank f p states others is (suc j) within =
        let before = before_slot s rank f p states j in
        slot_keeps rank f (part_of p j) (accepted_at (slot_of_round s rank f p j before) y.node) (before y.node) (others j (omega (arith, within)))
        (slots_keep rank f p states others is j (omega (arith, within)))

    end_keeps : (f : ℕ) (states : ℕ → State) → HasQueued (states y.node) y → HasQueued (states_after_end s f states y.node) y
    end_keeps f states is = by_state (states y.node) is
      where
        by_state : (x : State) → HasQueued x y → HasQueued (states_after_end s f (λ (u : ℕ). x) y.node) y
        by_state (StateOff boots) is = never_off boots is
        by_state (StateOn c) is = ended_keeps (setup_of s y.node) refl f c is

    -- from after the script lines of a frame, in which it is not sent, to before those of the next
    module _ (hosted : 1 ≤ length s.hosts) (unsent : (t : SentPacket) → Contains (bus_sent s) t → is_packet y t.packet ≡ false) where
      said_is_sent : (f : ℕ) (p : Plan) → f < s.frames → round_plan s (rank_in (state_at s f y.node)) f (state_at s f) ≡ Some p → (j : ℕ) → j ≤ last_slot p
          → SaysOther (rank_in (state_at s f y.node)) f (part_of p j)
          (before_slot s (rank_in (state_at s f y.node)) f p (state_at s f) j y.node)
      said_is_sent f p early planned j within d said =
          let rank = rank_in (state_at s f y.node) in
          let t : SentPacket = record { frame = f; rank = rank; slot = j; packet = packet_of d } in
          let sent = owner_says s rank f p (state_at s f) j y.node d said in
          let in_round : Contains (round_sent s rank f (state_at s f)) t =
          subst (λ (o : Option Plan). Contains (option_map_or (λ p. filter_map (sent_in_slot s rank f p (state_at s f)) (slots_of p)) o []) t) (sym planned)
          (in_filter (sent_in_slot s rank f p (state_at s f)) (slots_of p) j t (in_range 0 (last_slot p + 1) j (omega arith) (omega (arith, within))) sent) in
          let below = rank_of_node s hosted f y.node in
          unsent t
          (in_flat (λ g. flat_map (λ r. round_sent s r g (state_at s g)) (ranks_of s)) (frames_of s) f t
          (in_range 0 s.frames f (omega arith) (omega (arith, early)))
          (in_flat (λ r. round_sent s r f (state_at s f)) (ranks_of s) rank t (in_range 0 (length s.hosts) rank (omega arith) (omega (arith, below))) in_round))

      pub frame_keeps : (f : ℕ) → f < s.frames → HasQueued (state_at s f y.node) y → HasQueued (before_frame s (suc f) y.node) y
      unfolding before_frame
      frame_keeps f early is =
          end_keeps f (rounds s f (state_at s f)) (by_plan (round_plan s (rank_in (state_at s f y.node)) f (state_at s f)) refl)
        where
          by_plan : (o : Option Plan) → round_plan s (rank_in (state_at s f y.node)) f (state_at s f) ≡ o
              → HasQueued (after_round s (rank_in (state_at s f y.node)) f (state_at s f) o y.node) y
          by_plan None planned = is
          by_plan (Some p) planned =
              slots_keep (rank_in (state_at s f y.node)) f p (state_at s f) (said_is_sent f p early planned) is (last_slot p + 1) (omega arith)
