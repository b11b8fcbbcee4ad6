-- What is said in a slot: packets of its kind with each counter, and by two initiators two that differ in more than that.
use Rattle.std.proofs.Common.{◌≡◌, ℕ, ◌==◌, Bool, true, false, if◌then◌else◌, List, Some, None, Option, option_map, inl, inr, slice_index, refl, sym}
use Rattle.std.proofs.Common.{◌∙◌, ap, subst, arith}
use Rattle.std.specs.Bool.{⊤}
use Rattle.lwb_base.specs.Messages.{Plan, node_of, stream_of}
use Rattle.lwb_packets.specs.Body.{body}
use Rattle.lwb_packets.specs.declared.kind.Kind.{Kind}
use Rattle.glossy_relay.specs.FloodState.{kind_named}
use Rattle.glossy_relay.specs.Relaying.{is_spelling}
use Rattle.glossy_relay.proofs.Spellings.{spelled_again}
use Rattle.bus_rules.specs.declared.part.Part.{Part}
use Rattle.bus_rules.specs.declared.part.Part.TheVariants.{Opening, Data as DataSlot, Contention, Closing}
use Rattle.bus_rules.specs.Cores.{Core, Setup}
use Rattle.bus_rules.specs.Plans.{opening}
use Rattle.bus_rules.specs.Streams.{first_waiting, requested}
use Rattle.bus_rules.specs.Slots.{Message, ScheduleOf, DataOf, RequestOf, part_of, opened_slot, hosts_now, host_closes, data_of, request_of, is_own}
use Rattle.lwb_member.specs.Places.{kind_for}
use Rattle.lwb_member.specs.Said.{bytes_of, message_of}
use Rattle.scenario_text.specs.ScenarioParts.{ScenarioParts}
use Rattle.radio_model.specs.declared.sending.Sending.{Sending}
use Rattle.air_log.specs.declared.entry.Entry.{Entry}
use Rattle.air_log.specs.NodeEvents.{Event}
use Rattle.scenario_text.specs.Setups.{setup_of}
use Rattle.law_trails.specs.PacketKinds.{IsPacketOf, kind_of_message}
use Rattle.law_trails.proofs.LogsInRange.{all_sent}
use Rattle.law_trails.proofs.SaidPackets.{says, request_first, request_read}
use Rattle.law_safety.specs.SlotLaws.{AsksForStream}
use Rattle.law_safety.proofs.SlotFloods.{one_flood}
use Rattle.law_terms.specs.LawfulRuns.{IsLawfulRun}
use Rattle.law_terms.specs.SlotLaws.{IsRound}
use Rattle.law_terms.specs.SlotSteps.{IsSlotStart}
use Rattle.law_bus.proofs.RunsOfLogs.{run, whole}
use Rattle.lwb_flood.specs.FloodRun.{Run, initiates, HasInitiators}
use Rattle.law_bus.specs.SlotRun.{AreEvents, run_of_slot}
use Rattle.law_bus.proofs.RelayedInSlots.{named_kind}
use Rattle.law_bus.proofs.SlotSpeakers.{IsSpeaker, speaker, part_is, message_is, first_sending}
use Rattle.law_bus.proofs.SlotStarts.{start_together, x, in_it, itself, flood, same_slot}
use Rattle.law_bus.proofs.SlotWindows.{KindIs, said_kind, if_of, map_of, closing_of}

-- a node asks for itself
abbrev AsksFor : ℕ → Option Message → Type 0
AsksFor v None = ⊤
AsksFor v (Some (ScheduleOf x)) = ⊤
AsksFor v (Some (DataOf d)) = ⊤
AsksFor v (Some (RequestOf a)) = a.node ≡ v

asks_itself : (S : Setup) (f : ℕ) (part : Part) (c : Core) → AsksFor S.id (opened_slot S f part c).message
asks_itself S f Opening c = if_of (AsksFor S.id) tt (hosts_now f c) (Some (ScheduleOf (opening c.plan))) tt
asks_itself S f (DataSlot owner) c =
    if_of (AsksFor S.id) tt (node_of owner == S.id) (option_map (data_of S.id c (stream_of owner)) (first_waiting c.streams (stream_of owner)))
    (map_of (AsksFor S.id) tt (data_of S.id c (stream_of owner)) (first_waiting c.streams (stream_of owner)) (λ w. tt))
asks_itself S f (Contention i) c =
    if_of (AsksFor S.id) tt (is_own c.own_slot i) (option_map (request_of S.id c) (requested c.streams))
    (map_of (AsksFor S.id) tt (request_of S.id c) (requested c.streams) (λ k. refl))
asks_itself S f Closing c = closing_of (AsksFor S.id) tt (hosts_now f c) (host_closes S f c) c tt

-- packets that ask carry the node that asks, next to the counter
byte_not : (b : Bool) (n : ℕ) → n ≡ (if b then 1 else 4) → n ≡ 3 → ⊥
byte_not true n is three = absurd (omega (arith, is, three))
byte_not false n is three = absurd (omega (arith, is, three))

asking_node : (v j : ℕ) (m : Message) → AsksFor v (Some m) → slice_index (bytes_of m j) 0 ≡ 3 → slice_index (body (bytes_of m j)) 3 ≡ v
asking_node v j (ScheduleOf x) is first = absurd (byte_not (x.plan.contend == 0) (slice_index (bytes_of (ScheduleOf x) j) 0) refl first)
asking_node v j (DataOf d) is first = absurd (omega (arith, first))
asking_node v j (RequestOf a) is first = is

module _ (s : ScenarioParts) (clocks : ℕ → ℕ → ℕ) (air : List Entry) (lawful : IsLawfulRun s clocks air)
    (rank f j : ℕ) (p : Plan) (round : IsRound s rank f p) (start : IsSlotStart s clocks air rank f p j)
    (events : ℕ → List Event) (are : AreEvents s clocks air rank f j events) where
  abbrev r : Run
  r = run_of_slot s clocks air rank f p j events

  abbrev pub first_of : (o : ℕ) → initiates r o → Sending
  first_of o here = x s clocks air lawful rank f j p round.in_run start events are o here

  abbrev who : (o : ℕ) → initiates r o → IsSpeaker s clocks air lawful rank f j p round.in_run start o
  who o here = speaker s clocks air lawful rank f j p round.in_run start o here

  pub first_packet : (o : ℕ) (here : initiates r o) → (first_of o here).packet ≡ r.message o
  first_packet o here = (first_sending s clocks air lawful rank f j p round.in_run start events are o (who o here)).packet_is

  said_so : (o : ℕ) (here : initiates r o) → r.message o ≡ bytes_of (who o here).message j
  said_so o here = message_is s clocks air lawful rank f j p round.in_run start events are o (who o here)

  kind_so : (o : ℕ) (here : initiates r o) → is_spelling r.kind (r.message o) ≡ true
  kind_so o here =
      let heedful = (run s clocks air lawful).heedful in
      let proper = all_sent s lawful.sound clocks air heedful.trails (λ u z sent. (heedful.heard u z sent).sent)
      (first_of o here) (in_it s clocks air lawful rank f j p round.in_run start events are o here).0 in
      let said = proper.spoken.says in
      let of_packet : IsPacketOf said.message (first_of o here).packet = says (first_of o here).packet said.message said.read in
      let w = (who o here).window in
      let k : KindIs (part_of w.before.core.plan w.slot) (Some (who o here).message) =
      subst (KindIs (part_of w.before.core.plan w.slot)) (who o here).said
      (said_kind (setup_of s o) w.before.frame (part_of w.before.core.plan w.slot) w.before.core) in
      let named : kind_of_message said.message ≡ r.kind =
      sym of_packet.named ∙ ap kind_named (first_packet o here ∙ said_so o here) ∙ named_kind (part_of w.before.core.plan w.slot) (who o here).message j k
      ∙ ap kind_for (part_is s clocks air lawful rank f j p round.in_run start o w (who o here).here (who o here).by_alarm) in
      ap (is_spelling r.kind) (sym (first_packet o here)) ∙ ap (λ (l : Kind). is_spelling l (first_of o here).packet) (sym named) ∙ of_packet.spelled

  asks_so : (o : ℕ) (here : initiates r o) → AsksFor o (Some (who o here).message)
  asks_so o here =
      let w = (who o here).window in
      subst (AsksFor o) (who o here).said (asks_itself (setup_of s o) w.before.frame (part_of w.before.core.plan w.slot) w.before.core)

  node_in : (o : ℕ) (here : initiates r o) → AsksForStream (message_of (first_of o here).packet) → slice_index (body (r.message o)) 3 ≡ o
  node_in o here asks =
      let byte : slice_index (bytes_of (who o here).message j) 0 ≡ 3 =
      ap (λ (q : List ℕ). slice_index q 0) (sym (first_packet o here ∙ said_so o here))
      ∙ request_first (first_of o here).packet (request_read (first_of o here).packet asks.0 asks.1).0 in
      ap (λ (q : List ℕ). slice_index (body q) 3) (said_so o here) ∙ asking_node o j (who o here).message (asks_so o here) byte

  different : (o q : ℕ) → initiates r o → initiates r q → body (r.message o) ≡ body (r.message q) → o ≡ q
  different o q here also same =
      let a = in_it s clocks air lawful rank f j p round.in_run start events are o here in
      let b = in_it s clocks air lawful rank f j p round.in_run start events are q also in
      let one = itself s clocks air lawful rank f j p round.in_run start events are o here in
      let two = itself s clocks air lawful rank f j p round.in_run start events are q also in
      elim (one_flood s clocks air (whole s clocks air lawful) (first_of o here) (first_of q also)
      (flood s clocks air lawful rank f j p round.in_run start events are (first_of o here) a)
      (flood s clocks air lawful rank f j p round.in_run start events are (first_of q also) b)
      (same_slot s clocks air lawful rank f j p round.in_run start events are (first_of o here) (first_of q also) a b)) [
        | inl origin ↦ (
            sym (first_sending s clocks air lawful rank f j p round.in_run start events are o (who o here)).node
            ∙ ap (λ (z : Sending). z.node) (sym one ∙ origin ∙ two)
            ∙ (first_sending s clocks air lawful rank f j p round.in_run start events are q (who q also)).node
            )
        | inr asks ↦ (
            let first : AsksForStream (message_of (first_of o here).packet) = subst (λ (z : Sending). AsksForStream (message_of z.packet)) one asks.0 in
            let second : AsksForStream (message_of (first_of q also).packet) = subst (λ (z : Sending). AsksForStream (message_of z.packet)) two asks.1 in
            sym (node_in o here first) ∙ ap (λ (c : List ℕ). slice_index c 3) same ∙ node_in q also second
            )
      ]

  pub has_initiators : HasInitiators r
  has_initiators =
      let begin = start_together s clocks air lawful rank f j p round.in_run start events are in
      record {
        there = begin.there;
        counter_zero = begin.counter_zero;
        spelled = λ o k here few. spelled_again r.kind (r.message o) k (kind_so o here) few;
        slot = begin.slot;
        different = different;
        together = begin.together;
      }
