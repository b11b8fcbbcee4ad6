-- With counter 0 the initiators of a slot send, and nobody else; all its transmissions last equally long.
use Rattle.std.proofs.Common.{◌≡◌, ℕ, ◌+◌, ◌<◌, ◌||◌, List, [], ◌∷◌, Bool, true, Contains, length, refl, sym, ◌∙◌, ap, subst, arith, eq-eqb, true≢false}
use Rattle.lwb_base.specs.Messages.{Plan}
use Rattle.lwb_base.specs.Profile.{airtime}
use Rattle.lwb_member.specs.Said.{bytes_of}
use Rattle.scenario_text.specs.ScenarioParts.{ScenarioParts}
use Rattle.radio_model.specs.declared.sending.Sending.{Sending}
use Rattle.air_log.specs.declared.entry.Entry.{Entry}
use Rattle.air_log.specs.Entries.{sendings_of}
use Rattle.air_log.specs.NodeEvents.{Event}
use Rattle.air_log.specs.Trails.{run_end}
use Rattle.air_log.specs.WindowLogs.{WindowLog}
use Rattle.law_trails.specs.TrailLinks.{device_in}
use Rattle.law_trails.proofs.SentInTrails.{sent_known, sent_lasts}
use Rattle.law_safety.specs.FloodSendings.{IsOfFlood}
use Rattle.law_safety.proofs.RunSendings.{in_trail, of_flood}
use Rattle.law_windows.specs.WindowCalls.{IsCalled}
use Rattle.law_windows.specs.WindowTimes.{IsOfSlot}
use Rattle.law_windows.proofs.WindowFacts.{sends_as_called}
use Rattle.bus_terms.specs.Flooding.{has}
use Rattle.lwb_flood.specs.FloodRun.{Run, initiates, counter, sending_of_run}
use Rattle.law_terms.specs.LawfulRuns.{IsLawfulRun}
use Rattle.bus_terms.specs.HostedRounds.{slot_in}
use Rattle.law_terms.specs.SlotLaws.{IsWindowOf}
use Rattle.law_terms.specs.SlotSteps.{IsSlotStart}
use Rattle.law_bus.proofs.RunsOfLogs.{run, whole}
use Rattle.law_bus.specs.SlotRun.{AreEvents, run_of_slot, size_by}
use Rattle.law_bus.proofs.SlotSendings.{of_slot, in_slot}
use Rattle.law_bus.proofs.SlotSpeakers.{IsSpeaker, speaker, speaks, said_same, message_is, start_is, first_sending}
use Rattle.law_bus.proofs.SlotStarts.{InSlot, is_of_window, one_length}
use Rattle.air_log.proofs.SameSendings.{same_sending}

pub record BeginsAsSaid (r : Run) : Type 0 where
  pub lasts : (x : Sending) → Contains r.sendings x → (x.rank ≡ r.rank) × (x.end ≡ x.start + r.air)
  pub begun : (o : ℕ) → initiates r o → Contains r.sendings (sending_of_run r o (r.starts o) (r.message o))
  pub beginnings : (x : Sending) → Contains r.sendings x → counter x ≡ 0
      → initiates r x.node × (x.start ≡ r.starts x.node) × (x.packet ≡ r.message x.node)

module _ (s : ScenarioParts) (clocks : ℕ → ℕ → ℕ) (air : List Entry) (lawful : IsLawfulRun s clocks air)
    (rank f j : ℕ) (p : Plan) (in_run : f < s.frames) (start : IsSlotStart s clocks air rank f p j)
    (events : ℕ → List Event) (are : AreEvents s clocks air rank f j events) where
  abbrev r : Run
  r = run_of_slot s clocks air rank f p j events

  -- the window in which it was called for
  pub record HasCaller (x : Sending) : Type 0 where
    pub window : WindowLog
    pub here : IsWindowOf s clocks air rank f j x.node window
    pub of_slot : IsOfSlot s window x

  pub caller : (x : Sending) → InSlot s clocks air lawful rank f j p in_run start events are x → HasCaller x
  caller x is =
      let calls = sends_as_called s clocks air (run s clocks air lawful) x.node
      (sent_known s clocks air (run s clocks air lawful).heedful.trails x is.0) (run_end s) (omega arith) in
      let call : IsCalled s clocks x.node (device_in s clocks air x.node (run_end s)).made.windows x =
      calls.called x (in_trail s clocks air (whole s clocks air lawful) x is.0) in
      record {
        window = call.window;
        here = record {
          there = call.there;
          frame = sym call.of_slot.frame ∙ is.1.1;
          channel = sym call.of_slot.channel ∙ is.1.0;
          slot = sym call.of_slot.slot ∙ is.1.2;
        };
        of_slot = call.of_slot;
      }

  -- who sends with counter 0 speaks
  pub begins_as : (x : Sending) (is : InSlot s clocks air lawful rank f j p in_run start events are x) → counter x ≡ 0
      → initiates r x.node × (x.start ≡ r.starts x.node) × (x.packet ≡ r.message x.node)
  begins_as x is zero =
      let from = caller x is in
      let w = from.window in
      let said = (are.by_window x.node w from.here).part.beginnings x is.0 refl from.of_slot zero in
      let who : IsSpeaker s clocks air lawful rank f j p in_run start x.node = record {
        window = w;
        here = from.here;
        by_alarm = said.by_alarm;
        message = said.message;
        on_bus = said_same s clocks air lawful rank f j p in_run start x.node w from.here said.by_alarm ∙ said.said;
        said = said.said;
      } in (
        speaks s clocks air lawful rank f j p in_run start x.node w said.message
            (sent_known s clocks air (run s clocks air lawful).heedful.trails x is.0) from.here said.by_alarm said.said,
        said.at ∙ sym (start_is s clocks air lawful rank f j p in_run start events are x.node who),
        said.packet_is ∙ ap (bytes_of said.message) from.here.slot
            ∙ sym (message_is s clocks air lawful rank f j p in_run start events are x.node who),
      )

  abbrev long : ℕ → ℕ
  long o = length (r.message o)

  -- the origin of its flood
  origin_in : (x : Sending) → InSlot s clocks air lawful rank f j p in_run start events are x → (o : ℕ) × initiates r o
  origin_in x is =
      let flood : IsOfFlood s clocks air x = of_flood s clocks air (whole s clocks air lawful) x is.0 in
      let o = flood.origin in
      let there : InSlot s clocks air lawful rank f j p in_run start events are o =
      (flood.begins.sent, (sym flood.slot.channel ∙ is.1.0, sym flood.slot.frame ∙ is.1.1, sym flood.slot.slot ∙ is.1.2)) in
      (o.node, (begins_as o there flood.begins.start.first).0)

  -- what initiators say is as long as any packet
  said_long : (x : Sending) → InSlot s clocks air lawful rank f j p in_run start events are x → (q : ℕ) → initiates r q → long q ≡ length x.packet
  said_long x is q here =
      let who = speaker s clocks air lawful rank f j p in_run start q here in
      let first = first_sending s clocks air lawful rank f j p in_run start events are q who in
      ap (λ (m : List ℕ). length m) (sym first.packet_is)
      ∙ one_length s clocks air lawful rank f j p in_run start events are first.sending x
      (first.there, is_of_window s clocks air lawful rank f j p in_run start events are q who.window who.here first.sending first.of_slot) is

  size_is : (x : Sending) → InSlot s clocks air lawful rank f j p in_run start events are x → (l : List ℕ)
      → (slot_in s rank f p j).flood.initiators ≡ l → (o : ℕ) → has l o ≡ true → size_by long l ≡ length x.packet
  size_is x is [] at o there = absurd (true≢false (sym there))
  size_is x is (q ∷ qs) at o there = said_long x is q (ap (λ (l : List ℕ). has l q) at ∙ ap (λ (b : Bool). b || has qs q) (eq-eqb q q refl))

  pub lasts_so : (x : Sending) → InSlot s clocks air lawful rank f j p in_run start events are x → x.end ≡ x.start + r.air
  lasts_so x is =
      let origin = origin_in x is in
      let size = size_is x is (slot_in s rank f p j).flood.initiators refl origin.0 origin.1 in
      let ends = (sent_lasts s clocks air (run s clocks air lawful).heedful.trails x is.0).1 in
      ends ∙ ap (λ (n : ℕ). x.start + airtime s.profile n) (sym size)

  pub here_so : (x : Sending) → Contains r.sendings x → InSlot s clocks air lawful rank f j p in_run start events are x
  here_so x there = of_slot s.profile rank f j (sendings_of air) x there

  pub sent_there : (x : Sending) → InSlot s clocks air lawful rank f j p in_run start events are x → Contains r.sendings x
  sent_there x is = in_slot s.profile rank f j (sendings_of air) x is.0 is.1

  -- a transmission of the slot, by its node, start and packet
  pub sent_at : (x : Sending) → InSlot s clocks air lawful rank f j p in_run start events are x → (v tick : ℕ) (q : List ℕ)
      → x.node ≡ v → x.start ≡ tick → x.packet ≡ q → Contains r.sendings (sending_of_run r v tick q)
  sent_at x is v tick q node at packet =
      let end = lasts_so x is in
      subst (Contains r.sendings) (same_sending x (sending_of_run r v tick q) is.1.0 node at (end ∙ ap (λ (k : ℕ). k + r.air) at) packet) (sent_there x is)

  begun : (o : ℕ) → initiates r o → Contains r.sendings (sending_of_run r o (r.starts o) (r.message o))
  begun o here =
      let who = speaker s clocks air lawful rank f j p in_run start o here in
      let first = first_sending s clocks air lawful rank f j p in_run start events are o who in
      sent_at first.sending
      (first.there, is_of_window s clocks air lawful rank f j p in_run start events are o who.window who.here first.sending first.of_slot)
      o (r.starts o) (r.message o) first.node first.at first.packet_is

  pub begins_as_said : BeginsAsSaid r
  begins_as_said = record {
    lasts = λ x there. (let is = here_so x there in (is.1.0, lasts_so x is));
    begun = begun;
    beginnings = λ x there zero. begins_as x (here_so x there) zero;
  }
