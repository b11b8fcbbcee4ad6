-- What a node sends in a slot, step by step: in the log what it sends in the flood of the bus, and as long.
use Rattle.std.proofs.Common.{◌≡◌, ℕ, ◌≤◌, List, true, Some, None, Option, Contains, option_map, is_some, length, refl, sym, ◌∙◌, ap, subst, arith}
use Rattle.std.specs.Option.{option_map_or}
use Rattle.std.proofs.lemmas.List.{length-set}
use Rattle.lwb_base.specs.Messages.{Plan}
use Rattle.lwb_base.proofs.Options.{some_is}
use Rattle.glossy_relay.specs.Relaying.{counter_of}
use Rattle.glossy_relay.proofs.CountedPackets.{counter_set}
use Rattle.bus_rules.specs.Slots.{Message, message_length}
use Rattle.lwb_member.proofs.Lengths.{said_long}
use Rattle.scenario_text.specs.ScenarioParts.{ScenarioParts}
use Rattle.radio_model.specs.declared.sending.Sending.{Sending}
use Rattle.radio_model.specs.Hearing.{frame_of_sending, slot_of_sending}
use Rattle.air_log.specs.declared.entry.Entry.{Entry}
use Rattle.air_log.specs.Charges.{step_and_length}
use Rattle.air_log.specs.Entries.{sendings_of}
use Rattle.bus_terms.specs.Costs.{length_at}
use Rattle.bus_terms.specs.FloodOfText.{ids}
use Rattle.bus_terms.specs.Flooding.{Setting, Sends, has, moment, steps}
use Rattle.bus_terms.specs.Rounds.{Slot, message_said}
use Rattle.bus_terms.proofs.ReceivedByPaths.{of_filtered}
use Rattle.law_safety.proofs.RunSendings.{of_flood}
use Rattle.lwb_flood.specs.FloodRun.{Run, initiates, packet}
use Rattle.lwb_flood.specs.FloodBySteps.{IsFloodBySteps}
use Rattle.law_terms.specs.LawfulRuns.{IsLawfulRun}
use Rattle.bus_terms.specs.HostedRounds.{slot_in}
use Rattle.law_terms.specs.SlotLaws.{Says}
use Rattle.law_terms.specs.SlotRuns.{IsRunOf}
use Rattle.law_bus.proofs.RunsOfLogs.{whole}
use Rattle.bus_terms.proofs.HeardOrigins.{sent_origin}
use Rattle.std.specs.List.{range_with_len}

pub all_steps : steps ≡ range_with_len 0 12
all_steps = refl

pub not_given : (a : ℕ × ℕ) → ◌≡◌ {A = Option (ℕ × ℕ)} None (Some a) → ⊥
not_given a is = cc

-- a step and a length
abbrev pair : ℕ → ℕ → ℕ × ℕ
pair k n = (k, n)

abbrev some_pair : ℕ → ℕ → Option (ℕ × ℕ)
some_pair k n = Some (k, n)

module _ (s : ScenarioParts) (clocks : ℕ → ℕ → ℕ) (air : List Entry) (lawful : IsLawfulRun s clocks air) (rank f : ℕ) (p : Plan) (j : ℕ) where
  abbrev pub x : Slot
  x = slot_in s rank f p j

  -- the step and the length of what v sends on the bus with counter k, as `sent_by` lists them
  abbrev pub on_bus : ℕ → ℕ → Option (ℕ × ℕ)
  on_bus v k = option_map (λ origin. (k, length_at x origin)) ((moment x.flood k).sends v)

  -- v has sent y in this slot
  pub record IsSentHere (v : ℕ) (y : Sending) : Type 0 where
    pub there : Contains (sendings_of air) y
    pub node : y.node ≡ v
    pub channel : y.rank ≡ rank
    pub frame : frame_of_sending s.profile y ≡ f
    pub slot : slot_of_sending y ≡ j

  module _ (r : Run) (is : IsRunOf s clocks air rank f p j r) (steps : IsFloodBySteps r) where
    in_run : (v : ℕ) (y : Sending) → IsSentHere v y → Contains r.sendings y
    in_run v y here = (is.sendings y).1 (here.there, here.channel, here.frame, here.slot)

    starts : (o : ℕ) → has x.flood.initiators o ≡ true → initiates r o
    starts o there = subst (λ (g : Setting). has g.initiators o ≡ true) (sym is.setting) there

    -- what an initiator says is as long as on the bus
    said_length : (o k : ℕ) → has x.flood.initiators o ≡ true → length (packet r o k) ≡ length_at x o
    said_length o k there =
        let said = some_is (message_said (x.window o)) (of_filtered (λ u. is_some (message_said (x.window u))) (ids s.nodes) o there) in
        let says : Says s rank f p j o said.0 = (there, said.1) in
        length-set (r.message o) 2 k
        ∙ ap (λ (q : List ℕ). length q) (is.message o said.0 says)
        ∙ said_long said.0 j
        ∙ sym (ap (λ (m : Option Message). option_map_or message_length m 0) said.1)

    module _ (v : ℕ) where
      -- each of these transmissions is one of the bus's flood
      pub record IsStep (y : Sending) : Type 0 where
        pub few : counter_of y.packet ≤ 11
        pub on_the_bus : on_bus v (counter_of y.packet) ≡ Some (step_and_length y.packet)

      pub step_of : (y : Sending) → IsSentHere v y → IsStep y
      step_of y here =
          let k = counter_of y.packet in
          let found = steps.spelled y (in_run v y here) in
          let o = found.0 in
          let sends : Sends x.flood v k o = subst (λ (g : Setting). Sends g v k o) is.setting
          ((steps.sends v k o found.1 found.2).0 (record { sending = y; sent = in_run v y here; node = here.node; packet = found.3 })) in
          let there : has x.flood.initiators o ≡ true = subst (λ (g : Setting). has g.initiators o ≡ true) is.setting found.1 in
          let long : length_at x o ≡ length y.packet = sym (said_length o k there) ∙ ap (λ (q : List ℕ). length q) (sym found.3) in
          record {
            few = found.2;
            on_the_bus = ap (λ (c : Option ℕ). option_map (λ origin. pair k (length_at x origin)) c) sends
                ∙ ap (some_pair k) long;
          }

      -- and each transmission of that flood is one of these
      pub record IsSent (k : ℕ) (a : ℕ × ℕ) : Type 0 where
        pub sending : Sending
        pub here : IsSentHere v sending
        pub counter : counter_of sending.packet ≡ k
        pub same : step_and_length sending.packet ≡ a

      sent_by_origin : (k o : ℕ) → k ≤ 11 → Sends x.flood v k o → IsSent k (k, length_at x o)
      sent_by_origin k o few sends =
          let there = sent_origin x.flood k v o sends in
          let on_air = (steps.sends v k o (starts o there) few).1 (subst (λ (g : Setting). Sends g v k o) (sym is.setting) sends) in
          let y = on_air.sending in
          let of_slot = (is.sendings y).0 on_air.sent in
          let long = (of_flood s clocks air (whole s clocks air lawful) y of_slot.0).some in
          let size : length y.packet ≡ length (r.message o) = ap (λ (q : List ℕ). length q) on_air.packet ∙ length-set (r.message o) 2 k in
          let count : counter_of y.packet ≡ k = ap counter_of on_air.packet ∙ counter_set (r.message o) k (omega (arith, long, size)) in
          record {
            sending = y;
            here = record { there = of_slot.0; node = on_air.node; channel = of_slot.1; frame = of_slot.2; slot = of_slot.3 };
            counter = count;
            same = ap (λ (i : ℕ). pair i (length y.packet)) count
                ∙ ap (pair k) (ap (λ (q : List ℕ). length q) on_air.packet ∙ said_length o k there);
          }

      pub sent_as : (k : ℕ) (a : ℕ × ℕ) → k ≤ 11 → on_bus v k ≡ Some a → IsSent k a
      sent_as k a few given = by_origin ((moment x.flood k).sends v) refl given
        where
          none : ◌≡◌ {A = Option (ℕ × ℕ)} None (Some a) → ⊥
          none eq = cc

          same : (b : ℕ × ℕ) → ◌≡◌ {A = Option (ℕ × ℕ)} (Some b) (Some a) → b ≡ a
          same b eq = cc

          by_origin : (c : Option ℕ) → (moment x.flood k).sends v ≡ c
              → ◌≡◌ {A = Option (ℕ × ℕ)} (option_map (λ origin. (k, length_at x origin)) c) (Some a) → IsSent k a
          by_origin None at eq = absurd (none eq)
          by_origin (Some o) at eq = subst (IsSent k) (same (k, length_at x o) eq) (sent_by_origin k o few at)

      -- a node sends once with a counter
      pub sent_once : (y z : Sending) → IsSentHere v y → IsSentHere v z → counter_of y.packet ≡ counter_of z.packet → y ≡ z
      sent_once y z here also same = steps.sends_once y z (in_run v y here) (in_run v z also) (here.node ∙ sym also.node) same
