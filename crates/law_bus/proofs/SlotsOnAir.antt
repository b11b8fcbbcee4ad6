-- The run of a slot is a part of what is on the air, so its nodes receive by its rule.
use Rattle.std.proofs.Common.{◌≡◌, ℕ, ◌+◌, ◌*◌, ◌<◌, ◌≤◌, List, Contains, refl, sym, ◌∙◌, ap, subst, arith}
use Rattle.std.proofs.Math.Nat.{mul-le-mul_right}
use Rattle.lwb_base.specs.Messages.{Plan}
use Rattle.link_trace.specs.Passes.{passes, captured}
use Rattle.scenario_text.specs.ScenarioParts.{ScenarioParts}
use Rattle.radio_model.specs.declared.sending.Sending.{Sending}
use Rattle.radio_model.specs.Hearing.{Scene, Meets, TunedThrough, frame_of_sending, slot_of_sending, counter_of_sending}
use Rattle.air_log.specs.declared.entry.Entry.{Entry}
use Rattle.air_log.specs.Entries.{sendings_of, hearings_of}
use Rattle.air_log.specs.HearsAir.{scene_of}
use Rattle.air_log.specs.NodeEvents.{Event}
use Rattle.air_log.specs.Safe.{Safe}
use Rattle.air_log.specs.Trails.{run_end, frame_start}
use Rattle.law_trails.specs.TrailLinks.{device_in}
use Rattle.law_trails.proofs.SentInTrails.{sent_known}
use Rattle.law_safety.proofs.RunFacts.{frame_below}
use Rattle.law_safety.proofs.RunSendings.{in_trail}
use Rattle.law_safety.proofs.SafeRuns.{safe_at_the_end}
use Rattle.law_windows.specs.WindowCalls.{IsCalled}
use Rattle.law_windows.proofs.WindowFacts.{sends_as_called}
use Rattle.lwb_flood.specs.FloodRun.{Run, IsParticipant, WasHeard, HearsIn, HearsByRule}
use Rattle.lwb_flood.specs.RunOnAir.{IsPart}
use Rattle.lwb_flood.proofs.RuleInRun.{rule_in_run}
use Rattle.law_terms.specs.LawfulRuns.{IsLawfulRun}
use Rattle.law_terms.specs.SlotLaws.{IsWindowOf}
use Rattle.law_terms.specs.SlotSteps.{IsSlotStart}
use Rattle.law_bus.proofs.RunsOfLogs.{run, whole}
use Rattle.law_bus.specs.SlotRun.{run_of_slot}
use Rattle.law_bus.proofs.SlotParties.{party_rank}
use Rattle.law_bus.proofs.SlotSendings.{IsOf, of_slot, in_slot, heard_in_slot, in_heard}

module _ (s : ScenarioParts) (clocks : ℕ → ℕ → ℕ) (air : List Entry) (lawful : IsLawfulRun s clocks air)
    (rank f j : ℕ) (p : Plan) (in_run : f < s.frames) (start : IsSlotStart s clocks air rank f p j) (events : ℕ → List Event) where
  abbrev r : Run
  r = run_of_slot s clocks air rank f p j events

  abbrev a : Scene
  a = scene_of s.profile s.trace air

  pub safe : Safe s clocks air
  safe = safe_at_the_end s clocks air (whole s clocks air lawful)

  pub sent_here : (x : Sending) → Contains r.sendings x → Contains (sendings_of air) x × IsOf s.profile rank f j x
  sent_here x there = of_slot s.profile rank f j (sendings_of air) x there

  pub sent_so : (x : Sending) → Contains (sendings_of air) x → IsOf s.profile rank f j x → Contains r.sendings x
  sent_so x there is = in_slot s.profile rank f j (sendings_of air) x there is

  -- transmissions that meet are of one frame, on whatever channels
  earlier_frame : (x y : Sending) → Contains (sendings_of air) y → Meets x y → frame_of_sending s.profile x ≤ frame_of_sending s.profile y
  earlier_frame x y there meets =
      let ends = safe.within_one_frame y there in
      let before = meets.before in
      let below = frame_below s lawful.sound (frame_of_sending s.profile y + 1) x.start (omega (arith, ends, before)) in
      omega (arith, below)

  pub one_frame : (x y : Sending) → Contains (sendings_of air) x → Contains (sendings_of air) y → Meets x y
      → frame_of_sending s.profile x ≡ frame_of_sending s.profile y
  one_frame x y first second meets =
      let one = earlier_frame x y second meets in
      let other = earlier_frame y x first (record { before = meets.after; after = meets.before }) in
      omega (arith, one, other)

  on_channel : (x y : Sending) → Contains r.sendings x → Contains (sendings_of air) y → y.rank ≡ rank → Meets x y → Contains r.sendings y
  on_channel x y sent there channel meets =
      let is = sent_here x sent in
      let step = safe.no_overlap x y is.0 there (is.1.0 ∙ sym channel) meets in
      sent_so y there (channel, sym step.slot.frame ∙ is.1.1, sym step.slot.slot ∙ is.1.2)

  -- the window that called for a transmission is of its frame
  called : (y : Sending) → Contains (sendings_of air) y → IsCalled s clocks y.node (device_in s clocks air y.node (run_end s)).made.windows y
  called y there =
      let calls = sends_as_called s clocks air (run s clocks air lawful) y.node
      (sent_known s clocks air (run s clocks air lawful).heedful.trails y there) (run_end s) (omega arith) in
      calls.called y (in_trail s clocks air (whole s clocks air lawful) y there)

  own_channel : (x y : Sending) → Contains r.sendings x → Contains (sendings_of air) y → IsParticipant r y.node → Meets x y → y.rank ≡ rank
  own_channel x y sent there here meets =
      let is = sent_here x sent in
      let call = called y there in
      let w = call.window in
      let frame : w.frame ≡ f = sym call.of_slot.frame ∙ sym (one_frame x y is.0 there meets) ∙ is.1.1 in
      let window : IsWindowOf s clocks air w.rank f w.slot y.node w = record { there = call.there; frame = frame; channel = refl; slot = refl } in
      call.of_slot.channel ∙ party_rank s clocks air lawful rank f j p in_run start y.node w.rank w.slot w here window

  pub part_of_air : IsPart a r
  part_of_air = record {
    delta = refl;
    sent = λ x sent. (let is = sent_here x sent in (is.0, is.1.0));
    channel = on_channel;
    own = λ x y sent there here meets. on_channel x y sent there (own_channel x y sent there here meets) meets;
    passes_by = λ v x sent. (let is = sent_here x sent in
        ap (λ (g : ℕ). passes s.trace g (slot_of_sending x) (counter_of_sending x) x.node v) is.1.1
        ∙ ap (λ (i : ℕ). passes s.trace f i (counter_of_sending x) x.node v) is.1.2);
    captured_by = λ v x sent. (let is = sent_here x sent in
        ap (λ (g : ℕ). captured s.trace g (slot_of_sending x) (counter_of_sending x) v) is.1.1
        ∙ ap (λ (i : ℕ). captured s.trace f i (counter_of_sending x) v) is.1.2);
  }

  -- it ends in the run
  pub ends_in_run : (x : Sending) → Contains r.sendings x → x.end < run_end s
  ends_in_run x sent =
      let is = sent_here x sent in
      let ends : x.end < frame_start s (f + 1) = subst (λ (g : ℕ). x.end < frame_start s (g + 1)) is.1.1 (safe.within_one_frame x is.0) in
      let more : (f + 1) * s.profile.frame ≤ s.frames * s.profile.frame = mul-le-mul_right s.profile.frame (omega (arith, in_run)) in
      omega (arith, ends, more)

  pub heard_here : (v : ℕ) (x : Sending) → WasHeard r v x → Contains r.sendings x
  heard_here v x heard =
      let is = heard_in_slot s.profile rank f j (hearings_of air) (record { node = v; sending = x }) heard in
      sent_so x ((lawful.lawful.hearing.heard v x).0 is.0).1.sent is.1

  pub by_rule : HearsByRule r (TunedThrough a)
  by_rule v x here = (to, from)
    where
      to : WasHeard r v x → HearsIn r (TunedThrough a) v x
      to heard =
          let is = heard_in_slot s.profile rank f j (hearings_of air) (record { node = v; sending = x }) heard in
          (rule_in_run a r part_of_air v x here (heard_here v x heard)).0 ((lawful.lawful.hearing.heard v x).0 is.0).1

      from : HearsIn r (TunedThrough a) v x → WasHeard r v x
      from hears =
          let sent = hears.sent in
          let is = sent_here x sent in
          in_heard s.profile rank f j (hearings_of air) (record { node = v; sending = x })
          ((lawful.lawful.hearing.heard v x).1 (ends_in_run x sent, (rule_in_run a r part_of_air v x here sent).1 hears)) is.1
