-- Whatever is sent in a valid run is sent in the flood of a slot of the bus.
use Rattle.std.proofs.Common.{◌≡◌, ℕ, ◌≤◌, List, true, is_some, slice_set, Contains, refl, sym, ◌∙◌, ap, subst, arith}
use Rattle.lwb_base.specs.Messages.{Plan}
use Rattle.lwb_base.proofs.Options.{some_is}
use Rattle.bus_rules.specs.Plans.{last_slot}
use Rattle.scenario_text.specs.ScenarioParts.{ScenarioParts}
use Rattle.scenario_text.specs.FloodParts.{knows}
use Rattle.radio_model.specs.declared.sending.Sending.{Sending}
use Rattle.radio_model.specs.Hearing.{frame_of_sending, slot_of_sending as slot_byte}
use Rattle.air_log.specs.declared.entry.Entry.{Entry}
use Rattle.air_log.specs.Entries.{sendings_of}
use Rattle.air_log.specs.Trails.{run_end}
use Rattle.law_trails.specs.TrailLinks.{device_in}
use Rattle.law_trails.proofs.SentInTrails.{sent_known}
use Rattle.law_safety.proofs.RunSendings.{in_trail}
use Rattle.law_windows.specs.WindowCalls.{IsCalled}
use Rattle.law_windows.proofs.WindowFacts.{sends_as_called}
use Rattle.bus_terms.specs.FloodOfText.{ids}
use Rattle.bus_terms.specs.Flooding.{Sends, Setting, has}
use Rattle.bus_terms.specs.Rounds.{Slot, message_said}
use Rattle.bus_terms.proofs.ReceivedByPaths.{of_filtered}
use Rattle.lwb_flood.specs.FloodRun.{Run, counter}
use Rattle.lwb_flood.specs.FloodBySteps.{IsFloodBySteps}
use Rattle.law_terms.specs.LawfulRuns.{IsLawfulRun}
use Rattle.bus_terms.specs.HostedRounds.{slot_in}
use Rattle.law_terms.specs.SlotLaws.{IsAligned, IsRound, IsSaidIn, SentLaw, Says}
use Rattle.law_terms.specs.SlotRuns.{IsRunOf, RunsLaw}
use Rattle.law_terms.specs.SlotSteps.{SlotHeardLaw}
use Rattle.law_bus.proofs.CoresOfWindows.{all_slots, cores_law}
use Rattle.law_bus.proofs.RunsOfLogs.{run, whole}

module _ (s : ScenarioParts) (clocks : ℕ → ℕ → ℕ) (air : List Entry) (x : Sending) (there : Contains (sendings_of air) x) (p : Plan) where
  abbrev f : ℕ
  f = frame_of_sending s.profile x

  abbrev slot : Slot
  slot = slot_in s x.rank f p (slot_byte x)

  -- where its slot is a run of the flood theorem
  said_in_run : IsRound s x.rank f p → slot_byte x ≤ last_slot p → (r : Run) → IsRunOf s clocks air x.rank f p (slot_byte x) r → IsFloodBySteps r
      → IsSaidIn s x
  said_in_run round within r is steps =
      let in_run : Contains r.sendings x = (is.sendings x).1 (there, refl, refl, refl) in
      let found = steps.spelled x in_run in
      let o = found.0 in
      let k = counter x in
      let begun : has slot.flood.initiators o ≡ true = subst (λ (g : Setting). has g.initiators o ≡ true) is.setting found.1 in
      let m = some_is (message_said (slot.window o)) (of_filtered (λ u. is_some (message_said (slot.window u))) (ids s.nodes) o begun) in
      let says : Says s x.rank f p (slot_byte x) o m.0 = (begun, m.1) in
      record {
        plan = p;
        round = round;
        slot = within;
        origin = o;
        message = m.0;
        said = says;
        counter = k;
        few = found.2;
        packet = found.3 ∙ ap (λ (q : List ℕ). slice_set q 2 k) (is.message o m.0 says);
        sends = subst (λ (g : Setting). Sends g x.node k o) is.setting
            ((steps.sends x.node k o found.1 found.2).0 (record { sending = x; sent = in_run; node = refl; packet = found.3 }));
      }

module _ (heards : SlotHeardLaw) (runs : RunsLaw) (s : ScenarioParts) (clocks : ℕ → ℕ → ℕ) (air : List Entry) (lawful : IsLawfulRun s clocks air)
    (x : Sending) (there : Contains (sendings_of air) x) where
  known : knows s.nodes x.node ≡ true
  known = sent_known s clocks air (run s clocks air lawful).heedful.trails x there

  -- a window of its node called for it, which is one of the bus
  called : IsCalled s clocks x.node (device_in s clocks air x.node (run_end s)).made.windows x
  called = (sends_as_called s clocks air (run s clocks air lawful) x.node known (run_end s) (omega arith)).called x
      (in_trail s clocks air (whole s clocks air lawful) x there)

  aligned : IsAligned s x.node called.window
  aligned = cores_law heards s clocks air lawful x.node called.window known called.there

  round : IsRound s x.rank (frame_of_sending s.profile x) aligned.plan
  round = subst (λ (g : ℕ). IsRound s x.rank g aligned.plan) (sym called.of_slot.frame)
      (subst (λ (r : ℕ). IsRound s r called.window.frame aligned.plan) (sym called.of_slot.channel) aligned.round)

  within : slot_byte x ≤ last_slot aligned.plan
  within = subst (λ (i : ℕ). i ≤ last_slot aligned.plan) (sym called.of_slot.slot) aligned.slot

  said : IsSaidIn s x
  said =
      let start = (all_slots heards s clocks air lawful x.rank (frame_of_sending s.profile x) (slot_byte x) aligned.plan round within).0 in
      let r = runs s clocks air lawful x.rank (frame_of_sending s.profile x) (slot_byte x) aligned.plan round within start in
      said_in_run s clocks air x there aligned.plan round within r.0 r.1 r.2

pub sent_law : SlotHeardLaw → RunsLaw → SentLaw
sent_law heards runs s clocks air lawful x there = said heards runs s clocks air lawful x there
