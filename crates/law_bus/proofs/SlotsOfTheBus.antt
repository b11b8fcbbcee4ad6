-- The run of a slot is the bus's flood, with the transmissions and receptions of the slot.
use Rattle.std.proofs.Common.{ℕ, List, refl, ap}
use Rattle.lwb_base.specs.Messages.{Plan}
use Rattle.scenario_text.specs.ScenarioParts.{ScenarioParts}
use Rattle.air_log.specs.declared.entry.Entry.{Entry}
use Rattle.air_log.specs.Entries.{sendings_of, hearings_of}
use Rattle.air_log.specs.NodeEvents.{Event}
use Rattle.law_terms.specs.LawfulRuns.{IsLawfulRun}
use Rattle.law_bus.specs.SlotRun.{run_of_slot, bytes_said}
use Rattle.law_bus.specs.RunLaws.{IsOfBus}
use Rattle.law_bus.proofs.SlotSendings.{of_slot, in_slot, heard_in_slot, in_heard}

pub of_bus : (s : ScenarioParts) (clocks : ℕ → ℕ → ℕ) (air : List Entry) → IsLawfulRun s clocks air
    → (rank f j : ℕ) (p : Plan) (events : ℕ → List Event) → IsOfBus s air rank f p j (run_of_slot s clocks air rank f p j events)
of_bus s clocks air lawful rank f j p events = record {
  setting = refl;
  slot = refl;
  channel = refl;
  kind = refl;
  message = λ o m says. ap (bytes_said j) says.1;
  sendings = λ x. (
    λ there. (let is = of_slot s.profile rank f j (sendings_of air) x there in (is.0, is.1.0, is.1.1, is.1.2)),
    λ is. in_slot s.profile rank f j (sendings_of air) x is.0 (is.1, is.2, is.3),
  );
  hearings = λ v x. (
    λ heard. (
        let is = heard_in_slot s.profile rank f j (hearings_of air) (record { node = v; sending = x }) heard in
        (is.0, in_slot s.profile rank f j (sendings_of air) x ((lawful.lawful.hearing.heard v x).0 is.0).1.sent is.1)
        ),
    λ is. in_heard s.profile rank f j (hearings_of air) (record { node = v; sending = x }) is.0
        (of_slot s.profile rank f j (sendings_of air) x is.1).1,
  );
}
