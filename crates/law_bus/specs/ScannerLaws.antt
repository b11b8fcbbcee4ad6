-- The nodes of a slot that have no window by an alarm: they scan.
use Rattle.std.specs.Prelude.{ℕ, List}
use Rattle.scenario_text.specs.ScenarioParts.{ScenarioParts}
use Rattle.radio_model.specs.Hearing.{TunedThrough}
use Rattle.air_log.specs.declared.entry.Entry.{Entry}
use Rattle.air_log.specs.HearsAir.{scene_of}
use Rattle.lwb_flood.specs.FloodRun.{Run, IsParticipant}
use Rattle.lwb_flood.specs.Windows.{ListensInWindow as ListensIn}
use Rattle.law_terms.specs.SlotLaws.{HasWindow}
use Rattle.law_bus.specs.SlotRun.{AreEvents, run_of_slot}
use Rattle.law_bus.specs.RunLaws.{OfSlots}

-- each listens in some window that covers the flood
pub record ScannersListen (s : ScenarioParts) (clocks : ℕ → ℕ → ℕ) (air : List Entry) (rank f j : ℕ) (r : Run) : Type 0 where
  pub listens : (v : ℕ) → IsParticipant r v → (HasWindow s clocks air rank f j v → ⊥)
      → ListensIn r (TunedThrough (scene_of s.profile s.trace air)) v

abbrev pub ScannersLaw : Type 0
ScannersLaw = OfSlots (λ s clocks air rank f p j events. AreEvents s clocks air rank f j events
    → ScannersListen s clocks air rank f j (run_of_slot s clocks air rank f p j events))
