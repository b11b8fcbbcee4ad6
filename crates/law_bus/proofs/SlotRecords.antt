-- The record of a slot is a run of the bus's slot: its floods end as the windows of its nodes.
use Rattle.std.proofs.Common.{◌≡◌, ℕ, Bool, true, false, List, is_some, inl, inr, refl, sym, ◌∙◌, ap, subst, true≢false}
use Rattle.lwb_base.specs.Messages.{Plan}
use Rattle.glossy_relay.specs.FloodState.{FloodState}
use Rattle.glossy_relay.specs.Relaying.{accepted_of}
use Rattle.scenario_text.specs.ScenarioParts.{ScenarioParts}
use Rattle.air_log.specs.declared.entry.Entry.{Entry}
use Rattle.air_log.specs.Lawful.{trail_in}
use Rattle.air_log.specs.NodeEvents.{Event, flood_after_events}
use Rattle.scenario_text.specs.Setups.{setup_of}
use Rattle.air_log.specs.WindowLogs.{WindowLog}
use Rattle.law_windows.specs.WindowFloods.{flood_at_first}
use Rattle.lwb_flood.specs.FloodRun.{Run, flood_at_beginning}
use Rattle.lwb_flood.specs.FloodBySteps.{flood_at_end}
use Rattle.law_terms.specs.LawfulRuns.{IsLawfulRun}
use Rattle.law_terms.specs.SlotLaws.{IsRound, IsWindowOf}
use Rattle.law_terms.specs.SlotRuns.{IsRunOf, HasClosed}
use Rattle.law_terms.specs.SlotSteps.{IsSlotStart}
use Rattle.law_bus.proofs.SlotsAtNodes.{look_up}
use Rattle.law_bus.specs.SlotRun.{AreEvents, run_of_slot}
use Rattle.law_bus.proofs.RelayedInSlots.{begins_so, begins_by, initiates_by}
use Rattle.law_bus.proofs.SlotEvents.{has_closed}
use Rattle.law_bus.proofs.SlotSpeakers.{speaker}
use Rattle.law_bus.proofs.SlotWindows.{window_takes}
use Rattle.law_bus.proofs.SlotsOfTheBus.{of_bus}

module _ (s : ScenarioParts) (clocks : ℕ → ℕ → ℕ) (air : List Entry) (lawful : IsLawfulRun s clocks air)
    (rank f j : ℕ) (p : Plan) (round : IsRound s rank f p) (start : IsSlotStart s clocks air rank f p j)
    (events : ℕ → List Event) (are : AreEvents s clocks air rank f j events) where
  abbrev r : Run
  r = run_of_slot s clocks air rank f p j events

  abbrev Of : ℕ → WindowLog → Type 0
  Of v w = IsWindowOf s clocks air rank f j v w

  -- the flood of a window is what its events have made of it
  pub ends_so : (v : ℕ) (w : WindowLog) → Of v w → flood_at_end r v ≡ w.last.flood
  ends_so v w here =
      let played = are.by_window v w here in
      ap (λ (g : FloodState). flood_after_events g (events v)) (begins_so s clocks air lawful rank f j p round start events are v w here)
      ∙ ap (flood_after_events (flood_at_first (setup_of s v) w.by_alarm w)) (sym played.same) ∙ sym played.part.has.flood

  nothing_first : (v : ℕ) → ((w : WindowLog) → Of v w → ⊥) → (b : Bool)
      → initiates_by s clocks air lawful rank f j p round start events are v ≡ b → is_some (accepted_of (flood_at_beginning r v)) ≡ true → ⊥
  nothing_first v none true is some =
      let who = speaker s clocks air lawful rank f j p round.in_run start v is in
      none who.window who.here
  nothing_first v none false is some =
      true≢false (sym some ∙ ap (λ (g : FloodState). is_some (accepted_of g)) (begins_by s clocks air lawful rank f j p round start events are v false is))

  -- who has accepted has a window
  accepts_in : (v : ℕ) → is_some (accepted_of (flood_at_end r v)) ≡ true → HasClosed s clocks air rank f j v
  accepts_in v some =
      elim (look_up rank f j (trail_in s clocks air v).made.windows) [
        | inl own ↦ record {
          window = own.window;
          here = record { there = own.there; frame = own.frame; channel = own.channel; slot = own.slot };
          closed = has_closed s clocks air lawful rank f j round.in_run v own.window own.there own.frame;
        }
        | inr none ↦ (
            let without : (w : WindowLog) → Of v w → ⊥ = λ w here. none w here.there here.frame here.channel here.slot in
            absurd (nothing_first v without (initiates_by s clocks air lawful rank f j p round start events are v) refl
            (subst (λ (es : List Event). is_some (accepted_of (flood_after_events (flood_at_beginning r v) es)) ≡ true) (are.without v without) some))
            )
      ]

  pub is_run_of : IsRunOf s clocks air rank f p j r
  is_run_of =
      let bus = of_bus s clocks air lawful rank f j p events in
      record {
        setting = bus.setting;
        slot = bus.slot;
        channel = bus.channel;
        kind = bus.kind;
        message = bus.message;
        sendings = bus.sendings;
        hearings = λ v x here. bus.hearings v x;
        flood = λ v w here shut. ends_so v w here;
        part = λ v w here. window_takes s clocks air lawful rank f j p round start v w here;
        closes = λ v here some. accepts_in v some;
      }
