-- The events of each node in a slot: those of its window.
use Rattle.std.proofs.Common.{◌≡◌, ℕ, ◌<◌, List, [], true, is_some, inl, inr, Contains, refl, sym, ◌∙◌, subst, arith}
use Rattle.std.specs.Prelude.{◌⊎◌}
use Rattle.scenario_text.specs.ScenarioParts.{ScenarioParts}
use Rattle.air_log.specs.declared.entry.Entry.{Entry}
use Rattle.air_log.specs.Lawful.{trail_in}
use Rattle.air_log.specs.NodeEvents.{Event}
use Rattle.air_log.specs.Trails.{run_end}
use Rattle.air_log.specs.WindowLogs.{WindowLog}
use Rattle.law_windows.specs.WindowParts.{TakesPart}
use Rattle.law_windows.proofs.WindowFacts.{one_a_slot}
use Rattle.law_windows.proofs.WindowParts.{nodes_take_part}
use Rattle.law_terms.specs.LawfulRuns.{IsLawfulRun}
use Rattle.law_terms.specs.SlotLaws.{IsWindowOf}
use Rattle.law_bus.proofs.RunsOfLogs.{run, known_by, course_of}
use Rattle.law_bus.proofs.SlotsAtNodes.{IsThere, NoneThere, look_up}
use Rattle.law_bus.specs.SlotRun.{IsPlayed, AreEvents}

module _ (s : ScenarioParts) (clocks : ℕ → ℕ → ℕ) (air : List Entry) (lawful : IsLawfulRun s clocks air)
    (rank f j : ℕ) (in_run : f < s.frames) where
  abbrev logs : ℕ → List WindowLog
  logs v = (trail_in s clocks air v).made.windows

  -- each window of the slot has closed
  pub has_closed : (v : ℕ) (w : WindowLog) → Contains (logs v) w → w.frame ≡ f → is_some w.closed ≡ true
  has_closed v w there frame =
      (course_of s clocks air lawful v f w in_run (record { there = there; frame = frame })).course.closes w (record { there = there; frame = frame })

  abbrev played : (v : ℕ) (is : IsThere rank f j (logs v)) → TakesPart s clocks air v is.window
  played v is = nodes_take_part s clocks air (record { sound = lawful.sound; drift = lawful.drift }) lawful.lawful v
      (known_by s clocks air lawful v is.window is.there) is.window is.there

  abbrev events_by : (v : ℕ) → IsThere rank f j (logs v) ⊎ NoneThere rank f j (logs v) → List Event
  events_by v (inl is) = (played v is).has.events
  events_by v (inr none) = []

  -- a node has one window of the slot
  pub same_window : (v : ℕ) (w x : WindowLog) → IsWindowOf s clocks air rank f j v w → IsWindowOf s clocks air rank f j v x → w ≡ x
  same_window v w x here also = one_a_slot s clocks air (run s clocks air lawful) v (known_by s clocks air lawful v w here.there)
      (run_end s) (omega arith) w x here.there also.there
      (record { rank = here.channel ∙ sym also.channel; frame = here.frame ∙ sym also.frame; slot = here.slot ∙ sym also.slot })

  by_window : (v : ℕ) (w : WindowLog) → IsWindowOf s clocks air rank f j v w → (l : IsThere rank f j (logs v) ⊎ NoneThere rank f j (logs v))
      → IsPlayed s clocks air v w (events_by v l)
  by_window v w here (inl is) =
      subst (λ (x : WindowLog). IsPlayed s clocks air v x (played v is).has.events)
      (same_window v is.window w (record { there = is.there; frame = is.frame; channel = is.channel; slot = is.slot }) here)
      (record { part = played v is; same = refl })
  by_window v w here (inr none) = absurd (none w here.there here.frame here.channel here.slot)

  without : (v : ℕ) → ((w : WindowLog) → IsWindowOf s clocks air rank f j v w → ⊥) → (l : IsThere rank f j (logs v) ⊎ NoneThere rank f j (logs v))
      → events_by v l ≡ []
  without v none (inl is) = absurd (none is.window (record { there = is.there; frame = is.frame; channel = is.channel; slot = is.slot }))
  without v none (inr _) = refl

  pub all_events : (events : ℕ → List Event) × AreEvents s clocks air rank f j events
  all_events = (
    λ v. events_by v (look_up rank f j (logs v)),
    record {
      by_window = λ v w here. by_window v w here (look_up rank f j (logs v));
      without = λ v none. without v none (look_up rank f j (logs v));
    },
  )
