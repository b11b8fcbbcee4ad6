-- Slots in which nothing is lost, and how far apart nodes are in them.
use Rattle.std.specs.Prelude.{◌≡◌, ◌<◌, ◌≤◌, ◌==◌, ◌&&◌, ℕ, Bool, true, false}
use Rattle.std.specs.List.{list_any}
use Rattle.lwb_base.specs.Messages.{Plan}
use Rattle.link_trace.specs.Passes.{is_link}
use Rattle.scenario_text.specs.ScenarioParts.{ScenarioParts}
use Rattle.bus_rules.specs.States.{State}
use Rattle.bus_terms.specs.Distances.{IsDistance}
use Rattle.bus_terms.specs.Flooding.{STEPS, has}
use Rattle.bus_terms.specs.Rounds.{Slot, slot_at}

-- the scenario has a link from u to v
abbrev pub is_linked : ScenarioParts → ℕ → ℕ → Bool
is_linked s u v = list_any (is_link u v) s.trace.links

-- v takes part in the slot: as a member of the round, or, in a slot of schedules, as a node that searches for this host
abbrev pub TakesPart : Slot → ℕ → Type 0
TakesPart x v = has x.flood.everyone v ≡ true

-- a slot without losses: every link between two nodes that take part passes in all of its steps
abbrev pub LosesNothing : ScenarioParts → Slot → Type 0
LosesNothing s x = (k u v : ℕ) → k < STEPS → TakesPart x u → TakesPart x v → is_linked s u v ≡ true → x.flood.passes k u v ≡ true

-- v takes part, and the least number of hops to it from u, by links through nodes that take part, is this, and at most FLOOD_STEPS
pub record IsWithin (s : ScenarioParts) (x : Slot) (u hops v : ℕ) : Type 0 where
  pub there : TakesPart x v
  pub distance : IsDistance (is_linked s) x.flood.everyone u hops v
  pub few : hops ≤ STEPS

-- no lose line is of slot j of frame f, and no cut line of this frame
pub record HasNoLines (s : ScenarioParts) (f j : ℕ) : Type 0 where
  pub losses : list_any (λ l. (l.frame == f) && (l.slot == j)) s.trace.losses ≡ false
  pub cuts : list_any (λ l. l.frame == f) s.trace.cuts ≡ false

-- such a slot loses nothing, whoever takes part in it
abbrev pub SlotsWithoutLinesLoseNothing : Type 0
SlotsWithoutLinesLoseNothing =
    (s : ScenarioParts) (rank f : ℕ) (p : Plan) (states : ℕ → State) (j : ℕ) → HasNoLines s f j → LosesNothing s (slot_at s rank f p states j)
