-- The floods of slots, as they are defined and as the code runs them.
use Rattle.std.specs.Prelude.{◌≡◌, ℕ, List, [], ◌∷◌, ⊤}
use Rattle.lwb_base.specs.Messages.{Plan}
use Rattle.link_trace.specs.Sealed.{Traced}
use Rattle.scenario_text.specs.ScenarioParts.{ScenarioParts}
use Rattle.bus_rules.specs.States.{State}
use Rattle.bus_terms.specs.Flooding.{Setting}
use Rattle.bus_terms.specs.FloodOfText.{ids}
use Rattle.bus_terms.specs.Rounds.{slot_at}
use Rattle.plain_bus.specs.FloodMasks.{IsMaskedFlood, traced}
use Rattle.plain_bus.specs.declared.station.Flood.{Flood}

-- a flood and its slot
pub record SlotFlood : Type 0 where
  pub slot : ℕ
  pub flood : Setting

-- that of slot j of the round of this rank and frame, which began in these states
abbrev pub slot_flood : ScenarioParts → ℕ → ℕ → Plan → (ℕ → State) → ℕ → SlotFlood
slot_flood s rank f p start j = record { slot = j; flood = (slot_at s rank f p start j).flood }

-- the code ran it, in this frame over these links
pub record IsRunFlood (t : Traced) (f : ℕ) (y : SlotFlood) (x : Flood) : Type 0 where
  pub frame : x.frame ≡ f
  pub slot : x.slot ≡ y.slot
  pub masked : IsMaskedFlood y.flood t x

-- the code ran these floods, in this order
abbrev pub AreRunFloods : Traced → ℕ → List SlotFlood → List Flood → Type 0
AreRunFloods t f [] [] = ⊤
AreRunFloods t f [] (x ∷ xs) = ⊥
AreRunFloods t f (y ∷ ys) [] = ⊥
AreRunFloods t f (y ∷ ys) (x ∷ xs) = IsRunFlood t f y x × AreRunFloods t f ys xs

-- over the links of the scenario
abbrev pub HasRun : ScenarioParts → ℕ → List SlotFlood → List Flood → Type 0
HasRun s f ys xs = AreRunFloods (traced s.trace (ids s.nodes)) f ys xs
