-- What the slot of a window is for.
use Rattle.std.specs.Prelude.{◌≡◌, ◌⊎◌, ℕ, List}
use Rattle.lwb_base.specs.Messages.{Plan}
use Rattle.bus_rules.specs.declared.part.Part.{Part}
use Rattle.bus_rules.specs.declared.part.Part.TheVariants.{Opening}
use Rattle.bus_rules.specs.Slots.{part_of}
use Rattle.lwb_member.specs.Places.{kind_for}
use Rattle.scenario_text.specs.ScenarioParts.{ScenarioParts}
use Rattle.air_log.specs.declared.entry.Entry.{Entry}
use Rattle.air_log.specs.WindowLogs.{WindowLog}
use Rattle.law_safety.specs.SentPlans.{IsPlanned}

-- slot j of the round of a rank and a frame is for this part, by a plan that was sent for the round
pub record IsInPlan (s : ScenarioParts) (air : List Entry) (rank frame j : ℕ) (part : Part) : Type 0 where
  pub plan : Plan
  pub planned : IsPlanned s air rank frame plan
  pub part_is : part_of plan j ≡ part

-- slot 0 is for the opening whatever was sent
abbrev pub IsPartOf : ScenarioParts → List Entry → ℕ → ℕ → ℕ → Part → Type 0
IsPartOf s air rank frame j part = ((j ≡ 0) × (part ≡ Opening)) ⊎ IsInPlan s air rank frame j part

-- the part that a window goes by is that of its slot
abbrev pub IsForPart : ScenarioParts → List Entry → WindowLog → Type 0
IsForPart s air w = IsPartOf s air w.rank w.frame w.slot w.last.part

-- and its flood is one of the slot: of the kind of that part, and of as many transmissions at most as the scenario says
pub record IsOfItsSlot (s : ScenarioParts) (w : WindowLog) : Type 0 where
  pub kind : w.last.flood.kind ≡ kind_for w.last.part
  pub slot : w.last.flood.slot ≡ w.slot
  pub limit : w.last.flood.limit ≡ s.sends
