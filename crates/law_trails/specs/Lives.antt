-- The life of the host of a rank, step by step: when it is on, what it opens and closes, and what it plans by that.
use Rattle.std.specs.Prelude.{◌≡◌, ⊤, ℕ, ◌+◌, ◌-◌, ◌<◌, ◌≤◌, ◌⊎◌, List, [], ◌∷◌, ◌++◌, Bool, true, false, Some, Contains, if◌then◌else◌}
use Rattle.lwb_base.specs.Messages.{Plan}
use Rattle.lwb_base.specs.declared.limits.TheConstants.{GREATEST_GAP, QUIET_FRAMES}
use Rattle.bus_rules.specs.declared.tune.Tune.{Tune}
use Rattle.bus_rules.specs.declared.tune.Tune.TheVariants.{Scan, Hold, Host}
use Rattle.bus_rules.specs.Tuning.{hosts, next_tune}
use Rattle.bus_rules.specs.Cores.{no_plan}

-- in this frame it opened the round of a plan
pub record OpeningMade : Type 0 where
  pub frame : ℕ
  pub plan : Plan

-- in this frame it closed a round, and planned the one of the frame that is this many later
pub record ClosingMade : Type 0 where
  pub frame : ℕ
  pub gap : ℕ
  pub plan : Plan

-- boot: the frame in which it came on last; plan: what it opens with next, while it hosts
pub record Life : Type 0 where
  pub on : Bool
  pub frame : ℕ
  pub boot : ℕ
  pub tune : Tune
  pub plan : Plan
  pub openings : List OpeningMade
  pub closings : List ClosingMade

abbrev pub newborn : Life
newborn = record { on = false; frame = 0; boot = 0; tune = Scan 0 0; plan = no_plan; openings = []; closings = [] }

-- it comes on or goes off in a frame; it opens its round; it closes it with a gap and the next plan; it comes to hold a
-- rank; or the frame ends, a plan being there for one that becomes the host
pub data Step : Type 0 where
  ComesOn : (frame : ℕ) → Step
  GoesOff : (frame : ℕ) → Step
  Opens : Step
  Closes : (gap : ℕ) → (plan : Plan) → Step
  Holds : (rank : ℕ) → (due : ℕ) → Step
  Ends : (joined : Bool) → (plan : Plan) → Step

-- all that it opened and closed lies in frames before this one
pub record IsPast (l : Life) (frame : ℕ) : Type 0 where
  pub openings : (o : OpeningMade) → Contains l.openings o → o.frame < frame
  pub closings : (c : ClosingMade) → Contains l.closings c → c.frame < frame

-- when a step may come. A host whose round is this frame's has closed it when the frame ends
abbrev pub MayCome : ℕ → Life → Step → Type 0
MayCome rank l (ComesOn frame) = (l.on ≡ false) × (l.frame ≤ frame)
MayCome rank l (GoesOff frame) = (l.on ≡ true) × (l.frame ≤ frame) × IsPast l frame
MayCome rank l Opens = (l.on ≡ true) × (l.tune ≡ Host rank l.frame)
MayCome rank l (Closes gap plan) = (l.on ≡ true) × (l.tune ≡ Host rank l.frame) × (1 ≤ gap) × (gap ≤ GREATEST_GAP)
MayCome rank l (Holds r due) = (l.on ≡ true) × (hosts l.tune ≡ false)
MayCome rank l (Ends joined plan) = (l.on ≡ true) × (l.tune ≡ Host rank l.frame → ⊥)

abbrev pub plan_after : Tune → Tune → Plan → Plan → Plan
plan_after old new plan next = if hosts old then plan else if hosts new then next else plan

abbrev pub after_step : ℕ → ℕ → Life → Step → Life
after_step rank ranks l (ComesOn frame) = record l { on = true; frame = frame; boot = frame; tune = Scan 0 0 }
after_step rank ranks l (GoesOff frame) = record l { on = false; frame = frame }
after_step rank ranks l Opens = record l { openings = l.openings ++ record { frame = l.frame; plan = l.plan } ∷ [] }
after_step rank ranks l (Closes gap plan) = record l {
  tune = Host rank (l.frame + gap);
  plan = plan;
  closings = l.closings ++ record { frame = l.frame; gap = gap; plan = plan } ∷ [];
}
after_step rank ranks l (Holds r due) = record l { tune = Hold r due }
after_step rank ranks l (Ends joined plan) =
    let tune = next_tune l.tune l.frame joined (Some rank) ranks in
    record l { tune = tune; plan = plan_after l.tune tune l.plan plan; frame = l.frame + 1 }

-- one step after another
unfoldable pub after_steps : ℕ → ℕ → Life → List Step → Life
after_steps rank ranks l [] = l
after_steps rank ranks l (x ∷ xs) = after_steps rank ranks (after_step rank ranks l x) xs

unfoldable pub AllMayCome : ℕ → ℕ → Life → List Step → Type 0
AllMayCome rank ranks l [] = ⊤
AllMayCome rank ranks l (x ∷ xs) = MayCome rank l x × AllMayCome rank ranks (after_step rank ranks l x) xs

-- what its plan and its frames are worth, by its tune
pub record HostsQuietly (rank : ℕ) (l : Life) (r due : ℕ) : Type 0 where
  pub own : r ≡ rank
  pub ahead : l.frame ≤ due
  pub waited : l.boot + QUIET_FRAMES ≤ due
  pub closed : (c : ClosingMade) → Contains l.closings c → c.frame + c.gap ≤ due
  pub planned : (c : ClosingMade) → Contains l.closings c → c.frame + c.gap ≡ due → c.plan ≡ l.plan
  pub unclosed : due ≡ l.frame → (c : ClosingMade) → Contains l.closings c → c.frame < l.frame
  pub opened : due ≡ l.frame → (o : OpeningMade) → Contains l.openings o → o.frame ≡ l.frame → o.plan ≡ l.plan

abbrev pub ByTune : ℕ → Life → Tune → Type 0
ByTune rank l (Host r due) = HostsQuietly rank l r due
ByTune rank l (Hold r due) = (l.boot ≤ l.frame) × IsPast l l.boot
ByTune rank l (Scan r waited) = (l.boot + waited ≤ l.frame) × IsPast l l.boot

abbrev pub ByPower : ℕ → Life → Bool → Type 0
ByPower rank l true = ByTune rank l l.tune
ByPower rank l false = IsPast l l.frame

-- each closing is over before the next one and before the next opening, and says what the opening of its due frame says
pub record Quiet (rank : ℕ) (l : Life) : Type 0 where
  pub opened : (o : OpeningMade) → Contains l.openings o → o.frame ≤ l.frame
  pub closed : (c : ClosingMade) → Contains l.closings c → c.frame ≤ l.frame
  pub gaps : (c : ClosingMade) → Contains l.closings c → (1 ≤ c.gap) × (c.gap ≤ GREATEST_GAP)
  pub one_opening : (o e : OpeningMade) → Contains l.openings o → Contains l.openings e → o.frame ≡ e.frame → o.plan ≡ e.plan
  pub one_closing : (c d : ClosingMade) → Contains l.closings c → Contains l.closings d → c.frame ≡ d.frame → c ≡ d
  pub apart : (c d : ClosingMade) → Contains l.closings c → Contains l.closings d → c.frame < d.frame → c.frame + c.gap ≤ d.frame
  pub before : (c : ClosingMade) (o : OpeningMade) → Contains l.closings c → Contains l.openings o → c.frame < o.frame → c.frame + c.gap ≤ o.frame
  pub kept : (c : ClosingMade) (o : OpeningMade) → Contains l.closings c → Contains l.openings o → c.frame + c.gap ≡ o.frame → c.plan ≡ o.plan
  pub stands : ByPower rank l l.on

-- a plan for a round of this frame
pub record ClosedFor (l : Life) (frame : ℕ) (plan : Plan) : Type 0 where
  pub gap : ℕ
  pub before : ℕ
  pub there : Contains l.closings (record { frame = before; gap = gap; plan = plan })
  pub due : before + gap ≡ frame

abbrev pub PlansFor : Life → ℕ → Plan → Type 0
PlansFor l frame plan = ClosedFor l frame plan ⊎ Contains l.openings (record { frame = frame; plan = plan })

abbrev pub SaysNothing : Step → Type 0
SaysNothing Opens = ⊥
SaysNothing (Closes gap plan) = ⊥
SaysNothing (ComesOn frame) = ⊤
SaysNothing (GoesOff frame) = ⊤
SaysNothing (Holds r due) = ⊤
SaysNothing (Ends joined plan) = ⊤

-- the laws: a host stays quiet whatever comes
abbrev pub HostsAreQuiet : Type 0
HostsAreQuiet = (rank ranks : ℕ) (xs : List Step) → AllMayCome rank ranks newborn xs → Quiet rank (after_steps rank ranks newborn xs)

-- for a frame it has one plan
abbrev pub OnePlan : Type 0
OnePlan = (rank : ℕ) (l : Life) → Quiet rank l → (frame : ℕ) (p q : Plan) → PlansFor l frame p → PlansFor l frame q → p ≡ q

-- after it went off in frame b nothing holds that it said before for as long as a greatest gap, and it says nothing for QUIET_FRAMES
abbrev pub QuietPeriod : Type 0
QuietPeriod = (rank ranks b : ℕ) (xs ys : List Step) → AllMayCome rank ranks newborn (xs ++ GoesOff b ∷ ys)
    → ((y : Step) → Contains ys y → SaysNothing y)
    → let l : Life = after_steps rank ranks newborn (xs ++ GoesOff b ∷ ys) in
    ((c : ClosingMade) → Contains l.closings c → c.frame + c.gap ≤ b + (GREATEST_GAP - 1))
    × (hosts l.tune ≡ true → l.on ≡ true → l.tune ≡ Host rank l.frame → b + QUIET_FRAMES ≤ l.frame)
