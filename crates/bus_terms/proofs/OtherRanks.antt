-- A node of another rank, or one that is off, is left alone by a round.
use Rattle.std.proofs.Common.{◌≡◌, ℕ, zero, suc, Bool, true, false, ◌==◌, ◌&&◌, ◌||◌, ◌+◌, Some, None, Option, refl, ap, sym, ◌∙◌, option_and_then, subst}
use Rattle.std.proofs.lemmas.Bool.{false≢true}
use Rattle.lwb_base.specs.Messages.{Plan}
use Rattle.scenario_text.specs.ScenarioParts.{ScenarioParts}
use Rattle.bus_rules.specs.declared.part.Part.{Part}
use Rattle.bus_rules.specs.declared.tune.Tune.{Tune}
use Rattle.bus_rules.specs.declared.tune.Tune.TheVariants.{Scan, Hold, Host}
use Rattle.bus_rules.specs.Tuning.{rank_of, hosts_in, holds_in, scans}
use Rattle.bus_rules.specs.Cores.{is_fresh}
use Rattle.bus_rules.specs.Plans.{last_slot}
use Rattle.bus_rules.specs.Slots.{Message, Opened, part_of, is_schedule_part}
use Rattle.bus_rules.specs.States.{State, StateOff, StateOn}
use Rattle.bus_rules.proofs.Ranks.{not_scanner}
use Rattle.bus_terms.specs.FloodOfText.{ids}
use Rattle.bus_terms.specs.Flooding.{has}
use Rattle.bus_terms.specs.Rounds.{opened_at, takes_part, message_said, slot_of_round, accepted_at, closed_at, closed_slot_of, left_by, after_round}
use Rattle.bus_terms.specs.Rounds.{after_slot, before_slot, round_of_rank, round_plan}
use Rattle.bus_terms.proofs.ReceivedByPaths.{of_filtered}
use Rattle.bus_terms.proofs.ReceivedInRounds.{accepted_none}

pub not_member : (rank f : ℕ) (t : Tune) (fresh : Bool) → (rank_of t == rank) ≡ false
    → (hosts_in rank f t || holds_in rank f t || (scans rank t && fresh)) ≡ false
not_member rank f (Scan r w) fresh other = rw other refl
not_member rank f (Hold r d) fresh other = rw other refl
not_member rank f (Host r d) fresh other = rw other refl

-- of another rank, or off
abbrev pub IsElsewhere : ℕ → State → Type 0
IsElsewhere rank (StateOff boots) = Unit {0}
IsElsewhere rank (StateOn c) = (rank_of c.tune == rank) ≡ false

pub no_window : (s : ScenarioParts) (rank f : ℕ) (part : Part) (v : ℕ) (x : State) → IsElsewhere rank x → opened_at s rank f part v x ≡ None
no_window s rank f part v (StateOff boots) other = refl
no_window s rank f part v (StateOn c) other = rw (not_member rank f c.tune (is_fresh c) other) refl

pub no_part : (rank : ℕ) (part : Part) (x : State) → IsElsewhere rank x → takes_part rank part x None ≡ true → ⊥
no_part rank part (StateOff boots) other is = by_part (is_schedule_part part) is
  where
    by_part : (b : Bool) → (b && false) ≡ true → ⊥
    by_part true is = false≢true is
    by_part false is = false≢true is
no_part rank part (StateOn c) other is = by_part (is_schedule_part part) (scans rank c.tune) (not_scanner rank c.tune other) is
  where
    by_part : (b t : Bool) → t ≡ false → (b && t) ≡ true → ⊥
    by_part true t at is = false≢true (sym at ∙ is)
    by_part false t at is = false≢true is

-- such a node takes no part in a slot, and accepts nothing in it
pub takes_no_part : (s : ScenarioParts) (rank f : ℕ) (p : Plan) (j v : ℕ) (states : ℕ → State) → IsElsewhere rank (states v)
    → has (slot_of_round s rank f p j states).flood.everyone v ≡ true → ⊥
takes_no_part s rank f p j v states other there =
    let part = part_of p j in
    let x = slot_of_round s rank f p j states in
    let passes = of_filtered (λ u. takes_part rank part (states u) (x.window u)) (ids s.nodes) v there in
    no_part rank part (states v) other
    (ap (λ (w : Option Opened). takes_part rank part (states v) w) (sym (no_window s rank f part v (states v) other)) ∙ passes)

pub accepts_nothing : (s : ScenarioParts) (rank f : ℕ) (p : Plan) (j v : ℕ) (states : ℕ → State) → IsElsewhere rank (states v)
    → accepted_at (slot_of_round s rank f p j states) v ≡ None
accepts_nothing s rank f p j v states other =
    let x = slot_of_round s rank f p j states in
    ap (λ (a : Option (ℕ × ℕ)). option_and_then (λ b. message_said (x.window b.0)) a)
    (accepted_none x.flood v (λ o k a. takes_no_part s rank f p j v states other a.here))

-- and no window of it closes
pub closes_nothing : (s : ScenarioParts) (rank f : ℕ) (p : Plan) (j v : ℕ) (states : ℕ → State) → IsElsewhere rank (states v)
    → closed_at s f (slot_of_round s rank f p j states) states v ≡ None
closes_nothing s rank f p j v states other =
    ap (λ (w : Option Opened). closed_slot_of s f (part_of p j) v w (accepted_at (slot_of_round s rank f p j states) v) (states v))
    (no_window s rank f (part_of p j) v (states v) other)
    ∙ ap (λ (m : Option Message). closed_slot_of s f (part_of p j) v None m (states v)) (accepts_nothing s rank f p j v states other)

pub slot_elsewhere : (s : ScenarioParts) (rank f : ℕ) (p : Plan) (j v : ℕ) (states : ℕ → State) → IsElsewhere rank (states v)
    → after_slot s rank f p j states v ≡ states v
slot_elsewhere s rank f p j v states other = ap (left_by (states v)) (closes_nothing s rank f p j v states other)

pub slots_elsewhere : (s : ScenarioParts) (rank f : ℕ) (p : Plan) (v : ℕ) (states : ℕ → State) → IsElsewhere rank (states v) → (j : ℕ)
    → before_slot s rank f p states j v ≡ states v
unfolding before_slot
slots_elsewhere s rank f p v states other zero = refl
slots_elsewhere s rank f p v states other (suc j) =
    let before = slots_elsewhere s rank f p v states other j in
    slot_elsewhere s rank f p j v (before_slot s rank f p states j) (subst (IsElsewhere rank) (sym before) other) ∙ before

pub round_elsewhere : (s : ScenarioParts) (rank f v : ℕ) (states : ℕ → State) → IsElsewhere rank (states v) → round_of_rank s rank f states v ≡ states v
round_elsewhere s rank f v states other = by_plan (round_plan s rank f states)
  where
    by_plan : (o : Option Plan) → after_round s rank f states o v ≡ states v
    by_plan None = refl
    by_plan (Some p) = slots_elsewhere s rank f p v states other (last_slot p + 1)
