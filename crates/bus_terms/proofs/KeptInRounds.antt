-- What openings and closings of windows keep at each node holds before each slot of a round, and after all rounds of a frame.
use Rattle.std.proofs.Common.{◌≡◌, ◌+◌, ℕ, zero, suc, Bool, true, false, Option, Some, None, is_some, if◌then◌else◌, option_and_then}
use Rattle.lwb_base.specs.Messages.{Plan}
use Rattle.scenario_text.specs.ScenarioParts.{ScenarioParts}
use Rattle.bus_rules.specs.declared.part.Part.{Part}
use Rattle.bus_rules.specs.Plans.{last_slot}
use Rattle.bus_rules.specs.Slots.{Message, opened_slot, closed_slot, part_of}
use Rattle.bus_rules.specs.Cores.{Core, is_member}
use Rattle.bus_rules.specs.States.{State, StateOff, StateOn}
use Rattle.bus_terms.specs.Flooding.{accepted}
use Rattle.bus_terms.specs.Rounds.{slot_of_round, opened_at, message_said, accepted_at, closed_slot_of, left_by, before_slot, after_round, rounds}
use Rattle.bus_terms.specs.Rounds.{round_plan, rank_in}
use Rattle.scenario_text.specs.Setups.{setup_of}

module _ (s : ScenarioParts) (f : ℕ) (P : ℕ → State → Type 0) (Q : Message → Type 0)
    (opens : (v : ℕ) (part : Part) (c : Core) → P v (StateOn c) → P v (StateOn (opened_slot (setup_of s v) f part c).core))
    (says : (v : ℕ) (part : Part) (c : Core) (m : Message) → P v (StateOn c) → (opened_slot (setup_of s v) f part c).message ≡ Some m → Q m)
    (closes : (v : ℕ) (part : Part) (b : Bool) (c : Core) (heard : Option Message) → ((m : Message) → heard ≡ Some m → Q m) → P v (StateOn c)
    → P v (StateOn (closed_slot (setup_of s v) f part b c heard).core)) where
  -- what is said in a window
  window_says : (rank : ℕ) (part : Part) (v : ℕ) (x : State) (m : Message) → P v x → message_said (opened_at s rank f part v x) ≡ Some m → Q m
  window_says rank part v (StateOff boots) m is said = absurd (cc)
  window_says rank part v (StateOn c) m is said = by_member (is_member rank f c) said
    where
      by_member : (b : Bool) → message_said (if b then Some (opened_slot (setup_of s v) f part c) else None) ≡ Some m → Q m
      by_member true said = says v part c m is said
      by_member false said = absurd (cc)

  closing : (rank : ℕ) (part : Part) (v : ℕ) (heard : Option Message) (x : State) → ((m : Message) → heard ≡ Some m → Q m) → P v x
      → P v (left_by x (closed_slot_of s f part v (opened_at s rank f part v x) heard x))
  closing rank part v None (StateOff boots) told is = is
  closing rank part v (Some m) (StateOff boots) told is = is
  closing rank part v heard (StateOn c) told is = by_member (is_member rank f c) heard told
    where
      by_member : (b : Bool) (heard : Option Message) → ((m : Message) → heard ≡ Some m → Q m)
          → P v (left_by (StateOn c) (closed_slot_of s f part v (if b then Some (opened_slot (setup_of s v) f part c) else None) heard (StateOn c)))
      by_member true heard told = let o = opened_slot (setup_of s v) f part c in closes v part (is_some o.message) o.core heard told (opens v part c is)
      by_member false None told = is
      by_member false (Some m) told = closes v part false c (Some m) told is

  module _ (rank : ℕ) (p : Plan) (states : ℕ → State) where
    -- what is accepted was said
    heard_said : (j : ℕ) (g : ℕ → State) → ((v : ℕ) → P v (g v)) → (v : ℕ) (m : Message) → accepted_at (slot_of_round s rank f p j g) v ≡ Some m → Q m
    heard_said j g all v m is = by_first (accepted (slot_of_round s rank f p j g).flood v) is
      where
        by_first : (o : Option (ℕ × ℕ)) → option_and_then (λ (a : ℕ × ℕ). message_said (opened_at s rank f (part_of p j) a.0 (g a.0))) o ≡ Some m → Q m
        by_first None is = absurd (cc)
        by_first (Some a) is = window_says rank (part_of p j) a.0 (g a.0) m (all a.0) is

    pub slots_keep : ((v : ℕ) → P v (states v)) → (j v : ℕ) → P v (before_slot s rank f p states j v)
    unfolding before_slot
    slots_keep all zero v = all v
    slots_keep all (suc j) v =
        let g = before_slot s rank f p states j in
        closing rank (part_of p j) v (accepted_at (slot_of_round s rank f p j g) v) (g v) (λ m is. heard_said j g (slots_keep all j) v m is)
        (slots_keep all j v)

  in_round : (rank : ℕ) (states : ℕ → State) → ((v : ℕ) → P v (states v)) → (o : Option Plan) (v : ℕ) → P v (after_round s rank f states o v)
  in_round rank states all None v = all v
  in_round rank states all (Some p) v = slots_keep rank p states all (last_slot p + 1) v

  pub rounds_keep : (states : ℕ → State) → ((v : ℕ) → P v (states v)) → (v : ℕ) → P v (rounds s f states v)
  rounds_keep states all v = in_round (rank_in (states v)) states all (round_plan s (rank_in (states v)) f states) v
