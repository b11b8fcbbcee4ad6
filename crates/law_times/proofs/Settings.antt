-- What a node goes by: its tune, whether it is fresh, and its plan; and what leaves them as they are.
use Rattle.std.proofs.Common.{◌≡◌, ℕ, Bool, true, false, Option, Some, None, if◌then◌else◌, refl, sym, ◌∙◌, ap}
use Rattle.law_times.proofs.Words.{false≢true, Plan, Schedule, Act, On, Off, Declare, Leave, Put, Part, Opening, DataSlot, Contention, Closing, Tune, Core}
use Rattle.law_times.proofs.Words.{Setup, opening, Message, ScheduleOf, DataOf, RequestOf, opened_slot, closed_slot, hosts_now, host_closes, silent, State}
use Rattle.law_times.proofs.Words.{StateOff, StateOn, state_after_act, data_no_schedule, contention_no_schedule, turns_off, is_on_and}

pub record Setting : Type 0 where
  pub tune : Tune
  pub own_slot : Option ℕ
  pub plan : Plan

abbrev pub of_core : Core → Setting
of_core c = record { tune = c.tune; own_slot = c.own_slot; plan = c.plan }

-- none where the node is off
abbrev pub setting : State → Option Setting
setting (StateOff boots) = None
setting (StateOn c) = Some (of_core c)

abbrev pub idle : Tune → Plan → Setting
idle t p = record { tune = t; own_slot = None; plan = p }

abbrev pub tune_of : State → Option Tune
tune_of (StateOff boots) = None
tune_of (StateOn c) = Some c.tune

pub same_setting : (a b : Setting) → Some a ≡ Some b → a ≡ b
same_setting a b is = cc

-- the tune of a node by its setting
pub setting_tune : (x : State) (t : Tune) (p : Plan) → setting x ≡ Some (idle t p) → tune_of x ≡ Some t
setting_tune (StateOff boots) t p goes = absurd (cc)
setting_tune (StateOn c) t p goes = ap (λ (k : Setting). Some k.tune) (same_setting (of_core c) (idle t p) goes)

pub core_tune : (c : Core) (t : Tune) (p : Plan) → setting (StateOn c) ≡ Some (idle t p) → c.tune ≡ t
core_tune c t p goes = ap (λ (k : Setting). k.tune) (same_setting (of_core c) (idle t p) goes)

pub core_at : (x : State) (k : Setting) → setting x ≡ Some k → (c : Core) × (x ≡ StateOn c) × (of_core c ≡ k)
core_at (StateOff boots) k is = absurd (cc)
core_at (StateOn c) k is = (c, refl, cc)

-- a message that is no schedule
abbrev pub IsOther : Message → Type 0
IsOther m = (y : Schedule) → m ≡ ScheduleOf y → ⊥

-- who does not host a round of the frame says none
pub says_other : (q : Setup) (f : ℕ) (part : Part) (c : Core) (m : Message) → hosts_now f c ≡ false → (opened_slot q f part c).message ≡ Some m → IsOther m
says_other q f (DataSlot owner) c m now said y is = data_no_schedule q f owner c y (said ∙ ap (λ (n : Message). Some n) is)
says_other q f (Contention i) c m now said y is = contention_no_schedule q f i c y (said ∙ ap (λ (n : Message). Some n) is)
says_other q f Opening c m now said y is = by_test (hosts_now f c) now said
  where
    by_test : (b : Bool) → b ≡ false → (if b then Some (ScheduleOf (opening c.plan)) else None) ≡ Some m → ⊥
    by_test true not_now said = false≢true (sym not_now)
    by_test false not_now said = cc
says_other q f Closing c m now said y is = by_test (hosts_now f c) now said
  where
    by_test : (b : Bool) → b ≡ false → (if b then host_closes q f c else silent c).message ≡ Some m → ⊥
    by_test true not_now said = false≢true (sym not_now)
    by_test false not_now said = cc

-- its windows change none of it
pub opened_same : (q : Setup) (f : ℕ) (part : Part) (c : Core) → hosts_now f c ≡ false → of_core (opened_slot q f part c).core ≡ of_core c
opened_same q f Opening c now = refl
opened_same q f (DataSlot owner) c now = refl
opened_same q f (Contention i) c now = refl
opened_same q f Closing c now = by_test (hosts_now f c) now
  where
    by_test : (b : Bool) → b ≡ false → of_core (if b then host_closes q f c else silent c).core ≡ of_core c
    by_test true not_now = absurd (false≢true (sym not_now))
    by_test false not_now = refl

pub closed_same : (q : Setup) (f : ℕ) (part : Part) (b : Bool) (c : Core) (heard : Option Message) → ((m : Message) → heard ≡ Some m → IsOther m)
    → of_core (closed_slot q f part b c heard).core ≡ of_core c
closed_same q f part b c (Some (ScheduleOf y)) other = absurd (other (ScheduleOf y) refl y refl)
closed_same q f Opening b c None other = refl
closed_same q f (DataSlot owner) b c None other = refl
closed_same q f (Contention i) b c None other = refl
closed_same q f Closing b c None other = refl
closed_same q f Opening b c (Some (DataOf d)) other = refl
closed_same q f (DataSlot owner) b c (Some (DataOf d)) other = refl
closed_same q f (Contention i) b c (Some (DataOf d)) other = refl
closed_same q f Closing b c (Some (DataOf d)) other = refl
closed_same q f part b c (Some (RequestOf a)) other = refl

-- so does an act that does not switch its node off
pub act_same : (a : Act) (x : State) (k : Setting) → turns_off a ≡ false → setting x ≡ Some k → setting (state_after_act a x) ≡ Some k
act_same On (StateOff boots) k stays is = absurd (cc)
act_same On (StateOn c) k stays is = is
act_same Off x k stays is = absurd (false≢true (sym stays))
act_same (Declare i interval) (StateOff boots) k stays is = absurd (cc)
act_same (Declare i interval) (StateOn c) k stays is = is
act_same (Leave i) (StateOff boots) k stays is = absurd (cc)
act_same (Leave i) (StateOn c) k stays is = is
act_same (Put i payload) (StateOff boots) k stays is = absurd (cc)
act_same (Put i payload) (StateOn c) k stays is = is

-- in whatever tune a node is
pub node_test : (g : Tune → Bool) (x : State) (t : Tune) (p : Plan) → setting x ≡ Some (idle t p) → is_on_and (λ c. g c.tune) x ≡ g t
node_test g (StateOff boots) t p goes = absurd (cc)
node_test g (StateOn c) t p goes = ap g (core_tune c t p goes)
