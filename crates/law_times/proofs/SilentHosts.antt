-- The host of a round is not fresh in it, so it says nothing in a contention slot.
use Rattle.std.proofs.Common.{◌≡◌, ◌<◌, ◌≤◌, ◌-◌, ◌==◌, ℕ, Bool, true, false, Option, Some, None, if◌then◌else◌, is_some, length, nat_le, nat_lt, option_map}
use Rattle.std.proofs.Common.{refl, sym, ◌∙◌, ap, subst, arith}
use Rattle.law_times.proofs.Words.{cond-true, cond-false, false≢true, lt-leb, lt-ltb, ne_eqb, Plan, Schedule, ScenarioParts, IsSoundScenario, Part, Opening}
use Rattle.law_times.proofs.Words.{DataSlot, Contention, Closing, Core, is_member, own_rank, last_slot, DataOf, Message, Opened, RequestOf, ScheduleOf}
use Rattle.law_times.proofs.Words.{closed_slot, hosts_now, is_own, opened_slot, part_of, request_of, State, StateOff, StateOn, requested, host_now, state_at}
use Rattle.law_times.proofs.Words.{IsHosted, slot_in, before_slot, message_said, opened_at, setup_of, Hosting, before_closing, host_member, is_closing, leads}
use Rattle.law_times.proofs.Words.{member_of, IsRightful, one_of_rank, windowed}
use Rattle.law_times.proofs.QuietRounds.{host_is_own}
use Rattle.law_times.proofs.Settings.{says_other}
use Rattle.law_times.proofs.SlotInvariants.{Told, keeps}
use Rattle.law_times.proofs.TuneRanges.{HasStarted, started}

-- who says a schedule is the node that the scenario names for the rank
abbrev IsNamedHost : ScenarioParts → ℕ → ℕ → Message → Type 0
IsNamedHost s rank w m = (y : Schedule) → m ≡ ScheduleOf y → own_rank w s.hosts ≡ Some rank

abbrev NotFresh : ℕ → ℕ → State → Type 0
NotFresh host w (StateOff boots) = Unit {0}
NotFresh host w (StateOn c) = w ≡ host → c.own_slot ≡ None

module _ (s : ScenarioParts) (scenario : IsSoundScenario s) (rank f : ℕ) (p : Plan) (host : ℕ) (hosted : IsHosted s rank f p host) where
  own : own_rank host s.hosts ≡ Some rank
  own = host_is_own s rank f host hosted.due

  says : (w : ℕ) (part : Part) (c : Core) (m : Message) → is_member rank f c ≡ true → IsRightful (setup_of s w) c
      → (opened_slot (setup_of s w) f part c).message ≡ Some m → IsNamedHost s rank w m
  says w part c m member rightful said y is = by_test (hosts_now f c) refl
    where
      by_test : (b : Bool) → hosts_now f c ≡ b → own_rank w s.hosts ≡ Some rank
      by_test true now = rightful.own (host_now f c now) ∙ ap (λ (r : ℕ). Some r) (member_of rank f c member)
      by_test false now = absurd (says_other (setup_of s w) f part c m now said y is)

  opened_none : (w : ℕ) (part : Part) (c : Core) → is_closing part ≡ false → NotFresh host w (StateOn c)
      → NotFresh host w (StateOn (opened_slot (setup_of s w) f part c).core)
  opened_none w Opening c early none = none
  opened_none w (DataSlot owner) c early none = none
  opened_none w (Contention i) c early none = none
  opened_none w Closing c early none = absurd (false≢true (sym early))

  closed_none : (w : ℕ) (part : Part) (b : Bool) (c : Core) (heard : Option Message)
      → ((m : Message) → heard ≡ Some m → Told (λ v part m. IsNamedHost s rank v m) w part m) → NotFresh host w (StateOn c)
      → NotFresh host w (StateOn (closed_slot (setup_of s w) f part b c heard).core)
  closed_none w part b c (Some (ScheduleOf y)) told none =
      (λ at. (let from = told (ScheduleOf y) refl in
      absurd (from.other (one_of_rank s.hosts from.from host rank (from.said y refl) own ∙ sym at))))
  closed_none w part b c (Some (RequestOf a)) told none = none
  closed_none w Opening b c None told none = none
  closed_none w (DataSlot owner) b c None told none = none
  closed_none w (Contention i) b c None told none = none
  closed_none w Closing b c None told none = none
  closed_none w Opening b c (Some (DataOf d)) told none = none
  closed_none w (DataSlot owner) b c (Some (DataOf d)) told none = none
  closed_none w (Contention i) b c (Some (DataOf d)) told none = none
  closed_none w Closing b c (Some (DataOf d)) told none = none

  in_slots : (j : ℕ) → j ≤ last_slot p → (w : ℕ) → NotFresh host w (before_slot s rank f p (state_at s f) j w)
  in_slots =
      keeps s rank f p (λ part. is_closing part ≡ false) (NotFresh host) (λ w part m. IsNamedHost s rank w m)
      (λ w part c m early member rightful none said. says w part c m member rightful said)
      (λ w part c heard early member none told.
      closed_none w part (is_some (opened_slot (setup_of s w) f part c).message) (opened_slot (setup_of s w) f part c).core heard told
      (opened_none w part c early none))
      (λ w part c m early scanning none told. closed_none w part false c (Some m) (λ n is. told_same w part m n is told) none)
      (last_slot p) (λ j early. before_closing p j early) starts
    where
      told_same : (w : ℕ) (part : Part) (m n : Message) → Some m ≡ Some n → Told (λ v part m. IsNamedHost s rank v m) w part m
          → Told (λ v part m. IsNamedHost s rank v m) w part n
      told_same w part m n is told = (let same : m ≡ n = cc in subst (λ (x : Message). Told (λ v part m. IsNamedHost s rank v m) w part x) same told)

      starts : (w : ℕ) → NotFresh host w (state_at s f w)
      starts w = by_state (state_at s f w) (started s scenario f w)
        where
          by_state : (x : State) → HasStarted f (own_rank w s.hosts) x → NotFresh host w x
          by_state (StateOff boots) is = tt
          by_state (StateOn c) is = λ same. is.1

  pub host_silent : (j : ℕ) → length p.owners < j → j < last_slot p → is_some (message_said ((slot_in s rank f p j).window host)) ≡ false
  host_silent j after before =
      ap (λ (q : Part). is_some (message_said (opened_at s rank f q host (before_slot s rank f p (state_at s f) j host)))) part
      ∙ ap (λ (x : State). is_some (message_said (opened_at s rank f (Contention (j - length p.owners)) host x))) lead.on
      ∙ ap (λ (w : Option Opened). is_some (message_said w))
      (windowed s rank f (Contention (j - length p.owners)) host lead.core (host_member rank f lead.core lead.due))
      ∙ ap (λ (o : Option ℕ). is_some (if is_own o (j - length p.owners) then option_map (request_of host lead.core) (requested lead.core.streams) else None))
      (subst (NotFresh host host) lead.on (in_slots j (omega (arith, before)) host) refl)
    where
      lead : Hosting rank f p (before_slot s rank f p (state_at s f) j host)
      lead = leads s rank f p host hosted j (omega (arith, before))

      part : part_of p j ≡ Contention (j - length p.owners)
      part =
          cond-false (j == 0) Opening _ (ne_eqb j 0 (λ none. absurd (omega (arith, none, after))))
          ∙ cond-false (nat_le j (length p.owners)) (DataSlot _) _ (lt-leb j (length p.owners) after)
          ∙ cond-true (nat_lt j (last_slot p)) (Contention (j - length p.owners)) Closing (lt-ltb j (last_slot p) before)
