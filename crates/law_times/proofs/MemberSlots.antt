-- A round at a member of its rank, slot by slot: in a frame without its round it stays as it is, with the opening and the closing schedule it
-- accepts what its host says, and in the slots between them it is afterwards as it was in its window.
use Rattle.std.proofs.Common.{◌≡◌, ◌<◌, ◌≤◌, ◌+◌, ◌==◌, ℕ, suc, Bool, true, false, Option, Some, None, add-one, inr, is_some, length, nat_le, nat_lt}
use Rattle.std.proofs.Common.{option_and_then, refl, sym, ◌∙◌, ap, arith}
use Rattle.law_times.proofs.Words.{cond_both, cond-true, cond-false, false≢true, lt-ltb, ne_eqb, Plan, Schedule, ScenarioParts, Part, Opening, DataSlot}
use Rattle.law_times.proofs.Words.{Contention, Closing, Tune, Hold, Core, Setup, is_member, opening_accepted, closing_accepted, schedule_accepted, HostPlan}
use Rattle.law_times.proofs.Words.{host_plan, last_slot, opening, DataOf, Message, Opened, RequestOf, ScheduleOf, closed_slot, host_closes, hosts_now}
use Rattle.law_times.proofs.Words.{is_schedule_part, opened_slot, part_of, silent, slot_heard, State, StateOn, hosts_in, rank_of, scans, state_at, Accepts}
use Rattle.law_times.proofs.Words.{IsHosted, slot_in, state_after_round, accepted_at, after_round, before_slot, closed_slot_of, left_by, message_said}
use Rattle.law_times.proofs.Words.{opened_at, rank_in, round_plan, rounds, setup_of, accepted_first, Hosting, closing_last, closing_opens, heard_from}
use Rattle.law_times.proofs.Words.{host_member, leads, left_windowed, opening_said, contention_no_schedule, data_no_schedule, windowed}
use Rattle.law_times.proofs.PacketFrames.{is_due, is_idle}
use Rattle.law_times.proofs.SlotInvariants.{keeps}

-- in a round of another frame a node stays as it is
idle_round : (s : ScenarioParts) (rank f : ℕ) (p : Plan) (u : ℕ) (c : Core) → state_at s f u ≡ StateOn c → scans rank c.tune ≡ false
    → is_member rank f c ≡ false → (j : ℕ) → j ≤ last_slot p + 1 → before_slot s rank f p (state_at s f) j u ≡ StateOn c
idle_round s rank f p u c start scanner idle j early =
    keeps s rank f p (λ part. Unit {0}) (λ w x. w ≡ u → x ≡ StateOn c) (λ w part m. Unit {0}) (λ w part d m allowed member rightful is said. tt)
    (λ w part d heard allowed member is told at. (let same : StateOn d ≡ StateOn c = is at in
    let core : d ≡ c = cc in absurd (false≢true (sym idle ∙ ap (is_member rank f) (sym core) ∙ member))))
    (λ w part d m allowed scanning is told at. (let same : StateOn d ≡ StateOn c = is at in
    let core : d ≡ c = cc in absurd (false≢true (sym scanner ∙ ap (λ (k : Core). scans rank k.tune) (sym core) ∙ scanning))))
    (last_slot p + 1) (λ k below. tt) (λ w at. ap (state_at s f) at ∙ start) j early u refl

-- so it is in the rounds of a frame that is not its own
pub idle_rounds : (s : ScenarioParts) (rank f u due : ℕ) (c : Core) → state_at s f u ≡ StateOn c → c.tune ≡ Hold rank due → f < due
    → rounds s f (state_at s f) u ≡ StateOn c
idle_rounds s rank f u due c on hold later = by_plan (round_plan s r f (state_at s f))
  where
    r : ℕ
    r = rank_in (state_at s f u)

    idles : is_member r f c ≡ false
    idles = ap (λ (n : ℕ). is_member n f c) (ap rank_in on ∙ ap rank_of hold) ∙ is_idle rank f due (Hold rank due) (inr refl) later c hold

    by_plan : (o : Option Plan) → after_round s r f (state_at s f) o u ≡ StateOn c
    by_plan None = on
    by_plan (Some p) = idle_round s r f p u c on (ap (scans r) hold) idles (last_slot p + 1) (omega arith)

-- a slot for data or for requests
pub plain_part : (p : Plan) (j : ℕ) → 1 ≤ j → j < last_slot p → is_schedule_part (part_of p j) ≡ false
plain_part p j later early =
    ap is_schedule_part (cond-false (j == 0) Opening _ (ne_eqb j 0 (λ none. absurd (omega (arith, none, later)))))
    ∙ cond_both (nat_le j (length p.owners)) (DataSlot _) _ (λ (q : Part). is_schedule_part q ≡ false) (λ _. refl)
    (λ _. ap is_schedule_part (cond-true (nat_lt j (last_slot p)) (Contention _) Closing (lt-ltb j (last_slot p) early)))

-- all of a node but its table and the requests that it keeps
pub record IsSameNode (c d : Core) : Type 0 where
  pub boot : d.boot ≡ c.boot
  pub tune : d.tune ≡ c.tune
  pub own_slot : d.own_slot ≡ c.own_slot
  pub streams : d.streams ≡ c.streams

heard_same : (f : ℕ) (part : Part) (b : Bool) (c : Core) → IsSameNode c (slot_heard f part b c)
heard_same f Opening b c = record { boot = refl; tune = refl; own_slot = refl; streams = refl }
heard_same f (DataSlot owner) b c = record { boot = refl; tune = refl; own_slot = refl; streams = refl }
heard_same f (Contention k) b c = record { boot = refl; tune = refl; own_slot = refl; streams = refl }
heard_same f Closing b c = record { boot = refl; tune = refl; own_slot = refl; streams = refl }

closed_same : (q : Setup) (f : ℕ) (part : Part) (b : Bool) (c : Core) (o : Option Message) → ((y : Schedule) → o ≡ Some (ScheduleOf y) → ⊥)
    → IsSameNode c (closed_slot q f part b c o).core
closed_same q f part b c None none = heard_same f part b c
closed_same q f part b c (Some (DataOf d)) none = heard_same f part true c
closed_same q f part b c (Some (RequestOf a)) none = record { boot = refl; tune = refl; own_slot = refl; streams = refl }
closed_same q f part b c (Some (ScheduleOf y)) none = absurd (none y refl)

module _ (s : ScenarioParts) (rank f : ℕ) (p : Plan) (host : ℕ) (hosted : IsHosted s rank f p host) where
  -- the host before the closing slot, what it plans there, and what it says
  abbrev pub lead_last : Hosting rank f p (before_slot s rank f p (state_at s f) (last_slot p) host)
  lead_last = leads s rank f p host hosted (last_slot p) (omega arith)

  abbrev pub plans : HostPlan
  plans = host_plan s.profile host lead_last.core.boot (rank_of lead_last.core.tune) f lead_last.core.kept lead_last.core.table lead_last.core.streams

  abbrev pub said_last : Schedule
  said_last = record { plan = plans.plan; gap = plans.gap }

  module _ (u : ℕ) where
    abbrev at_slot : ℕ → State
    at_slot j = before_slot s rank f p (state_at s f) j u

    member_of : (d : Core) → d.tune ≡ Hold rank f → is_member rank f d ≡ true
    member_of d tune = is_due rank f f (Hold rank f) (inr refl) refl d tune

    -- a member after a slot in which it accepted this
    pub after_member : (j : ℕ) (part : Part) → part_of p j ≡ part → (d : Core) → at_slot j ≡ StateOn d → is_member rank f d ≡ true
        → (heard : Option Message) → accepted_at (slot_in s rank f p j) u ≡ heard
        → at_slot (suc j) ≡ StateOn (closed_slot (setup_of s u) f part (is_some (opened_slot (setup_of s u) f part d).message)
        (opened_slot (setup_of s u) f part d).core heard).core
    unfolding before_slot
    after_member j part at d on member heard is =
        ap (λ (h : Option Message). left_by (at_slot j) (closed_slot_of s f (part_of p j) u (opened_at s rank f (part_of p j) u (at_slot j)) h (at_slot j))) is
        ∙ ap (λ (q : Part). left_by (at_slot j) (closed_slot_of s f q u (opened_at s rank f q u (at_slot j)) heard (at_slot j))) at
        ∙ left_windowed s rank f part u (at_slot j) d heard on member

    -- what it accepts of its host is what that says
    hears_host : (j : ℕ) (part : Part) → part_of p j ≡ part → (lead : Hosting rank f p (before_slot s rank f p (state_at s f) j host)) (y : Schedule)
        → (opened_slot (setup_of s host) f part lead.core).message ≡ Some (ScheduleOf y) → (k : ℕ) → Accepts (slot_in s rank f p j).flood u host k
        → accepted_at (slot_in s rank f p j) u ≡ Some (ScheduleOf y)
    hears_host j part at lead y says k accepts =
        ap (λ (a : Option (ℕ × ℕ)). option_and_then (λ (a : ℕ × ℕ). message_said ((slot_in s rank f p j).window a.0)) a)
        ((accepted_first (slot_in s rank f p j).flood u host k).1 accepts)
        ∙ ap (λ (q : Part). message_said (opened_at s rank f q host (before_slot s rank f p (state_at s f) j host))) at
        ∙ ap (λ (x : State). message_said (opened_at s rank f part host x)) lead.on
        ∙ ap message_said (windowed s rank f part host lead.core (host_member rank f lead.core lead.due)) ∙ says

    pub after_first : (c : Core) → state_at s f u ≡ StateOn c → c.tune ≡ Hold rank f → (k : ℕ) → Accepts (slot_in s rank f p 0).flood u host k
        → at_slot 1 ≡ StateOn (opening_accepted u f (opening p) c)
    unfolding before_slot
    after_first c start tune k accepts = after_member 0 Opening refl c start (member_of c tune) (Some (ScheduleOf (opening p))) heard
      where
        lead : Hosting rank f p (before_slot s rank f p (state_at s f) 0 host)
        lead = leads s rank f p host hosted 0 (omega arith)

        heard : accepted_at (slot_in s rank f p 0) u ≡ Some (ScheduleOf (opening p))
        heard = hears_host 0 Opening refl lead (opening lead.core.plan) (opening_said s rank f p host hosted lead) k accepts
            ∙ ap (λ (q : Plan). Some (ScheduleOf (opening q))) lead.plan

    pub after_last : (d : Core) → at_slot (last_slot p) ≡ StateOn d → d.tune ≡ Hold rank f → (k : ℕ)
        → Accepts (slot_in s rank f p (last_slot p)).flood u host k → 0 < plans.gap
        → state_after_round s rank f p u ≡ StateOn (closing_accepted u f said_last d)
    after_last d here tune k accepts some_gap =
        ap at_slot (add-one (last_slot p))
        ∙ after_member (last_slot p) Closing (closing_last p) d here (member_of d tune) (Some (ScheduleOf said_last)) heard
        ∙ ap (λ (o : Opened). StateOn (schedule_accepted u f said_last o.core)) silent_now
        ∙ ap (λ (e : Core). StateOn e) (cond-false (said_last.gap == 0) (opening_accepted u f said_last d) (closing_accepted u f said_last d)
        (ne_eqb plans.gap 0 (λ none. absurd (omega (arith, some_gap, none)))))
      where
        heard : accepted_at (slot_in s rank f p (last_slot p)) u ≡ Some (ScheduleOf said_last)
        heard = hears_host (last_slot p) Closing (closing_last p) lead_last said_last
            (ap (λ (o : Opened). o.message) (closing_opens s rank f p host hosted lead_last)) k accepts

        silent_now : opened_slot (setup_of s u) f Closing d ≡ silent d
        silent_now = cond-false (hosts_now f d) (host_closes (setup_of s u) f d) (silent d) (ap (λ (t : Tune). hosts_in (rank_of t) f t) tune)

    -- in a slot for data or for requests it accepts no schedule, so afterwards it is as it was in its window
    no_schedule : (j : ℕ) (part : Part) → part_of p j ≡ part → is_schedule_part part ≡ false → (y : Schedule)
        → accepted_at (slot_in s rank f p j) u ≡ Some (ScheduleOf y) → ⊥
    no_schedule j Opening at plain y hears = false≢true (sym plain)
    no_schedule j (DataSlot owner) at plain y hears =
        (let from = heard_from s rank f p (state_at s f) j (DataSlot owner) at u (ScheduleOf y) hears in
        data_no_schedule (setup_of s from.0) f owner from.1 y from.4)
    no_schedule j (Contention k) at plain y hears =
        (let from = heard_from s rank f p (state_at s f) j (Contention k) at u (ScheduleOf y) hears in
        contention_no_schedule (setup_of s from.0) f k from.1 y from.4)
    no_schedule j Closing at plain y hears = false≢true (sym plain)

    pub record IsAfterWindow (j : ℕ) (opened : Core) : Type 0 where
      pub core : Core
      pub on : at_slot (suc j) ≡ StateOn core
      pub same : IsSameNode opened core

    pub after_window : (j : ℕ) (part : Part) → part_of p j ≡ part → is_schedule_part part ≡ false → (d : Core) → at_slot j ≡ StateOn d
        → d.tune ≡ Hold rank f → IsAfterWindow j (opened_slot (setup_of s u) f part d).core
    after_window j part at plain d on tune =
        let opened = opened_slot (setup_of s u) f part d in
        let heard = accepted_at (slot_in s rank f p j) u in
        record {
          core = (closed_slot (setup_of s u) f part (is_some opened.message) opened.core heard).core;
          on = after_member j part at d on (member_of d tune) heard refl;
          same = closed_same (setup_of s u) f part (is_some opened.message) opened.core heard (no_schedule j part at plain);
        }
