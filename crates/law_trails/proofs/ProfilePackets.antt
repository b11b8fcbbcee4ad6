-- Packets of a profile: how long they are, and the references that its schedules give.
use Rattle.std.proofs.Common.{◌≡◌, ℕ, ◌+◌, ◌*◌, ◌≤◌, List, length, true, ◌==◌, if◌then◌else◌, Some, inl, inr, refl, sym, ◌∙◌, ap, subst, arith}
use Rattle.std.proofs.lemmas.Bool.{cases_eq, cond-true, cond-false, eq-eqb, ne_eqb, eqb-true, leb-true, and_parts}
use Rattle.std.specs.Prelude.{nat_le}
use Rattle.lwb_base.specs.Profile.{Numbers, IsProfile, airtime, step, one, contended}
use Rattle.lwb_base.specs.Messages.{Schedule}
use Rattle.lwb_packets.specs.Ranges.{between}
use Rattle.tick_clock.specs.Clocks.{Near, IsClock}
use Rattle.time_reference.specs.Budgets.{Fits, budget_of, budget_one, budget_two, span}
use Rattle.time_reference.specs.Drift.{drift}
use Rattle.time_reference.specs.Zeros.{start_tick, Ref}
use Rattle.time_reference.proofs.ProfileSizes.{sizes}
use Rattle.time_reference.proofs.Steps.{of_61, of_74}
use Rattle.schedule_codec.specs.Spelling.{slot_fits}
use Rattle.glossy_relay.specs.Relaying.{slot_of, counter_of}
use Rattle.bus_rules.specs.Plans.{last_slot}
use Rattle.bus_rules.specs.Slots.{Message, ScheduleOf, DataOf, RequestOf}
use Rattle.lwb_member.specs.Said.{message_of}
use Rattle.node_core.specs.Nodes.{zero_from}
use Rattle.law_trails.specs.PacketKinds.{IsInSlot, IsOfProfile}
use Rattle.law_trails.proofs.HeardReferences.{heard_reference}
use Rattle.law_trails.proofs.PacketLengths.{schedule_long}
use Rattle.law_trails.proofs.SaidPackets.{says, schedule_read, parts_in}

pub schedules_short : (q : List ℕ) (x : Schedule) → message_of q ≡ Some (ScheduleOf x) → (length q ≤ 74) × (x.plan.contend ≡ 0 → length q ≤ 61)
schedules_short q x is =
    let counted = (says q (ScheduleOf x) is).counted in
    let long = schedule_long x (slot_of q) (counter_of q) (parts_in q x (schedule_read q x is)) in
    let most = long.most in
    (omega arith, λ none. omega (arith, long.short none))

pub least_long : (q : List ℕ) (m : Message) → message_of q ≡ Some m → 7 ≤ length q
least_long q (ScheduleOf x) is =
    let counted = (says q (ScheduleOf x) is).counted in
    let least = (schedule_long x (slot_of q) (counter_of q) (parts_in q x (schedule_read q x is))).least in
    omega arith
least_long q (DataOf d) is = let counted = (says q (DataOf d) is).counted in omega arith
least_long q (RequestOf a) is = let counted = (says q (RequestOf a) is).counted in omega arith

-- what a profile's numbers leave room for
record Room (p : Numbers) : Type 0 where
  some : 61 ≤ p.packet_max
  pub many : (p.contend ≡ 0 → ⊥) → 74 ≤ p.packet_max
  payloads : 8 + p.payload_max ≤ p.packet_max

room : (p : Numbers) → IsProfile p → Room p
room p (inl is) =
    let packets = ap (λ (q : Numbers). q.packet_max) is in
    let payloads = ap (λ (q : Numbers). q.payload_max) is in
    let none : p.contend ≡ 0 = ap (λ (q : Numbers). q.contend) is in
    record { some = omega arith; many = λ other. absurd (other none); payloads = omega arith }
room p (inr is) =
    let packets = ap (λ (q : Numbers). q.packet_max) is.0 in
    let payloads = ap (λ (q : Numbers). q.payload_max) is.0 in
    record { some = omega arith; many = λ other. omega arith; payloads = omega arith }

pub most_long : (p : Numbers) → IsProfile p → (q : List ℕ) (m : Message) → IsOfProfile p m → message_of q ≡ Some m → length q ≤ p.packet_max
most_long p made q (ScheduleOf x) own is =
    let r = room p made in
    let short = schedules_short q x is in
    elim (cases_eq p.contend 0) [
      | inl none ↦ (let some = r.some in let less = short.1 (own ∙ none) in omega arith)
      | inr other ↦ (let many = r.many other in let less = short.0 in omega arith)
    ]
most_long p made q (DataOf d) own is =
    let payloads = (room p made).payloads in
    let counted = (says q (DataOf d) is).counted in
    omega arith
most_long p made q (RequestOf a) own is =
    let some = (room p made).some in
    let counted = (says q (RequestOf a) is).counted in
    omega arith

pub errs_55 : (p : Numbers) → IsProfile p → (q : List ℕ) (x : Schedule) → message_of q ≡ Some (ScheduleOf x) → drift (span p (length q) + 11) + 12 ≤ 55
errs_55 p made q x is = let size = sizes p made in of_74 p (length q) size.byte size.turn (schedules_short q x is).0

pub errs_48 : (p : Numbers) → IsProfile p → (q : List ℕ) (x : Schedule) → message_of q ≡ Some (ScheduleOf x) → x.plan.contend ≡ 0
    → drift (span p (length q) + 11) + 12 ≤ 48
errs_48 p made q x is none = let size = sizes p made in of_61 p (length q) size.byte size.turn ((schedules_short q x is).1 none)

-- ---- places

at_opening : (gap contend slot : ℕ) → gap ≡ 0 → slot_fits gap contend slot ≡ true → (slot == 0) ≡ true
at_opening gap contend slot none place = sym (cond-true (gap == 0) (slot == 0) _ (eq-eqb gap 0 none)) ∙ place

at_closing : (gap contend slot : ℕ) → (gap ≡ 0 → ⊥) → slot_fits gap contend slot ≡ true
    → (nat_le 2 slot ≡ true) × (nat_le slot (if contend == 0 then 42 else 45) ≡ true)
at_closing gap contend slot some place =
    let other = cond-false (gap == 0) (slot == 0) (between 2 (if contend == 0 then 42 else 45) slot) (ne_eqb gap 0 some) in
    and_parts _ _ (sym other ∙ place)

closed_at : (q : List ℕ) (x : Schedule) → message_of q ≡ Some (ScheduleOf x) → (x.gap ≡ 0 → ⊥)
    → nat_le (slot_of q) (if x.plan.contend == 0 then 42 else 45) ≡ true
closed_at q x is some = (at_closing x.gap x.plan.contend (slot_of q) some (parts_in q x (schedule_read q x is)).place).1

pub in_slot : (q : List ℕ) (x : Schedule) → message_of q ≡ Some (ScheduleOf x) → IsInSlot (slot_of q) x
in_slot q x is =
    let parts = parts_in q x (schedule_read q x is) in
    let few = leb-true (length x.plan.owners) 40 (and_parts _ _ (and_parts _ _ parts.owners).0).0 in
    record {
      rank = parts.rank;
      gap = parts.gap;
      owners = few;
      opening = λ none. eqb-true (slot_of q) 0 (at_opening x.gap x.plan.contend (slot_of q) none parts.place);
      closing = λ some. leb-true 2 (slot_of q) (at_closing x.gap x.plan.contend (slot_of q) (λ none. omega arith) parts.place).0;
    }

-- ---- profiles with their budgets

fits_one : Fits one budget_one
fits_one = omega arith

fits_two : (c : ℕ) → Fits (contended c) budget_two
fits_two c = omega arith

pub fits_profile : (p : Numbers) → IsProfile p → Fits p (budget_of p)
fits_profile p (inl is) = subst (λ (q : Numbers). Fits q (budget_of q)) (sym is) fits_one
fits_profile p (inr is) = subst (λ (q : Numbers). Fits q (budget_of q)) (sym is.0) (fits_two p.contend)

-- a budget has room for the greatest packet, and for the slots of every round
pub record Covers (p : Numbers) : Type 0 where
  pub packets : (budget_of p).packet ≡ p.packet_max
  pub few : 42 ≤ (budget_of p).last
  pub many : (p.contend ≡ 0 → ⊥) → 45 ≤ (budget_of p).last
  pub named : p.contend ≤ 4

pub covers : (p : Numbers) → IsProfile p → Covers p
covers p (inl is) = subst Covers (sym is) (record { packets = refl; few = omega arith; many = λ some. absurd (some refl); named = omega arith })
covers p (inr is) = subst Covers (sym is.0) (record { packets = refl; few = omega arith; many = λ some. omega arith; named = is.1 })

-- the last slot of a round with at most 40 owners
pub last_covered : (p : Numbers) → IsProfile p → (q : List ℕ) (x : Schedule) → IsOfProfile p (ScheduleOf x)
    → message_of q ≡ Some (ScheduleOf x) → last_slot x.plan ≤ (budget_of p).last
last_covered p made q x own is =
    let cover = covers p made in
    let few = cover.few in
    let named = cover.named in
    let owners = (in_slot q x is).owners in
    elim (cases_eq x.plan.contend 0) [
      | inl none ↦ (let one = cond-true {A = ℕ} (x.plan.contend == 0) 1 x.plan.contend (eq-eqb x.plan.contend 0 none) in omega arith)
      | inr other ↦ (
          let all = cond-false {A = ℕ} (x.plan.contend == 0) 1 x.plan.contend (ne_eqb x.plan.contend 0 other) in
          let many = cover.many (λ none. other (own ∙ none)) in
          omega arith
          )
    ]

pub slot_covered : (p : Numbers) → IsProfile p → (q : List ℕ) (x : Schedule) → IsOfProfile p (ScheduleOf x)
    → message_of q ≡ Some (ScheduleOf x) → slot_of q ≤ (budget_of p).last
slot_covered p made q x own is =
    let cover = covers p made in
    let few = cover.few in
    elim (cases_eq x.gap 0) [
      | inl none ↦ (let first = (in_slot q x is).opening none in omega arith)
      | inr other ↦ (
          let most = leb-true (slot_of q) (if x.plan.contend == 0 then 42 else 45) (closed_at q x is other) in
          elim (cases_eq x.plan.contend 0) [
            | inl one ↦ (let short = cond-true {A = ℕ} (x.plan.contend == 0) 42 45 (eq-eqb x.plan.contend 0 one) in omega arith)
            | inr some ↦ (
                let long = cond-false {A = ℕ} (x.plan.contend == 0) 42 45 (ne_eqb x.plan.contend 0 some) in
                let many = cover.many (λ none. some (own ∙ none)) in
                omega arith
                )
          ]
          )
    ]

-- what a schedule of the profile gives to whoever receives it whole
pub profile_reference : (p : Numbers) → IsProfile p → (H L : ℕ → ℕ) (c s e : ℕ) (q : List ℕ) (x : Schedule) → IsClock H → IsClock L
    → 1 ≤ c → c ≤ 4095 → message_of q ≡ Some (ScheduleOf x) → IsOfProfile p (ScheduleOf x)
    → Near s (start_tick p H c (slot_of q) + counter_of q * step p (length q)) (counter_of q) → e ≡ s + airtime p (length q)
    → Ref p (budget_of p) H L (zero_from p (L e) q) c c (slot_of q)
profile_reference p made H L c s e q x host clock begun within is own near ends =
    let cover = covers p made in
    let packets = cover.packets in
    let most = most_long p made q (ScheduleOf x) own is in
    let slot = slot_covered p made q x own is in
    let counter = (says q (ScheduleOf x) is).counter in
    let small = errs_55 p made q x is in
    heard_reference p (budget_of p) (fits_profile p made) H L c s e q host clock begun within slot counter (omega arith) small near ends
