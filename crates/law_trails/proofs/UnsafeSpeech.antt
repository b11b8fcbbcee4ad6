-- Logs that break silence alone.
use Rattle.std.proofs.Common.{◌≡◌, ℕ, ◌+◌, ◌/◌, List, [], ◌∷◌, Some, true, false, Contains, refl, sym, ◌∙◌, ap, subst, arith, inl, inr}
use Rattle.schedule_codec.specs.Packing.{digits, packed_number}
use Rattle.schedule_codec.specs.Reading.{schedule_of, asks_in}
use Rattle.lwb_base.specs.Messages.{Ask, Plan, Schedule, least_passing}
use Rattle.lwb_member.specs.Said.{message_of}
use Rattle.bus_rules.specs.Slots.{ScheduleOf, part_of}
use Rattle.bus_rules.specs.declared.part.Part.TheVariants.{Data, Contention}
use Rattle.scenario_text.specs.ScenarioParts.{ScenarioParts}
use Rattle.bus_rules.specs.declared.act.Act.TheVariants.{Off}
use Rattle.radio_model.specs.declared.sending.Sending.{Sending}
use Rattle.radio_model.specs.OnAir.{Hearing}
use Rattle.air_log.specs.declared.entry.Entry.{Entry}
use Rattle.air_log.specs.Entries.{hearings_of, HasHeardEntry}
use Rattle.air_log.specs.Devices.{Device, Power, PowerOff, at_rest}
use Rattle.air_log.specs.Trails.{Reception, alarms, before_tick, before_start, tune_of}
use Rattle.air_log.specs.Lawful.{heard_by}
use Rattle.air_log.specs.Safe.{Silence, is_hosting, sender_hosts}
use Rattle.air_log.specs.TwoNodeLog.{true_time}
use Rattle.lwb_base.proofs.Elements.{not_in_none, contains_cases}
use Rattle.air_log.proofs.ComputedTrails.{goes_through, after_ticks, computed, true_due}
use Rattle.law_trails.specs.BrokenClauses.{BreaksOnly, Silent}
use Rattle.law_trails.specs.UnsafeLogs.{no_power, scenario_with_off_line, data_said, later_data, asked, opening_transmission, closing_transmission}
use Rattle.law_trails.specs.UnsafeLogs.{grant_transmission, reopening_transmission, unheard, not_the_owner, not_due, not_opened, asked_in_data_slot, gone_off}
use Rattle.law_trails.proofs.BrokenClauses.{breaks}
use Rattle.law_trails.proofs.SafeTests.{in_frame_by, apart_by, alike_by, one_by}

-- node 2 stays off, whatever it receives
module _ (s : ScenarioParts) where
  abbrev Goes : List Reception → ℕ → List ℕ → Type 0
  Goes hs t bs = goes_through (λ x. x) (λ t. t) s 2 hs t 0 bs at_rest ≡ true

  abbrev StaysOff : List Reception → List ℕ → Type 0
  StaysOff hs bs = after_ticks (λ x. x) (λ t. t) s 2 hs bs at_rest ≡ at_rest

  abbrev power_at : List Reception → ℕ → Device → Power
  power_at hs t d = (before_start s 2 (true_time 2) hs t d).power

  guest : (air : List Entry) (x : Sending) (bs : List ℕ) → x.node ≡ 2 → Goes (heard_by air 2) x.start bs → StaysOff (heard_by air 2) bs
      → power_at (heard_by air 2) x.start at_rest ≡ PowerOff 0 → sender_hosts s true_time air x ≡ false
  guest air x bs node goes off still =
      let hs : List Reception = heard_by air 2 in
      let rests : before_tick s 2 (true_time 2) hs x.start ≡ at_rest = computed (λ t. t) (λ x. x) true_due s 2 hs x.start bs goes ∙ off in
      let power : power_at hs x.start (before_tick s 2 (true_time 2) hs x.start) ≡ PowerOff 0 = ap (power_at hs x.start) rests ∙ still in
      subst (λ (v : ℕ). sender_hosts s true_time air (record x { node = v }) ≡ false) (sym node) (ap (λ (p : Power). is_hosting (tune_of p)) power)

  abbrev hearing : Sending → Hearing
  hearing x = record { node = 2; sending = x }

  -- what node 2 received is x alone, which says y
  module _ (air : List Entry) (x : Sending) (y : Schedule) (says : message_of x.packet ≡ Some (ScheduleOf y)) (heard : hearings_of air ≡ hearing x ∷ []) where
    heard_is : (z : Sending) → HasHeardEntry air 2 z → x ≡ z
    heard_is z there =
        elim (contains_cases (hearing x) [] (hearing z) (subst (λ (hs : List Hearing). Contains hs (hearing z)) heard there)) [
          | inl is ↦ ap (λ (h : Hearing). h.sending) is
          | inr none ↦ absurd (not_in_none (hearing z) none)
        ]

    schedule_is : (z : Sending) (w : Schedule) → HasHeardEntry air 2 z → message_of z.packet ≡ Some (ScheduleOf w) → y ≡ w
    schedule_is z w there is =
        let same : Some (ScheduleOf y) ≡ Some (ScheduleOf w) = sym says ∙ ap (λ (v : Sending). message_of v.packet) (heard_is z there) ∙ is in
        cc same

abbrev plan_with : List Ask → List ℕ → Plan
plan_with acks owners = record { rank = 0; boot = 1; contend = 0; acks = acks; owners = owners }

abbrev opening : Schedule
opening = record { plan = plan_with [] []; gap = 0 }

abbrev closing : Schedule
closing = record { plan = plan_with [] []; gap = 4 }

opened_says : message_of opening_transmission.packet ≡ Some (ScheduleOf opening)
unfolding digits packed_number schedule_of asks_in
opened_says = refl

closed_says : message_of closing_transmission.packet ≡ Some (ScheduleOf closing)
unfolding digits packed_number schedule_of asks_in
closed_says = refl

unheard_guest : sender_hosts no_power true_time unheard data_said ≡ false
unfolding alarms
unheard_guest = guest no_power unheard data_said [] refl refl refl refl

unheard_is : Silence no_power true_time unheard → ⊥
unfolding digits packed_number schedule_of asks_in
unheard_is keeps = let word = keeps data_said (0, omega arith, refl) refl refl (λ other. unheard_guest) in not_in_none _ word.there

pub unheard_breaks : BreaksOnly Silent no_power true_time unheard
unfolding least_passing digits packed_number schedule_of asks_in
unheard_breaks = breaks Silent no_power unheard unheard_is
    (λ is. in_frame_by no_power unheard refl) (λ is. apart_by no_power unheard refl)
    (λ is. alike_by no_power unheard refl) (λ is. one_by no_power unheard refl refl) (λ is. absurd (is refl))

not_the_owner_guest : sender_hosts no_power true_time not_the_owner data_said ≡ false
unfolding alarms
not_the_owner_guest = guest no_power not_the_owner data_said (1344100864 ∷ []) refl refl refl refl

not_the_owner_is : Silence no_power true_time not_the_owner → ⊥
unfolding digits packed_number schedule_of asks_in
not_the_owner_is keeps =
    let word = keeps data_said (1, omega arith, refl) refl refl (λ other. not_the_owner_guest) in
    let is : opening ≡ word.schedule =
    schedule_is no_power not_the_owner opening_transmission opening opened_says refl word.heard word.schedule word.there word.says in
    let part : Contention 1 ≡ Data 8 = ap (λ (y : Schedule). part_of y.plan 1) is ∙ word.allows in
    cc part

pub not_the_owner_breaks : BreaksOnly Silent no_power true_time not_the_owner
unfolding least_passing digits packed_number schedule_of asks_in
not_the_owner_breaks = breaks Silent no_power not_the_owner not_the_owner_is
    (λ is. in_frame_by no_power not_the_owner refl) (λ is. apart_by no_power not_the_owner refl)
    (λ is. alike_by no_power not_the_owner refl) (λ is. one_by no_power not_the_owner refl refl) (λ is. absurd (is refl))

not_due_guest : sender_hosts no_power true_time not_due asked ≡ false
unfolding alarms
not_due_guest = guest no_power not_due asked (1344100864 ∷ []) refl refl refl refl

not_due_is : Silence no_power true_time not_due → ⊥
unfolding digits packed_number schedule_of asks_in
not_due_is keeps =
    let word = keeps asked (1, omega arith, refl) refl refl (λ other. not_due_guest) in
    let gap : 0 ≡ word.schedule.gap =
    ap (λ (y : Schedule). y.gap) (schedule_is no_power not_due opening_transmission opening opened_says refl word.heard word.schedule word.there word.says) in
    let frame : 5 ≡ word.heard.start / 256000000 =
    ap (λ (x : Sending). x.start / 256000000) (heard_is no_power not_due opening_transmission opening opened_says refl word.heard word.there) in
    let due : word.heard.start / 256000000 + word.schedule.gap ≡ 9 = word.due in
    absurd (omega (arith, gap, frame, due))

pub not_due_breaks : BreaksOnly Silent no_power true_time not_due
unfolding least_passing digits packed_number schedule_of asks_in
not_due_breaks = breaks Silent no_power not_due not_due_is
    (λ is. in_frame_by no_power not_due refl) (λ is. apart_by no_power not_due refl)
    (λ is. alike_by no_power not_due refl) (λ is. one_by no_power not_due refl refl) (λ is. absurd (is refl))

not_opened_guest : sender_hosts no_power true_time not_opened asked ≡ false
unfolding alarms
not_opened_guest = guest no_power not_opened asked (1348324864 ∷ []) refl refl refl refl

not_opened_is : Silence no_power true_time not_opened → ⊥
unfolding digits packed_number schedule_of asks_in
not_opened_is keeps =
    let word = keeps asked (1, omega arith, refl) refl refl (λ other. not_opened_guest) in
    let gap : 4 ≡ word.schedule.gap =
    ap (λ (y : Schedule). y.gap)
    (schedule_is no_power not_opened closing_transmission closing closed_says refl word.heard word.schedule word.there word.says) in
    let none : word.schedule.gap ≡ 0 = word.allows.0 in
    absurd (omega (arith, gap, none))

pub not_opened_breaks : BreaksOnly Silent no_power true_time not_opened
unfolding least_passing digits packed_number schedule_of asks_in
not_opened_breaks = breaks Silent no_power not_opened not_opened_is
    (λ is. in_frame_by no_power not_opened refl) (λ is. apart_by no_power not_opened refl)
    (λ is. alike_by no_power not_opened refl) (λ is. one_by no_power not_opened refl refl) (λ is. absurd (is refl))

-- the slots of frame 9 are node 2's own, and in none of the first four may it ask
abbrev reopening : Schedule
reopening = record { plan = plan_with (record { node = 2; boot = 1; stream = 0; interval = 4 } ∷ []) (8 ∷ 8 ∷ 8 ∷ 8 ∷ []); gap = 0 }

reopened_says : message_of reopening_transmission.packet ≡ Some (ScheduleOf reopening)
unfolding least_passing digits packed_number schedule_of asks_in
reopened_says = refl

asked_in_data_slot_guest : sender_hosts no_power true_time asked_in_data_slot asked ≡ false
unfolding alarms
asked_in_data_slot_guest = guest no_power asked_in_data_slot asked (2368104960 ∷ []) refl refl refl refl

asked_in_data_slot_is : Silence no_power true_time asked_in_data_slot → ⊥
unfolding digits packed_number schedule_of asks_in
asked_in_data_slot_is keeps =
    let word = keeps asked (1, omega arith, refl) refl refl (λ other. asked_in_data_slot_guest) in
    let is : reopening ≡ word.schedule =
    schedule_is no_power asked_in_data_slot reopening_transmission reopening reopened_says refl word.heard word.schedule word.there word.says in
    let part : Data 8 ≡ Contention word.allows.1 = ap (λ (y : Schedule). part_of y.plan 1) is ∙ word.allows.2 in
    cc part

pub asked_in_data_slot_breaks : BreaksOnly Silent no_power true_time asked_in_data_slot
unfolding least_passing digits packed_number schedule_of asks_in
asked_in_data_slot_breaks = breaks Silent no_power asked_in_data_slot asked_in_data_slot_is
    (λ is. in_frame_by no_power asked_in_data_slot refl) (λ is. apart_by no_power asked_in_data_slot refl)
    (λ is. alike_by no_power asked_in_data_slot refl) (λ is. one_by no_power asked_in_data_slot refl refl) (λ is. absurd (is refl))

-- the received closing gives node 2 its slot, but a line switches it off
gone_off_guest : sender_hosts scenario_with_off_line true_time gone_off later_data ≡ false
unfolding alarms
gone_off_guest = guest scenario_with_off_line gone_off later_data (1348328960 ∷ 2304000000 ∷ []) refl refl refl refl

abbrev grant : Schedule
grant = record { plan = plan_with (record { node = 2; boot = 1; stream = 0; interval = 4 } ∷ []) (8 ∷ 8 ∷ 8 ∷ 8 ∷ []); gap = 4 }

granted_says : message_of grant_transmission.packet ≡ Some (ScheduleOf grant)
unfolding least_passing digits packed_number schedule_of asks_in
granted_says = refl

gone_off_is : Silence scenario_with_off_line true_time gone_off → ⊥
unfolding digits packed_number schedule_of asks_in
gone_off_is keeps =
    let word = keeps later_data (1, omega arith, refl) refl refl (λ other. gone_off_guest) in
    let frame : 5 ≡ word.heard.start / 256000000 = ap (λ (x : Sending). x.start / 256000000)
    (heard_is scenario_with_off_line gone_off grant_transmission grant granted_says refl word.heard word.there) in
    word.stays_on (record { frame = 9; node = 2; act = Off }) (0, omega arith, refl) refl (omega (arith, frame)) (omega arith) refl

pub gone_off_breaks : BreaksOnly Silent scenario_with_off_line true_time gone_off
unfolding least_passing digits packed_number schedule_of asks_in
gone_off_breaks = breaks Silent scenario_with_off_line gone_off gone_off_is
    (λ is. in_frame_by scenario_with_off_line gone_off refl) (λ is. apart_by scenario_with_off_line gone_off refl)
    (λ is. alike_by scenario_with_off_line gone_off refl) (λ is. one_by scenario_with_off_line gone_off refl refl) (λ is. absurd (is refl))
