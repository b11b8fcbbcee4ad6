-- What the closing of a window leaves, where the round goes on.
use Rattle.std.proofs.Common.{◌≡◌, ℕ, ◌+◌, ◌<◌, ◌≤◌, List, Bool, true, false, ◌==◌, if◌then◌else◌, Some, None, Option, IfSome, option_map, option_and_then, inl}
use Rattle.std.proofs.Common.{inr, refl, sym, ◌∙◌, ap, arith}
use Rattle.std.proofs.lemmas.Bool.{cond_both}
use Rattle.lwb_base.specs.Messages.{Plan}
use Rattle.glossy_relay.specs.Relaying.{is_spelling, counter_of}
use Rattle.bus_rules.specs.declared.part.Part.{Part}
use Rattle.bus_rules.specs.declared.part.Part.TheVariants.{Opening, Data as DataSlot, Contention, Closing}
use Rattle.bus_rules.specs.Plans.{last_slot}
use Rattle.bus_rules.specs.Cores.{Core, Setup, opening_accepted, closing_accepted}
use Rattle.bus_rules.specs.Slots.{Message, ScheduleOf, DataOf, RequestOf, is_schedule_part, slot_heard, closed_slot}
use Rattle.lwb_member.specs.Places.{kind_for}
use Rattle.lwb_member.specs.Said.{message_of}
use Rattle.node_core.specs.Windows.{Window}
use Rattle.node_core.specs.Rows.{accepted_in}
use Rattle.node_core.specs.Standing.{IsInOwnRound}
use Rattle.law_trails.specs.NodeRanges.{IsCarried, IsOpenInRange}
use Rattle.law_trails.proofs.SaidInRange.{says}
use Rattle.law_trails.proofs.WindowsInRange.{schedule_said}

-- what a closing leaves of the plan and of the tune
module _ (s : Setup) (f : ℕ) (c : Core) where
  heard_plan : (part : Part) (heard : Bool) → (slot_heard f part heard c).plan ≡ c.plan
  heard_plan Opening heard = refl
  heard_plan (DataSlot owner) heard = refl
  heard_plan (Contention i) heard = refl
  heard_plan Closing heard = refl

  heard_own : (part : Part) (heard : Bool) → IsInOwnRound f c → IsInOwnRound f (slot_heard f part heard c)
  heard_own Opening heard own = own
  heard_own (DataSlot owner) heard own = own
  heard_own (Contention i) heard own = own
  heard_own Closing heard own = own

  abbrev IsOther : Message → Type 0
  IsOther (ScheduleOf x) = ⊥
  IsOther (DataOf d) = Unit {0}
  IsOther (RequestOf a) = Unit {0}

  closed_plan : (part : Part) (begun : Bool) (o : Option Message) → IfSome o IsOther → (closed_slot s f part begun c o).core.plan ≡ c.plan
  closed_plan part begun None other = heard_plan part begun
  closed_plan part begun (Some (ScheduleOf x)) other = absurd other
  closed_plan part begun (Some (DataOf d)) other = heard_plan part true
  closed_plan part begun (Some (RequestOf a)) other = refl

  closed_own : (part : Part) (begun : Bool) (o : Option Message) → IsInOwnRound f c → IsInOwnRound f (closed_slot s f part begun c o).core
  closed_own part begun None own = heard_own part begun own
  closed_own part begun (Some (ScheduleOf x)) own =
      cond_both (x.gap == 0) (opening_accepted s.id f x c) (closing_accepted s.id f x c) (IsInOwnRound f) (λ opens. own) (λ closes host. absurd (cc))
  closed_own part begun (Some (DataOf d)) own = heard_own part true own
  closed_own part begun (Some (RequestOf a)) own = own

  other_by : (w : Window) (q : List ℕ) (o : Option Message) → is_schedule_part w.part ≡ false → is_spelling (kind_for w.part) q ≡ true
      → message_of q ≡ o → IfSome o IsOther
  other_by w q None plain spelled says = tt
  other_by w q (Some (DataOf d)) plain spelled says = tt
  other_by w q (Some (RequestOf a)) plain spelled says = tt
  other_by w q (Some (ScheduleOf x)) plain spelled says = let never : true ≡ false = sym (schedule_said w.part q x spelled says) ∙ plain in cc

  other_first : (j : ℕ) (w : Window) (b : Bool) (first : Option (List ℕ)) → is_schedule_part w.part ≡ false → IfSome first (IsCarried s (kind_for w.part) j)
      → IfSome (option_and_then (λ a. message_of a.0) (if b then None else option_map {U = List ℕ × ℕ} (λ p. (p, counter_of p)) first)) IsOther
  other_first j w true first plain carried = tt
  other_first j w false None plain carried = tt
  other_first j w false (Some q) plain carried = other_by w q (message_of q) plain carried.spelled refl

  -- where the round goes on
  pub goes_on_is : (j : ℕ) (w : Window) → IsOpenInRange s f c j w → j < w.last
      → (j + 1 ≤ last_slot (closed_slot s f w.part w.flood.initiated c (accepted_in w)).core.plan)
      × IsInOwnRound f (closed_slot s f w.part w.flood.initiated c (accepted_in w)).core
  goes_on_is j w is less =
      let after = (closed_slot s f w.part w.flood.initiated c (accepted_in w)).core in
      let within : j + 1 ≤ last_slot after.plan =
      elim (is.next less) [
        | inl first ↦ omega (arith, first)
        | inr plain ↦ (
            let same : after.plan ≡ c.plan = closed_plan w.part w.flood.initiated (accepted_in w)
            (other_first j w w.flood.initiated w.flood.first plain.0 is.flood.first) in
            let last : last_slot after.plan ≡ last_slot c.plan = ap (λ (p : Plan). last_slot p) same in
            omega (arith, last, plain.1)
            )
      ] in
      (within, closed_own w.part w.flood.initiated (accepted_in w) (is.goes_on less))
