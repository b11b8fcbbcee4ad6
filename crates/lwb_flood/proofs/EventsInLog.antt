-- The events of a node are in the log.
use Rattle.std.proofs.Common.{◌≡◌, ℕ, List, Bool, true, false, Option, Some, None, ◌==◌, if◌then◌else◌, refl, ◌∙◌, ap}
use Rattle.std.proofs.Common.{eqb-true}
use Rattle.std.specs.Prelude.{Contains}
use Rattle.std.proofs.lemmas.Bool.{eqb-true}
use Rattle.radio_model.specs.declared.sending.Sending.{Sending}
use Rattle.radio_model.specs.OnAir.{Hearing}
use Rattle.lwb_base.proofs.Elements.{in_filter, filter_from}
use Rattle.air_log.specs.declared.entry.Entry.{Entry}
use Rattle.air_log.specs.declared.entry.Entry.TheVariants.{Sent, Heard as HeardOf, Tuned}
use Rattle.air_log.specs.Entries.{hearing_in, sendings_of, HasHeardEntry, sending_in}
use Rattle.air_log.specs.NodeEvents.{Heard, Ended}
use Rattle.lwb_flood.proofs.FloodSoFar.{event_in, events_in}

-- the receptions of a node are in the log
abbrev of_pair : ℕ → Sending → Option Hearing
of_pair u y = Some (record { node = u; sending = y })

pair_is : (n u : ℕ) (z y : Sending) → n ≡ u → Some (Heard z) ≡ Some (Heard y) → of_pair n z ≡ of_pair u y
pair_is n u z y at is = let same : z ≡ y = cc in ap (λ (m : ℕ). of_pair m z) at ∙ ap (λ (s : Sending). of_pair u s) same

ended_is_not : (b : Bool) (z y : Sending) → (if b then Some (Ended z) else None) ≡ Some (Heard y) → ⊥
ended_is_not true z y is = cc
ended_is_not false z y is = cc

heard_is : (n u : ℕ) (b : Bool) (z y : Sending) → (b ≡ true → n ≡ u) → (if b then Some (Heard z) else None) ≡ Some (Heard y) → of_pair n z ≡ of_pair u y
heard_is n u true z y at is = pair_is n u z y (at refl) is
heard_is n u false z y at is = absurd (cc)

event_hearing : (u : ℕ) (e : Entry) (y : Sending) → event_in u e ≡ Some (Heard y) → hearing_in e ≡ of_pair u y
event_hearing u (Sent s) y is = absurd (ended_is_not (s.node == u) (record {
  rank = s.rank;
  node = s.node;
  start = s.start;
  end = s.end;
  packet = s.packet;
}) y is)
event_hearing u (HeardOf h) y is = heard_is h.node u (h.node == u)
    (record { rank = h.rank; node = h.from; start = h.start; end = h.end; packet = h.packet }) y (λ same. eqb-true h.node u same) is
event_hearing u (Tuned t) y is = absurd (cc)

pub heard_event : (air : List Entry) (u : ℕ) (y : Sending) → Contains (events_in air u) (Heard y) → HasHeardEntry air u y
heard_event air u y there =
    let e = filter_from (event_in u) air (Heard y) there in
    in_filter hearing_in air e.0 (record { node = u; sending = y }) e.1 (event_hearing u e.0 y e.2)

-- the ended transmissions of a node are in the log
pub heard_is_not : (b : Bool) (z y : Sending) → (if b then Some (Heard z) else None) ≡ Some (Ended y) → ⊥
heard_is_not true z y is = cc
heard_is_not false z y is = cc

ended_is : (b : Bool) (z y : Sending) → (if b then Some (Ended z) else None) ≡ Some (Ended y) → Some z ≡ Some y
ended_is true z y is = let same : z ≡ y = cc in ap (λ (s : Sending). Some s) same
ended_is false z y is = absurd (cc)

event_sending : (u : ℕ) (e : Entry) (y : Sending) → event_in u e ≡ Some (Ended y) → sending_in e ≡ Some y
event_sending u (Sent s) y is = ended_is (s.node == u) s y is
event_sending u (HeardOf h) y is = absurd (heard_is_not (h.node == u) (record {
  rank = h.rank;
  node = h.from;
  start = h.start;
  end = h.end;
  packet = h.packet;
}) y is)
event_sending u (Tuned t) y is = absurd (cc)

pub ended_event : (air : List Entry) (u : ℕ) (y : Sending) → Contains (events_in air u) (Ended y) → Contains (sendings_of air) y
ended_event air u y there =
    let e = filter_from (event_in u) air (Ended y) there in
    in_filter sending_in air e.0 y e.1 (event_sending u e.0 y e.2)
