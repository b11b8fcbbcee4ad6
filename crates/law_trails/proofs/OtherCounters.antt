-- A packet says the same with every counter up to 11.
use Rattle.std.proofs.Common.{◌≡◌, ℕ, ◌+◌, ◌<◌, ◌≤◌, List, [], ◌∷◌, Bool, Option, Some, None, if◌then◌else◌, option_map, slice_set, refl, sym, ◌∙◌, ap, arith}
use Rattle.std.proofs.lemmas.Bool.{le-leb, eq-eqb}
use Rattle.lwb_base.specs.Messages.{Schedule}
use Rattle.lwb_packets.specs.Body.{body}
use Rattle.lwb_packets.specs.DataPackets.{is_data}
use Rattle.lwb_packets.specs.Requests.{is_request}
use Rattle.schedule_codec.specs.Reading.{schedule_of}
use Rattle.schedule_codec.specs.Spelling.{spells}
use Rattle.schedule_codec.proofs.Readings.{read_as, spelled_by}
use Rattle.glossy_relay.specs.Relaying.{slot_of, counter_of, relay_of}
use Rattle.bus_rules.specs.Slots.{Message, ScheduleOf, DataOf, RequestOf}
use Rattle.lwb_member.specs.Said.{MaySay, bytes_of, message_of, data_in, request_in}
use Rattle.lwb_member.proofs.Told.{told}

module _ (a b c d : ℕ) (rest : List ℕ) (few : c ≤ 11) (also : d ≤ 11) where
  abbrev one : List ℕ
  one = a ∷ b ∷ c ∷ rest

  abbrev other : List ℕ
  other = a ∷ b ∷ d ∷ rest

  data_same : is_data one ≡ is_data other
  data_same = rw (le-leb c 11 few, le-leb d 11 also) refl

  request_same : is_request one ≡ is_request other
  request_same = rw (le-leb c 11 few, le-leb d 11 also) refl

  spells_same : (s : Schedule) → spells one s ≡ spells other s
  spells_same s = rw (le-leb c 11 few, le-leb d 11 also, eq-eqb c c refl, eq-eqb d d refl) refl

  -- what the one is read as, the other is read as too
  schedule_same : schedule_of one ≡ schedule_of other
  schedule_same = by_values (schedule_of one) (schedule_of other) refl refl
    where
      by_values : (o r : Option Schedule) → schedule_of one ≡ o → schedule_of other ≡ r → o ≡ r
      by_values (Some s) r is also_is = sym (read_as other s (sym (spells_same s) ∙ spelled_by one s is)) ∙ also_is
      by_values None (Some s) is also_is = sym is ∙ read_as one s (spells_same s ∙ spelled_by other s also_is)
      by_values None None is also_is = refl

  abbrev said_by : Bool → Bool → Option Schedule → Option Message
  said_by x y o = if x then Some (DataOf (data_in other)) else if y then Some (RequestOf (request_in other)) else option_map ScheduleOf o

  with_another : message_of one ≡ message_of other
  with_another =
      ap (λ (x : Bool). said_by x (is_request one) (schedule_of one)) data_same
      ∙ ap (λ (y : Bool). said_by (is_data other) y (schedule_of one)) request_same
      ∙ ap (λ (o : Option Schedule). said_by (is_data other) (is_request other) o) schedule_same

pub same_again : (p : List ℕ) (k : ℕ) → counter_of p ≤ 11 → k ≤ 11 → message_of (slice_set p 2 k) ≡ message_of p
same_again [] k few also = refl
same_again (a ∷ []) k few also = refl
same_again (a ∷ b ∷ []) k few also = refl
same_again (a ∷ b ∷ c ∷ rest) k few also = with_another a b k c rest also few

pub relay_same : (p : List ℕ) → counter_of p < 11 → message_of (relay_of p) ≡ message_of p
relay_same p few = same_again p (counter_of p + 1) (omega arith) (omega arith)

pub bodies_same : (p q : List ℕ) → counter_of p ≤ 11 → counter_of q ≤ 11 → body p ≡ body q → message_of p ≡ message_of q
bodies_same p q few also is = sym (same_again p 0 few (omega arith)) ∙ ap message_of is ∙ same_again q 0 also (omega arith)

pub first_place : (m : Message) (j : ℕ) → (slot_of (bytes_of m j) ≡ j) × (counter_of (bytes_of m j) ≡ 0)
first_place (ScheduleOf x) j = (refl, refl)
first_place (DataOf d) j = (refl, refl)
first_place (RequestOf a) j = (refl, refl)

pub other_place : (m : Message) (j k : ℕ) → (slot_of (slice_set (bytes_of m j) 2 k) ≡ j) × (counter_of (slice_set (bytes_of m j) 2 k) ≡ k)
other_place (ScheduleOf x) j k = (refl, refl)
other_place (DataOf d) j k = (refl, refl)
other_place (RequestOf a) j k = (refl, refl)

pub told_again : (m : Message) (j k : ℕ) → MaySay j m → k ≤ 11 → message_of (slice_set (bytes_of m j) 2 k) ≡ Some m
told_again m j k may few = same_again (bytes_of m j) k (omega (arith, (first_place m j).1)) few ∙ told m j may
