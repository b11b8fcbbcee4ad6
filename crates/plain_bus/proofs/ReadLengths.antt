-- How many bytes a packet has that reads as something.
use Rattle.std.proofs.Common.{◌≡◌, ◌+◌, ℕ, List, Bool, true, false, Option, Some, None, if◌then◌else◌, is_some, length, drop}
use Rattle.std.proofs.Common.{slice_index, refl, sym, ◌∙◌, ap, arith, length-drop}
use Rattle.std.specs.Option.{option_map, option_map_or}
use Rattle.std.proofs.lemmas.Bool.{and_parts, eqb-true, leb-true}
use Rattle.lwb_base.specs.Messages.{Schedule, length_of}
use Rattle.lwb_packets.specs.DataPackets.{is_data}
use Rattle.lwb_packets.specs.Requests.{is_request}
use Rattle.schedule_codec.specs.Reading.{schedule_of}
use Rattle.schedule_codec.specs.Spelling.{schedule_spelling, schedule_in_range}
use Rattle.schedule_codec.proofs.Readings.{spelled_by, bytes_same, length-spelling}
use Rattle.bus_rules.specs.Slots.{Message, ScheduleOf, DataOf, RequestOf, message_length}
use Rattle.lwb_member.specs.Said.{message_of, data_in, request_in}
use Rattle.plain_bus.proofs.MembersOfSlots.{first_of}

data_long : (p : List ℕ) → is_data p ≡ true → 8 + length (drop 8 p) ≡ length p
data_long p is =
    let long = leb-true 8 (length p)
    (first_of _ _ (first_of _ _ (first_of _ _ (first_of _ _ (first_of _ _ (first_of _ _ (first_of _ _ (first_of _ _ is)))))))) in
    omega (arith, long, length-drop 8 p)

request_long : (p : List ℕ) → is_request p ≡ true → 7 ≡ length p
request_long p is = sym (eqb-true (length p) 7 (first_of _ _ (first_of _ _ (first_of _ _ (first_of _ _ (first_of _ _ (first_of _ _ (first_of _ _ is))))))))

schedule_long : (p : List ℕ) (x : Schedule) → schedule_of p ≡ Some x → length_of x ≡ length p
schedule_long p x is =
    let j = slice_index p 1 in
    let k = slice_index p 2 in
    let spelled = (and_parts (schedule_in_range x j k) _ (spelled_by p x is)).1 in
    sym (length-spelling x j k) ∙ ap length (bytes_same (schedule_spelling x j k) p spelled)

module _ (p : List ℕ) where
  of_schedule : (o : Option Schedule) → schedule_of p ≡ o → is_some (option_map ScheduleOf o) ≡ true
      → option_map_or message_length (option_map ScheduleOf o) 0 ≡ length p
  of_schedule None at is = absurd (cc)
  of_schedule (Some x) at is = schedule_long p x at

  by_kind : (d r : Bool) → is_data p ≡ d → is_request p ≡ r
      → (let m : Option Message = if d then Some (DataOf (data_in p)) else if r then Some (RequestOf (request_in p)) else option_map ScheduleOf
      (schedule_of p) in is_some m ≡ true → option_map_or message_length m 0 ≡ length p)
  by_kind true r is_d is_r is = data_long p is_d
  by_kind false true is_d is_r is = request_long p is_r
  by_kind false false is_d is_r is = of_schedule (schedule_of p) refl is

  -- what reads as something is as long as that
  pub read_long : is_some (message_of p) ≡ true → option_map_or message_length (message_of p) 0 ≡ length p
  read_long = by_kind (is_data p) (is_request p) refl refl

pub unread : (o : Option Message) → is_some o ≡ false → ◌≡◌ {A = ℕ} (option_map_or message_length o 0) 0
unread None is = refl
unread (Some m) is = absurd (cc)

pub some_mapped : {X Y : Type 0} (g : X → Y) (o : Option X) → is_some (option_map g o) ≡ is_some o
some_mapped g None = refl
some_mapped g (Some x) = refl
