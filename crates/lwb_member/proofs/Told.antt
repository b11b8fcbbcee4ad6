-- A packet says what its initiator said.
use Rattle.std.proofs.Common.{◌≡◌, ◌≤◌, ◌&&◌, ◌==◌, ℕ, zero, suc, List, Bool, true, false, Some, None, Option, IfSome}
use Rattle.std.proofs.Common.{if◌then◌else◌, sym, subst, length, slice_index, option_map, refl, ap, ◌∙◌, arith}
use Rattle.std.proofs.lemmas.Bool.{cond-true, cond-false, ne_eqb}
use Rattle.std.proofs.lemmas.Bool.Decides.{nat_tests}
use Rattle.lwb_base.specs.Messages.{Ask, Schedule}
use Rattle.std.specs.Option.{option_and_then}
use Rattle.lwb_packets.specs.declared.kind.Kind.TheVariants as Kinds
use Rattle.lwb_packets.specs.Ranges.{between}
use Rattle.lwb_packets.specs.DataPackets as data_packets
use Rattle.lwb_packets.specs.Requests as requests
use Rattle.lwb_packets.specs.declared.data_packet.DataPacket.{DataPacket}
use Rattle.lwb_packets.specs.declared.request.Request.{Request}
use Rattle.schedule_codec.specs.Reading.{schedule_of}
use Rattle.schedule_codec.specs.Spelling.{schedule_spelling, kind_byte}
use Rattle.schedule_codec.proofs.Readings.{schedule_spelled}
use Rattle.bus_rules.specs.Slots.{Message, ScheduleOf, DataOf, RequestOf}
use Rattle.lwb_member.specs.declared.message.Heard.TheVariants.{Data as HeardData, Request as HeardRequest}
use Rattle.lwb_member.specs.Said.{IsInitialPacket, MaySay, bytes_of, bytes_in_slot, message_of, meaning, data_in, request_in, data_packet, request_packet}
use Rattle.lwb_member.proofs.Meanings.{joined}

pub told_data : (d : DataPacket) → data_packets.InRange d → 1 ≤ d.node → d.node ≤ 200 → length d.payload ≤ 96
    → message_of (data_packets.data_spelling d) ≡ Some (meaning (HeardData d))
told_data d in_range low high short =
    let is : data_packets.is_data (data_packets.data_spelling d) ≡ true = grind (arith, nat_tests) in
    cond-true (data_packets.is_data (data_packets.data_spelling d)) _ _ is
    ∙ ap (λ (n : ℕ). Some (DataOf (record (data_in (data_packets.data_spelling d)) { seq = n }))) (joined d.seq)

pub told_request : (r : Request) → requests.InRange r → 1 ≤ r.node → r.node ≤ 200 → message_of (requests.request_spelling r) ≡ Some (meaning (HeardRequest r))
told_request r in_range low high =
    let is : requests.is_request (requests.request_spelling r) ≡ true = grind (arith, nat_tests) in
    cond-true (requests.is_request (requests.request_spelling r)) _ _ is

-- the first byte of a schedule is 1 or 4
no_data_byte : (contend : ℕ) → (kind_byte contend == 2) ≡ false
no_data_byte zero = refl
no_data_byte (suc n) = rw (ne_eqb (suc n) 0 (omega arith)) refl

no_request_byte : (contend : ℕ) → (kind_byte contend == 3) ≡ false
no_request_byte zero = refl
no_request_byte (suc n) = rw (ne_eqb (suc n) 0 (omega arith)) refl

no_test : (a b c d e f g h : Bool) → b ≡ false → (a && b && c && d && e && f && g && h) ≡ false
no_test true b c d e f g h is = rw is refl
no_test false b c d e f g h is = refl

pub told_schedule : (p : List ℕ) (s : Schedule) (slot : ℕ) → schedule_of p ≡ Some s → p ≡ schedule_spelling s slot 0 → message_of p ≡ Some (ScheduleOf s)
told_schedule p s slot is bytes =
    let first : slice_index p 0 ≡ kind_byte s.plan.contend = ap (λ (q : List ℕ). slice_index q 0) bytes in
    let no_data : (slice_index p 0 == 2) ≡ false = ap (λ (n : ℕ). n == 2) first ∙ no_data_byte s.plan.contend in
    let no_request : (slice_index p 0 == 3) ≡ false = ap (λ (n : ℕ). n == 3) first ∙ no_request_byte s.plan.contend in
    cond-false (data_packets.is_data p) _ _ (no_test (between 8 104 (length p)) (slice_index p 0 == 2) _ _ _ _ _ _ no_data)
    ∙ cond-false (requests.is_request p) _ _ (no_test (length p == 7) (slice_index p 0 == 3) _ _ _ _ _ _ no_request)
    ∙ ap (option_map ScheduleOf) is

pub told : (m : Message) (j : ℕ) → MaySay j m → message_of (bytes_of m j) ≡ Some m
told (ScheduleOf s) j may = told_schedule (schedule_spelling s j 0) s j (schedule_spelled s j 0 may) refl
told (DataOf d) j may = told_data (data_packet d j) may.0 may.1 may.2 may.3
told (RequestOf a) j may = told_request (request_packet a j) may.0 may.1 may.2

-- a request that is spelled says itself
asked : (a : Ask) (j : ℕ) (p : List ℕ) → p ≡ bytes_of (RequestOf a) j → IsInitialPacket Kinds.Request p → message_of p ≡ Some (RequestOf a)
asked a j p is said =
    let q = bytes_of (RequestOf a) j in
    let spelled : requests.is_request q ≡ true = ap requests.is_request (sym is) ∙ said.spelled in
    ap message_of is ∙ cond-true (requests.is_request q) (Some (RequestOf (request_in q))) (option_map ScheduleOf (schedule_of q)) spelled

pub told_asked : (b : Bool) (g : ℕ → Ask) (o : Option ℕ) (j : ℕ) (result : Option (List ℕ))
    → result ≡ option_map (bytes_in_slot j) (if b then option_map (λ i. RequestOf (g i)) o else None) → IfSome result (IsInitialPacket Kinds.Request)
    → option_and_then message_of result ≡ (if b then option_map (λ i. RequestOf (g i)) o else None)
told_asked false g o j result is said = ap (option_and_then message_of) is
told_asked true g None j result is said = ap (option_and_then message_of) is
told_asked true g (Some i) j result is said =
    ap (option_and_then message_of) is
    ∙ asked (g i) j (bytes_of (RequestOf (g i)) j) refl (subst (λ (r : Option (List ℕ)). IfSome r (IsInitialPacket Kinds.Request)) is said)
