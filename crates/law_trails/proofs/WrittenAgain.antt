-- A packet is what its initiator writes of what it says, with its counter.
use Rattle.std.proofs.Common.{◌≡◌, ℕ, ◌+◌, ◌*◌, ◌/◌, ◌%◌, ◌<◌, ◌≤◌, List, [], ◌∷◌, length, Some, slice_index, slice_set, sym, ◌∙◌, ap, arith}
use Rattle.std.specs.List.{All, AllByRecursion}
use Rattle.std.proofs.lemmas.List.Elements.{recursion_from_All}
use Rattle.lwb_packets.specs.Body.{body}
use Rattle.schedule_codec.proofs.Heads.{written_again}
use Rattle.schedule_codec.proofs.Readings.{spelled_by}
use Rattle.glossy_relay.specs.Relaying.{slot_of, counter_of}
use Rattle.glossy_relay.proofs.CountedPackets.{body_set}
use Rattle.bus_rules.specs.Slots.{Message, ScheduleOf, DataOf, RequestOf}
use Rattle.lwb_member.specs.Said.{bytes_of, message_of, data_in, request_in}
use Rattle.law_trails.proofs.SaidPackets.{data_first, request_first, says, schedule_read, data_read, request_read}

abbrev again : Message → List ℕ → List ℕ
again m q = slice_set (bytes_of m (slot_of q)) 2 (counter_of q)

data_again : (q : List ℕ) → 8 ≤ length q → slice_index q 0 ≡ 2 → AllByRecursion (λ (b : ℕ). b < 256) q → again (DataOf (data_in q)) q ≡ q
data_again [] long first all = absurd (omega arith)
data_again (a ∷ []) long first all = absurd (omega arith)
data_again (a ∷ b ∷ []) long first all = absurd (omega arith)
data_again (a ∷ b ∷ c ∷ []) long first all = absurd (omega arith)
data_again (a ∷ b ∷ c ∷ d ∷ []) long first all = absurd (omega arith)
data_again (a ∷ b ∷ c ∷ d ∷ e ∷ []) long first all = absurd (omega arith)
data_again (a ∷ b ∷ c ∷ d ∷ e ∷ f ∷ []) long first all = absurd (omega arith)
data_again (a ∷ b ∷ c ∷ d ∷ e ∷ f ∷ g ∷ []) long first all = absurd (omega arith)
data_again (a ∷ b ∷ c ∷ d ∷ e ∷ f ∷ g ∷ h ∷ payload) long first all =
    let small : h < 256 = all.1.1.1.1.1.1.1.0 in
    let high : (256 * g + h) / 256 ≡ g = omega arith in
    let low : (256 * g + h) % 256 ≡ h = omega arith in
    ap (λ (n : ℕ). n ∷ b ∷ c ∷ d ∷ e ∷ f ∷ ((256 * g + h) / 256) ∷ ((256 * g + h) % 256) ∷ payload) (sym first)
    ∙ ap (λ (n : ℕ). a ∷ b ∷ c ∷ d ∷ e ∷ f ∷ n ∷ ((256 * g + h) % 256) ∷ payload) high
    ∙ ap (λ (n : ℕ). a ∷ b ∷ c ∷ d ∷ e ∷ f ∷ g ∷ n ∷ payload) low

request_again : (q : List ℕ) → length q ≡ 7 → slice_index q 0 ≡ 3 → again (RequestOf (request_in q)) q ≡ q
request_again [] long first = absurd (omega arith)
request_again (a ∷ []) long first = absurd (omega arith)
request_again (a ∷ b ∷ []) long first = absurd (omega arith)
request_again (a ∷ b ∷ c ∷ []) long first = absurd (omega arith)
request_again (a ∷ b ∷ c ∷ d ∷ []) long first = absurd (omega arith)
request_again (a ∷ b ∷ c ∷ d ∷ e ∷ []) long first = absurd (omega arith)
request_again (a ∷ b ∷ c ∷ d ∷ e ∷ f ∷ []) long first = absurd (omega arith)
request_again (a ∷ b ∷ c ∷ d ∷ e ∷ f ∷ g ∷ []) long first = ap (λ (n : ℕ). n ∷ b ∷ c ∷ d ∷ e ∷ f ∷ g ∷ []) (sym first)
request_again (a ∷ b ∷ c ∷ d ∷ e ∷ f ∷ g ∷ h ∷ more) long first = absurd (omega arith)

pub packet_again : (q : List ℕ) (m : Message) → message_of q ≡ Some m → All (λ (b : ℕ). b < 256) q → again m q ≡ q
packet_again q (ScheduleOf x) is all = written_again q x (spelled_by q x (schedule_read q x is))
packet_again q (DataOf d) is all =
    let read = data_read q d is in
    let long : 8 ≤ length q = (let counted = (says q (DataOf d) is).counted in omega arith) in
    ap (λ (e : Message). again e q) (sym read.1) ∙ data_again q long (data_first q read.0) (recursion_from_All (λ (b : ℕ). b < 256) q all)
packet_again q (RequestOf a) is all =
    let read = request_read q a is in
    ap (λ (e : Message). again e q) (sym read.1) ∙ request_again q (says q (RequestOf a) is).counted (request_first q read.0)

-- so what is said, and where, leaves nothing open but the counter
pub same_packets : (q r : List ℕ) (m : Message) → message_of q ≡ Some m → message_of r ≡ Some m → slot_of q ≡ slot_of r
    → All (λ (b : ℕ). b < 256) q → All (λ (b : ℕ). b < 256) r → body q ≡ body r
same_packets q r m is also place all every =
    let written : List ℕ = bytes_of m (slot_of q) in
    let one : body q ≡ body written = ap body (sym (packet_again q m is all)) ∙ body_set written (counter_of q) in
    let other : body r ≡ body (bytes_of m (slot_of r)) =
    ap body (sym (packet_again r m also every)) ∙ body_set (bytes_of m (slot_of r)) (counter_of r) in
    one ∙ ap (λ (j : ℕ). body (bytes_of m j)) place ∙ sym other
