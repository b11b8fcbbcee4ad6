-- A packet of any kind is one with each counter up to 11.
use Rattle.std.proofs.Common.{◌≡◌, ℕ, ◌+◌, ◌*◌, ◌≤◌, List, Bool, true, ◌&&◌, sym, ◌∙◌, ap, subst, arith}
use Rattle.std.proofs.Common.{length, drop, Option, Some, None, is_some, refl, ◌==◌, nat_le}
use Rattle.std.specs.Prelude.{slice_index, slice_set}
use Rattle.std.proofs.lemmas.Bool.{and_parts, le-leb, false≢true}
use Rattle.std.proofs.lemmas.List.{get_or-set_same, get_or-set_other, length-set, drop-set-lt}
use Rattle.lwb_base.specs.Messages.{Schedule as Plan}
use Rattle.lwb_packets.specs.Ranges.{between}
use Rattle.lwb_packets.specs.DataPackets.{is_data}
use Rattle.lwb_packets.specs.Requests.{is_request}
use Rattle.schedule_codec.specs.Spelling.{SpellsBody}
use Rattle.schedule_codec.specs.Reading.{schedule_of, is_schedule}
use Rattle.schedule_codec.proofs.Readings.{Parts, read_as, spelled_by}
use Rattle.schedule_codec.proofs.Heads.{Heads, heads_of, spells_from}
use Rattle.lwb_packets.specs.declared.kind.Kind.{Kind}
use Rattle.lwb_packets.specs.declared.kind.Kind.TheVariants.{Schedule, Payload, Request}
use Rattle.glossy_relay.specs.Relaying.{is_spelling}
use Rattle.glossy_relay.proofs.CountedPackets.{long_data, long_request}

data_number : (p : List ℕ) → is_data p ≡ true → nat_le (slice_index p 2) 11 ≡ true
data_number p is =
    let a = and_parts _ _ is in let b = and_parts _ _ a.0 in let c = and_parts _ _ b.0 in let d = and_parts _ _ c.0 in
    (and_parts _ _ d.0).1

with_number : List ℕ → Bool → Bool
with_number p x = between 8 104 (length p) && (slice_index p 0 == 2) && between 1 40 (slice_index p 1) && x
    && between 1 200 (slice_index p 3) && between 1 200 (slice_index p 4) && nat_le (slice_index p 5) 3
    && nat_le (256 * slice_index p 6 + slice_index p 7) 65534

other_byte : (p : List ℕ) (k i : ℕ) → (i ≡ 2 → ⊥) → slice_index (slice_set p 2 k) i ≡ slice_index p i
other_byte p k i other = get_or-set_other p 2 i k 0 other

-- a data packet is one with each counter up to 11
pub data_again : (p : List ℕ) (k : ℕ) → is_data p ≡ true → k ≤ 11 → is_data (slice_set p 2 k) ≡ true
unfolding with_number
data_again p k is few =
    rw (
      length-set p 2 k,
      other_byte p k 0 (omega arith),
      other_byte p k 1 (omega arith),
      other_byte p k 3 (omega arith),
      other_byte p k 4 (omega arith),
      other_byte p k 5 (omega arith),
      other_byte p k 6 (omega arith),
      other_byte p k 7 (omega arith),
      get_or-set_same p 2 k 0 (long_data p is),
    )
    (ap (with_number p) (le-leb k 11 few ∙ sym (data_number p is)) ∙ is)

request_with : List ℕ → Bool → Bool
request_with p x = (length p == 7) && (slice_index p 0 == 3) && between 1 44 (slice_index p 1) && x && between 1 200 (slice_index p 3)
    && between 1 200 (slice_index p 4) && nat_le (slice_index p 5) 3 && nat_le (slice_index p 6) 120

request_number : (p : List ℕ) → is_request p ≡ true → nat_le (slice_index p 2) 11 ≡ true
request_number p is =
    let a = and_parts _ _ is in let b = and_parts _ _ a.0 in let c = and_parts _ _ b.0 in let d = and_parts _ _ c.0 in
    (and_parts _ _ d.0).1

-- so is a request
request_again : (p : List ℕ) (k : ℕ) → is_request p ≡ true → k ≤ 11 → is_request (slice_set p 2 k) ≡ true
unfolding request_with
request_again p k is few =
    rw (
      length-set p 2 k,
      other_byte p k 0 (omega arith),
      other_byte p k 1 (omega arith),
      other_byte p k 3 (omega arith),
      other_byte p k 4 (omega arith),
      other_byte p k 5 (omega arith),
      other_byte p k 6 (omega arith),
      get_or-set_same p 2 k 0 (long_request p is),
    )
    (ap (request_with p) (le-leb k 11 few ∙ sym (request_number p is)) ∙ is)

-- and a schedule
schedule_with : (p : List ℕ) (k : ℕ) (s : Plan) → k ≤ 11 → Heads p s → Heads (slice_set p 2 k) s
schedule_with p k s few h =
    let long = h.long in
    let parts : Parts s (slice_index p 1) k = record {
      count = few;
      place = h.parts.place;
      rank = h.parts.rank;
      boot = h.parts.boot;
      gap = h.parts.gap;
      contend = h.parts.contend;
      few = h.parts.few;
      acks = h.parts.acks;
      ordered = h.parts.ordered;
      owners = h.parts.owners;
    } in
    record {
      long = omega (arith, long, length-set p 2 k);
      head = other_byte p k 3 (omega arith) ∙ h.head;
      boot = other_byte p k 4 (omega arith) ∙ h.boot;
      parts = subst (λ (i : ℕ). Parts s i (slice_index (slice_set p 2 k) 2)) (sym (other_byte p k 1 (omega arith)))
          (subst (λ (i : ℕ). Parts s (slice_index p 1) i) (sym (get_or-set_same p 2 k 0 (omega arith))) parts);
      body = subst (λ (i : ℕ). SpellsBody i (drop 5 (slice_set p 2 k)) s.plan.contend s.plan.acks s.plan.owners) (sym (other_byte p k 0 (omega arith)))
          (subst (λ (l : List ℕ). SpellsBody (slice_index p 0) l s.plan.contend s.plan.acks s.plan.owners) (sym (drop-set-lt 5 p 2 k (omega arith))) h.body);
    }

some_is : (o : Option Plan) → is_some o ≡ true → (s : Plan) × (o ≡ Some s)
some_is None is = absurd (false≢true is)
some_is (Some s) is = (s, refl)

schedule_again : (p : List ℕ) (k : ℕ) → is_schedule p ≡ true → k ≤ 11 → is_schedule (slice_set p 2 k) ≡ true
schedule_again p k is few =
    let s = some_is (schedule_of p) is in
    let again = read_as (slice_set p 2 k) s.0 (spells_from (slice_set p 2 k) s.0 (schedule_with p k s.0 few (heads_of p s.0 (spelled_by p s.0 s.1)))) in
    ap (λ (o : Option Plan). is_some o) again

-- a packet of any kind is one with each counter up to 11
pub spelled_again : (kind : Kind) (p : List ℕ) (k : ℕ) → is_spelling kind p ≡ true → k ≤ 11 → is_spelling kind (slice_set p 2 k) ≡ true
spelled_again Schedule p k is few = schedule_again p k is few
spelled_again Payload p k is few = data_again p k is few
spelled_again Request p k is few = request_again p k is few
