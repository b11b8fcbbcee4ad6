-- Packets with another counter.
use Rattle.std.proofs.Common.{◌≡◌, ℕ, ◌+◌, ◌<◌, ◌≤◌, List, Option, Some, None, is_some, Bool, true, false, if◌then◌else◌, nat_lt, refl, subst, arith, length}
use Rattle.std.specs.Prelude.{slice_index, slice_set}
use Rattle.std.proofs.lemmas.Bool.{cond_both, and_parts, eqb-true, leb-true, ltb-true, false≢true}
use Rattle.std.proofs.lemmas.List.{get_or-set_same, get_or-set_other, set-set, set-get_or}
use Rattle.glossy_relay.specs.FloodState.{FloodState}
use Rattle.lwb_packets.specs.Body.{body}
use Rattle.lwb_base.specs.Messages.{Schedule as Plan}
use Rattle.lwb_packets.specs.DataPackets.{is_data}
use Rattle.lwb_packets.specs.Requests.{is_request}
use Rattle.schedule_codec.specs.Reading.{schedule_of, is_schedule}
use Rattle.schedule_codec.proofs.Readings.{spelled_by}
use Rattle.schedule_codec.proofs.Heads.{heads_of}
use Rattle.lwb_packets.specs.declared.kind.Kind.{Kind}
use Rattle.lwb_packets.specs.declared.kind.Kind.TheVariants.{Schedule, Payload, Request}
use Rattle.glossy_relay.specs.Relaying.{is_spelling, fits, reply_to, counter_of, after_heard, first_of}
use Rattle.glossy_relay.specs.declared.flood.Reply.TheVariants.{Relay, Keep, Ignore}

pub counter_set : (p : List ℕ) (k : ℕ) → 2 < length p → slice_index (slice_set p 2 k) 2 ≡ k
counter_set p k long = get_or-set_same p 2 k 0 long

pub slot_set : (p : List ℕ) (k : ℕ) → slice_index (slice_set p 2 k) 1 ≡ slice_index p 1
slot_set p k = get_or-set_other p 2 1 k 0 (omega arith)

pub body_set : (p : List ℕ) (k : ℕ) → body (slice_set p 2 k) ≡ body p
body_set p k = set-set p 2 k 0

pub set_same : (p : List ℕ) (k : ℕ) → slice_index p 2 ≡ k → slice_set p 2 k ≡ p
set_same p k is = subst (λ (i : ℕ). slice_set p 2 i ≡ p) is (set-get_or p 2 0)

pub long_data : (p : List ℕ) → is_data p ≡ true → 2 < length p
long_data p is =
    let a = and_parts _ _ is in let b = and_parts _ _ a.0 in let c = and_parts _ _ b.0 in let d = and_parts _ _ c.0 in
    let e = and_parts _ _ d.0 in let f = and_parts _ _ e.0 in let g = and_parts _ _ f.0 in
    let h = and_parts _ _ g.0 in
    let size : 8 ≤ length p = leb-true 8 (length p) h.0 in
    omega arith

pub long_request : (p : List ℕ) → is_request p ≡ true → 2 < length p
long_request p is =
    let a = and_parts _ _ is in let b = and_parts _ _ a.0 in let c = and_parts _ _ b.0 in let d = and_parts _ _ c.0 in
    let e = and_parts _ _ d.0 in let f = and_parts _ _ e.0 in
    let g = and_parts _ _ f.0 in
    let size : length p ≡ 7 = eqb-true (length p) 7 g.0 in
    omega arith

long_schedule : (p : List ℕ) → is_schedule p ≡ true → 2 < length p
long_schedule p is = by_value (schedule_of p) refl is
  where
    by_value : (o : Option Plan) → schedule_of p ≡ o → is_some o ≡ true → 2 < length p
    by_value None value is = absurd (false≢true is)
    by_value (Some s) value is = let long = (heads_of p s (spelled_by p s value)).long in omega arith

-- what is answered with a relay
pub relayed_parts : (s : FloodState) (p q : List ℕ) → reply_to s p ≡ Relay q → (fits s p ≡ true) × (counter_of p < 11) × (q ≡ slice_set p 2 (counter_of p + 1))
relayed_parts s p q is = by_cases (fits s p) (nat_lt (counter_of p) 11) (ltb-true (counter_of p) 11) is
  where
    by_cases : (a b : Bool) → (b ≡ true → counter_of p < 11) → (if a then (if b then Relay (slice_set p 2 (counter_of p + 1)) else Keep) else Ignore) ≡ Relay q
        → (a ≡ true) × (counter_of p < 11) × (q ≡ slice_set p 2 (counter_of p + 1))
    by_cases true true less is = (refl, less refl, cc)
    by_cases true false less is = absurd (cc)
    by_cases false b less is = absurd (cc)

-- what is spelled has a counter
pub long_spelling : (kind : Kind) (p : List ℕ) → is_spelling kind p ≡ true → 2 < length p
long_spelling Schedule p is = long_schedule p is
long_spelling Payload p is = long_data p is
long_spelling Request p is = long_request p is

-- what fits is spelled
pub fitting_long : (s : FloodState) (p : List ℕ) → fits s p ≡ true → 2 < length p
fitting_long s p is =
    let a = and_parts _ _ is in let b = and_parts _ _ a.0 in let c = and_parts _ _ b.0 in
    long_spelling s.kind p c.1

pub relay_same : (p q : List ℕ) → Relay p ≡ Relay q → p ≡ q
relay_same p q is = cc

-- who initiates a flood is not changed by what it receives
pub begun_here : (f : FloodState) (q : List ℕ) → (after_heard f q).initiated ≡ f.initiated
begun_here f q = cond_both (fits f q) (record f { waiting = nat_lt (counter_of q) 11; first = first_of f.first q }) f
    (λ (g : FloodState). g.initiated ≡ f.initiated) (λ is. refl) (λ is. refl)
