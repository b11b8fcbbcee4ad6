-- What a flood at one node answers, and what it keeps.
use Rattle.std.specs.Prelude.{ℕ, ◌+◌, List, Bool, true, false, not, ◌&&◌, ◌||◌, ◌==◌, nat_lt, if◌then◌else◌, slice_index, slice_set, Some, None}
use Rattle.std.specs.declared.option.Option.{Option}
use Rattle.std.specs.Option.{option_map}
use Rattle.std.specs.Str.{bytes_eq}
use Rattle.lwb_base.specs.declared.limits.TheConstants.{LAST_STEP}
use Rattle.lwb_packets.specs.Body.{body}
use Rattle.lwb_packets.specs.DataPackets.{is_data}
use Rattle.lwb_packets.specs.Requests.{is_request}
use Rattle.schedule_codec.specs.Reading.{is_schedule}
use Rattle.lwb_packets.specs.declared.kind.Kind.{Kind}
use Rattle.lwb_packets.specs.declared.kind.Kind.TheVariants.{Schedule, Payload, Request}
use Rattle.glossy_relay.specs.FloodState.{FloodState}
use Rattle.glossy_relay.specs.declared.flood.Reply.{Reply}
use Rattle.glossy_relay.specs.declared.flood.Reply.TheVariants.{Relay, Keep, Ignore}
use Rattle.glossy_relay.specs.declared.flood.After.{After}
use Rattle.glossy_relay.specs.declared.flood.After.TheVariants.{More, Off}

-- the bytes are a spelling of this kind
abbrev pub is_spelling : Kind → List ℕ → Bool
is_spelling Schedule p = is_schedule p
is_spelling Payload p = is_data p
is_spelling Request p = is_request p

-- the bytes are a spelling of some kind
abbrev pub is_packet : List ℕ → Bool
is_packet p = is_data p || is_request p || is_schedule p

abbrev pub slot_of : List ℕ → ℕ
slot_of p = slice_index p 1

abbrev pub counter_of : List ℕ → ℕ
counter_of p = slice_index p 2

-- the flood carries this body, or none yet
abbrev pub carries : Option (List ℕ) → List ℕ → Bool
carries None p = true
carries (Some first) p = bytes_eq (body first) (body p)

-- it has sent fewer times than its limit, no transmission is ordered, and the packet is of its kind, slot and body
abbrev pub fits : FloodState → List ℕ → Bool
fits s p = nat_lt s.sent s.limit && not s.waiting && is_spelling s.kind p && (slot_of p == s.slot) && carries s.first p

-- the same bytes with the counter plus 1
abbrev pub relay_of : List ℕ → List ℕ
relay_of p = slice_set p 2 (counter_of p + 1)

abbrev pub reply_to : FloodState → List ℕ → Reply
reply_to s p = if fits s p then (if nat_lt (counter_of p) LAST_STEP then Relay (relay_of p) else Keep) else Ignore

-- the first of two
abbrev pub first_of : Option (List ℕ) → List ℕ → Option (List ℕ)
first_of None p = Some p
first_of (Some first) p = Some first

abbrev pub after_heard : FloodState → List ℕ → FloodState
after_heard s p = if fits s p then record s { waiting = nat_lt (counter_of p) LAST_STEP; first = first_of s.first p } else s

abbrev pub after_sent : FloodState → FloodState
after_sent s = record s { sent = s.sent + 1; waiting = false }

-- the end of a transmission turns the radio off where it is the last
abbrev pub after_ending : FloodState → After
after_ending s = if s.sent + 1 == s.limit then Off else More

-- a listener's first packet, and its counter
abbrev pub accepted_of : FloodState → Option (List ℕ × ℕ)
accepted_of s = if s.initiated then None else option_map (λ p. (p, counter_of p)) s.first
