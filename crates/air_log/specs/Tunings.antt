-- The tunings of a node, and what they are as its radio goes to a channel or off.
use Rattle.std.specs.Prelude.{◌≡◌, ℕ, ◌<◌, List, [], ◌∷◌, Some, None, if◌then◌else◌, ⊤}
use Rattle.std.specs.declared.option.Option.{Option}
use Rattle.std.specs.Option.{IfSome, option_map}
use Rattle.radio_model.specs.declared.tuning.Tuned.{Tuned}
use Rattle.radio_model.specs.declared.tuning.Past.{Past}
use Rattle.radio_model.specs.declared.tuning.RadioTuning.{RadioTuning}
use Rattle.radio_model.specs.OnAir.{Tuning, goes_on_with}
use Rattle.air_log.specs.Devices.{Listening, with_tuning, listens_to}

-- the one that goes on, and those that ended, the last first
pub record Tunings : Type 0 where
  pub listening : Option Listening
  pub ended : List Tuning

abbrev pub channel_of : Listening → ℕ
channel_of l = l.rank

-- the channel of the one that goes on
abbrev pub channel_in : Tunings → Option ℕ
channel_in x = option_map channel_of x.listening

-- from off to a channel at t, with the last tuning or with a new one
abbrev pub tuned_on : ℕ → ℕ → List Tuning → Tunings
tuned_on rank t [] = record { listening = Some (record { rank = rank; since = t }); ended = [] }
tuned_on rank t (e ∷ earlier) =
    if goes_on_with e.rank e.end rank t
    then record { listening = Some (record { rank = rank; since = e.start }); ended = earlier }
    else record { listening = Some (record { rank = rank; since = t }); ended = e ∷ earlier }

-- to a channel at t, or off
abbrev pub retuned : ℕ → ℕ → Option ℕ → Tunings → Tunings
retuned node t None x = record { listening = None; ended = with_tuning node t x.listening x.ended }
retuned node t (Some rank) x = if listens_to rank x.listening then x else tuned_on rank t (with_tuning node t x.listening x.ended)

-- the last of them ended before this tick, so it does not go on at it
abbrev pub EndedBefore : ℕ → List Tuning → Type 0
EndedBefore t [] = ⊤
EndedBefore t (e ∷ es) = e.end < t

-- at tick t they follow from those before it and the channel alone: of all the channels of a tick only the last one counts
pub record IsByChannel (node t : ℕ) (x : Tunings) : Type 0 where
  pub before : Tunings
  pub since : IfSome before.listening (λ l. l.since < t)
  pub ended : EndedBefore t before.ended
  pub is : retuned node t (channel_in x) before ≡ x

abbrev pub listening_of : Tuned → Listening
listening_of o = record { rank = o.rank; since = o.since }

abbrev pub past_tuning : ℕ → Past → Tuning
past_tuning node p = record { rank = p.rank; node = node; start = p.since; end = p.until }

-- tunings with one more, if there is one
abbrev pub one_more : ℕ → Option Past → List Tuning → List Tuning
one_more node None es = es
one_more node (Some p) es = past_tuning node p ∷ es

-- as a radio keeps them, where these are in a list already
abbrev pub tunings_with : ℕ → RadioTuning → List Tuning → Tunings
tunings_with node x listed = record { listening = option_map listening_of x.now; ended = one_more node x.last listed }
