-- A log with one entry more: its transmissions, receptions and tunings.
use Rattle.std.proofs.Common.{◌≡◌, ℕ, List, [], ◌∷◌, ◌++◌, Option, Some, None, ap, ◌∙◌}
use Rattle.std.proofs.lemmas.List.{append-nil}
use Rattle.std.proofs.lemmas.List.Elements.{filter_map-append}
use Rattle.radio_model.specs.declared.sending.Sending.{Sending}
use Rattle.radio_model.specs.OnAir.{Tuning}
use Rattle.air_log.specs.declared.entry.Entry.{Entry}
use Rattle.air_log.specs.declared.entry.Entry.TheVariants.{Sent, Heard, Tuned}
use Rattle.air_log.specs.Entries.{sending_in, hearing_in, tuning_in, node_of_entry, sendings_of, hearings_of, tunings_of, heard_entry}

-- the node of an entry is that of what it says
abbrev sender_in : Option Sending → ℕ → ℕ
sender_in None v = v
sender_in (Some x) v = x.node

pub sending_node : (e : Entry) (x : Sending) → sending_in e ≡ Some x → node_of_entry e ≡ x.node
sending_node (Sent y) x is = ap (λ (o : Option Sending). sender_in o 0) is
sending_node (Heard h) x is = cc
sending_node (Tuned t) x is = cc

abbrev tuner_in : Option Tuning → ℕ → ℕ
tuner_in None v = v
tuner_in (Some x) v = x.node

pub tuning_node : (e : Entry) (x : Tuning) → tuning_in e ≡ Some x → node_of_entry e ≡ x.node
tuning_node (Sent y) x is = cc
tuning_node (Heard h) x is = cc
tuning_node (Tuned t) x is = ap (λ (o : Option Tuning). tuner_in o 0) is

-- a transmission more
module _ (air : List Entry) (x : Sending) where
  pub sendings_sent : sendings_of (air ++ Sent x ∷ []) ≡ sendings_of air ++ x ∷ []
  sendings_sent = filter_map-append sending_in air (Sent x ∷ [])

  pub hearings_sent : hearings_of (air ++ Sent x ∷ []) ≡ hearings_of air
  hearings_sent = filter_map-append hearing_in air (Sent x ∷ []) ∙ append-nil (hearings_of air)

  pub tunings_sent : tunings_of (air ++ Sent x ∷ []) ≡ tunings_of air
  tunings_sent = filter_map-append tuning_in air (Sent x ∷ []) ∙ append-nil (tunings_of air)

-- a reception more
module _ (air : List Entry) (u : ℕ) (x : Sending) where
  pub sendings_heard : sendings_of (air ++ heard_entry u x ∷ []) ≡ sendings_of air
  sendings_heard = filter_map-append sending_in air (heard_entry u x ∷ []) ∙ append-nil (sendings_of air)

  pub hearings_heard : hearings_of (air ++ heard_entry u x ∷ []) ≡ hearings_of air ++ record { node = u; sending = x } ∷ []
  hearings_heard = filter_map-append hearing_in air (heard_entry u x ∷ [])

  pub tunings_heard : tunings_of (air ++ heard_entry u x ∷ []) ≡ tunings_of air
  tunings_heard = filter_map-append tuning_in air (heard_entry u x ∷ []) ∙ append-nil (tunings_of air)
