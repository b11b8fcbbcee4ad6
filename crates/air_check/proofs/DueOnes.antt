-- Receptions that are given and not there.
use Rattle.std.proofs.Common.{◌≡◌, ℕ, ◌↔◌, inl, inr, List, Bool, true, false, refl, Contains}
use Rattle.std.proofs.lemmas.Bool.{false≢true, both_ways}
use Rattle.scenario_text.specs.ScenarioParts.{ScenarioParts}
use Rattle.radio_model.specs.OnAir.{Hearing, Sending}
use Rattle.air_log.specs.declared.entry.Entry.{Entry}
use Rattle.air_log.specs.Entries.{hearings_of, HasHeardEntry}
use Rattle.air_check.specs.Flags.{IsGivenAndMissing}
use Rattle.air_check.specs.Verdicts.{IsGiven, IsMissing}

module _ (s : ScenarioParts) (air : List Entry) (hs : List Hearing) (v : ℕ) (x : Sending) (received : Bool)
    (so : (received ≡ true) ↔ Contains hs (record { node = v; sending = x })) where
  pub where_not : received ≡ false → (given : Bool) → (given ≡ true ↔ IsGiven s air v x) → IsGivenAndMissing s air hs v x given
  where_not none true is = (is.0 refl, λ there. both_ways received none (so.1 there))
  where_not none false is = inl (λ given. false≢true (is.1 given))

  pub where_there : received ≡ true → IsGivenAndMissing s air hs v x false
  where_there is = inr (so.0 is)

pub missing_so : (s : ScenarioParts) (air : List Entry) (v : ℕ) (x : Sending) → IsGivenAndMissing s air (hearings_of air) v x true → IsMissing s air v x
missing_so s air v x due = record { given = due.0; absent = due.1 }

pub heard_so : (s : ScenarioParts) (air : List Entry) (v : ℕ) (x : Sending) → IsGivenAndMissing s air (hearings_of air) v x false → IsGiven s air v x
    → HasHeardEntry air v x
heard_so s air v x (inl never) given = absurd (never given)
heard_so s air v x (inr there) given = there
