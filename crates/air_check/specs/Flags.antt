-- Which receptions are there, by a flag for each transmission of a list and each id.
use Rattle.std.specs.Prelude.{◌≡◌, ℕ, ◌+◌, ◌*◌, ◌<◌, ◌≤◌, ◌↔◌, ◌⊎◌, List, [], ◌∷◌, ◌++◌, Bool, true, false, Option, Some, None}
use Rattle.std.specs.Prelude.{Contains, length, slice_index_or}
use Rattle.lwb_base.specs.declared.limits.TheConstants.{GREATEST_ID, PLACES_BY_ID}
use Rattle.scenario_text.specs.ScenarioParts.{ScenarioParts}
use Rattle.radio_model.specs.OnAir.{Hearing, Sending}
use Rattle.air_log.specs.declared.entry.Entry.{Entry}
use Rattle.air_log.specs.Entries.{hearings_of, heard_entry, HasHeardEntry}
use Rattle.air_check.specs.Verdicts.{IsGiven, AreGiven, IsMissing}

-- the flag of transmission k and node v
abbrev pub flag : List Bool → ℕ → ℕ → Bool
flag flags k v = slice_index_or flags (k * PLACES_BY_ID + v) false

-- exactly these receptions have their flags
pub record AreFlags (sent : List Sending) (hs : List Hearing) (flags : List Bool) : Type 0 where
  pub size : length flags ≡ length sent * PLACES_BY_ID
  pub each : (k v : ℕ) (d : Sending) → k < length sent → v ≤ GREATEST_ID
      → (flag flags k v ≡ true) ↔ Contains hs (record { node = v; sending = slice_index_or sent k d })

-- whether a reception is given and not among these
abbrev pub IsGivenAndMissing : ScenarioParts → List Entry → List Hearing → ℕ → Sending → Bool → Type 0
IsGivenAndMissing s air hs v x true = IsGiven s air v x × (Contains hs (record { node = v; sending = x }) → ⊥)
IsGivenAndMissing s air hs v x false = (IsGiven s air v x → ⊥) ⊎ Contains hs (record { node = v; sending = x })

-- whether one more reception is given and new; if so it has its flag
abbrev pub TakesIn : ScenarioParts → List Entry → List Sending → List Hearing → Hearing → List Bool → Bool → Type 0
TakesIn s air sent hs h flags true = AreFlags sent (hs ++ h ∷ []) flags × IsGiven s air h.node h.sending × (Contains hs h → ⊥)
TakesIn s air sent hs h flags false = (IsGiven s air h.node h.sending → ⊥) ⊎ Contains hs h

-- a reception of these entries that is not given, or was there before
pub record IsWrong (s : ScenarioParts) (air above : List Entry) (e : Entry) : Type 0 where
  pub hearing : Hearing
  pub entry : e ≡ heard_entry hearing.node hearing.sending
  pub wrong : (IsGiven s air hearing.node hearing.sending → ⊥) ⊎ Contains (hearings_of above) hearing

-- whether one more entry is right, after these that are
abbrev pub IsRightNext : ScenarioParts → List Entry → List Sending → List Entry → Entry → List Bool → Bool → Type 0
IsRightNext s air sent above e flags true = AreFlags sent (hearings_of (above ++ e ∷ [])) flags × (AreGiven s air above → AreGiven s air (above ++ e ∷ []))
IsRightNext s air sent above e flags false = IsWrong s air above e

-- the least id that has no reception of x and should have one. Without it each reception that is given is there
abbrev pub IsFirstOf : ScenarioParts → List Entry → Sending → Option ℕ → Type 0
IsFirstOf s air x None = (w : ℕ) → IsGiven s air w x → HasHeardEntry air w x
IsFirstOf s air x (Some v) = IsMissing s air v x × ((w : ℕ) → IsMissing s air w x → v ≤ w)
