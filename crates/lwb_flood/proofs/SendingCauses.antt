-- Why a node sends stays so as more happens.
use Rattle.std.proofs.Common.{◌≡◌, ℕ, List, ◌++◌, inl, inr, sym, subst}
use Rattle.std.specs.Prelude.{Contains}
use Rattle.scenario_text.specs.FloodParts.{FloodParts}
use Rattle.air_log.specs.NodeEvents.{Event, Heard, EventOccasion, event_occasions}
use Rattle.air_log.specs.FloodLaw.{first_flood}
use Rattle.lwb_flood.proofs.FloodSoFar.{HasCause}
use Rattle.lwb_flood.proofs.WorldLists.{occasion_kept}

-- why a node sends stays so with more events
pub cause_more : (f : FloodParts) (clock : ℕ → ℕ) (v : ℕ) (es fs : List Event) (t : ℕ) (p : List ℕ)
    → ((o : EventOccasion) → Contains (event_occasions (first_flood f v) es) o → Contains (event_occasions (first_flood f v) fs) o) → HasCause f clock v es t p
    → HasCause f clock v fs t p
cause_more f clock v es fs t p kept (inl begins) = inl begins
cause_more f clock v es fs t p kept (inr a) = inr (record {
  heard = a.heard;
  flood = a.flood;
  occasion = kept (record { before = a.flood; event = Heard a.heard }) a.occasion;
  answer = a.answer;
  start = a.start;
  later = a.later;
})

pub cause_kept : (f : FloodParts) (clock : ℕ → ℕ) (v t : ℕ) (before more all : List Event) (p : List ℕ) → all ≡ before ++ more
    → HasCause f clock v before t p → HasCause f clock v all t p
cause_kept f clock v t before more all p whole cause =
    cause_more f clock v before all t p
    (λ o known. subst (λ (l : List Event). Contains (event_occasions (first_flood f v) l) o) (sym whole)
    (occasion_kept (first_flood f v) before more o known)) cause
