-- A log that breaks one clause is not safe.
use Rattle.std.proofs.Common.{◌≢◌, List}
use Rattle.scenario_text.specs.ScenarioParts.{ScenarioParts}
use Rattle.air_log.specs.declared.entry.Entry.{Entry}
use Rattle.air_log.specs.TwoNodeLog.{true_time}
use Rattle.air_log.specs.Safe.{Safe, WithinOneFrame, NoOverlap, SameButForCounter, OneInitiator, Silence}
use Rattle.law_trails.specs.BrokenClauses.{Clause, InFrame, Apart, Alike, OneBegins, Silent, Keeps, BreaksOnly}

module _ (c : Clause) (s : ScenarioParts) (air : List Entry) where
  kept_clause : (d : Clause) → Safe s true_time air → Keeps d s true_time air
  kept_clause InFrame safe = safe.within_one_frame
  kept_clause Apart safe = safe.no_overlap
  kept_clause Alike safe = safe.same_but_for_counter
  kept_clause OneBegins safe = safe.one_initiator
  kept_clause Silent safe = safe.silence

  module _ (in_frame : InFrame ≢ c → WithinOneFrame s air) (apart : Apart ≢ c → NoOverlap s air) (alike : Alike ≢ c → SameButForCounter s air)
      (one : OneBegins ≢ c → OneInitiator s air) (silent : Silent ≢ c → Silence s true_time air) where
    others : (d : Clause) → d ≢ c → Keeps d s true_time air
    others InFrame other = in_frame other
    others Apart other = apart other
    others Alike other = alike other
    others OneBegins other = one other
    others Silent other = silent other

  pub breaks : (Keeps c s true_time air → ⊥) → (InFrame ≢ c → WithinOneFrame s air) → (Apart ≢ c → NoOverlap s air) → (Alike ≢ c → SameButForCounter s air)
      → (OneBegins ≢ c → OneInitiator s air) → (Silent ≢ c → Silence s true_time air) → BreaksOnly c s true_time air
  breaks broken in_frame apart alike one silent =
      record { broken = broken; kept = others in_frame apart alike one silent; not_safe = λ safe. broken (kept_clause c safe) }
