-- What is received by an index of a log is given.
use Rattle.std.proofs.Common.{◌≡◌, ℕ, ◌<◌, ◌≤◌, ◌^◌, ◌↔◌, List, All, true, Bool, arith}
use Rattle.scenario_text.specs.ScenarioParts.{ScenarioParts}
use Rattle.radio_model.specs.Hearing.{HearsInScene}
use Rattle.radio_model.specs.OnAir.{Sending}
use Rattle.air_log.specs.declared.entry.Entry.{Entry}
use Rattle.air_log.specs.HearsAir.{scene_of}
use Rattle.air_log.specs.Trails.{run_end}
use Rattle.air_check.specs.Indexes.{IsIndex}
use Rattle.radio_model.specs.Reaches.{HoldSame}
use Rattle.air_check.specs.Verdicts.{IsGiven}
use Rattle.air_check.specs.declared.index.Index.{Index}

pub same_in_air : (air : List Entry) (s : ScenarioParts) (i : Index) → IsIndex air i → HoldSame (scene_of s.profile s.trace air).sendings i.sent.items
same_in_air air s i is = record { into = is.all_sent; back = is.sent }

pub given_so : (s : ScenarioParts) (air : List Entry) (v : ℕ) (x : Sending) (result : Bool) → x.end < run_end s
    → (result ≡ true ↔ HearsInScene (scene_of s.profile s.trace air) v x) → (result ≡ true ↔ IsGiven s air v x)
given_so s air v x result ends hears = (λ so. record { ends = ends; heard = hears.0 so }, λ given. hears.1 given.heard)

pub early_sent : (sent : List Sending) (end : ℕ) → end ≤ 2 ^ 46 → All (λ (y : Sending). y.start < end) sent → All (λ (y : Sending). y.start ≤ 2 ^ 46) sent
early_sent sent end by all k d below = let so = all k d below in omega (arith, so, by)
