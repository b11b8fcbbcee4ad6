-- One scenario over the same clocks has one valid log.
use Rattle.std.proofs.Common.{◌≢◌, ℕ, List, Contains}
use Rattle.scenario_text.specs.ScenarioParts.{ScenarioParts}
use Rattle.scenario_text.specs.ScenarioFacts.{IsSoundScenario}
use Rattle.air_log.specs.declared.entry.Entry.{Entry}
use Rattle.air_log.specs.Lawful.{Lawful}
use Rattle.law_one_log.specs.OneLog.{OneLogLaw}
use Rattle.law_one_log.proofs.EntriesApart.{EntriesApart, Other, all_apart, apart_differ, also_there}
use Rattle.law_one_log.proofs.OfTrails.{sent_differ, tuned_differ}
use Rattle.law_one_log.proofs.SameBefore.{same_sendings, same_hearings, same_tunings}
use Rattle.law_one_log.proofs.SameElements.{Differ, same_elements}
use Rattle.lwb_base.proofs.Elements.{weaker_pairs}

module _ (s : ScenarioParts) (clocks : ℕ → ℕ → ℕ) (sound : IsSoundScenario s) where
  -- no entry occurs twice
  differ : (air : List Entry) → Lawful s clocks air → Differ air
  differ air lawful =
      weaker_pairs (EntriesApart Other) (λ d e. d ≢ e) air
      (all_apart Other air (sent_differ s clocks air sound lawful) lawful.hearing.once (tuned_differ s clocks air sound lawful))
      (λ d e there also apart. apart_differ d e apart)

  same_entries : (a b : List Entry) → Lawful s clocks a → Lawful s clocks b → (e : Entry) → Contains a e → Contains b e
  same_entries a b of_a of_b =
      also_there a b (same_sendings s clocks sound a b of_a of_b) (same_hearings s clocks sound a b of_a of_b) (same_tunings s clocks sound a b of_a of_b)

pub one_log : OneLogLaw
one_log s clocks a b of_a of_b =
    let sound = of_a.sound in
    same_elements a b (differ s clocks sound a of_a.lawful) (differ s clocks sound b of_b.lawful)
    (same_entries s clocks sound a b of_a.lawful of_b.lawful)
    (same_entries s clocks sound b a of_b.lawful of_a.lawful)
