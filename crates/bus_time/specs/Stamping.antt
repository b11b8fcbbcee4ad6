-- When a transmission may be stamped, and the word by which it is.
use Rattle.std.specs.Prelude.{◌≡◌, ℕ, List, Contains, true, filter_map}
use Rattle.radio_model.specs.declared.sending.Sending.{Sending}
use Rattle.scenario_text.specs.ScenarioParts.{ScenarioParts}
use Rattle.air_log.specs.declared.entry.Entry.{Entry}
use Rattle.air_log.specs.Entries.{sendings_of}
use Rattle.air_log.specs.Lawful.{Lawful}
use Rattle.law_safety.specs.Invariant.{IsDrivenWell}
use Rattle.bus_time.specs.Stamps.{begins_data, IsReference}
use Rattle.bus_time.specs.Words.{AreFirsts}
use Rattle.bus_time.specs.Reading.{now_in, ahead_in, beginning_of, word_of}
use Rattle.bus_time.specs.declared.words.Word.{Word}
use Rattle.bus_time.specs.declared.words.Words.{Words}
use Rattle.bus_time.specs.declared.beginning.Beginning.{Beginning}

-- b is read off x, which is in a valid log whose words are these
pub record MayStamp (s : ScenarioParts) (clocks : ℕ → ℕ → ℕ) (now ahead : Words) (b : Beginning) (air : List Entry) (x : Sending) : Type 0 where
  pub driven : IsDrivenWell s clocks
  pub lawful : Lawful s clocks air
  pub now_is : AreFirsts (filter_map (now_in s.profile) air) now
  pub ahead_is : AreFirsts (filter_map (ahead_in s.profile) air) ahead
  pub there : Contains (sendings_of air) x
  pub begins : begins_data x ≡ true
  pub is : b ≡ beginning_of s.profile x

-- the word tells of the reference of x
pub record IsWordFor (s : ScenarioParts) (air : List Entry) (x : Sending) (w : Word) : Type 0 where
  pub heard : Sending
  pub reference : IsReference s air x w.ahead heard
  pub is : w ≡ word_of w.ahead (record { node = x.node; sending = heard })
